use Rattle.std.proofs.Common.{arith}
use Rattle.std.proofs.lemmas.Bool.{iff_false}
use Rattle.std.proofs.lemmas.Option.{slice_get_within}
use Rattle.verify_folder.proofs.InForce.{next_fails, one_begins, one_is_over}
use Rattle.verify_folder.proofs.typing.Typing.begin_next.Goals as goal

pub returns-then-at-from-clause-all : goal.returns-then-at-from-clause-all
returns-then-at-from-clause-all c =
    λ yes. one_is_over c.args.self.now c.args.before.now.locals c.args.at c.args.active.now c.skip_next.new.self c.requires.checked c.args.handler c.requires.next (omega (arith, c.if-at-from.true, c.from.ensures)) c.skip_next.ensures

pub returns-then-at-from-clause-table : goal.returns-then-at-from-clause-table
returns-then-at-from-clause-table c = λ yes. c.skip_next.ensures.table

pub returns-then-not-branch-clause-one : goal.returns-then-not-branch-clause-one
returns-then-not-branch-clause-one c =
    λ no. next_fails c.args.self.now c.args.before.now.locals c.args.at c.args.active.now c.requires.checked c.args.handler c.requires.next c.requires.from (omega (arith, c.if-at-from.false, c.from.ensures)) (iff_false c.in_ok-may_catch.ensures c.if-not-branch.true)

pub begin_next-requires : goal.begin_next-requires
begin_next-requires c = slice_get_within c.args.active.now.table.items c.args.active.now.begun c.args.handler c.requires.next

pub returns-clause-all : goal.returns-clause-all
returns-clause-all c =
    λ yes. one_begins c.args.self.now c.args.before.now.locals c.args.at c.args.active.now c.begin_next.new.self c.requires.checked c.args.handler c.requires.next c.requires.from (c.in_ok-may_catch.ensures.0 c.if-not-branch.false) c.in_ok-begin_next.ensures

pub returns-clause-table : goal.returns-clause-table
returns-clause-table c = λ yes. c.in_ok-begin_next.ensures.table
