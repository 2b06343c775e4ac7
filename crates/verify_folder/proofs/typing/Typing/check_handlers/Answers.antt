use Rattle.std.proofs.Common.{Some, arith}
use Rattle.verify_folder.specs.Inner.Active.{OneFails}
use Rattle.verify_folder.proofs.InForce.{checked_hold, idle_holds, none_fails}
use Rattle.verify_folder.proofs.KnownLocals.{reached_itself}
use Rattle.verify_folder.proofs.typing.Typing.check_handlers.Goals as goal
use Rattle.verify_folder.proofs.typing.Typing.check_handlers.Goals.{else-branch-via-then-branch+in_ok-begin+else-branch-2, else-branch-via-else-branch}

pub returns-then-is_idle-clause-told : goal.returns-then-is_idle-clause-told
returns-then-is_idle-clause-told c =
    idle_holds c.args.self.now c.args.before.now c.args.at c.come_to.new.self (c.come_to.ensures.kept c.args.self.now c.requires.in_force) c.come_to.ensures.later
    (c.is_idle.ensures.none c.if-is_idle.true) (c.come_to.ensures.known (Some c.args.before.now) c.requires.known) (c.is_idle.ensures.checked c.if-is_idle.true)

pub returns-then-is_idle-clause-in_force : goal.returns-then-is_idle-clause-in_force
returns-then-is_idle-clause-in_force c = c.come_to.ensures.kept c.args.self.now c.requires.in_force

pub returns-then-is_idle-clause-known : goal.returns-then-is_idle-clause-known
returns-then-is_idle-clause-known c = c.come_to.ensures.known (Some c.args.before.now) c.requires.known

pub recheck-requires-clause-in_force : goal.recheck-requires-clause-in_force
recheck-requires-clause-in_force c = c.come_to.ensures.kept c.args.self.now c.requires.in_force

pub recheck-requires-clause-known : goal.recheck-requires-clause-known
recheck-requires-clause-known c = c.come_to.ensures.known (Some c.args.before.now) c.requires.known

pub returns-then-branch-2-clause-told : goal.returns-then-branch-2-clause-told
returns-then-branch-2-clause-told c =
    let are = c.in_ok-begin.ensures.all c.if-branch-2.true in
    checked_hold c.args.self.now c.args.before.now c.args.at c.begin.new.active are.in_force (omega (arith, are.at_is)) (c.in_ok-begin.ensures.none c.if-branch-2.true) are.locals_are

pub unreachable-requires : goal.unreachable-requires
unreachable-requires c =
    let s = c.args.self.now in
    let before = c.args.before.now in
    let fails : OneFails s before.locals c.args.at =
    elim c.else-branch.branch [
      | else-branch-via-then-branch+in_ok-begin+else-branch-2 w ↦ w.in_ok-begin.ensures.one w.if-branch-2.false
      | else-branch-via-else-branch w ↦ c.in_ok-recheck.ensures.one w.if-branch.false
    ]
    in
    none_fails s before c.args.at fails c.in-Ok.ensures

pub returns-then-branch-2-clause-known : goal.returns-then-branch-2-clause-known
returns-then-branch-2-clause-known c =
    reached_itself c.begin.new.active.changes c.begin.new.active.locals c.args.before.now.locals (c.in_ok-begin.ensures.all c.if-branch-2.true).locals_are
