use Rattle.std.proofs.Common.{refl}
use Rattle.std.proofs.lemmas.Bool.{false≢true}
use Rattle.class_tree.specs.Headers.{headers_of}
use Rattle.type_rules.proofs.LocalWalks.{assignable_at, assignable_more, as_many_walked}
use Rattle.type_rules.proofs.assignability.are_first_assignable.Goals as goal

pub returns-in_default-2 : goal.returns-in_default-2
returns-in_default-2 c =
    (λ yes. absurd (false≢true yes), λ all. absurd (as_many_walked (headers_of c.args.tree.now) c.args.from.now c.args.to.now c.loop-at.at c.args.count c.in_default.ensures c.loop-at-test.true c.requires all))

pub returns-then-not-assignable : goal.returns-then-not-assignable
returns-then-not-assignable c =
    (λ yes. absurd (false≢true yes), λ all. c.if-not-assignable.ensures.1 (assignable_at (headers_of c.args.tree.now) c.args.from.now c.args.to.now c.loop-at.at c.args.count c.in-Some-Some.low.now c.in-Some-Some.high.now c.loop-at-test.true c.in-Some-Some.ensures c.in-Some-Some.ensures' all))

pub loop-at-preserved : goal.loop-at-preserved
loop-at-preserved c =
    assignable_more (headers_of c.args.tree.now) c.args.from.now c.args.to.now c.loop-at.at c.in-Some-Some.low.now c.in-Some-Some.high.now c.in-Some-Some.ensures c.in-Some-Some.ensures' c.loop-at.invariant (c.if-not-assignable.ensures.0 refl)
