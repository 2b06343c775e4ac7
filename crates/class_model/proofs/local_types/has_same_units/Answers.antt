use Rattle.std.proofs.Common.{◌≡◌, ◌∙◌, Bool, true, false, not, refl}
use Rattle.std.proofs.Math.Bool.{and-false}
use Rattle.class_model.proofs.LocalEquality.{pointwise-more, pointwise-differs}
use Rattle.class_model.specs.contracts.frame.VTypePartialEq.TheImpl.{ghosts as comparison}
use Rattle.class_model.proofs.local_types.has_same_units.Goals as goal

was_true : (t : Bool) → false ≡ not t → t ≡ true
was_true true e = refl
was_true false e = e

was_false : (t : Bool) → true ≡ not t → t ≡ false
was_false false e = refl
was_false true e = e

pub returns-then-ne : goal.returns-then-ne
returns-then-ne c =
    pointwise-differs comparison.eq c.args.list.now c.args.other.now c.loop-at.at c.args.end (
    pointwise-more comparison.eq c.args.list.now c.args.other.now c.loop-at.at c.get.result c.get-in-loop-at.result c.get.ensures c.get-in-loop-at.ensures
    ∙ rw (was_false _ c.if-ne.ensures) (and-false _)
    ) c.loop-at-test.true

pub loop-at-preserved : goal.loop-at-preserved
loop-at-preserved c =
    pointwise-more comparison.eq c.args.list.now c.args.other.now c.loop-at.at c.get.result c.get-in-loop-at.result c.get.ensures c.get-in-loop-at.ensures
    ∙ rw (c.loop-at.invariant, was_true _ c.if-ne.ensures)
