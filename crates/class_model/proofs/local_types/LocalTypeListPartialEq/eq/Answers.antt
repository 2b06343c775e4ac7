use Rattle.std.proofs.Common.{◌≡◌, ◌∙◌, sym, ap, refl, length}
use Rattle.class_model.specs.declared.frame.VType.TheVariants.{Top}
use Rattle.class_model.proofs.LocalEquality.{pointwise-filled, pointwise-longer}
use Rattle.class_model.proofs.LocalUnits.{length-units_below}
use Rattle.class_model.specs.contracts.frame.VTypePartialEq.TheImpl.{ghosts as comparison}
use Rattle.class_model.proofs.local_types.LocalTypeListPartialEq.eq.Goals as goal

pub returns-then-self-other : goal.returns-then-self-other
returns-then-self-other c =
    let first : length c.args.self.now ≡ c.self.inside.len = ap length (sym c.self.view_is) ∙ length-units_below _ _ in
    let second : length c.args.other.now ≡ c.other.inside.len = ap length (sym c.other.view_is) ∙ length-units_below _ _ in
    c.has_same_units.ensures
    ∙ rw c.max.ensures (pointwise-filled comparison.eq c.args.self.now c.args.other.now Top c.listed.result c.listed-then-self-other.result refl (first ∙ (c.if-self-other.true ∙ sym second)) c.listed.ensures.tops c.listed-then-self-other.ensures.tops)

pub returns-else-self-other : goal.returns-else-self-other
returns-else-self-other c =
    pointwise-longer comparison.eq c.args.self.now c.args.other.now c.self.inside.len c.other.inside.len
    (ap length (sym c.self.view_is) ∙ length-units_below _ _)
    (ap length (sym c.other.view_is) ∙ length-units_below _ _) c.if-self-other.false
