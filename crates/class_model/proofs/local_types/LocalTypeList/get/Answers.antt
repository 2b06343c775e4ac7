use Rattle.std.proofs.Common.{◌∙◌, sym, ap, Some}
use Rattle.class_model.proofs.LocalUnits.{slice_get-units_below, slice_get-units_below_past}
use Rattle.class_model.proofs.local_types.LocalTypeList.get.Goals as goal

pub returns-then-at-self : goal.returns-then-at-self
returns-then-at-self c = rw (← c.self.view_is) (ap (λ unit. Some unit) (rw c.as_slice.ensures.value at c.unit_of.ensures) ∙ sym (slice_get-units_below _ _ _ c.if-at-self.true))

pub returns-else-at-self : goal.returns-else-at-self
returns-else-at-self c = rw (← c.self.view_is) (sym (slice_get-units_below_past _ _ _ c.if-at-self.false))
