use Rattle.class_model.proofs.LocalUnits.{length-units_below, units_below-tops}
use Rattle.class_model.proofs.local_types.LocalTypeList.listed.Goals as goal

pub returns-clause-few : goal.returns-clause-few
returns-clause-few c = rw (← c.self.view_is, length-units_below) c.listed_in.ensures.few

pub returns-clause-tops : goal.returns-clause-tops
returns-clause-tops c = rw (← c.self.view_is, length-units_below) (units_below-tops _ _ (rw c.as_slice.ensures.value at c.listed_in.ensures.tops))
