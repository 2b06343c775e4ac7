use Rattle.class_model.proofs.LocalUnits.{length-units_below, units_below-fill}
use Rattle.class_model.proofs.local_types.LocalTypeList.fill.Goals as goal

pub returns : goal.returns
returns c = rw (← c.self.view_is, c.max-self-inside.ensures, length-units_below) (units_below-fill _ _ c.self.invariant.behind)
