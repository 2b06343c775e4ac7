use Rattle.std.proofs.Common.{sym}
use Rattle.class_model.proofs.LocalUnits.{length-units_below}
use Rattle.class_model.proofs.local_types.LocalTypeList.len.Goals as goal

pub returns : goal.returns
returns c = rw (← c.self.view_is) (sym (length-units_below _ _))
