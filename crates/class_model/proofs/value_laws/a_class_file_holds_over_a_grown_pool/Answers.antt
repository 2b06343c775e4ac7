use Rattle.class_model.proofs.KeptClass.{grown_holds}
use Rattle.class_model.proofs.value_laws.a_class_file_holds_over_a_grown_pool.Goals as goal

pub returns : goal.returns
returns c class more at from holds constants dynamics = grown_holds class more at from holds constants dynamics
