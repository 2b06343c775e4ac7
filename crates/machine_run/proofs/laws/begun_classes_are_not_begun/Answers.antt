use Rattle.machine_run.proofs.BegunClasses.{begun_is_not_begun}
use Rattle.machine_run.proofs.laws.begun_classes_are_not_begun.Goals as goal

pub returns : goal.returns
returns c = begun_is_not_begun
