use Rattle.machine_laws.proofs.RunLaws.{same_through}
use Rattle.machine_laws.proofs.laws.running_the_same_composes.Goals as goal

pub returns : goal.returns
returns c = same_through
