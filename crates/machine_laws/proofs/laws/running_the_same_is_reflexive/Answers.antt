use Rattle.machine_laws.proofs.RunLaws.{same_itself}
use Rattle.machine_laws.proofs.laws.running_the_same_is_reflexive.Goals as goal

pub returns : goal.returns
returns c = same_itself
