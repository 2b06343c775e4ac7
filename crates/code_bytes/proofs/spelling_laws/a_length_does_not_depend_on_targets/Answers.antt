use Rattle.code_bytes.proofs.InstrLengths.{same_length}
use Rattle.code_bytes.proofs.spelling_laws.a_length_does_not_depend_on_targets.Goals as goal

pub returns : goal.returns
returns c = same_length
