use Rattle.code_bytes.proofs.ConsecutiveInstrs.{code_is_covered}
use Rattle.code_bytes.proofs.laws.instructions_are_consecutive.Goals as goal

pub returns : goal.returns
returns c = code_is_covered
