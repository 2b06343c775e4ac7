use Rattle.class_model.proofs.InstructionLaws.{one_instruction}
use Rattle.class_model.proofs.laws.a_spelling_is_one_instruction.Goals as goal

pub returns : goal.returns
returns c = one_instruction
