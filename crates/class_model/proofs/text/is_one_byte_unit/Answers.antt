use Rattle.std.proofs.Common.{refl, arith}
use Rattle.class_model.proofs.Units.{spells_one}
use Rattle.class_model.proofs.text.is_one_byte_unit.Goals as goal

pub returns-in-1-to-127 : goal.returns-in-1-to-127
returns-in-1-to-127 c = (λ _. spells_one _ (omega arith, omega arith), λ _. refl)
