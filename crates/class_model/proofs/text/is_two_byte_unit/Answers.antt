use Rattle.std.proofs.Common.{arith}
use Rattle.class_model.proofs.Units.{spells_two, two_spelled}
use Rattle.class_model.proofs.text.is_two_byte_unit.Goals as goal

pub returns-in-194-to-223 : goal.returns-in-194-to-223
returns-in-194-to-223 c =
    (λ t. spells_two _ _ (omega arith, omega arith) (c.is_continuation.ensures.0 t), λ s. c.is_continuation.ensures.1 (two_spelled _ _ s))
