use Rattle.std.proofs.Common.{arith, inl, inr, ◌≤◌}
use Rattle.class_model.proofs.Units.{spells_three, three_spelled}
use Rattle.class_model.proofs.text.is_three_byte_unit.Goals as goal

pub returns-then-is_continuation : goal.returns-then-is_continuation
returns-then-is_continuation c =
    let third = c.is_continuation-then-is_continuation.ensures in
    let second : (0xA0 ≤ c.args.second) × (c.args.second ≤ 0xBF) = grind arith in
    (λ t. let h = third.0 t in spells_three _ _ _ (omega arith, omega arith, omega arith, second.1, h.0, h.1) (inr second.0), λ s. third.1 (three_spelled _ _ _ s))

pub returns-then-is_continuation-2 : goal.returns-then-is_continuation-2
returns-then-is_continuation-2 c =
    let third = c.is_continuation-then-is_continuation-2.ensures in
    let second : (0x80 ≤ c.args.second) × (c.args.second ≤ 0xBF) = grind arith in
    (λ t. let h = third.0 t in spells_three _ _ _ (omega arith, omega arith, second.0, second.1, h.0, h.1) (inl (omega arith)), λ s. third.1 (three_spelled _ _ _ s))
