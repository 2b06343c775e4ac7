use Rattle.std.proofs.Common.{◌≡◌, ℕ, List, Ok, length}
use Rattle.class_model.specs.Instructions.{decoded}
use Rattle.class_model.specs.Methods.{home_of}
use Rattle.class_model.specs.declared.instr.Placed.{Placed}
use Rattle.code_bytes.specs.Consecutive.{AreConsecutive}
use Rattle.member_link.specs.BodyTyping.{AreInOrder}
use Rattle.member_link.specs.Scope.{Scope}
use Rattle.type_rules.proofs.ByPlace.{by_place, from_places}
use Rattle.type_rules.proofs.MethodOrder.{consecutive_from, in_order, stated_at_point}
use Rattle.type_rules.proofs.laws.a_method_stands_in_order.Goals as goal
use Rattle.type_rules.specs.MethodBodies.{body_of}

-- the instructions of each code stand one after the other
abbrev AreEachConsecutive : Type 0
AreEachConsecutive = (code : List ℕ) (instrs : List Placed) → decoded code ≡ Ok instrs → AreConsecutive 0 instrs (length code)

ordered : AreEachConsecutive → (s : Scope) → AreInOrder (body_of s).points
ordered are s = in_order s (λ instrs read. consecutive_from s instrs read (are s.part.code instrs read))

pub returns-clause-order : goal.returns-clause-order
returns-clause-order c = ordered c.instructions_are_consecutive.ensures

pub returns-clause-consecutive : goal.returns-clause-consecutive
returns-clause-consecutive c = λ s instrs read. consecutive_from s instrs read (c.instructions_are_consecutive.ensures s.part.code instrs read)

pub returns-clause-stated : goal.returns-clause-stated
returns-clause-stated c = λ s place frame is.
    let there = c.frames_are_stated_at_instructions.ensures (home_of s.class) s.method s.part s.part.attrs place frame is in
    stated_at_point s place there.0 there.1 there.2

pub returns-clause-places : goal.returns-clause-places
returns-clause-places c = λ s frames.
    let order : AreInOrder (body_of s).points = ordered c.instructions_are_consecutive.ensures s in
    (by_place (body_of s) frames order, λ has. from_places (body_of s) frames has order)
