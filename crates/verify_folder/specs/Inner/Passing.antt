-- What is known where the frames of a method are found and not kept.
use Rattle.std.specs.Prelude.{List, Option, Some, Ok}
use Rattle.class_model.specs.declared.frame.Frame.{Frame}
use Rattle.class_model.specs.declared.instr.Placed.{Placed}
use Rattle.member_link.specs.Scope.{Scope}
use Rattle.type_rules.specs.MethodBodies.{body_of}
use Rattle.type_rules.specs.Stated.{entry}
use Rattle.type_rules.specs.Typed.{AreTyped, Typed}
use Rattle.verify_folder.specs.Inner.Steps.{StepAnswers}

-- a frame types an instruction behind what flows into it, and this flows into the next
pub record IsPassed (s : Scope) (flows : Option Frame) (placed : Placed) (behind : Option Frame) : Type 0 where
  pub before : Frame
  pub told : StepAnswers s flows placed (Ok (before, behind))

-- frames type all instructions of a method
pub record ArePassed (s : Scope) : Type 0 where
  pub frames : List Frame
  pub typed : AreTyped (body_of s) (Some (entry s)) (body_of s).points frames

-- frames type a method
pub record IsTypable (s : Scope) : Type 0 where
  pub frames : List Frame
  pub typed : Typed s frames
