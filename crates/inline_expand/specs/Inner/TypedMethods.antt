-- What is known of each method with code of a folder that frames type.
use Rattle.std.specs.Prelude.{◌≡◌, List, length}
use Rattle.std.specs.List.{AllByRecursion}
use Rattle.class_model.specs.Instructions.{targets}
use Rattle.class_model.specs.declared.frame.Frame.{Frame}
use Rattle.class_model.specs.declared.instr.Placed.{Placed}
use Rattle.inline_expand.specs.Inner.Hosts.{HasUnits}
use Rattle.inline_expand.specs.Inner.Steps.{HaveItsUnits, IsCallable}
use Rattle.member_link.specs.BodyTyping.{AreInOrder, IsPlaceOf}
use Rattle.member_link.specs.Scope.{Scope, instructions}
use Rattle.type_rules.specs.Handlers.{catches_at}
use Rattle.type_rules.specs.MethodBodies.{body_of}
use Rattle.type_rules.specs.Typed.{Typed}

-- an instruction jumps to instructions, and so do its handlers
pub record GoesWithin (s : Scope) (placed : Placed) : Type 0 where
  pub targets : AllByRecursion (IsPlaceOf (body_of s).points) (targets placed.instr)
  pub handlers : AllByRecursion (λ catch. IsPlaceOf (body_of s).points catch.to)
      (catches_at s placed.at s.part.handlers)

-- Frames type it, one for each instruction, with its local units; its instructions name local units that it has, and instructions; and it may be
-- called.
pub record IsTypedMethod (s : Scope) (frames : List Frame) : Type 0 where
  pub typed : Typed s frames
  pub one_each : length frames ≡ length (instructions s)
  pub long : HaveItsUnits s frames
  pub order : AreInOrder (body_of s).points
  pub goes : AllByRecursion (GoesWithin s) (instructions s)
  pub units : HasUnits s
  pub callable : IsCallable s
