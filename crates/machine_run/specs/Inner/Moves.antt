-- What an operation of the frame alone comes to.
use Rattle.std.specs.Prelude.{◌≡◌, ℕ, ℤ, List, [], ◌∷◌, Option, Some, None, if◌then◌else◌}
use Rattle.class_model.specs.declared.descriptor.Kind.{Kind}
use Rattle.machine_values.specs.Frames.{MethodState}
use Rattle.machine_values.specs.Values.{has_kind}
use Rattle.machine_values.specs.declared.frame.RunFrame.{RunFrame}
use Rattle.machine_values.specs.declared.value.Value.{Value}
use Rattle.member_link.specs.Machine.Ops.{Op}
use Rattle.member_link.specs.Machine.Performing.{returned}
use Rattle.member_link.specs.Machine.Programs.{Program}
use Rattle.member_link.specs.Machine.Stepping.{ends_stuck, op_step, switch_step, with_top, work_step}
use Rattle.member_link.specs.Machine.Worlds.{World}
use Rattle.machine_step.specs.Completing.{values_of}
use Rattle.machine_run.specs.declared.moves.Moved.{Moved}
use Rattle.machine_run.specs.declared.moves.Moved.TheVariants.{Went, Stuck, Returns, Works}

-- the world behind an operation, by the frame before it and the frame as it is now
abbrev pub world_moved :
    Program → World → List RunFrame → MethodState → MethodState → Op → Moved → World
world_moved P w rest before now op Went = with_top w rest now
world_moved P w rest before now op Stuck = ends_stuck w
world_moved P w rest before now op (Returns value) = returned P w before rest (values_of value)
world_moved P w rest before now op Works = work_step P w before rest op

-- a move stays in its method, and only a move changes the frame
abbrev pub StaysUnlessWent : MethodState → MethodState → Moved → Type 0
StaysUnlessWent before now Went = now.at ≡ before.at
StaysUnlessWent before now moved = now ≡ before

-- an operation comes to this
abbrev pub IsMoved : MethodState → MethodState → Op → Moved → Type 0
IsMoved before now op moved =
    (P : Program) (w : World) (rest : List RunFrame)
    → op_step P w before rest op ≡ world_moved P w rest before now op moved

-- the topmost entry is no key of a switch
abbrev pub HasNoKey : List Value → Type 0
HasNoKey stack =
    (w : World) (f : MethodState) (rest : List RunFrame) (target : ℤ → ℕ)
    → switch_step w f rest target stack ≡ ends_stuck w

-- the topmost entry, if it is of a kind
abbrev pub top_of_kind : Kind → List Value → Option Value
top_of_kind kind [] = None
top_of_kind kind (value ∷ stack) = if has_kind kind value then Some value else None
