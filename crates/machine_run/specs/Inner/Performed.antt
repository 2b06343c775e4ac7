-- What performing a completion needs, and what an operation of the top frame comes to.
use Rattle.std.specs.Prelude.{◌≡◌, ◌<◌, ◌≤◌, ◌-◌, ◌^◌, ℕ, false, List, [], ◌∷◌, length, reverse, take, drop, IfSome, None}
use Rattle.class_model.specs.declared.class_file.MethodAt.{MethodAt}
use Rattle.machine_values.specs.Frames.{MethodState}
use Rattle.machine_values.specs.declared.frame.RunFrame.{RunFrame}
use Rattle.machine_values.specs.declared.frame.RunFrame.TheVariants.{Library, Beginning, Method}
use Rattle.machine_values.specs.declared.value.Value.{Value}
use Rattle.member_link.specs.Machine.Bounds.{HasFewDimensions}
use Rattle.member_link.specs.Machine.Performing.{perform, returned}
use Rattle.member_link.specs.Machine.Programs.{Program, point_at}
use Rattle.member_link.specs.Machine.Stepping.{ends_stuck}
use Rattle.member_link.specs.Machine.Worlds.{Memory, World, is_begun}
use Rattle.machine_step.specs.Bounded.{CanGoOn}
use Rattle.machine_step.specs.Completing.{completion_of, values_of}
use Rattle.machine_step.specs.Room.{HasRoom}
use Rattle.machine_step.specs.declared.completed.Completed.{Completed}
use Rattle.machine_step.specs.declared.completed.Completed.TheVariants as completed
use Rattle.machine_run.specs.declared.stepping.Operated.{Operated}
use Rattle.machine_run.specs.declared.stepping.Operated.TheVariants.{Went, Stuck, Returns, Works}
use Rattle.machine_run.specs.declared.stepping.Top.{Top}
use Rattle.machine_run.specs.declared.stepping.Top.TheVariants as tops

-- a class that begins is not begun, and a called method can enter a monitor
abbrev pub CanPerform : Memory → Completed → Type 0
CanPerform memory (completed.Begins class) = is_begun memory class ≡ false
CanPerform memory (completed.Calls at) = HasRoom memory
CanPerform memory completed = Unit {0}

-- a method's frame is on top, has so many operands and can go on
pub record HasOperands (count : ℕ) (frames : List RunFrame) : Type 0 where
  pub top : MethodState
  pub rest : List RunFrame
  pub same : frames ≡ Method top ∷ rest
  pub enough : count ≤ length top.stack
  pub next : top.place < 2 ^ 32 - 1

-- the frame less so many operands
abbrev pub without_operands : ℕ → MethodState → MethodState
without_operands count f = record f { stack = drop count f.stack }

abbrev pub operands_in : ℕ → MethodState → List Value
operands_in count f = reverse (take count f.stack)

abbrev pub performed : Program → World → MethodState → List RunFrame → ℕ → Completed → World
performed P w f rest count completed =
    perform P w f (without_operands count f) rest
    (completion_of w.memory (operands_in count f) completed)

-- the world behind an operation of the top frame, by the frame before it and as it is now, and the memory as it is now
abbrev pub operated_world :
    Program → World → MethodState → MethodState → List RunFrame → Memory → Operated → World
operated_world P w before now rest memory Went =
    record w { frames = Method now ∷ rest; memory = memory }
operated_world P w before now rest memory Stuck = ends_stuck w
operated_world P w before now rest memory (Returns value) =
    returned P w before rest (values_of value)
operated_world P w before now rest memory (Works completed count) =
    performed P (record w { memory = memory }) before rest count completed.value

-- the frame changes only where the operation is done, and stays in its method
abbrev pub IsKept : MethodState → MethodState → Memory → Memory → Operated → Type 0
IsKept before now old new Went = now.at ≡ before.at
IsKept before now old new Stuck = (now ≡ before) × (new ≡ old)
IsKept before now old new (Returns value) = (now ≡ before) × (new ≡ old)
IsKept before now old new (Works completed count) = now ≡ before

-- what is left to do in a frame can be done
abbrev pub CanFinishFrame : MethodState → Memory → Operated → Type 0
CanFinishFrame f memory (Works completed count) =
    CanPerform memory completed.value × (count ≤ length f.stack) × (f.place < 2 ^ 32 - 1)
CanFinishFrame f memory operated = Unit {0}

-- the world behind an operation that stood on the top frame, by the state as it is now
abbrev pub world_operated : Program → World → MethodState → List RunFrame → Operated → World
world_operated P w f rest Went = w
world_operated P w f rest Stuck = ends_stuck w
world_operated P w f rest (Returns value) = returned P w f rest (values_of value)
world_operated P w f rest (Works completed count) = performed P w f rest count completed.value

-- what is left to do can be done
abbrev pub CanFinish : Memory → List RunFrame → Operated → Type 0
CanFinish memory frames (Returns value) = CanGoOn frames
CanFinish memory frames (Works completed count) =
    CanPerform memory completed.value × HasOperands count frames
CanFinish memory frames operated = Unit {0}

-- the operation at a place makes few arrays, and there is a place behind it
abbrev pub HasBoundedNext : Program → MethodState → Type 0
HasBoundedNext P f =
    IfSome (point_at P f.at f.place)
    (λ point. HasFewDimensions point.op × (f.place < 2 ^ 32 - 1))

-- the frame of a method is on top
abbrev pub IsFrameOf : MethodAt → List RunFrame → Type 0
IsFrameOf at frames = (f : MethodState) × (rest : List RunFrame) × (frames ≡ Method f ∷ rest) × (f.at ≡ at)

-- there is a place behind the one of the operation that a step does
abbrev pub TopHasNext : Program → List RunFrame → Type 0
TopHasNext P (Method f ∷ rest) =
    IfSome (point_at P f.at f.place) (λ point. f.place < 2 ^ 32 - 1)
TopHasNext P frames = Unit {0}

-- where a method is on top, no operation stands at its place
abbrev pub HasNoPoint : Program → List RunFrame → Type 0
HasNoPoint P (Method f ∷ rest) = point_at P f.at f.place ≡ None
HasNoPoint P frames = Unit {0}

abbrev pub IsNextBounded : Program → List RunFrame → Type 0
IsNextBounded P (Method f ∷ rest) = HasBoundedNext P f
IsNextBounded P frames = Unit {0}

-- what is on top of frames
abbrev pub top_of : List RunFrame → Top
top_of [] = tops.Nothing
top_of (Library made ∷ rest) = tops.Library
top_of (Beginning class ∷ rest) = tops.Beginning
top_of (Method f ∷ rest) = tops.Method f.at
