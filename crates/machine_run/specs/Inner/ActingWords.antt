-- Words of the library's answers and of the objects that it makes.
use Rattle.std.specs.Prelude.{◌≡◌, ◌&&◌, ◌<◌, ◌-◌, ◌^◌, not, ℕ, Bool, false, List, ◌∷◌, drop, Option, Some, None, is_some, option_and_then}
use Rattle.std.specs.List.{list_any}
use Rattle.class_model.specs.declared.class_file.MethodAt.{MethodAt}
use Rattle.class_model.specs.declared.descriptor.FieldType.{FieldType}
use Rattle.class_tree.specs.Headers.{Name}
use Rattle.machine_values.specs.Frames.{MethodState}
use Rattle.machine_values.specs.Heaps.{Heap}
use Rattle.machine_values.specs.declared.action.Given.{Given}
use Rattle.machine_values.specs.declared.frame.RunFrame.{RunFrame}
use Rattle.machine_values.specs.declared.frame.RunFrame.TheVariants.{Library, Method}
use Rattle.machine_values.specs.declared.value.Value.{Value}
use Rattle.member_link.specs.Machine.Acting.{Pending, fault, given_value, is_concrete, pending_of, type_of_kind}
use Rattle.member_link.specs.Machine.Performing.{resumed, thrown}
use Rattle.member_link.specs.Machine.Programs.{Program, folder_number, header_named, is_interface_named, point_at}
use Rattle.member_link.specs.Machine.Worlds.{World}
use Rattle.member_link.specs.Rows.ArithmeticRows.{Operation}
use Rattle.machine_step.specs.Completing.{values_of}
use Rattle.machine_run.specs.Inner.ArrayWords.{narrowed_value}
use Rattle.machine_run.specs.declared.acting.answers.Answer.{Answer}

-- the library may make an object of this class that also implements these
abbrev pub may_make : Program → Name → List Name → Bool
may_make P class also =
    not (is_some (folder_number P class))
    && (is_concrete (header_named P class)
    && not (list_any (λ name. not (is_interface_named P name)) also))

-- ---- what waits

abbrev pub may_throw : Option Pending → Bool
may_throw None = false
may_throw (Some pending) = pending.may_throw

abbrev pub awaited_type : Option Pending → Option FieldType
awaited_type None = None
awaited_type (Some pending) = pending.answer

-- the type of what an operation on float or double gives
abbrev pub computed_type : Option Operation → Option FieldType
computed_type None = None
computed_type (Some operation) = Some (type_of_kind operation.gives)

-- what the operation at a place of a method waits for
abbrev pub awaited_at : Program → MethodAt → ℕ → Option Pending
awaited_at P at place = option_and_then (λ point. pending_of point.op) (point_at P at place)

-- the method's frame below the library's
abbrev pub waiting_frame : List RunFrame → Option MethodState
waiting_frame (Library made ∷ Method f ∷ rest) = Some f
waiting_frame frames = None

-- the frame of a method, if it is one
abbrev pub method_of : Option RunFrame → Option MethodState
method_of (Some (Method f)) = Some f
method_of frame = None

abbrev pub awaited_below : Program → List RunFrame → Option Pending
awaited_below P frames =
    option_and_then (λ (f : MethodState). awaited_at P f.at f.place) (waiting_frame frames)

-- it can go on
pub record HasWaiting (frames : List RunFrame) : Type 0 where
  pub made : Option ℕ
  pub waiting : MethodState
  pub rest : List RunFrame
  pub same : frames ≡ Library made ∷ Method waiting ∷ rest
  pub next : waiting.place < 2 ^ 32 - 1

-- ---- answers

abbrev pub answered : Option Value → Option Answer
answered None = None
answered (Some value) = Some (record { value = Some value })

abbrev pub value_for :
    Program → Heap → Option FieldType → Option Value → Option Answer
value_for P heap (Some type) (Some value) = answered (narrowed_value P heap type value)
value_for P heap type value = None

abbrev pub nothing_for : Option FieldType → Option Answer
nothing_for None = Some (record { value = None })
nothing_for (Some type) = None

-- what goes to an operation that waits, by what the library gives
abbrev pub answer_for : Program → World → Option Pending → Option Given → Option Answer
answer_for P w None value = None
answer_for P w (Some pending) None = nothing_for pending.answer
answer_for P w (Some pending) (Some value) =
    value_for P w.memory.heap pending.answer (given_value w.known value)

abbrev pub goes_on : List RunFrame → List Value → List RunFrame
goes_on (Library made ∷ Method f ∷ rest) values = Method (resumed f values) ∷ rest
goes_on frames values = frames

-- the method goes on, or the action is a fault
abbrev pub with_answer : World → Option Answer → World
with_answer w None = fault w
with_answer w (Some answer) =
    record w { frames = goes_on w.frames (values_of answer.value) }

-- ---- throwables

-- an object is thrown below the library's frame, or the action is a fault
abbrev pub thrown_below : Program → World → Option ℕ → World
thrown_below P w None = fault w
thrown_below P w (Some reference) = thrown P w reference (drop 1 w.frames)

abbrev pub put_back : Option RunFrame → List RunFrame → List RunFrame
put_back None frames = frames
put_back (Some frame) frames = frame ∷ frames
