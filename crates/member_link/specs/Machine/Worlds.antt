-- The world of a run: its frames, its memory, what the library knows and has seen, and how far it is (JVM Specification SE 8, 2.5, 2.6).
use Rattle.std.specs.Prelude.{◌==◌, ◌&&◌, ℕ, Bool, List, [], ◌∷◌, slice_get, Option, Some, None, if◌then◌else◌}
use Rattle.std.specs.List.{list_any}
use Rattle.class_model.specs.declared.header.Member.{Member}
use Rattle.machine_values.specs.declared.event.Event.{Event}
use Rattle.machine_values.specs.declared.frame.RunFrame.{RunFrame}
use Rattle.machine_values.specs.declared.frame.RunFrame.TheVariants.{Library}
use Rattle.machine_values.specs.declared.value.Value.{Value}
use Rattle.machine_values.specs.Heaps.{Heap}
use Rattle.member_link.specs.Machine.Programs.{Program, RunClass}
use Rattle.machine_values.specs.Values.{blank_value}

-- a static field of a class of the folder by the numbers of both, and its value
pub record StaticValue : Type 0 where
  pub class : ℕ
  pub field : ℕ
  pub value : Value

-- The heap, the static fields that were written, the classes that were begun, and how many objects were allocated and monitors
-- entered: what the library or the machine itself makes is not counted.
pub record Memory : Type 0 where
  pub heap : Heap
  pub statics : List StaticValue
  pub begun : List ℕ
  pub allocations : ℕ
  pub entries : ℕ

-- how a run goes on, or why it does not
pub data Halt : Type 0 where
  going : Halt
  stopped : Halt
  -- the library took an action that it may not take
  faulted : Halt
  -- an exception left a class initialiser
  init_threw : Halt
  array_too_long : Halt
  -- an operand, a local or a receiver is not as the instruction needs it
  stuck : Halt

-- The frames, the top one first; the known references by their numbers; the events; and how many steps were taken.
pub record World : Type 0 where
  pub frames : List RunFrame
  pub memory : Memory
  pub known : List ℕ
  pub events : List Event
  pub steps : ℕ
  pub halt : Halt

-- only the library's frame stands
abbrev pub start : World
start = record {
  frames = Library None ∷ [];
  memory = record { heap = record { objects = []; constants = [] }; statics = []; begun = []; allocations = 0; entries = 0 };
  known = [];
  events = [];
  steps = 0;
  halt = going;
}

abbrev pub with_heap : Memory → Heap → Memory
with_heap memory heap = record memory { heap = heap }

-- ---- static fields

abbrev pub is_static_of : ℕ → ℕ → StaticValue → Bool
is_static_of class field static = static.class == class && static.field == field

abbrev pub written_static : List StaticValue → ℕ → ℕ → Option Value
written_static [] class field = None
written_static (first ∷ others) class field =
    if is_static_of class field first then Some first.value else written_static others class field

-- the descriptor of a field by its number, empty where there is none
abbrev pub field_desc : Program → ℕ → ℕ → List ℕ
field_desc P class field = of_class (slice_get P.classes class) where
  of_field : Option Member → List ℕ
  of_field None = []
  of_field (Some member) = member.desc

  of_class : Option RunClass → List ℕ
  of_class None = []
  of_class (Some found) = of_field (slice_get found.header.fields field)

-- a field that was not written is zero or null
abbrev pub static_value : Program → Memory → ℕ → ℕ → Value
static_value P memory class field = or_blank (written_static memory.statics class field) where
  or_blank : Option Value → Value
  or_blank None = blank_value (field_desc P class field)
  or_blank (Some value) = value

abbrev pub put_static_in : List StaticValue → ℕ → ℕ → Value → List StaticValue
put_static_in [] class field value = record { class = class; field = field; value = value } ∷ []
put_static_in (first ∷ others) class field value =
    if is_static_of class field first
    then record first { value = value } ∷ others
    else first ∷ put_static_in others class field value

abbrev pub with_static : Memory → ℕ → ℕ → Value → Memory
with_static memory class field value =
    record memory { statics = put_static_in memory.statics class field value }

-- ---- classes

abbrev pub is_begun : Memory → ℕ → Bool
is_begun memory class = list_any (λ other. other == class) memory.begun
