-- Events: what the library sees, with references by the numbers of their first appearance. A reference that appears first shows its
-- class, and is known from then on.
use Rattle.std.specs.Prelude.{◌==◌, ℕ, List, [], ◌∷◌, ◌++◌, length, map, Option, Some, None}
use Rattle.class_tree.specs.Headers.{Name}
use Rattle.machine_values.specs.declared.event.Event.{Event}
use Rattle.machine_values.specs.declared.event.EventKind.{EventKind}
use Rattle.machine_values.specs.declared.event.EventKind.TheVariants as kinds
use Rattle.machine_values.specs.declared.event.First.{First}
use Rattle.machine_values.specs.declared.event.Seen.{Seen}
use Rattle.machine_values.specs.declared.event.Seen.TheVariants as seen
use Rattle.machine_values.specs.declared.event.SeenRef.{SeenRef}
use Rattle.machine_values.specs.declared.object.Object.{Object}
use Rattle.machine_values.specs.declared.object.Shape.{Shape}
use Rattle.machine_values.specs.declared.object.Shape.TheVariants.{External}
use Rattle.machine_values.specs.declared.value.Value.{Value}
use Rattle.machine_values.specs.declared.value.Value.TheVariants.{Int, Long, Float, Double, Null, Ref}
use Rattle.member_link.specs.Machine.Completions.{Asked, asks_call, asks_dynamic, asks_get, asks_put, asks_float}
use Rattle.machine_values.specs.Heaps.{Heap, object_at, constant_in, monitor_count}
use Rattle.member_link.specs.Machine.Programs.{Program, number_of_first}
use Rattle.member_link.specs.Machine.Shapes.{class_of_shape}
use Rattle.member_link.specs.Machine.Worlds.{World, Memory}
use Rattle.member_link.specs.References.{Reference}

-- ---- numbering

-- the number of a known reference
abbrev pub known_number : List ℕ → ℕ → Option ℕ
known_number known reference = number_of_first (λ other. other == reference) known

abbrev pub also_of : Shape → List Name
also_of (External class also) = also
also_of shape = []

-- what a reference shows where it appears first
abbrev pub first_of : Program → Heap → ℕ → First
first_of P heap reference = of_object (object_at heap reference) where
  of_object : Option Object → First
  of_object None = record { class = []; also = []; constant = None }
  of_object (Some object) =
      record {
        class = class_of_shape P object.shape;
        also = also_of object.shape;
        constant = constant_in heap.constants reference;
      }

-- a value that is seen, and the references that are known behind it
pub record Numbered (A : Type 0) : Type 0 where
  pub seen : A
  pub known : List ℕ

abbrev pub numbered_reference : Program → Heap → List ℕ → ℕ → Numbered SeenRef
numbered_reference P heap known reference = of_number (known_number known reference) where
  of_number : Option ℕ → Numbered SeenRef
  of_number (Some number) =
      record { seen = record { number = number; first = None }; known = known }
  of_number None =
      record {
        seen = record { number = length known; first = Some (first_of P heap reference) };
        known = known ++ reference ∷ [];
      }

abbrev pub numbered : Program → Heap → List ℕ → Value → Numbered Seen
numbered P heap known (Ref reference) =
    of_reference (numbered_reference P heap known reference) where
      of_reference : Numbered SeenRef → Numbered Seen
      of_reference one = record { seen = seen.Ref one.seen; known = one.known }
numbered P heap known (Int number) = record { seen = seen.Int number; known = known }
numbered P heap known (Long number) = record { seen = seen.Long number; known = known }
numbered P heap known (Float bits) = record { seen = seen.Float bits; known = known }
numbered P heap known (Double bits) = record { seen = seen.Double bits; known = known }
numbered P heap known Null = record { seen = seen.Null; known = known }

-- values one after the other, each behind those before it
abbrev pub numbered_all : Program → Heap → List ℕ → List Value → Numbered (List Seen)
numbered_all P heap known [] = record { seen = []; known = known }
numbered_all P heap known (value ∷ values) =
    let first = numbered P heap known value in
    let others = numbered_all P heap first.known values in
    record { seen = first.seen ∷ others.seen; known = others.known }

abbrev pub numbered_option : Program → Heap → List ℕ → Option Value → Numbered (Option Seen)
numbered_option P heap known None = record { seen = None; known = known }
numbered_option P heap known (Some value) = of_value (numbered P heap known value) where
  of_value : Numbered Seen → Numbered (Option Seen)
  of_value one = record { seen = Some one.seen; known = one.known }

-- ---- events

abbrev pub kind_with : {A : Type 0} → (A → EventKind) → Numbered A → Numbered EventKind
kind_with make values = record { seen = make values.seen; known = values.known }

-- of a written field the receiver comes before the value
abbrev pub put_kind :
    Program → Heap → Reference → Numbered (Option Seen) → Value → Numbered EventKind
put_kind P heap field receiver value =
    kind_with (λ shown. kinds.Put field.class field.name field.desc receiver.seen shown)
    (numbered P heap receiver.known value)

-- what is asked, as the library sees it
abbrev pub asked_kind : Program → Heap → List ℕ → Asked → Numbered EventKind
asked_kind P heap known (asks_call method values) =
    kind_with (kinds.Call method.class method.name method.desc) (numbered_all P heap known values)
asked_kind P heap known (asks_dynamic class bootstrap name desc values) =
    kind_with (kinds.Dynamic class bootstrap name desc) (numbered_all P heap known values)
asked_kind P heap known (asks_get field receiver) =
    kind_with (kinds.Get field.class field.name field.desc) (numbered_option P heap known receiver)
asked_kind P heap known (asks_put field receiver value) =
    put_kind P heap field (numbered_option P heap known receiver) value
asked_kind P heap known (asks_float opcode values) =
    kind_with (kinds.Float opcode) (numbered_all P heap known values)

-- an event with the two counts, and the monitor counts of all references known behind it
abbrev pub event_of : Memory → Numbered EventKind → Event
event_of memory kind = record {
  kind = kind.seen;
  allocations = memory.allocations;
  entries = memory.entries;
  monitors = map (monitor_count memory.heap) kind.known;
}

-- the library sees an event
abbrev pub showing : World → Numbered EventKind → World
showing w kind = record w { known = kind.known; events = w.events ++ event_of w.memory kind ∷ [] }

abbrev pub shows_asked : Program → World → Asked → World
shows_asked P w asked = showing w (asked_kind P w.memory.heap w.known asked)

abbrev pub shows_result : Program → World → Option Value → World
shows_result P w value =
    showing w (kind_with kinds.Result (numbered_option P w.memory.heap w.known value))

abbrev pub shows_threw : Program → World → ℕ → World
shows_threw P w reference =
    showing w (kind_with kinds.Threw (numbered_reference P w.memory.heap w.known reference))

abbrev pub shows_got : Program → World → Value → World
shows_got P w value = showing w (kind_with kinds.Got (numbered P w.memory.heap w.known value))

abbrev pub shows_made : Program → World → ℕ → World
shows_made P w reference =
    showing w (kind_with kinds.Made (numbered_reference P w.memory.heap w.known reference))

abbrev pub shows_length : World → ℕ → World
shows_length w len = showing w (record { seen = kinds.Length len; known = w.known })
