-- States without some of their virtual objects: those are made, so that what held one holds a reference.
use Rattle.std.specs.Prelude.{ℕ, Bool, not, List, map, IsTrue, if◌then◌else◌}
use Rattle.std.specs.List.{filter}
use Rattle.virtual_state.specs.States.{State, IsEdge}
use Rattle.virtual_state.specs.declared.slot.Slot.{Slot}
use Rattle.virtual_state.specs.declared.slot.Slot.TheVariants.{Plain, Virt, Unusable}
use Rattle.virtual_state.specs.declared.slot.VObject.{VObject}

-- A set of sites is a test of their numbers. It is closed where it has each site that a field of a member names.
abbrev pub IsClosed : (ℕ → Bool) → List VObject → Type 0
IsClosed away objects =
    (from to : ℕ) → IsEdge objects from to → IsTrue (away from) → IsTrue (away to)

-- a slot where the objects of these sites are made
abbrev pub made_plain : (ℕ → Bool) → Slot → Slot
made_plain away Plain = Plain
made_plain away (Virt site) = if away site then Plain else Virt site
made_plain away Unusable = Unusable

-- an object where those of these sites are made
abbrev pub object_without : (ℕ → Bool) → VObject → VObject
object_without away object = record object { fields = map (made_plain away) object.fields }

-- the objects of the other sites, where those of these sites are made
abbrev pub objects_without : (ℕ → Bool) → List VObject → List VObject
objects_without away objects =
    map (object_without away) (filter (λ object. not (away object.site)) objects)

-- the state without the sites of a closed set
abbrev pub without : State → (ℕ → Bool) → State
without state away = record {
  slots = map (made_plain away) state.slots;
  objects = objects_without away state.objects;
}
