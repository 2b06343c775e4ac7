-- States of given slots and objects.
use Rattle.std.specs.Prelude.{◌≡◌, ℕ, List, IsTrue, IsFalse, Option}
use Rattle.std.specs.List.{list_any}
use Rattle.virtual_state.specs.States.{State, IsEdge, IsPath, IsReached, is_present, is_unusable, names, object_of}
use Rattle.virtual_state.specs.declared.slot.Slot.{Slot}
use Rattle.virtual_state.specs.declared.slot.VObject.{VObject}

-- Slots and objects make a state: each site that a slot or a field names has an object, none is reached from itself, and
-- no field is unusable.
pub record CanBeState (slots : List Slot) (objects : List VObject) : Type 0 where
  pub places : (site : ℕ) → IsTrue (names slots site) → IsTrue (is_present objects site)
  pub fields : (from to : ℕ) → IsEdge objects from to → IsTrue (is_present objects to)
  pub acyclic : (site : ℕ) → ¬ IsPath objects site site
  pub usable :
      (site : ℕ) (object : VObject)
      → object_of objects site ≡ Option.Some object
      → IsFalse (list_any is_unusable object.fields)

-- the state of these slots with those of the objects that the slots reach
pub record IsStateOf (slots : List Slot) (objects : List VObject) (state : State) : Type 0 where
  pub same_slots : state.slots ≡ slots
  pub reached : (site : ℕ) → IsTrue (is_present state.objects site) → IsReached slots objects site
  pub kept :
      (site : ℕ)
      → IsReached slots objects site
      → object_of state.objects site ≡ object_of objects site
