-- States of virtual objects: what each place of a frame holds, and the objects that are not made.
use Rattle.std.specs.Prelude.{◌≡◌, ◌<◌, ◌==◌, ℕ, Bool, true, false, List, [], ◌∷◌, map, Option, is_some, IsTrue, IsFalse}
use Rattle.std.specs.List.{find, list_any, AllByRecursion}
use Rattle.virtual_state.specs.declared.slot.Slot.{Slot}
use Rattle.virtual_state.specs.declared.slot.Slot.TheVariants.{Plain, Virt, Unusable}
use Rattle.virtual_state.specs.declared.slot.VObject.{VObject}

-- ---- slots

-- whether a slot holds the virtual object of a site
abbrev pub is_virtual : ℕ → Slot → Bool
is_virtual site Plain = false
is_virtual site (Virt one) = one == site
is_virtual site Unusable = false

-- whether a slot is unusable
abbrev pub is_unusable : Slot → Bool
is_unusable Plain = false
is_unusable (Virt one) = false
is_unusable Unusable = true

-- whether one of these slots holds the virtual object of a site
abbrev pub names : List Slot → ℕ → Bool
names slots site = list_any (is_virtual site) slots

-- ---- objects

-- the object of a site
abbrev pub object_of : List VObject → ℕ → Option VObject
object_of objects site = find (λ object. object.site == site) objects

-- whether a site has an object
abbrev pub is_present : List VObject → ℕ → Bool
is_present objects site = is_some (object_of objects site)

-- the sites of objects, in order
abbrev pub sites_of : List VObject → List ℕ
sites_of objects = map (λ object. object.site) objects

-- a field of the object of a site holds the virtual object of another one
pub record IsEdge (objects : List VObject) (from to : ℕ) : Type 0 where
  pub object : VObject
  pub there : object_of objects from ≡ Option.Some object
  pub named : IsTrue (names object.fields to)

-- a path of one edge or more
pub data IsPath (objects : List VObject) : ℕ → ℕ → Type 0 where
  one_edge : (from to : ℕ) → IsEdge objects from to → IsPath objects from to
  edge_and_path :
      (from middle to : ℕ)
      → IsEdge objects from middle
      → IsPath objects middle to
      → IsPath objects from to

-- a site is reached from slots: one of them holds its object, or a field of an object that is reached
pub data IsReached (slots : List Slot) (objects : List VObject) : ℕ → Type 0 where
  from_slot : (site : ℕ) → IsTrue (names slots site) → IsReached slots objects site
  from_field :
      (from site : ℕ)
      → IsReached slots objects from
      → IsEdge objects from site
      → IsReached slots objects site

-- ---- states

-- each number is less than those behind it
abbrev pub IsIncreasing : List ℕ → Type 0
IsIncreasing [] = Unit {0}
IsIncreasing (number ∷ numbers) =
    AllByRecursion (λ other. number < other) numbers × IsIncreasing numbers

-- The slots of the places, in order, and the virtual objects that are present, by increasing site: a finite map from
-- sites to objects has one such list.
pub record State : Type 0 where
  pub slots : List Slot
  pub objects : List VObject

-- What each state keeps: the objects are in order; the sites that a place or a field names are present; those that are
-- present are reached from the places; none is reached from itself; and no field is unusable.
pub record IsState (state : State) : Type 0 where
  pub order : IsIncreasing (sites_of state.objects)
  pub places : (site : ℕ) → IsTrue (names state.slots site) → IsTrue (is_present state.objects site)
  pub fields : (from to : ℕ) → IsEdge state.objects from to → IsTrue (is_present state.objects to)
  pub reached :
      (site : ℕ) → IsTrue (is_present state.objects site) → IsReached state.slots state.objects site
  pub acyclic : (site : ℕ) → ¬ IsPath state.objects site site
  pub usable :
      (site : ℕ) (object : VObject)
      → object_of state.objects site ≡ Option.Some object
      → IsFalse (list_any is_unusable object.fields)
