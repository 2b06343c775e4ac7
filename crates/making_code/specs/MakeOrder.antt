-- The order in which objects are made. It is this project's profile.
use Rattle.std.specs.Prelude.{◌≤◌, ◌==◌, ℕ, Bool, not, List, [], ◌∷◌, Option, Some, None, IsTrue, IsFalse}
use Rattle.std.specs.List.{filter, list_any}
use Rattle.virtual_state.specs.Sites.{has}
use Rattle.virtual_state.specs.States.{names, object_of}
use Rattle.virtual_state.specs.declared.slot.VObject.{VObject}

-- a field of a site's object names one of some sites
abbrev pub names_one : List VObject → List ℕ → ℕ → Bool
names_one objects sites site = of_object (object_of objects site) where
  of_object : Option VObject → Bool
  of_object None = Bool.false
  of_object (Some object) = list_any (names object.fields) sites

-- those of these sites that are not made
abbrev pub left_of : List ℕ → List ℕ → List ℕ
left_of sites made = filter (λ site. not (has made site)) sites

-- Of the sites that are left this one comes next: no field of its object names one that is left, and of those it is the least number.
pub record ComesNext (objects : List VObject) (left : List ℕ) (site : ℕ) : Type 0 where
  pub left_over : IsTrue (has left site)
  pub ready : IsFalse (names_one objects left site)
  pub least : (other : ℕ)
      → IsTrue (has left other)
      → IsFalse (names_one objects left other)
      → site ≤ other

-- The order in which the objects of these sites are made: each after those that its fields name.
pub data IsMakeOrder (objects : List VObject) : List ℕ → List ℕ → Type 0 where
  all_made : IsMakeOrder objects [] []
  one_next : (left order : List ℕ) (site : ℕ)
      → ComesNext objects left site
      → IsMakeOrder objects (filter (λ other. not (other == site)) left) order
      → IsMakeOrder objects left (site ∷ order)
