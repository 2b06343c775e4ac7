-- Sets of sites, as lists of their numbers.
use Rattle.std.specs.Prelude.{◌≤◌, ◌<◌, ◌==◌, ℕ, Bool, not, List, Option, Some, None, IsTrue, IsFalse}
use Rattle.std.specs.List.{filter, list_any}
use Rattle.virtual_state.specs.States.{State, is_present, sites_of}
use Rattle.virtual_state.specs.Without.{IsClosed}
use Rattle.virtual_state.specs.declared.slot.VObject.{VObject}

-- whether a site is one of these
abbrev pub has : List ℕ → ℕ → Bool
has sites site = list_any (λ one. one == site) sites

-- the sites of a state that another one does not have
abbrev pub differing : State → State → List ℕ
differing state other =
    filter (λ site. not (is_present other.objects site)) (sites_of state.objects)

-- the lowest site from a number on that has an object, if there is one
abbrev pub IsSiteFrom : List VObject → ℕ → Option ℕ → Type 0
IsSiteFrom objects first None =
    (site : ℕ) → first ≤ site → IsFalse (is_present objects site)
IsSiteFrom objects first (Some site) =
    (first ≤ site)
    × IsTrue (is_present objects site)
    × ((other : ℕ) → first ≤ other → other < site → IsFalse (is_present objects other))

-- The least closed set that has some sites.
pub record IsClosure (sites : List ℕ) (objects : List VObject) (closed_set : List ℕ) : Type 0 where
  pub starts : (site : ℕ) → IsTrue (has sites site) → IsTrue (has closed_set site)
  pub closed : IsClosed (has closed_set) objects
  pub least : (other : ℕ → Bool)
      → ((site : ℕ) → IsTrue (has sites site) → IsTrue (other site))
      → IsClosed other objects
      → (site : ℕ)
      → IsTrue (has closed_set site)
      → IsTrue (other site)
