-- The order of states, and the state that joins two.
use Rattle.std.specs.Prelude.{◌≡◌, ◌≢◌, ℕ, List, [], ◌∷◌, map, IsTrue}
use Rattle.virtual_state.specs.Sites.{has}
use Rattle.virtual_state.specs.States.{State, is_present, is_unusable}
use Rattle.virtual_state.specs.Without.{IsClosed, without}

-- a state is below another one, which is the same without a closed set of its sites
pub record IsBelow (state other : State) : Type 0 where
  pub sites : List ℕ
  pub there : (site : ℕ) → IsTrue (has sites site) → IsTrue (is_present state.objects site)
  pub closed : IsClosed (has sites) state.objects
  pub is : other ≡ without state (has sites)

-- the state that two are below, and that is below each state that both are below
pub record IsJoin (state other joined : State) : Type 0 where
  pub left : IsBelow state joined
  pub right : IsBelow other joined
  pub least : (above : State) → IsBelow state above → IsBelow other above → IsBelow joined above

-- the states have as many places, and the same ones are usable
abbrev pub HaveSamePlaces : State → State → Type 0
HaveSamePlaces state other = map is_unusable state.slots ≡ map is_unusable other.slots

-- a state and others, of which each is below the next one and different from it
abbrev pub IsChain : State → List State → Type 0
IsChain state [] = Unit {0}
IsChain state (next ∷ states) = IsBelow state next × (state ≢ next) × IsChain next states
