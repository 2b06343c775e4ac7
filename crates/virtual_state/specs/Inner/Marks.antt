-- Sites that are marked one by one, and what a search reaches from them.
use Rattle.std.specs.Prelude.{◌≡◌, ◌≤◌, ◌||◌, ℕ, Bool, false, List, Option, length, take, slice_index_or, IsTrue}
use Rattle.std.specs.List.{count_by}
use Rattle.virtual_state.specs.Sites.{has}
use Rattle.std.specs.declared.option.Option.TheVariants.{Some, None}
use Rattle.virtual_state.specs.States.{IsEdge, names, object_of}
use Rattle.virtual_state.specs.Without.{IsClosed}
use Rattle.virtual_state.specs.declared.slot.VObject.{VObject}

-- the marks of sites, each of which stands once among them
pub record AreMarksOf (sites : List ℕ) (marks : List Bool) : Type 0 where
  pub each : (site : ℕ) → slice_index_or marks site false ≡ has sites site
  pub count : count_by (λ mark. mark) marks ≡ length sites
  pub few : length marks ≤ 65536

-- The same marks, and no more of them than sites can be.
pub record HaveSameMarks (before after : List Bool) : Type 0 where
  pub each : (site : ℕ) → slice_index_or after site false ≡ slice_index_or before site false
  pub count : count_by (λ mark. mark) after ≡ count_by (λ mark. mark) before
  pub few : length before ≤ 65536 → length after ≤ 65536

-- The same sites, and behind them those that passed a test.
pub record HasMarked (before after : List ℕ) (test : ℕ → Bool) : Type 0 where
  pub kept : take (length before) after ≡ before
  pub marked : (site : ℕ) → has after site ≡ (has before site || test site)

-- whether a field of an object names a site, if there is an object
abbrev pub named_by : Option VObject → ℕ → Bool
named_by None site = false
named_by (Some object) site = names object.fields site

-- whether a field of the object of a site names another one
abbrev pub fields_of : List VObject → ℕ → ℕ → Bool
fields_of objects from site = named_by (object_of objects from) site

-- a site is reached from marked ones over fields of the objects of two states
pub data IsSpread (start : List ℕ) (one other : List VObject) : ℕ → Type 0 where
  marked : (site : ℕ) → IsTrue (has start site) → IsSpread start one other site
  over_one :
      (from site : ℕ)
      → IsSpread start one other from
      → IsEdge one from site
      → IsSpread start one other site
  over_other :
      (from site : ℕ)
      → IsSpread start one other from
      → IsEdge other from site
      → IsSpread start one other site

-- The sites that are reached from marked ones, and no others.
pub record HasSpread (start sites : List ℕ) (one other : List VObject) : Type 0 where
  pub kept : (site : ℕ) → IsTrue (has start site) → IsTrue (has sites site)
  pub in_one : IsClosed (has sites) one
  pub in_other : IsClosed (has sites) other
  pub reached : (site : ℕ) → IsTrue (has sites site) → IsSpread start one other site
