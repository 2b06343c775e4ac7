-- Objects as they are kept: each at the index of its site.
use Rattle.std.specs.Prelude.{◌≡◌, ◌≢◌, ◌+◌, ℕ, List, Option, slice_get}
use Rattle.std.specs.List.{filter_map}
use Rattle.std.specs.Option.{option_flatten}
use Rattle.std.specs.declared.option.Option.TheVariants.{Some}
use Rattle.virtual_state.specs.States.{object_of}
use Rattle.virtual_state.specs.declared.slot.VObject.{VObject}

-- the objects of a table, by increasing site
abbrev pub listed : List (Option VObject) → List VObject
listed entries = filter_map (λ entry. entry) entries

-- the object at an index, if there is one
abbrev pub entry_at : List (Option VObject) → ℕ → Option VObject
entry_at entries at = option_flatten (slice_get entries at)

-- each object stands at the index of its site, counted from a number
pub record ArePlacedFrom (first : ℕ) (entries : List (Option VObject)) : Type 0 where
  pub each :
      (at : ℕ) (object : VObject) → entry_at entries at ≡ Some object → object.site ≡ first + at

-- The same objects at the same indices.
pub record HaveSameEntries (before after : List (Option VObject)) : Type 0 where
  pub each : (at : ℕ) → entry_at after at ≡ entry_at before at

-- Another entry at one index, and the same ones at the others.
pub record HasSetEntry (before after : List (Option VObject)) (at : ℕ) (entry : Option VObject)
    : Type 0 where
  pub here : entry_at after at ≡ entry
  pub others : (other : ℕ) → other ≢ at → entry_at after other ≡ entry_at before other

-- Another object of a site, or none, and the same ones of the others.
pub record HasSet (before after : List VObject) (site : ℕ) (object : Option VObject) : Type 0 where
  pub here : object_of after site ≡ object
  pub others : (other : ℕ) → other ≢ site → object_of after other ≡ object_of before other
