-- A table of objects that is filled site by site.
use Rattle.std.specs.Prelude.{◌≡◌, ◌<◌, ◌≤◌, ℕ, Bool, List, Option, cond}
use Rattle.std.specs.List.{filter}
use Rattle.std.specs.declared.option.Option.TheVariants.{Some, None}
use Rattle.virtual_state.specs.Inner.Tables.{HasSet}
use Rattle.virtual_state.specs.States.{object_of}
use Rattle.virtual_state.specs.Without.{object_without}
use Rattle.virtual_state.specs.declared.slot.Slot.{Slot}
use Rattle.virtual_state.specs.declared.slot.Slot.TheVariants.{Plain, Virt, Unusable}
use Rattle.virtual_state.specs.declared.slot.VObject.{VObject}

-- whether a slot holds the object of one of these sites
abbrev pub is_away : (ℕ → Bool) → Slot → Bool
is_away away Plain = Bool.false
is_away away (Virt site) = away site
is_away away Unusable = Bool.false

-- an object that stays, where those of these sites are made
abbrev pub stays_as : (ℕ → Bool) → Option VObject → Option VObject
stays_as away None = None
stays_as away (Some object) = cond (away object.site) None (Some (object_without away object))

-- the objects of these sites
abbrev pub of_sites : (ℕ → Bool) → List VObject → List VObject
of_sites test objects = filter (λ object. test object.site) objects

-- an object, if it is of one of these sites
abbrev pub if_among : (ℕ → Bool) → Option VObject → Option VObject
if_among test None = None
if_among test (Some object) = cond (test object.site) (Some object) None

-- an object was put in the place of that of its site, if there is one
abbrev pub HasPut : List VObject → List VObject → Option VObject → Type 0
HasPut before after None = after ≡ before
HasPut before after (Some object) = HasSet before after object.site (Some object)

-- The objects of a list are there up to a site, and no others.
pub record IsFilled (whole part : List VObject) (end : ℕ) : Type 0 where
  pub before : (site : ℕ) → site < end → object_of part site ≡ object_of whole site
  pub behind : (site : ℕ) → end ≤ site → object_of part site ≡ None
