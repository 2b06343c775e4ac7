-- Comparing two states place by place and site by site.
use Rattle.std.specs.Prelude.{◌≡◌, ◌==◌, ◌&&◌, ℕ, Bool, not, List, Option, map, IsFalse}
use Rattle.std.specs.List.{list_any}
use Rattle.std.specs.declared.option.Option.TheVariants.{Some, None}
use Rattle.virtual_state.specs.Inner.Filling.{is_away}
use Rattle.virtual_state.specs.States.{is_present, object_of}
use Rattle.virtual_state.specs.Without.{made_plain}
use Rattle.virtual_state.specs.declared.slot.VObject.{VObject}

-- the sites that have no object among these
abbrev pub absent_from : List VObject → ℕ → Bool
absent_from objects site = not (is_present objects site)

-- An object fits what stands of it above: the same with the objects made that are absent there, or nothing, where it holds
-- none that is present there.
abbrev pub ObjectFits : List VObject → Option VObject → Option VObject → Type 0
ObjectFits objects None None = Unit {0}
ObjectFits objects None (Some other) = ⊥
ObjectFits objects (Some object) None =
    IsFalse (list_any (is_away (is_present objects)) object.fields)
ObjectFits objects (Some object) (Some other) =
    (object.depth ≡ other.depth)
    × (other.fields ≡ map (made_plain (absent_from objects)) object.fields)

-- each object fits
pub record ObjectsFit (objects others : List VObject) : Type 0 where
  pub each : (site : ℕ) → ObjectFits others (object_of objects site) (object_of others site)

-- whether a site is that of an object, and is absent among these
abbrev pub is_lost : List VObject → Option VObject → ℕ → Bool
is_lost objects None site = Bool.false
is_lost objects (Some object) site = object.site == site && absent_from objects object.site
