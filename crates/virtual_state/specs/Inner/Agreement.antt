-- Where two states agree once the objects of some sites are made in both.
use Rattle.std.specs.Prelude.{◌≡◌, ◌<◌, ℕ, Bool, List, Option, map, IsTrue, IsFalse}
use Rattle.std.specs.List.{list_any}
use Rattle.std.specs.declared.option.Option.TheVariants.{Some, None}
use Rattle.virtual_state.specs.Sites.{has}
use Rattle.virtual_state.specs.States.{is_unusable, names, object_of}
use Rattle.virtual_state.specs.Without.{IsClosed, made_plain}
use Rattle.virtual_state.specs.declared.slot.Slot.{Slot}
use Rattle.virtual_state.specs.declared.slot.VObject.{VObject}

-- each site of the first set is one of the second
abbrev pub IsPart : (ℕ → Bool) → (ℕ → Bool) → Type 0
IsPart one other = (site : ℕ) → IsTrue (one site) → IsTrue (other site)

-- slots agree where some objects are made
abbrev pub AgreeWithout : (ℕ → Bool) → List Slot → List Slot → Type 0
AgreeWithout away one other = map (made_plain away) one ≡ map (made_plain away) other

-- The objects of a site agree: both are made, or both are there with as many monitor entries and with fields that agree.
abbrev pub ObjectsAgree : (ℕ → Bool) → Option VObject → Option VObject → Type 0
ObjectsAgree away None None = Unit {0}
ObjectsAgree away None (Some other) = IsTrue (away other.site)
ObjectsAgree away (Some one) None = IsTrue (away one.site)
ObjectsAgree away (Some one) (Some other) =
    IsFalse (away one.site) → (one.depth ≡ other.depth) × AgreeWithout away one.fields other.fields

-- where an object is made, those of its fields are
abbrev pub FieldsFollow : (ℕ → Bool) → Option VObject → Type 0
FieldsFollow away None = Unit {0}
FieldsFollow away (Some object) =
    IsTrue (away object.site) → (to : ℕ) → IsTrue (names object.fields to) → IsTrue (away to)

-- two objects are of one site, and no field is unusable
abbrev pub ArePair : Option VObject → Option VObject → Type 0
ArePair None other = Unit {0}
ArePair (Some one) None = Unit {0}
ArePair (Some one) (Some other) =
    (one.site ≡ other.site)
    × IsFalse (list_any is_unusable one.fields)
    × IsFalse (list_any is_unusable other.fields)

-- no field of these objects is unusable
pub record AreUsable (objects : List VObject) : Type 0 where
  pub each :
      (site : ℕ) (object : VObject)
      → object_of objects site ≡ Some object
      → IsFalse (list_any is_unusable object.fields)

-- More sites are marked, so that two slots agree without them; each set without which they agree has those that were added.
pub record HasMarkedPair (before after : List ℕ) (one other : Slot) : Type 0 where
  pub kept : IsPart (has before) (has after)
  pub agree : made_plain (has after) one ≡ made_plain (has after) other
  pub forced :
      (test : ℕ → Bool)
      → made_plain test one ≡ made_plain test other
      → IsPart (has before) test
      → IsPart (has after) test

-- the same of slots
pub record HasMarkedDifferences (before after : List ℕ) (one other : List Slot) : Type 0 where
  pub kept : IsPart (has before) (has after)
  pub agree : AgreeWithout (has after) one other
  pub forced :
      (test : ℕ → Bool)
      → AgreeWithout test one other
      → IsPart (has before) test
      → IsPart (has after) test

-- the same of the objects of a site
pub record HasMarkedObject (before after : List ℕ) (one other : Option VObject) : Type 0 where
  pub kept : IsPart (has before) (has after)
  pub agree : ObjectsAgree (has after) one other
  pub forced :
      (test : ℕ → Bool)
      → ObjectsAgree test one other
      → FieldsFollow test one
      → FieldsFollow test other
      → IsPart (has before) test
      → IsPart (has after) test

-- the same of the objects of all sites below a number
pub record HasMarkedObjects (before after : List ℕ) (one other : List VObject) (end : ℕ)
    : Type 0 where
  pub kept : IsPart (has before) (has after)
  pub agree :
      (site : ℕ) → site < end → ObjectsAgree (has after) (object_of one site) (object_of other site)
  pub forced :
      (test : ℕ → Bool)
      → ((site : ℕ) → ObjectsAgree test (object_of one site) (object_of other site))
      → IsClosed test one
      → IsClosed test other
      → IsPart (has before) test
      → IsPart (has after) test

-- the same of the objects of all sites
pub record HaveMarkedObjects (before after : List ℕ) (one other : List VObject) : Type 0 where
  pub kept : IsPart (has before) (has after)
  pub agree : (site : ℕ) → ObjectsAgree (has after) (object_of one site) (object_of other site)
  pub forced :
      (test : ℕ → Bool)
      → ((site : ℕ) → ObjectsAgree test (object_of one site) (object_of other site))
      → IsClosed test one
      → IsClosed test other
      → IsPart (has before) test
      → IsPart (has after) test
