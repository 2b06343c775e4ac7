-- Where the selection of a special call starts.
use Rattle.std.proofs.Common.{◌≡◌, Option, Some, None, option_and_then, refl, sym, ap, ◌∙◌, inl, inr}
use Rattle.std.proofs.lemmas.Option.{none-some, same_Some}
use Rattle.class_model.specs.declared.header.Header.{Header}
use Rattle.class_tree.specs.Headers.{Name, Headers, class_named}
use Rattle.class_tree.specs.Hierarchy.{IsHierarchy}
use Rattle.class_tree.specs.Laws.Above.{low_is_there, class_is_climbed, hierarchy_is_sound, hierarchy_is_rooted}
use Rattle.class_tree.specs.Laws.Alike.{shapes, twin, below_alike}
use Rattle.class_model.specs.Laws.Decisions.{Decision, mapped, both, is_false}
use Rattle.class_tree.specs.Laws.Decided.{below_decided}
use Rattle.class_tree.specs.Laws.Headers.{class_there}
use Rattle.class_tree.specs.Names.{is_interface}
use Rattle.member_link.specs.SpecialStart.{IsSuperclassNamed, StartsSpecial, at_superclass, at_named}

-- the superclass of a class
abbrev super_of : Headers → Name → Option Name
super_of headers name = option_and_then (λ (header : Header). header.super_name) (class_named headers name)

pub start_at_superclass : (headers : Headers) (current named start : Name) → IsSuperclassNamed headers current named → super_of headers current ≡ Some start → StartsSpecial headers current named start
start_at_superclass headers current named start is some =
    let there = class_there headers current (low_is_there is.above) in
    at_superclass there.0 start is there.1 (sym (ap (option_and_then (λ (header : Header). header.super_name)) there.1) ∙ some)

-- a class that has no superclass is below none
pub no_superclass_above : (headers : Headers) → IsHierarchy headers → (current named : Name) → IsSuperclassNamed headers current named → super_of headers current ≡ None → ⊥
no_superclass_above headers hierarchy current named is none =
    let there = class_there headers current (low_is_there is.above) in
    let climbed = class_is_climbed headers (hierarchy_is_sound headers hierarchy) (hierarchy_is_rooted headers hierarchy) is.above there.0 is.header there.1 is.found is.no_interface in
    none-some climbed.0 (sym none ∙ ap (option_and_then (λ (header : Header). header.super_name)) there.1 ∙ climbed.1)

-- ---- one start, and always one

pub starts_once : (headers : Headers) (current named : Name) (one other : Name) → StartsSpecial headers current named one → StartsSpecial headers current named other → one ≡ other
starts_once headers current named one other starts also = by starts also
  where
    by : {one other : Name} → StartsSpecial headers current named one → StartsSpecial headers current named other → one ≡ other
    by (at_superclass header start is found some) (at_superclass second other also there more) =
        same_Some start other (sym some ∙ ap (λ (h : Header). h.super_name) (same_Some header second (sym found ∙ there)) ∙ more)
    by (at_superclass header start is found some) (at_named not) = absurd (not is)
    by (at_named not) (at_superclass header start is found some) = absurd (not is)
    by (at_named not) (at_named also) = refl

-- whether a superclass is named
superclass_named : (headers : Headers) → IsHierarchy headers → (current named : Name) → Decision (IsSuperclassNamed headers current named)
superclass_named headers hierarchy current named = by (class_named headers named) refl
  where
    by : (found : Option Header) → class_named headers named ≡ found → Decision (IsSuperclassNamed headers current named)
    by None none = inr (λ is. none-some is.header (sym none ∙ is.found))
    by (Some header) found = mapped (λ h. record { header = header; found = found; no_interface = h.0; above = h.1 }) (λ (is : IsSuperclassNamed headers current named).
        (ap (λ (h : Header). is_interface h) (same_Some header is.header (sym found ∙ is.found)) ∙ is.no_interface, is.above)) (both (is_false (is_interface header)) (below_decided headers hierarchy current named))

pub starts : (headers : Headers) → IsHierarchy headers → (current named : Name) → (start : Name) × StartsSpecial headers current named start
starts headers hierarchy current named = elim (superclass_named headers hierarchy current named) [
  | inr not ↦ (named, at_named not)
  | inl is ↦ by is (super_of headers current) refl
]
  where
    by : IsSuperclassNamed headers current named → (super : Option Name) → super_of headers current ≡ super → (start : Name) × StartsSpecial headers current named start
    by is None none = absurd (no_superclass_above headers hierarchy current named is none)
    by is (Some start) some = (start, start_at_superclass headers current named start is some)

-- ---- classes of one shape

module _ (one other : Headers) (same : shapes one ≡ shapes other) where
  named_alike : (current named : Name) → IsSuperclassNamed one current named → IsSuperclassNamed other current named
  named_alike current named is =
      let class = twin one other same named is.header is.found in
      record {
        header = class.0;
        found = class.1;
        no_interface = ap (λ (h : Header). is_interface h) (sym class.2) ∙ is.no_interface;
        above = below_alike one other same is.above;
      }

pub starts_alike : (one other : Headers) → shapes one ≡ shapes other → {current named start : Name} → StartsSpecial one current named start → StartsSpecial other current named start
starts_alike one other same {current} {named} (at_superclass header start is found some) =
    let class = twin one other same current header found in
    at_superclass class.0 start (named_alike one other same current named is) class.1 (sym (ap (λ (h : Header). h.super_name) class.2) ∙ some)
starts_alike one other same {current} {named} (at_named not) = at_named (λ is. not (named_alike other one (sym same) current named is))
