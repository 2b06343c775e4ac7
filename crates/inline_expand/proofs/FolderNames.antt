-- Classes of the folder by their names and numbers.
use Rattle.std.proofs.Common.{◌≡◌, ◌≢◌, cond, ℕ, Bool, true, false, List, [], ◌∷◌, ◌++◌, bytes_eq, slice_get, Option, Some, None, option_map, option_and_then, refl, sym, ap, subst, ◌∙◌}
use Rattle.std.proofs.lemmas.Option.{same_Some}
use Rattle.std.proofs.lemmas.Slice.Eq.{bytes_eq-Decides}
use Rattle.class_model.specs.Checks.{AllHold, Check, asked_each}
use Rattle.class_model.specs.Laws.Checks.{first_holds, others_hold}
use Rattle.class_model.specs.declared.header.Header.{Header}
use Rattle.class_tree.specs.Headers.{Name, Classes, Headers, headers_of, named, class_named}
use Rattle.class_tree.specs.Laws.FirstPlaces.{first_at}
use Rattle.class_tree.specs.Names.{object}
use Rattle.class_tree.specs.Order.{first_place, place_of}
use Rattle.class_tree.specs.Problems.{Problem}
use Rattle.class_tree.specs.Steps.{folder_checks, hierarchy_checks, library_checks}
use Rattle.class_tree.specs.Trees.{IsTree}
use Rattle.class_tree.specs.declared.place.Place.{Place}
use Rattle.class_tree.specs.declared.place.Place.TheVariants.{Folder, Library}

-- ---- by place

named_at : (name : Name) (headers : List Header)
    → named name headers ≡ option_and_then (slice_get headers) (first_place (λ header. bytes_eq name header.name) headers)
named_at name headers = first_at (λ header. bytes_eq name header.name) (named name) refl (λ header rest. refl) headers

-- what a folder has under a name, by where the name stands
abbrev pub InFolder : Headers → Name → Option Place → Type 0
InFolder headers name (Some (Folder number)) = named name headers.folder ≡ slice_get headers.folder number
InFolder headers name (Some (Library number)) = named name headers.folder ≡ None
InFolder headers name None = named name headers.folder ≡ None

pub in_folder : (headers : Headers) (name : Name) → InFolder headers name (place_of headers name)
in_folder headers name = by (first_place (λ header. bytes_eq name header.name) headers.folder) refl
  where
    in_library : (found : Option ℕ) → named name headers.folder ≡ None → InFolder headers name (option_map Library found)
    in_library None none = none
    in_library (Some number) none = none

    by : (found : Option ℕ) → first_place (λ header. bytes_eq name header.name) headers.folder ≡ found
        → InFolder headers name (place_of headers name)
    by (Some number) is = rw is (named_at name headers.folder ∙ ap (option_and_then (slice_get headers.folder)) is)
    by None is = rw is (in_library (first_place (λ header. bytes_eq name header.name) headers.library) (named_at name headers.folder ∙ ap (option_and_then (slice_get headers.folder)) is))

pub in_folder_at : (headers : Headers) (name : Name) (place : Option Place) → place_of headers name ≡ place → InFolder headers name place
in_folder_at headers name place is = subst (InFolder headers name) is (in_folder headers name)

-- ---- by name

-- a class of the folder is found there first
pub of_folder : (headers : Headers) (name : Name) (header : Header) → named name headers.folder ≡ Some header → class_named headers name ≡ Some header
of_folder headers name header is = along headers.folder is
  where
    along : (folder : List Header) → named name folder ≡ Some header → named name (folder ++ headers.library) ≡ Some header
    along [] is = absurd cc
    along (first ∷ folder) is = by (bytes_eq name first.name) (along folder) is
      where
        by : (test : Bool) → (named name folder ≡ Some header → named name (folder ++ headers.library) ≡ Some header)
            → cond test (Some first) (named name folder) ≡ Some header
            → cond test (Some first) (named name (folder ++ headers.library)) ≡ Some header
        by true more is = is
        by false more is = more is

named_own : (name : Name) (list : List Header) (header : Header) → named name list ≡ Some header → header.name ≡ name
named_own name [] header is = absurd cc
named_own name (first ∷ list) header is = by (bytes_eq name first.name) refl (named_own name list header) is
  where
    by : (test : Bool) → bytes_eq name first.name ≡ test → (named name list ≡ Some header → header.name ≡ name)
        → cond test (Some first) (named name list) ≡ Some header → header.name ≡ name
    by true same more is = ap (λ (h : Header). h.name) (sym (same_Some first header is)) ∙ sym ((bytes_eq-Decides name first.name).0 same)
    by false same more is = more is

pub folder_name : (headers : Headers) (name : Name) (header : Header) → named name headers.folder ≡ Some header → header.name ≡ name
folder_name headers name header is = named_own name headers.folder header is

-- ---- java/lang/Object

-- what is asked of each holds of the one of a name
asked_of_named : (asks : Header → List (Check Problem)) (name : Name) (list : List Header) (header : Header)
    → named name list ≡ Some header → AllHold (asked_each asks list) → AllHold (asks header)
asked_of_named asks name [] header is holds = absurd cc
asked_of_named asks name (first ∷ list) header is holds =
    by (bytes_eq name first.name) (λ is. asked_of_named asks name list header is (others_hold (asks first) (asked_each asks list) holds)) is
  where
    by : (test : Bool) → (named name list ≡ Some header → AllHold (asks header)) → cond test (Some first) (named name list) ≡ Some header → AllHold (asks header)
    by true more is = subst (λ (h : Header). AllHold (asks h)) (same_Some first header is) (first_holds (asks first) (asked_each asks list) holds)
    by false more is = more is

-- it is no class of the folder
pub object_outside : (classes : Classes) → IsTree classes → (header : Header) → named object (headers_of classes).folder ≡ Some header → ⊥
object_outside classes tree header is =
    let headers = headers_of classes in
    let hierarchy = first_holds (hierarchy_checks headers) _ tree.holds in
    let folder = first_holds (asked_each (folder_checks headers) headers.folder) (asked_each (library_checks headers) headers.library) hierarchy in
    let asked = asked_of_named (folder_checks headers) object headers.folder header is folder in
    asked.1.1.1.0.1 (named_own object headers.folder header is)

-- a class that stands at no number of the folder is none of it
pub not_in_folder : (headers : Headers) (name : Name) → ((number : ℕ) → place_of headers name ≢ Some (Folder number)) → named name headers.folder ≡ None
not_in_folder headers name never = by (place_of headers name) refl (in_folder headers name)
  where
    by : (place : Option Place) → place_of headers name ≡ place → InFolder headers name place → named name headers.folder ≡ None
    by None is none = none
    by (Some (Folder number)) is found = absurd (never number is)
    by (Some (Library number)) is none = none
