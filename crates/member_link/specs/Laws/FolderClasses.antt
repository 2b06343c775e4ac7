-- The classes of the folder, by name and by place.
use Rattle.std.proofs.Common.{◌≡◌, ℕ, Bool, true, false, cond, List, [], ◌∷◌, ◌++◌, bytes_eq, slice_get, Option, Some, None, IsSome, IfSome, option_map, option_and_then, refl, sym, ap, subst, ◌∙◌}
use Rattle.class_model.specs.declared.header.Header.{Header}
use Rattle.class_tree.specs.Headers.{Name, Headers, class_named, named}
use Rattle.class_tree.specs.Hierarchy.{IsHierarchy}
use Rattle.class_tree.specs.Laws.FirstPlaces.{first_at, first_there}
use Rattle.class_tree.specs.Order.{first_place, place_of}
use Rattle.class_tree.specs.declared.place.Place.TheVariants.{Folder, Library}

-- the class of a name in a list is the one at the first place of it
pub named_at : (name : Name) (headers : List Header) → named name headers ≡ option_and_then (slice_get headers) (first_place (λ (header : Header). bytes_eq name header.name) headers)
named_at name headers = first_at (λ (header : Header). bytes_eq name header.name) (named name) refl (λ header rest. refl) headers

-- one that is found in the first list is found in both
named_in_front : (name : Name) (front back : List Header) (header : Header) → named name front ≡ Some header → named name (front ++ back) ≡ Some header
named_in_front name [] back header is = absurd cc
named_in_front name (first ∷ front) back header is = by (bytes_eq name first.name) refl (named_in_front name front back header) is
  where
    by : (test : Bool) → bytes_eq name first.name ≡ test → (named name front ≡ Some header → named name (front ++ back) ≡ Some header) → cond test (Some first) (named name front) ≡ Some header → named name ((first ∷ front) ++ back) ≡ Some header
    by true same later is = ap (λ test. cond test (Some first) (named name (front ++ back))) same ∙ is
    by false other later is = ap (λ test. cond test (Some first) (named name (front ++ back))) other ∙ later is

pub class_of_folder : (headers : Headers) (name : Name) (header : Header) → named name headers.folder ≡ Some header → class_named headers name ≡ Some header
class_of_folder headers name header is = named_in_front name headers.folder headers.library header is

no_folder : (found : Option ℕ) (place : ℕ) → option_map Library found ≡ Some (Folder place) → ⊥
no_folder None place is = absurd cc
no_folder (Some other) place is = absurd cc

-- a class that is found in the folder stands at a place of it
pub folder_index : (headers : Headers) (name : Name) (header : Header) → named name headers.folder ≡ Some header → (index : ℕ) × (slice_get headers.folder index ≡ Some header) × (place_of headers name ≡ Some (Folder index))
folder_index headers name header is = by (first_place (λ (header : Header). bytes_eq name header.name) headers.folder) refl
  where
    by : (found : Option ℕ) → first_place (λ (header : Header). bytes_eq name header.name) headers.folder ≡ found → (index : ℕ) × (slice_get headers.folder index ≡ Some header) × (place_of headers name ≡ Some (Folder index))
    by (Some index) first = (index, ap (option_and_then (slice_get headers.folder)) (sym first) ∙ sym (named_at name headers.folder) ∙ is, rw first refl)
    by None none = absurd (cc (is, named_at name headers.folder ∙ ap (option_and_then (slice_get headers.folder)) none))

-- and the class at a place of the folder is found there
pub found_in_folder : (headers : Headers) → IsHierarchy headers → (index : ℕ) (header : Header) → slice_get headers.folder index ≡ Some header → named header.name headers.folder ≡ Some header
found_in_folder headers hierarchy index header at = by (first_place (λ (class : Header). bytes_eq header.name class.name) headers.folder) refl
  where
    place : place_of headers header.name ≡ Some (Folder index)
    place = (hierarchy.of_place (Folder index) header at).is_place

    folder_index_is : (one : ℕ) → Some (Folder one) ≡ Some (Folder index) → one ≡ index
    folder_index_is one same = cc

    by : (found : Option ℕ) → first_place (λ (class : Header). bytes_eq header.name class.name) headers.folder ≡ found → named header.name headers.folder ≡ Some header
    by (Some one) first =
        let first_is : place_of headers header.name ≡ Some (Folder one) = rw first refl in
        let same : one ≡ index = folder_index_is one (sym first_is ∙ place) in
        named_at header.name headers.folder ∙ ap (option_and_then (slice_get headers.folder)) first ∙ ap (slice_get headers.folder) same ∙ at
    by None none =
        let in_library = first_place (λ (class : Header). bytes_eq header.name class.name) headers.library in
        let library_is : place_of headers header.name ≡ option_map Library in_library = rw none refl in
        absurd (no_folder in_library index (sym library_is ∙ place))

-- a class at a place of the folder is found there, by the place of its name
pub in_folder : (headers : Headers) (name : Name) (place : ℕ) → place_of headers name ≡ Some (Folder place) → (header : Header) × (named name headers.folder ≡ Some header)
in_folder headers name place is = by (first_place (λ (header : Header). bytes_eq name header.name) headers.folder) refl
  where
    there : (found : Option Header) → IsSome found → (header : Header) × (found ≡ Some header)
    there None none = absurd cc
    there (Some header) some = (header, refl)

    by : (found : Option ℕ) → first_place (λ (header : Header). bytes_eq name header.name) headers.folder ≡ found → (header : Header) × (named name headers.folder ≡ Some header)
    by (Some at) first =
        let stands = there (slice_get headers.folder at)
        (subst (λ (found : Option ℕ). IfSome found (λ at. IsSome (slice_get headers.folder at))) first (first_there (λ (header : Header). bytes_eq name header.name) headers.folder))
        in
        (stands.0, named_at name headers.folder ∙ ap (option_and_then (slice_get headers.folder)) first ∙ stands.1)
    by None none =
        let in_library = first_place (λ (header : Header). bytes_eq name header.name) headers.library in
        let library_is : place_of headers name ≡ option_map Library in_library = rw none refl in
        absurd (no_folder in_library place (sym library_is ∙ is))
