-- The fields that a class of the folder declares, by its header.
use Rattle.std.proofs.Common.{◌≡◌, ℕ, Bool, List, bytes_eq, slice_get, Option, Some, None, option_and_then, option_map, refl, sym, ap, ◌∙◌}
use Rattle.class_model.specs.declared.header.Header.{Header}
use Rattle.class_tree.specs.Headers.{Headers, Name, named}
use Rattle.class_tree.specs.Laws.FirstPlaces.{first_at}
use Rattle.class_tree.specs.Layouts.{own_fields}
use Rattle.class_tree.specs.Order.{first_place, place_of}
use Rattle.class_tree.specs.declared.place.Place.TheVariants.{Folder, Library}
use Rattle.field_constructors.specs.Inner.FieldWords.{instance_fields_of}

abbrev pub has_name : Name → Header → Bool
has_name name header = bytes_eq name header.name

pub named_first : (name : Name) (list : List Header) → named name list ≡ option_and_then (slice_get list) (first_place (has_name name) list)
named_first name list = first_at (has_name name) (named name) refl (λ header rest. refl) list

pub first_is : (headers : Headers) (name : Name) (number : ℕ) → place_of headers name ≡ Some (Folder number) → first_place (has_name name) headers.folder ≡ Some number
first_is headers name number is = by (first_place (has_name name) headers.folder) refl where
  by : (found : Option ℕ) → first_place (has_name name) headers.folder ≡ found → first_place (has_name name) headers.folder ≡ Some number
  by None none = absurd (of_library (first_place (has_name name) headers.library) (sym (let e : place_of headers name ≡ option_map Library (first_place (has_name name) headers.library) = rw none refl in e) ∙ is)) where
    of_library : (found : Option ℕ) → option_map Library found ≡ Some (Folder number) → ⊥
    of_library None same = absurd cc
    of_library (Some place) same = absurd cc
  by (Some place) some = some ∙ (let e : Some (Folder place) ≡ Some (Folder number) = sym (let e2 : place_of headers name ≡ Some (Folder place) = rw some refl in e2) ∙ is in cc)

pub folder_fields : (headers : Headers) (name : Name) (number : ℕ) (header : Header)
    → place_of headers name ≡ Some (Folder number)
    → slice_get headers.folder number ≡ Some header
    → own_fields headers name ≡ instance_fields_of header
folder_fields headers name number header is there =
    let found : named name headers.folder ≡ Some header =
    named_first name headers.folder ∙ ap (option_and_then (slice_get headers.folder)) (first_is headers name number is) ∙ there in
    rw found refl
