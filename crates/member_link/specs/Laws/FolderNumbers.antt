-- The number of a class of the folder, by the place of its name.
use Rattle.std.proofs.Common.{◌≡◌, ℕ, bytes_eq, Option, Some, None, option_map, refl}
use Rattle.class_model.specs.declared.header.Header.{Header}
use Rattle.class_tree.specs.Headers.{Name, Headers}
use Rattle.class_tree.specs.Order.{first_place, place_of}
use Rattle.class_tree.specs.declared.place.Place.{Place}
use Rattle.class_tree.specs.declared.place.Place.TheVariants.{Folder, Library}

abbrev pub number_at : Option Place → Option ℕ
number_at None = None
number_at (Some (Folder number)) = Some number
number_at (Some (Library number)) = None

pub number_of_place :
    (headers : Headers) (name : Name)
    → number_at (place_of headers name)
    ≡ first_place (λ header. bytes_eq name header.name) headers.folder
number_of_place headers name = by (first_place (λ (header : Header). bytes_eq name header.name) headers.folder) refl
  where
    in_library : (found : Option ℕ) → number_at (option_map Library found) ≡ None
    in_library None = refl
    in_library (Some place) = refl

    by :
        (front : Option ℕ)
        → first_place (λ (header : Header). bytes_eq name header.name) headers.folder ≡ front
        → number_at (place_of headers name) ≡ front
    by (Some place) is = rw is refl
    by None is = rw is (in_library (first_place (λ (header : Header). bytes_eq name header.name) headers.library))
