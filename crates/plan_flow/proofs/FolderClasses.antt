-- The classes of the folder, by name and by place.
use Rattle.std.proofs.Common.{◌≡◌, ℕ, Bool, false, bytes_eq, slice_get, Option, Some, None, IsSome, IfSome, is_some, option_map, option_and_then, refl, sym, ap, subst, ◌∙◌}
use Rattle.class_model.specs.declared.header.Header.{Header}
use Rattle.class_tree.specs.Headers.{Name, Headers, named}
use Rattle.class_tree.specs.Laws.FirstPlaces.{first_at, first_there}
use Rattle.class_tree.specs.Order.{first_place, place_of}
use Rattle.class_tree.specs.declared.place.Place.TheVariants.{Library}
use Rattle.plan_flow.specs.Inner.FieldWords.{is_in_folder}

-- a class of the folder is one that stands there
pub named_in_folder :
    (headers : Headers) (name : Name) → is_some (named name headers.folder) ≡ is_in_folder (place_of headers name)
named_in_folder headers name =
    by (first_place (λ (header : Header). bytes_eq name header.name) headers.folder) refl
  where
    test : Header → Bool
    test header = bytes_eq name header.name

    there : (found : Option ℕ) → first_place test headers.folder ≡ found → named name headers.folder ≡ option_and_then (slice_get headers.folder) found
    there found is = first_at test (named name) refl (λ header rest. refl) headers.folder ∙ ap (option_and_then (slice_get headers.folder)) is

    in_library : (found : Option ℕ) → is_in_folder (option_map Library found) ≡ false
    in_library None = refl
    in_library (Some place) = refl

    by :
        (front : Option ℕ)
        → first_place test headers.folder ≡ front
        → is_some (named name headers.folder) ≡ is_in_folder (place_of headers name)
    by (Some place) is =
        ap is_some (there (Some place) is)
        ∙ subst (λ (found : Option ℕ). IfSome found (λ place. IsSome (slice_get headers.folder place))) is (first_there test headers.folder)
        ∙ (rw is refl)
    by None is = ap is_some (there None is) ∙ (rw is (sym (in_library (first_place test headers.library))))
