-- A class that has a place is there.
use Rattle.std.proofs.Common.{◌≡◌, ◌+◌, ◌||◌, ℕ, Bool, true, false, cond, List, [], ◌∷◌, ◌++◌, bytes_eq, Option, Some, None, option_map, is_some, refl, sym, ap, ◌∙◌}
use Rattle.class_model.specs.declared.header.Header.{Header}
use Rattle.class_tree.specs.Headers.{Name, Headers, named, IsThere}
use Rattle.class_tree.specs.Order.{first_place, place_of}
use Rattle.class_tree.specs.declared.place.Place.{Place}
use Rattle.class_tree.specs.declared.place.Place.TheVariants.{Library}

abbrev first : Name → List Header → Option ℕ
first name headers = first_place (λ header. bytes_eq name header.name) headers

-- a list has a class of the name where it has a first place of it
alone : (name : Name) (headers : List Header) → is_some (named name headers) ≡ is_some (first name headers)
alone name [] = refl
alone name (header ∷ headers) = by (bytes_eq name header.name) (first name headers) (named name headers) (alone name headers)
  where
    by : (b : Bool) (place : Option ℕ) (found : Option Header) → is_some found ≡ is_some place → is_some (cond b (Some header) found) ≡ is_some (cond b (Some 0) (option_map (λ place. place + 1) place))
    by true place found e = refl
    by false None found e = e
    by false (Some place) found e = e

in_either : (name : Name) (front back : List Header) → is_some (named name (front ++ back)) ≡ (is_some (first name front) || is_some (first name back))
in_either name [] back = alone name back
in_either name (header ∷ front) back = by (bytes_eq name header.name) (first name front) (named name (front ++ back)) (in_either name front back)
  where
    by : (b : Bool) (place : Option ℕ) (found : Option Header) → is_some found ≡ (is_some place || is_some (first name back)) → is_some (cond b (Some header) found) ≡ (is_some (cond b (Some 0) (option_map (λ place. place + 1) place)) || is_some (first name back))
    by true place found e = refl
    by false None found e = e
    by false (Some place) found e = e

has_place : (headers : Headers) (name : Name) → is_some (place_of headers name) ≡ (is_some (first name headers.folder) || is_some (first name headers.library))
has_place headers name = by (first name headers.folder) refl
  where
    mapped : (place : Option ℕ) → is_some (option_map Library place) ≡ is_some place
    mapped None = refl
    mapped (Some place) = refl

    by : (place : Option ℕ) → first name headers.folder ≡ place → is_some (place_of headers name) ≡ (is_some (first name headers.folder) || is_some (first name headers.library))
    by (Some place) e = rw e refl
    by None e = rw e (mapped (first name headers.library))

pub is_there : (headers : Headers) (name : Name) (place : Place) → place_of headers name ≡ Some place → IsThere headers name
is_there headers name place e = in_either name headers.folder headers.library ∙ sym (has_place headers name) ∙ ap is_some e
