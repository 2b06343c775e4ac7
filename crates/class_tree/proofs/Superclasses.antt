-- Where classes and their superclasses stand.
use Rattle.std.proofs.Common.{◌≡◌, ℕ, filter_map, slice_get, Option, Some, None, IsSome, option_map, option_and_then, refl, sym, ap, ◌∙◌}
use Rattle.std.specs.List.{AllByRecursion, cons_option}
use Rattle.std.proofs.lemmas.Option.{slice_get_within}
use Rattle.class_model.specs.declared.header.Header.{Header}
use Rattle.class_tree.specs.Headers.{Name, Headers, class_named, IsThere}
use Rattle.class_tree.specs.Laws.Headers.{class_there}
use Rattle.class_tree.specs.Inner.Nodes.{number_of, place_at}
use Rattle.class_tree.specs.Order.{header_at, place_of}
use Rattle.class_tree.specs.Steps.{supers}
use Rattle.class_tree.specs.declared.place.Place.{Place}
use Rattle.class_tree.specs.declared.place.Place.TheVariants.{Folder, Library}
use Rattle.class_tree.proofs.Places.{place_number, place_in_folder, place_in_library, number_of_class, place_of_number, header_at_number}

-- the place of a class that is there
pub record Placed (headers : Headers) (name : Name) : Type 0 where
  pub place : Place
  pub header : Header
  pub is : place_of headers name ≡ Some place
  pub at : header_at headers place ≡ Some header
  pub named : class_named headers name ≡ Some header
  pub same : header.name ≡ name

pub placed : (headers : Headers) (name : Name) → IsThere headers name → Placed headers name
placed headers name there =
    let found = class_there headers name there in
    let class = number_of_class headers name found.0 found.1 in
    record {
      place = place_at headers class.0;
      header = found.0;
      is = place_of_number headers name ∙ ap (option_map (place_at headers)) class.1.is;
      at = header_at_number headers class.0 ∙ class.1.there;
      named = found.1;
      same = class.1.same;
    }

-- the first number of those above a class is that of its superclass
pub first_super : (headers : Headers) (header : Header) → AllByRecursion (IsThere headers) (supers header) → IsSome header.super_name → option_map (place_at headers) (slice_get (filter_map (number_of headers) (supers header)) 0) ≡ option_and_then (place_of headers) header.super_name
first_super headers header there some = by header.super_name there some
  where
    by : (super : Option Name) → AllByRecursion (IsThere headers) (supers (record header { super_name = super })) → IsSome super → option_map (place_at headers) (slice_get (filter_map (number_of headers) (supers (record header { super_name = super }))) 0) ≡ option_and_then (place_of headers) super
    by None there some = absurd cc
    by (Some above) there some =
        let found = class_there headers above there.0 in
        let class = number_of_class headers above found.0 found.1 in
        ap (λ (first : Option ℕ). option_map (place_at headers) (slice_get (cons_option first (filter_map (number_of headers) header.interfaces)) 0)) class.1.is
        ∙ sym (place_of_number headers above ∙ ap (option_map (place_at headers)) class.1.is)

-- a place that has a class is that of its number
pub place_of_itself : (headers : Headers) (place : Place) → IsSome (header_at headers place) → place_at headers (place_number headers place) ≡ place
place_of_itself headers (Folder place) some = by (slice_get headers.folder place) refl some
  where
    by : (found : Option Header) → slice_get headers.folder place ≡ found → IsSome found → place_at headers place ≡ Folder place
    by None is some = absurd cc
    by (Some header) is some = place_in_folder headers place (slice_get_within headers.folder place header is)
place_of_itself headers (Library place) some = place_in_library headers place
