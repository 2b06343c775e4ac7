-- Places of classes in a hierarchy.
use Rattle.std.proofs.Common.{◌≡◌, ◌↔◌, Option, Some, None, IsSome, is_some, refl, sym, ap, ◌∙◌}
use Rattle.std.proofs.lemmas.Bool.{false≢true}
use Rattle.class_tree.specs.Headers.{Name, Headers, class_named, IsThere}
use Rattle.class_tree.specs.Hierarchy.{IsHierarchy}
use Rattle.class_tree.specs.Order.{header_at, place_of}
use Rattle.class_tree.specs.declared.place.Place.{Place}

module _ (headers : Headers) (hierarchy : IsHierarchy headers) where
  -- the class at the place of a name is the class of that name
  pub at_its_place : (name : Name) (place : Place) → place_of headers name ≡ Some place → header_at headers place ≡ class_named headers name
  at_its_place name place is =
      let stands = hierarchy.placed name place is in
      stands.1.at ∙ sym stands.1.found

  -- a class that is there has a place
  pub placed_is_there : (name : Name) → IsSome (place_of headers name) ↔ IsThere headers name
  placed_is_there name = by (place_of headers name) refl where
    by : (place : Option Place) → place_of headers name ≡ place → IsSome place ↔ IsThere headers name
    by None is = (λ some. absurd (false≢true some), λ there. absurd (false≢true (sym (ap is_some (hierarchy.absent name is)) ∙ there)))
    by (Some place) is = (λ some. ap is_some (hierarchy.placed name place is).1.found, λ there. refl)
