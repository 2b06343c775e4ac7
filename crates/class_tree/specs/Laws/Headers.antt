-- Classes by their names and places, and the superclass of each.
use Rattle.std.proofs.Common.{◌≡◌, cond, List, [], ◌∷◌, Bool, true, false, bytes_eq, Option, Some, None, IsSome, option_and_then, refl, sym, ap, subst, ◌∙◌, ℕ, slice_get, option_map, IfSome}
use Rattle.std.specs.List.{AllByRecursion}
use Rattle.std.proofs.lemmas.Option.{same_Some}
use Rattle.std.proofs.lemmas.Slice.Eq.{bytes_eq-Decides}
use Rattle.class_model.specs.declared.header.Header.{Header}
use Rattle.class_tree.specs.Headers.{Name, Headers, all_headers, named, class_named, IsThere}
use Rattle.class_tree.specs.Hierarchy.{superclass_of}
use Rattle.class_tree.specs.Laws.FirstPlaces.{first_there}
use Rattle.class_tree.specs.Order.{first_place, header_at, place_of}
use Rattle.class_tree.specs.Steps.{supers}
use Rattle.class_tree.specs.declared.place.Place.TheVariants.{Library}
use Rattle.class_tree.specs.declared.place.Place.{Place}

found : {X : Type 0} (option : Option X) → IsSome option → (x : X) × (option ≡ Some x)
found None some = absurd cc
found (Some x) some = (x, refl)

-- the class of a name that is there
pub class_there :
    (headers : Headers) (name : Name)
    → IsThere headers name
    → (header : Header) × (class_named headers name ≡ Some header)
class_there headers name there = found (class_named headers name) there

-- the class at a place where one is
pub header_there :
    (headers : Headers) (place : Place)
    → IsSome (header_at headers place)
    → (header : Header) × (header_at headers place ≡ Some header)
header_there headers place there = found (header_at headers place) there

pub same_class :
    (headers : Headers) (name : Name) (one other : Header)
    → class_named headers name ≡ Some one
    → class_named headers name ≡ Some other
    → one ≡ other
same_class headers name one other is also = same_Some one other (sym is ∙ also)

-- a class is found under its own name
own_name_in :
    (name : Name) (list : List Header) (header : Header)
    → named name list ≡ Some header
    → header.name ≡ name
own_name_in name [] header is = absurd cc
own_name_in name (first ∷ list) header is = by (bytes_eq name first.name) refl is (own_name_in name list header)
  where
    by :
        (b : Bool)
        → bytes_eq name first.name ≡ b
        → cond b (Some first) (named name list) ≡ Some header
        → (named name list ≡ Some header → header.name ≡ name)
        → header.name ≡ name
    by true same here later = ap (λ (h : Header). h.name) (sym (same_Some first header here)) ∙ sym ((bytes_eq-Decides name first.name).0 same)
    by false differ there later = later there

pub own_name :
    (headers : Headers) (name : Name) (header : Header)
    → class_named headers name ≡ Some header
    → header.name ≡ name
own_name headers name header is = own_name_in name (all_headers headers) header is

-- ---- the classes that a class names

-- the superclass is there
pub super_is_there :
    (headers : Headers) (header : Header) (name : Name)
    → AllByRecursion (IsThere headers) (supers header)
    → header.super_name ≡ Some name
    → IsThere headers name
super_is_there headers header name there is = by header.super_name there is
  where
    by :
        (super : Option Name)
        → AllByRecursion (IsThere headers) (supers (record header { super_name = super }))
        → super ≡ Some name
        → IsThere headers name
    by None there is = absurd cc
    by (Some above) there is = subst (IsThere headers) (cc) there.0

-- the interfaces are there
pub interfaces_there :
    (headers : Headers) (header : Header)
    → AllByRecursion (IsThere headers) (supers header)
    → AllByRecursion (IsThere headers) header.interfaces
interfaces_there headers header there = by header.super_name there
  where
    by :
        (super : Option Name)
        → AllByRecursion (IsThere headers) (supers (record header { super_name = super }))
        → AllByRecursion (IsThere headers) header.interfaces
    by None there = there
    by (Some name) there = there.1

-- ---- the place of the superclass

pub superclass_is :
    (headers : Headers) (place : Place) (header : Header)
    → header_at headers place ≡ Some header
    → (name : Name)
    → header.super_name ≡ Some name
    → superclass_of headers place ≡ place_of headers name
superclass_is headers place header at name some = ap (option_and_then (λ header. option_and_then (place_of headers) header.super_name)) at ∙ ap (option_and_then (place_of headers)) some

pub no_superclass :
    (headers : Headers) (place : Place) (header : Header)
    → header_at headers place ≡ Some header
    → header.super_name ≡ None
    → superclass_of headers place ≡ None
no_superclass headers place header at none = ap (option_and_then (λ header. option_and_then (place_of headers) header.super_name)) at ∙ ap (option_and_then (place_of headers)) none

-- ---- what stands at the places of names

-- a class stands at the place of a name
pub place_there :
    (headers : Headers) (name : Name)
    → IfSome (place_of headers name) (λ place. IsSome (header_at headers place))
place_there headers name = by (first_place (λ header. bytes_eq name header.name) headers.folder) refl (first_there (λ header. bytes_eq name header.name) headers.folder)
  where
    in_library :
        (found : Option ℕ)
        → IfSome found (λ place. IsSome (slice_get headers.library place))
        → IfSome (option_map Library found) (λ place. IsSome (header_at headers place))
    in_library None there = tt
    in_library (Some place) there = there

    by :
        (front : Option ℕ)
        → first_place (λ header. bytes_eq name header.name) headers.folder ≡ front
        → IfSome front (λ place. IsSome (slice_get headers.folder place))
        → IfSome (place_of headers name) (λ place. IsSome (header_at headers place))
    by (Some place) is there = rw is there
    by None is there = rw is (in_library (first_place (λ header. bytes_eq name header.name) headers.library) (first_there (λ header. bytes_eq name header.name) headers.library))

-- and at the place of a superclass
pub superclass_there :
    (headers : Headers) (place : Place)
    → IfSome (superclass_of headers place) (λ above. IsSome (header_at headers above))
superclass_there headers place = of_class (header_at headers place)
  where
    of_super :
        (super : Option Name)
        → IfSome (option_and_then (place_of headers) super)
        (λ above. IsSome (header_at headers above))
    of_super None = tt
    of_super (Some name) = place_there headers name

    of_class :
        (found : Option Header)
        → IfSome
        (option_and_then (λ header. option_and_then (place_of headers) header.super_name) found)
        (λ above. IsSome (header_at headers above))
    of_class None = tt
    of_class (Some header) = of_super header.super_name
