-- What a hierarchy keeps of the class at a place.
use Rattle.std.proofs.Common.{◌≡◌, ◌<◌, ℕ, List, length, get_or, map, slice_get, Option, Some, None, IsSome, IfSome, option_map, option_and_then, refl, sym, ap, subst, ◌∙◌, arith}
use Rattle.std.proofs.lemmas.List.{length-map}
use Rattle.std.proofs.lemmas.Option.{slice_get-map, slice_get_within, get_or_from_slice_get}
use Rattle.class_model.specs.declared.header.Header.{Header}
use Rattle.class_model.specs.declared.header.Member.{Member}
use Rattle.class_tree.specs.Headers.{Name, Classes, Headers, headers_of, all_headers}
use Rattle.class_tree.specs.Interfaces.{AreSuperinterfaces}
use Rattle.class_tree.specs.Inner.MemberIndex.{IsMemberIndex}
use Rattle.class_tree.specs.Inner.Nodes.{place_at, super_place, AreInterfaceLists, AreMemberIndexes, AreLinks}
use Rattle.class_tree.specs.Order.{header_at, place_of}
use Rattle.class_tree.specs.declared.links.Links.{Links}
use Rattle.class_tree.specs.declared.place.Place.{Place}
use Rattle.class_tree.proofs.Places.{header_at_number}

-- the class at a place, which has this number
pub record IsAt (headers : Headers) (place : Place) (number : ℕ) : Type 0 where
  pub header : Header
  pub at : header_at headers place ≡ Some header
  pub there : slice_get (all_headers headers) number ≡ Some header
  pub within : number < length (all_headers headers)

pub class_at : (headers : Headers) (place : Place) (number : ℕ) → place_at headers number ≡ place → IsSome (header_at headers place) → IsAt headers place number
class_at headers place number is some = by (header_at headers place) refl some
  where
    by : (found : Option Header) → header_at headers place ≡ found → IsSome found → IsAt headers place number
    by None none some = absurd cc
    by (Some header) at some =
        let there : slice_get (all_headers headers) number ≡ Some header = sym (header_at_number headers number) ∙ ap (header_at headers) is ∙ at in
        record { header = header; at = at; there = there; within = slice_get_within (all_headers headers) number header there }

-- an index of the members of the class
pub index_is : (members : Header → List Member) (headers : Headers) (indexes : List (List ℕ)) (place : Place) (number : ℕ) (class : IsAt headers place number) (index : List ℕ) → AreMemberIndexes members headers indexes → slice_get indexes number ≡ Some index → IsMemberIndex (members class.header) index
index_is members headers indexes place number class index are is =
    are.each number class.header index class.there is

-- the superinterfaces of the class
pub superinterfaces_are : (headers : Headers) (lists : List (List Place)) (place : Place) (number : ℕ) (class : IsAt headers place number) (places : List Place) → AreInterfaceLists headers lists → slice_get lists number ≡ Some places → IfSome (header_at headers place) (λ header. (names : List Name) × AreSuperinterfaces headers header.name names × (map (place_of headers) names ≡ map Some places))
superinterfaces_are headers lists place number class places are is =
    subst (λ found. IfSome found (λ header. (names : List Name) × AreSuperinterfaces headers header.name names × (map (place_of headers) names ≡ map Some places))) (sym class.at)
    (are.each number class.header places class.there is)

module _ (classes : Classes) (of_folder : List Header) (links : Links) (linked : AreLinks classes of_folder links) (place : Place) (number : ℕ) (class : IsAt (headers_of classes) place number) where
  pub superclasses_have : number < length links.superclasses.items
  superclasses_have = omega (arith, class.within, ap length linked.superclasses, length-map (all_headers (headers_of classes)) (super_place (headers_of classes)))

  -- what is kept is the place of its superclass
  pub superclass_is : (kept : Option Place) → kept ≡ get_or links.superclasses.items number kept → kept ≡ option_and_then (super_place (headers_of classes)) (header_at (headers_of classes) place)
  superclass_is kept is =
      is
      ∙ get_or_from_slice_get links.superclasses.items number (super_place (headers_of classes) class.header) kept
      (ap (λ (places : List (Option Place)). slice_get places number) linked.superclasses ∙ slice_get-map (super_place (headers_of classes)) (all_headers (headers_of classes)) number ∙ ap (option_map (super_place (headers_of classes))) class.there)
      ∙ sym (ap (option_and_then (super_place (headers_of classes))) class.at)
