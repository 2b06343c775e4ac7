-- The classes of a tree are a hierarchy.
use Rattle.std.proofs.Common.{◌≡◌, ◌↔◌, List, [], ◌∷◌, bytes_eq, Some, None, IsTrue, is_some, option_and_then, refl, sym, ap, subst, ◌∙◌, inl, inr}
use Rattle.std.specs.List.{AllByRecursion, list_any}
use Rattle.std.proofs.lemmas.Bool.{or_right}
use Rattle.class_model.specs.declared.header.Header.{Header}
use Rattle.class_tree.specs.Headers.{Name, Classes, Headers, headers_of, class_named}
use Rattle.class_tree.specs.Hierarchy.{StandsAt, IsHierarchy}
use Rattle.class_tree.specs.Interfaces.{IsWalk, done, next, IsInterfaceWalk, of_root, below, AreSuperinterfaces}
use Rattle.class_tree.specs.Laws.Above.{interface_kind}
use Rattle.class_tree.specs.Laws.Headers.{own_name, same_class}
use Rattle.class_tree.specs.Laws.Names.{IsOneName, one_name_first, one_of_first, one_of_either}
use Rattle.class_tree.specs.Names.{is_interface}
use Rattle.class_tree.specs.Order.{header_at, place_of}
use Rattle.class_tree.specs.Subtype.{IsBelow}
use Rattle.class_tree.specs.Trees.{IsTree}
use Rattle.class_tree.specs.declared.place.Place.{Place}
use Rattle.class_tree.proofs.ClassHolds.{is_sound}
use Rattle.class_tree.proofs.Climbing.{named_at_place, height_falls, rooted}
use Rattle.class_tree.proofs.Places.{header_at_place, class_of_place}
use Rattle.class_tree.proofs.SamePlaces.{place_of_own}
use Rattle.class_tree.proofs.Superclasses.{placed}
use Rattle.class_tree.proofs.TreeClasses.{HoldsSteps, tree_holds_steps}
use Rattle.class_tree.proofs.Upwards.{class_is_walked}
use Rattle.class_tree.proofs.WalkedNames.{walked_is_above, interface_is_walked, once_same}

-- an interface of this name is there
abbrev IsInterfaceThere : Headers → Name → Type 0
IsInterfaceThere headers name = (header : Header) × (class_named headers name ≡ Some header) × IsTrue (is_interface header)

-- each class of these names is an interface
abbrev AreInterfaces : Headers → List Name → Type 0
AreInterfaces headers names = (name : Name) → IsOneName names name → (header : Header) → class_named headers name ≡ Some header → IsTrue (is_interface header)

each_from_one : (P : Name → Type 0) (names : List Name) → ((name : Name) → IsOneName names name → P name) → AllByRecursion P names
each_from_one P [] holds = tt
each_from_one P (name ∷ names) holds = (holds name (one_name_first name name names refl), each_from_one P names (λ other one. holds other (or_right _ _ one)))

module _ (headers : Headers) (tree : HoldsSteps headers) where
  -- ---- classes and places

  of_name : (name : Name) (header : Header) → class_named headers name ≡ Some header → (place : Place) × StandsAt headers name place header
  of_name name header is =
      let class = placed headers name (ap is_some is) in
      let same = same_class headers name class.header header class.named is in
      (class.place, record { found = is; is_place = class.is; at = class.at ∙ ap Some same; own_name = own_name headers name header is })

  of_place : (place : Place) (header : Header) → header_at headers place ≡ Some header → StandsAt headers header.name place header
  of_place place header at = record { found = named_at_place headers tree place header at; is_place = place_of_own headers tree place header at; at = at; own_name = refl }

  stands : (name : Name) (place : Place) → place_of headers name ≡ Some place → (header : Header) × StandsAt headers name place header
  stands name place is =
      let class = class_of_place headers name place is in
      (class.0, record { found = class.2.named; is_place = is; at = class.1; own_name = class.2.same })

  absent : (name : Name) → place_of headers name ≡ None → class_named headers name ≡ None
  absent name none = sym (header_at_place headers name) ∙ ap (option_and_then (header_at headers)) none

  -- ---- interfaces

  -- the interfaces that a class names are interfaces
  own_interfaces : (name : Name) (header : Header) → class_named headers name ≡ Some header → AreInterfaces headers header.interfaces
  own_interfaces name header is = interface_kind headers (is_sound headers tree.hold) name header is

  in_walk : {names walk : List Name} → IsWalk headers names walk → AreInterfaces headers names → (name : Name) → IsOneName walk name → IsInterfaceThere headers name
  in_walk done are name one = absurd (cc one)
  in_walk (next first header names own rest is walked others) are name one =
      elim (one_of_first first _ name one) [
        | inl here ↦ subst (IsInterfaceThere headers) here (header, is, are first (one_name_first first first names refl) header is)
        | inr there ↦ elim (one_of_either own rest name there) [
          | inl inside ↦ in_walk walked (own_interfaces first header is) name inside
          | inr behind ↦ in_walk others (λ other found. are other (or_right _ _ found)) name behind
        ]
      ]

  in_interface_walk : {class : Name} {walk : List Name} → IsInterfaceWalk headers class walk → (name : Name) → IsOneName walk name → IsInterfaceThere headers name
  in_interface_walk (of_root class header walk is none walked) name one = in_walk walked (own_interfaces class header is) name one
  in_interface_walk (below class above header front back is some walked more) name one =
      elim (one_of_either front back name one) [
        | inl inside ↦ in_walk walked (own_interfaces class header is) name inside
        | inr behind ↦ in_interface_walk more name behind
      ]

  once : (class : Name) (names : List Name) (are : AreSuperinterfaces headers class names) (name : Name) → list_any (bytes_eq name) names ≡ list_any (bytes_eq name) are.walk
  once class names are name = ap (list_any (bytes_eq name)) are.once ∙ once_same name are.walk

  interfaces : (class : Name) (names : List Name) → AreSuperinterfaces headers class names → AllByRecursion (IsInterfaceThere headers) names
  interfaces class names are = each_from_one (IsInterfaceThere headers) names (λ name one. in_interface_walk are.walked name (sym (once class names are name) ∙ one))

  superinterfaces : (class name : Name) (header : Header) (names : List Name) → AreSuperinterfaces headers class names → class_named headers name ≡ Some header → IsTrue (is_interface header) → IsTrue (list_any (bytes_eq name) names) ↔ IsBelow headers class name
  superinterfaces class name header names are is kind = (
    λ one. walked_is_above headers are.walked name (sym (once class names are name) ∙ one),
    λ up.
        once class names are name ∙ interface_is_walked headers (is_sound headers tree.hold) (rooted headers tree) up header is kind are.walk are.walked,
  )

pub classes_are_hierarchy : (classes : Classes) → IsTree classes → IsHierarchy (headers_of classes)
classes_are_hierarchy classes tree =
    let headers = headers_of classes in
    let steps = tree_holds_steps classes tree in
    let sound = is_sound headers steps.hold in
    record {
      of_name = of_name headers steps;
      of_place = of_place headers steps;
      placed = stands headers steps;
      absent = absent headers steps;
      no_array = steps.no_array;
      above = sound.above;
      kinds = sound.kinds;
      acyclic = sound.acyclic;
      falls = height_falls headers steps;
      walked = class_is_walked headers steps;
      interfaces = interfaces headers steps;
      superinterfaces = superinterfaces headers steps;
    }
