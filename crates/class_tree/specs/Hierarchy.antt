-- What holds of the classes of a hierarchy, by name and by place.
use Rattle.std.specs.Prelude.{◌≡◌, ◌↔◌, ◌<◌, ℕ, zero, suc, List, length, bytes_eq, Option, Some, None, IsTrue, option_and_then}
use Rattle.std.specs.List.{AllByRecursion, list_any}
use Rattle.class_model.specs.declared.header.Header.{Header}
use Rattle.class_tree.specs.Headers.{Name, Headers, all_headers, class_named, IsThere}
use Rattle.class_tree.specs.Interfaces.{IsInterfaceWalk, AreSuperinterfaces}
use Rattle.class_tree.specs.Names.{is_interface}
use Rattle.class_tree.specs.Order.{header_at, place_of}
use Rattle.class_tree.specs.Steps.{supers, FitsKinds}
use Rattle.class_tree.specs.Subtype.{IsArray, IsBelow}
use Rattle.class_tree.specs.declared.place.Place.{Place}

-- A class and its place: the class is found under its name, and stands there.
pub record StandsAt (headers : Headers) (name : Name) (place : Place)
    (header : Header) : Type 0 where
  pub found : class_named headers name ≡ Some header
  pub is_place : place_of headers name ≡ Some place
  pub at : header_at headers place ≡ Some header
  pub own_name : header.name ≡ name

-- the place of the superclass of the class at a place
abbrev pub superclass_of : Headers → Place → Option Place
superclass_of headers place =
    option_and_then (λ header. option_and_then (place_of headers) header.super_name)
    (header_at headers place)

-- How many classes there are from a place upwards, as far as the fuel goes: a measure of loops that go up.
unfoldable pub climb : Headers → ℕ → Option Place → ℕ
climb headers zero next = 0
climb headers (suc fuel) None = 0
climb headers (suc fuel) (Some place) = suc (climb headers fuel (superclass_of headers place))

abbrev pub height : Headers → Option Place → ℕ
height headers next = climb headers (length (all_headers headers)) next

pub record IsHierarchy (headers : Headers) : Type 0 where
  -- a class stands at one place, and a place has one class
  pub of_name : (name : Name) (header : Header)
      → class_named headers name ≡ Some header
      → (place : Place) × StandsAt headers name place header
  pub of_place : (place : Place) (header : Header)
      → header_at headers place ≡ Some header
      → StandsAt headers header.name place header
  pub placed : (name : Name) (place : Place)
      → place_of headers name ≡ Some place
      → (header : Header) × StandsAt headers name place header
  pub absent : (name : Name) → place_of headers name ≡ None → class_named headers name ≡ None
  pub no_array : (name : Name) → IsArray name → class_named headers name ≡ None
  -- the classes above a class are there, of the right kinds, and none of them is the class itself
  pub above : (name : Name) (header : Header)
      → class_named headers name ≡ Some header
      → AllByRecursion (IsThere headers) (supers header)
  pub kinds : (name : Name) (header : Header)
      → class_named headers name ≡ Some header
      → FitsKinds headers header
  pub acyclic : (name : Name) → ¬ IsBelow headers name name
  pub falls : (place : Place) (header : Header)
      → header_at headers place ≡ Some header
      → height headers (superclass_of headers place) < height headers (Some place)
  -- each class has superinterfaces, which are the interfaces above it
  pub walked : (name : Name) (header : Header)
      → class_named headers name ≡ Some header
      → (walk : List Name) × IsInterfaceWalk headers name walk
  pub interfaces : (class : Name) (names : List Name)
      → AreSuperinterfaces headers class names
      → AllByRecursion (λ name. (header : Header)
      × (class_named headers name ≡ Some header)
      × IsTrue (is_interface header)) names
  pub superinterfaces : (class name : Name) (header : Header) (names : List Name)
      → AreSuperinterfaces headers class names
      → class_named headers name ≡ Some header
      → IsTrue (is_interface header)
      → IsTrue (list_any (bytes_eq name) names) ↔ IsBelow headers class name
