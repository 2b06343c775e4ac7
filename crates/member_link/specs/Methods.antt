-- Method look-up (JVM Specification SE 8, 5.4.3.3 and 5.4.3.4).
use Rattle.std.specs.Prelude.{◌≡◌, ◌≢◌, ◌⊎◌, ◌&&◌, not, ℕ, List, [], ◌∷◌, bytes_eq, codes, Option, Some, None, option_map, option_and_then, IsTrue, if◌then◌else◌}
use Rattle.class_model.specs.Members.{has, PUBLIC, STATIC}
use Rattle.class_model.specs.Names.{init}
use Rattle.class_model.specs.declared.header.Header.{Header}
use Rattle.class_model.specs.declared.header.Member.{Member}
use Rattle.class_tree.specs.Headers.{Name, Headers, class_named}
use Rattle.class_tree.specs.Interfaces.{AreSuperinterfaces}
use Rattle.class_tree.specs.Names.{object, method_handle, is_interface}
use Rattle.class_tree.specs.Order.{place_of}
use Rattle.class_tree.specs.Subtype.{IsArray}
use Rattle.class_tree.specs.declared.place.Place.TheVariants.{Library}
use Rattle.member_link.specs.DeclaredMembers.{Declared, declared_by, own_method}
use Rattle.member_link.specs.Defaults.{IsOneDefault, first_inherited}
use Rattle.member_link.specs.Upwards.{FirstUpwards}

-- Upwards of a class each method counts. Upwards of an interface, which is itself and then java/lang/Object, its own
-- methods count, and those that are public and not static.
abbrev pub CountsFor : Header → Declared → Type 0
CountsFor header method =
    IsTrue (is_interface header)
    → (method.class ≡ header.name)
    ⊎ IsTrue (has method.member.flags PUBLIC && not (has method.member.flags STATIC))

-- Among the superinterfaces: the one default, where there is exactly one; else the first method that is neither private
-- nor static, in their order.
pub data FindsInInterfaces (headers : Headers) (class : Name)
    (name desc : List ℕ) : Option Declared
    → Type 0 where
  one_default : (method : Declared)
      → IsOneDefault headers class name desc method
      → FindsInInterfaces headers class name desc (Some method)
  first_of_all : (names : List Name)
      → ((method : Declared) → ¬ IsOneDefault headers class name desc method)
      → AreSuperinterfaces headers class names
      → FindsInInterfaces headers class name desc (first_inherited headers name desc names)

-- The class and its superclasses, and then the superinterfaces.
pub data FindsInClass (headers : Headers) (class : Name) (name desc : List ℕ) : Option Declared
    → Type 0 where
  nowhere : class_named headers class ≡ None → FindsInClass headers class name desc None
  upwards : (header : Header) (method : Declared)
      → class_named headers class ≡ Some header
      → FirstUpwards headers (CountsFor header) name desc class (Some method)
      → FindsInClass headers class name desc (Some method)
  in_interfaces : (header : Header) (found : Option Declared)
      → class_named headers class ≡ Some header
      → FirstUpwards headers (CountsFor header) name desc class None
      → FindsInInterfaces headers class name desc found
      → FindsInClass headers class name desc found

-- the first method of a name
abbrev pub first_named : List ℕ → List Member → Option Member
first_named name [] = None
first_named name (member ∷ members) =
    if bytes_eq name member.name then Some member else first_named name members

-- the class of a name is one of the library
abbrev pub IsInLibrary : Headers → Name → Type 0
IsInLibrary headers name = (place : ℕ) × (place_of headers name ≡ Some (Library place))

-- the methods of the library's java/lang/invoke/MethodHandle that are found under every descriptor (2.9)
abbrev pub IsPolymorphic : Headers → Name → List ℕ → Type 0
IsPolymorphic headers class name =
    (class ≡ method_handle)
    × ((name ≡ codes "invoke") ⊎ (name ≡ codes "invokeExact"))
    × IsInLibrary headers class

-- what the look-up of a method finds: an instance initialiser in the named class alone, a method of an array in
-- java/lang/Object
pub data FindsMethod (headers : Headers) (class : Name) (name desc : List ℕ) : Option Declared
    → Type 0 where
  initialiser : name ≡ init
      → FindsMethod headers class name desc (own_method headers class name desc)
  polymorphic : IsPolymorphic headers class name
      → FindsMethod headers class name desc
      (option_and_then (λ header. option_map (declared_by class) (first_named name header.methods))
      (class_named headers class))
  of_array : (found : Option Declared)
      → name ≢ init
      → IsArray class
      → FindsInClass headers object name desc found
      → FindsMethod headers class name desc found
  of_class : (found : Option Declared)
      → name ≢ init
      → ¬ IsArray class
      → ¬ IsPolymorphic headers class name
      → FindsInClass headers class name desc found
      → FindsMethod headers class name desc found
