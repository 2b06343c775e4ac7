-- Methods of superinterfaces, interface by interface, as the search for defaults tells them apart.
use Rattle.std.specs.Prelude.{◌≡◌, ◌≢◌, ℕ, List, Option, Some, None, IsTrue, if◌then◌else◌}
use Rattle.class_model.specs.declared.header.Header.{Header}
use Rattle.class_model.specs.declared.header.Member.{Member}
use Rattle.class_tree.specs.Headers.{Name, Headers}
use Rattle.class_tree.specs.Names.{is_interface}
use Rattle.class_tree.specs.Order.{header_at}
use Rattle.class_tree.specs.Subtype.{IsBelow}
use Rattle.class_tree.specs.declared.place.Place.{Place}
use Rattle.member_link.specs.DeclaredMembers.{Declared, declared_by, declared, is_inherited}
use Rattle.member_link.specs.Defaults.{IsSuperinterfaceMethod, IsDefault}
use Rattle.member_link.specs.Found.{IsMethodFound}
use Rattle.member_link.specs.declared.found.Found.{Found}

-- a method that a class declares, if it is neither private nor static
abbrev pub inherited_by : Name → Option Member → Option Declared
inherited_by class None = None
inherited_by class (Some member) =
    if is_inherited member then Some (declared_by class member) else None

-- such a method of a name and descriptor
abbrev pub inherited_of : List ℕ → List ℕ → Header → Option Declared
inherited_of name desc header = inherited_by header.name (declared name desc header.methods)

-- there is an interface at the place
pub record IsInterfaceAt (headers : Headers) (place : Place) : Type 0 where
  pub header : Header
  pub at : header_at headers place ≡ Some header
  pub interface : IsTrue (is_interface header)

-- a superinterface of a class stands at the place
pub record IsSuperinterfaceAt (headers : Headers) (class : Name) (place : Place) : Type 0 where
  pub header : Header
  pub at : header_at headers place ≡ Some header
  pub interface : IsTrue (is_interface header)
  pub above : IsBelow headers class header.name

-- a method of a superinterface of the class below an interface
pub record IsHidden (headers : Headers) (class : Name) (name desc : List ℕ)
    (interface : Name) : Type 0 where
  pub other : Declared
  pub of_superinterface : IsSuperinterfaceMethod headers class name desc other
  pub below : IsBelow headers other.class interface

-- the default of a class that an interface declares
abbrev pub IsDefaultOf : Headers → Name → List ℕ → List ℕ → Name → Option Found → Type 0
IsDefaultOf headers class name desc interface None =
    (method : Declared) → IsDefault headers class name desc method → method.class ≢ interface
IsDefaultOf headers class name desc interface (Some found) =
    (method : Declared)
    × IsMethodFound headers found method
    × IsDefault headers class name desc method
    × (method.class ≡ interface)
