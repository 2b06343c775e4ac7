-- Methods of superinterfaces (JVM Specification SE 8, 5.4.3.3): those that are maximally specific, and the defaults
-- among them.
use Rattle.std.specs.Prelude.{◌≡◌, ℕ, List, [], ◌∷◌, Option, Some, None, option_and_then, IsTrue, IsFalse, if◌then◌else◌}
use Rattle.class_model.specs.Members.{has, ABSTRACT}
use Rattle.class_model.specs.declared.header.Header.{Header}
use Rattle.class_model.specs.declared.header.Member.{Member}
use Rattle.class_tree.specs.Headers.{Name, Headers, class_named}
use Rattle.class_tree.specs.Names.{is_interface}
use Rattle.class_tree.specs.Subtype.{IsBelow}
use Rattle.member_link.specs.DeclaredMembers.{Declared, declared_by, declared, is_inherited}

-- a method of an interface above a class that is neither private nor static
pub record IsSuperinterfaceMethod (headers : Headers) (class : Name) (name desc : List ℕ)
    (method : Declared) : Type 0 where
  pub header : Header
  pub found : class_named headers method.class ≡ Some header
  pub interface : IsTrue (is_interface header)
  pub above : IsBelow headers class method.class
  pub declares : declared name desc header.methods ≡ Some method.member
  pub inherited : IsTrue (is_inherited method.member)

-- such a method that none of an interface below its own hides
pub record IsMaximallySpecific (headers : Headers) (class : Name) (name desc : List ℕ)
    (method : Declared) : Type 0 where
  pub of_superinterface : IsSuperinterfaceMethod headers class name desc method
  pub none_below : (other : Declared)
      → IsSuperinterfaceMethod headers class name desc other
      → ¬ IsBelow headers other.class method.class

-- a maximally specific method that is not abstract
pub record IsDefault (headers : Headers) (class : Name) (name desc : List ℕ)
    (method : Declared) : Type 0 where
  pub specific : IsMaximallySpecific headers class name desc method
  pub concrete : IsFalse (has method.member.flags ABSTRACT)

-- the only one
pub record IsOneDefault (headers : Headers) (class : Name) (name desc : List ℕ)
    (method : Declared) : Type 0 where
  pub is_default : IsDefault headers class name desc method
  pub only : (other : Declared) → IsDefault headers class name desc other → other ≡ method

-- the method of a name and descriptor in the first of these interfaces that has one that is neither private nor static
abbrev pub first_inherited : Headers → List ℕ → List ℕ → List Name → Option Declared
first_inherited headers name desc [] = None
first_inherited headers name desc (interface ∷ interfaces) =
    or_of (inherited interface
    (option_and_then (λ header. declared name desc header.methods)
    (class_named headers interface))) (first_inherited headers name desc interfaces)
  where
    inherited : Name → Option Member → Option Declared
    inherited interface None = None
    inherited interface (Some member) =
        if is_inherited member then Some (declared_by interface member) else None

    or_of : Option Declared → Option Declared → Option Declared
    or_of (Some method) other = Some method
    or_of None other = other
