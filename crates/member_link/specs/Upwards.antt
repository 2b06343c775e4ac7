-- The first method of a name and descriptor from a class upwards that counts: in the class itself, else in its superclasses.
use Rattle.std.specs.Prelude.{◌≡◌, ℕ, List, Option, Some, None}
use Rattle.class_model.specs.declared.header.Header.{Header}
use Rattle.class_model.specs.declared.header.Member.{Member}
use Rattle.class_tree.specs.Headers.{Name, Headers, class_named}
use Rattle.member_link.specs.DeclaredMembers.{Declared, declared_by, declared}

-- the class declares no method of the name and descriptor that counts
abbrev pub IsPassedOver : (Declared → Type 0) → List ℕ → List ℕ → Name → Header → Type 0
IsPassedOver Counts name desc class header =
    (member : Member)
    → declared name desc header.methods ≡ Some member
    → ¬ Counts (declared_by class member)

pub data FirstUpwards (headers : Headers) (Counts : Declared → Type 0)
    (name desc : List ℕ) : Name
    → Option Declared
    → Type 0 where
  in_itself : (class : Name) (header : Header) (member : Member)
      → class_named headers class ≡ Some header
      → declared name desc header.methods ≡ Some member
      → Counts (declared_by class member)
      → FirstUpwards headers Counts name desc class (Some (declared_by class member))
  in_superclass : (class high : Name) (header : Header) (found : Option Declared)
      → class_named headers class ≡ Some header
      → IsPassedOver Counts name desc class header
      → header.super_name ≡ Some high
      → FirstUpwards headers Counts name desc high found
      → FirstUpwards headers Counts name desc class found
  in_no_superclass : (class : Name) (header : Header)
      → class_named headers class ≡ Some header
      → IsPassedOver Counts name desc class header
      → header.super_name ≡ None
      → FirstUpwards headers Counts name desc class None
  in_absent_class : (class : Name)
      → class_named headers class ≡ None
      → FirstUpwards headers Counts name desc class None
