-- Field look-up (JVM Specification SE 8, 5.4.3.2): in the class itself; else in its direct superinterfaces in order, each
-- with those above it; else in its superclass, with those above it.
use Rattle.std.specs.Prelude.{◌≡◌, ℕ, List, [], ◌∷◌, ◌++◌, Option, Some, None}
use Rattle.class_model.specs.declared.header.Header.{Header}
use Rattle.class_model.specs.declared.header.Member.{Member}
use Rattle.class_tree.specs.Headers.{Name, Headers, class_named}
use Rattle.member_link.specs.DeclaredMembers.{Declared, declared_by, declared}

-- the interfaces of a class, and then its superclass, if there is one
abbrev pub interfaces_and_super : Header → List Name
interfaces_and_super header = header.interfaces ++ of_super header.super_name where
  of_super : Option Name → List Name
  of_super None = []
  of_super (Some name) = name ∷ []

-- what the look-up finds in the first of these classes in which it finds a field
pub data FindsFirst (headers : Headers) (name desc : List ℕ) : List Name
    → Option Declared
    → Type 0 where
  in_no_class : FindsFirst headers name desc [] None
  in_class : (class : Name) (classes : List Name) (header : Header) (member : Member)
      → class_named headers class ≡ Some header
      → declared name desc header.fields ≡ Some member
      → FindsFirst headers name desc (class ∷ classes) (Some (declared_by class member))
  above_class : (class : Name) (classes : List Name) (header : Header) (field : Declared)
      → class_named headers class ≡ Some header
      → declared name desc header.fields ≡ None
      → FindsFirst headers name desc (interfaces_and_super header) (Some field)
      → FindsFirst headers name desc (class ∷ classes) (Some field)
  in_other_class : (class : Name) (classes : List Name) (header : Header)
      (found : Option Declared)
      → class_named headers class ≡ Some header
      → declared name desc header.fields ≡ None
      → FindsFirst headers name desc (interfaces_and_super header) None
      → FindsFirst headers name desc classes found
      → FindsFirst headers name desc (class ∷ classes) found
  absent_class : (class : Name) (classes : List Name) (found : Option Declared)
      → class_named headers class ≡ None
      → FindsFirst headers name desc classes found
      → FindsFirst headers name desc (class ∷ classes) found

-- what the look-up of a field finds in a class; in an array nothing
abbrev pub FindsField : Headers → Name → List ℕ → List ℕ → Option Declared → Type 0
FindsField headers class name desc found = FindsFirst headers name desc (class ∷ []) found
