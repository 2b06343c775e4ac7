-- Access to classes and members (JVM Specification SE 8, 5.4.4).
use Rattle.std.specs.Prelude.{◌≡◌, ◌⊎◌, ◌||◌, codes, Some, IsTrue, IsFalse}
use Rattle.class_model.specs.Members.{has, PUBLIC, PRIVATE, PROTECTED, STATIC}
use Rattle.class_model.specs.declared.header.Header.{Header}
use Rattle.class_tree.specs.Headers.{Name, Headers, class_named}
use Rattle.class_tree.specs.Subtype.{IsArray, IsBelow}
use Rattle.member_link.specs.DeclaredMembers.{Declared, is_package_access}
use Rattle.member_link.specs.Overriding.{package_of}

-- a class is public or of the same package
pub record IsClassAccessible (headers : Headers) (from name : Name) : Type 0 where
  pub header : Header
  pub found : class_named headers name ≡ Some header
  pub is_open : IsTrue (has header.flags PUBLIC) ⊎ (package_of from ≡ package_of name)

-- the class itself, or one above it
abbrev pub IsAtOrBelow : Headers → Name → Name → Type 0
IsAtOrBelow headers low high = (low ≡ high) ⊎ IsBelow headers low high

-- A member that a reference names through a class or array is accessible from a class.
pub data IsAccessible (headers : Headers) (from named : Name) (declared : Declared) : Type 0 where
  is_public : IsTrue (has declared.member.flags PUBLIC) → IsAccessible headers from named declared
  is_own_private : IsTrue (has declared.member.flags PRIVATE)
      → declared.class ≡ from
      → IsAccessible headers from named declared
  in_package : IsTrue (is_package_access declared.member || has declared.member.flags PROTECTED)
      → package_of from ≡ package_of declared.class
      → IsAccessible headers from named declared
  is_protected : IsTrue (has declared.member.flags PROTECTED)
      → IsAtOrBelow headers from declared.class
      → (IsFalse (has declared.member.flags STATIC)
      → IsAtOrBelow headers named from ⊎ IsAtOrBelow headers from named)
      → IsAccessible headers from named declared
  -- the clone of an array counts as public
  is_clone_of_array : IsArray named
      → declared.member.name ≡ codes "clone"
      → IsAccessible headers from named declared
