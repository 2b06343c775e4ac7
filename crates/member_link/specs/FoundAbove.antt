-- Where the members are declared that look-up finds in a hierarchy (JVM Specification SE 8, 5.4.3.2 and 5.4.3.3).
use Rattle.std.specs.Prelude.{◌≡◌, ◌⊎◌, ℕ, List, Some}
use Rattle.class_model.specs.declared.header.Header.{Header}
use Rattle.class_tree.specs.Headers.{Name, Headers, class_named}
use Rattle.class_tree.specs.Subtype.{IsSubtype}
use Rattle.member_link.specs.DeclaredMembers.{Declared, IsMethod, declared}
use Rattle.member_link.specs.Methods.{IsPolymorphic}

-- a field of a class or interface at or above the named class, of the name and descriptor
pub record IsFieldAbove (headers : Headers) (class : Name) (name desc : List ℕ)
    (field : Declared) : Type 0 where
  pub header : Header
  pub found : class_named headers field.class ≡ Some header
  pub declares : declared name desc header.fields ≡ Some field.member
  pub above : IsSubtype headers class field.class

-- A method of a class or interface at or above the named class or array, of the name, and of the descriptor unless it is
-- found under every one.
pub record IsMethodAbove (headers : Headers) (class : Name) (name desc : List ℕ)
    (method : Declared) : Type 0 where
  pub declares : IsMethod headers method
  pub above : IsSubtype headers class method.class
  pub same_name : method.member.name ≡ name
  pub same_desc : (method.member.desc ≡ desc) ⊎ IsPolymorphic headers class name
