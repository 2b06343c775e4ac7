-- The class at which the selection of a special call starts (JVM Specification SE 8, 6.5 on invokespecial).
use Rattle.std.specs.Prelude.{◌≡◌, Some, IsFalse}
use Rattle.class_model.specs.declared.header.Header.{Header}
use Rattle.class_tree.specs.Headers.{Name, Headers, class_named}
use Rattle.class_tree.specs.Names.{is_interface}
use Rattle.class_tree.specs.Subtype.{IsBelow}

-- the named class is no interface and strictly above the current class
pub record IsSuperclassNamed (headers : Headers) (current named : Name) : Type 0 where
  pub header : Header
  pub found : class_named headers named ≡ Some header
  pub no_interface : IsFalse (is_interface header)
  pub above : IsBelow headers current named

-- where a superclass is named, the superclass of the current class; else the named class
pub data StartsSpecial (headers : Headers) (current named : Name) : Name → Type 0 where
  at_superclass : (header : Header) (start : Name)
      → IsSuperclassNamed headers current named
      → class_named headers current ≡ Some header
      → header.super_name ≡ Some start
      → StartsSpecial headers current named start
  at_named : ¬ IsSuperclassNamed headers current named → StartsSpecial headers current named named
