-- What holds of the method that a call runs (JVM Specification SE 8, 6.5 on the instructions of calls).
use Rattle.std.specs.Prelude.{◌≡◌, IsFalse}
use Rattle.class_model.specs.Members.{has, STATIC, ABSTRACT}
use Rattle.class_tree.specs.Headers.{Name, Headers}
use Rattle.class_tree.specs.Subtype.{IsSubtype}
use Rattle.member_link.specs.DeclaredMembers.{Declared, IsMethod}

-- The method that a call runs: neither abstract nor static, of a class or interface at or above the receiver's class, with
-- the name and descriptor of the method that was found.
pub record IsRunnable (headers : Headers) (receiver : Name)
    (resolved method : Declared) : Type 0 where
  pub concrete : IsFalse (has method.member.flags ABSTRACT)
  pub of_instance : IsFalse (has method.member.flags STATIC)
  pub above : IsSubtype headers receiver method.class
  pub same_name : method.member.name ≡ resolved.member.name
  pub same_desc : method.member.desc ≡ resolved.member.desc
  pub declares : IsMethod headers method
