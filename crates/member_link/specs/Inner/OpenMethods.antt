-- What a method overrides of the classes above it, without the rule of what lies between: it is public or protected, or of
-- the same package, or there is a method above that is public or protected and of that package.
use Rattle.std.specs.Prelude.{◌≡◌, Bool, true, false, IsTrue}
use Rattle.class_model.specs.declared.header.Member.{Member}
use Rattle.class_tree.specs.Headers.{Name, Headers}
use Rattle.class_tree.specs.Names.{is_interface}
use Rattle.class_tree.specs.Subtype.{IsBelow}
use Rattle.member_link.specs.DeclaredMembers.{Declared, IsMethod, is_open}
use Rattle.member_link.specs.Found.{IsMethodFound}
use Rattle.member_link.specs.Overriding.{MayOverride, package_of}
use Rattle.member_link.specs.declared.found.Found.{Found}

-- the method of a class above that of another, of its name and descriptor
pub record IsAbove (headers : Headers) (low high : Declared) : Type 0 where
  pub method : IsMethod headers high
  pub below : IsBelow headers low.class high.class
  pub same_name : high.member.name ≡ low.member.name
  pub same_desc : high.member.desc ≡ low.member.desc

-- A public or protected method that overrides one of its package: what overrides it overrides that one too.
pub record OpensPackage (headers : Headers) (middle high : Declared) : Type 0 where
  pub may : MayOverride headers middle high
  pub is_open : IsTrue (is_open middle.member)
  pub same_package : package_of middle.class ≡ package_of high.class

-- one of an interface, or of a class that is none
abbrev pub IsAboveOfKind : Headers → Bool → Declared → Declared → Type 0
IsAboveOfKind headers kind low high =
    (above : IsAbove headers low high) × (is_interface above.method.header ≡ kind)

-- the method of a class that has the name and descriptor of a member
pub record IsSameOf (headers : Headers) (class : Name) (member : Member)
    (high : Declared) : Type 0 where
  pub method : IsMethod headers high
  pub own_class : high.class ≡ class
  pub same_name : high.member.name ≡ member.name
  pub same_desc : high.member.desc ≡ member.desc

-- Whether one of the methods that count passes a test, by what the test answers.
pub data IsAnyOf (headers : Headers) (Counts : Declared → Type 0)
    (Answer : Found → Bool → Type 0) : Bool
    → Type 0 where
  one_passes : (found : Found) (high : Declared)
      → IsMethodFound headers found high
      → Counts high
      → Answer found true
      → IsAnyOf headers Counts Answer true
  none_passes : ((high : Declared)
      → Counts high
      → (found : Found) × IsMethodFound headers found high × Answer found false)
      → IsAnyOf headers Counts Answer false
