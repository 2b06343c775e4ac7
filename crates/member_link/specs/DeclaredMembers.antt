-- Fields and methods with the class that declares them (JVM Specification SE 8, 5.4.3). Of two members of one name and
-- descriptor the first is meant.
use Rattle.std.specs.Prelude.{◌≡◌, ◌&&◌, ◌||◌, not, ℕ, Bool, List, [], ◌∷◌, Option, Some, None, option_map, option_and_then, if◌then◌else◌}
use Rattle.class_model.specs.Members.{has, PUBLIC, PRIVATE, PROTECTED, STATIC}
use Rattle.class_model.specs.declared.header.Header.{Header}
use Rattle.class_model.specs.declared.header.Member.{Member}
use Rattle.class_tree.specs.Headers.{Name, Headers, class_named}
use Rattle.class_tree.specs.Names.{is_member}

pub record Declared : Type 0 where
  pub class : Name
  pub member : Member

abbrev pub declared_by : Name → Member → Declared
declared_by class member = record { class = class; member = member }

-- the member of a name and descriptor
abbrev pub declared : List ℕ → List ℕ → List Member → Option Member
declared name desc [] = None
declared name desc (member ∷ members) =
    if is_member name desc member then Some member else declared name desc members

-- the method of a name and descriptor that the class of a name declares itself
abbrev pub own_method : Headers → Name → List ℕ → List ℕ → Option Declared
own_method headers class name desc =
    option_and_then (λ header. option_map (declared_by class) (declared name desc header.methods))
    (class_named headers class)

-- the method is the one of its name and descriptor in its class
pub record IsMethod (headers : Headers) (method : Declared) : Type 0 where
  pub header : Header
  pub found : class_named headers method.class ≡ Some header
  pub declares : declared method.member.name method.member.desc header.methods ≡ Some method.member

-- neither private nor static: a method that classes below inherit or override
abbrev pub is_inherited : Member → Bool
is_inherited member = not (has member.flags PRIVATE) && not (has member.flags STATIC)

-- none of public, protected and private
abbrev pub is_package_access : Member → Bool
is_package_access member =
    not (has member.flags PUBLIC)
    && not (has member.flags PROTECTED)
    && not (has member.flags PRIVATE)

-- public or protected
abbrev pub is_open : Member → Bool
is_open member = has member.flags PUBLIC || has member.flags PROTECTED
