-- What a look-up finds, by the class that declares it, its name and its descriptor alone (JVM Specification SE 8, 5.4.3).
use Rattle.std.specs.Prelude.{◌≡◌, ℕ, List, Option, option_map}
use Rattle.class_tree.specs.Headers.{Name, Headers}
use Rattle.member_link.specs.DeclaredMembers.{Declared}
use Rattle.member_link.specs.Fields.{FindsField}
use Rattle.member_link.specs.References.{Reference}

-- the declaring class, the name and the descriptor of a member
abbrev pub named_by : Declared → Reference
named_by declared = record {
  class = declared.class;
  name = declared.member.name;
  desc = declared.member.desc;
}

-- the field that a look-up finds, whatever its flags
pub record FindsFieldNamed (headers : Headers) (class : Name) (name desc : List ℕ)
    (answer : Option Reference) : Type 0 where
  pub field : Option Declared
  pub finds : FindsField headers class name desc field
  pub is : answer ≡ option_map named_by field
