-- What is asked of the receiver of a protected member (JVM Specification SE 8, 4.10.1.8), part by part.
use Rattle.std.specs.Prelude.{◌≡◌, ◌≢◌, ◌⊎◌, codes, Option, Some, None, IsTrue}
use Rattle.class_model.specs.Members.{has, PROTECTED}
use Rattle.class_model.specs.declared.frame.VType.{VType}
use Rattle.class_model.specs.declared.frame.VType.TheVariants as types
use Rattle.class_tree.specs.Subtype.{IsArray}
use Rattle.member_link.specs.Access.{IsAtOrBelow}
use Rattle.member_link.specs.DeclaredMembers.{Declared}
use Rattle.member_link.specs.Overriding.{package_of}
use Rattle.member_link.specs.References.{Reference}
use Rattle.member_link.specs.RowScope.{RowScope}
use Rattle.member_link.specs.Rows.Assigning.{IsAssignableIn}

abbrev pub IsCloneOfArray : Reference → VType → Type 0
IsCloneOfArray reference (types.Object name) = IsArray name × (reference.name ≡ codes "clone")
IsCloneOfArray reference other = ⊥

-- the receiver lends its protected members
abbrev pub Lends : RowScope → Reference → VType → Type 0
Lends s reference receiver =
    IsAssignableIn s.headers s.major receiver (types.Object s.own.name)
    ⊎ IsCloneOfArray reference receiver

-- it need not, since the named class is not above the current one
abbrev pub IsFree : RowScope → Reference → VType → Type 0
IsFree s reference receiver =
    Lends s reference receiver ⊎ (¬ IsAtOrBelow s.headers s.own.name reference.class)

abbrev pub IsBound : RowScope → Reference → VType → Type 0
IsBound s reference receiver =
    (¬ Lends s reference receiver) × IsAtOrBelow s.headers s.own.name reference.class

-- a protected member of another package
abbrev pub IsForeign : RowScope → Option Declared → Type 0
IsForeign s None = ⊥
IsForeign s (Some member) =
    IsTrue (has member.member.flags PROTECTED) × (package_of member.class ≢ package_of s.own.name)
