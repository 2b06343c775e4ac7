-- Programs that are the same but for the code of methods, for flags of fields other than static, and for instance initialisers that classes of
-- the second have besides; and operations of theirs that do the same.
use Rattle.std.specs.Prelude.{◌≡◌, ◌≢◌, ◌++◌, List, [], ◌∷◌, map, is_some, Option, Some, IsSome, IsTrue, IsFalse}
use Rattle.std.specs.List.{AllByRecursion}
use Rattle.class_model.specs.Members.{has, STATIC}
use Rattle.class_model.specs.Names.{init}
use Rattle.class_model.specs.declared.header.Member.{Member}
use Rattle.class_tree.specs.Headers.{Name}
use Rattle.class_tree.specs.Names.{is_interface}
use Rattle.machine_values.specs.declared.value.Value.{Value}
use Rattle.machine_values.specs.declared.value.Value.TheVariants.{Ref}
use Rattle.member_link.specs.Machine.Acting.{is_handled}
use Rattle.member_link.specs.Machine.FieldSteps.{is_barred}
use Rattle.member_link.specs.Machine.Ops.{Op, push_value, put_static, put_field, call_special}
use Rattle.member_link.specs.Machine.Programs.{Links, Program, RunClass, RunMethod, StartValue, StaticStart, chosen, code_run, method_of, start_string, start_value}
use Rattle.member_link.specs.References.{Reference}
use Rattle.member_link.specs.declared.selection.CallForm.{CallForm}

-- ---- classes

-- fields one by one: the same, and static in both or in none
abbrev pub SameFields : List Member → List Member → Type 0
SameFields [] [] = Unit {0}
SameFields (one ∷ ones) (other ∷ others) =
    (other.name ≡ one.name)
    × (other.desc ≡ one.desc)
    × (has other.flags STATIC ≡ has one.flags STATIC)
    × SameFields ones others
SameFields ones others = ⊥

-- methods one by one: the same members, which have code on both sides or on none
abbrev pub SameMethods : List RunMethod → List RunMethod → Type 0
SameMethods [] [] = Unit {0}
SameMethods (one ∷ ones) (other ∷ others) =
    (other.member ≡ one.member)
    × (is_some (code_run other) ≡ is_some (code_run one))
    × SameMethods ones others
SameMethods ones others = ⊥

-- an instance initialiser that the class did not have, and that the library may not call
pub record IsAdded (P : Program) (class : RunClass) (method : RunMethod) : Type 0 where
  pub is_init : method.member.name ≡ init
  pub is_new : AllByRecursion
      (λ other. other.member.name ≡ init → other.member.desc ≡ method.member.desc → ⊥)
      class.methods
  pub unhandled : IsFalse (is_handled P class.header.name method.member.desc)

-- a value by itself names no object
abbrev pub IsNoReference : Value → Type 0
IsNoReference (Ref reference) = ⊥
IsNoReference value = Unit {0}

-- a static field begins with a value by itself, or with a string
abbrev pub IsPlainStart : StaticStart → Type 0
IsPlainStart start = is_plain start.value where
  is_plain : StartValue → Type 0
  is_plain (start_value value) = IsNoReference value
  is_plain (start_string text) = Unit {0}

pub record SameClass (P : Program) (one other : RunClass) : Type 0 where
  pub name : other.header.name ≡ one.header.name
  pub flags : other.header.flags ≡ one.header.flags
  pub superclass : other.header.super_name ≡ one.header.super_name
  pub interfaces : other.header.interfaces ≡ one.header.interfaces
  pub fields : SameFields one.header.fields other.header.fields
  pub starts : other.starts ≡ one.starts
  pub plain_starts : AllByRecursion IsPlainStart one.starts
  pub handles : other.handles ≡ one.handles
  pub members : map (λ method. method.member) one.methods ≡ one.header.methods
  pub same : List RunMethod
  pub added : List RunMethod
  pub methods : other.methods ≡ same ++ added
  pub header_methods : other.header.methods ≡ map (λ method. method.member) (same ++ added)
  pub are_same : SameMethods one.methods same
  pub are_added : AllByRecursion (IsAdded P one) added
  pub of_interface : IsTrue (is_interface one.header) → added ≡ []

abbrev pub SameClasses : Program → List RunClass → List RunClass → Type 0
SameClasses P [] [] = Unit {0}
SameClasses P (one ∷ ones) (other ∷ others) = SameClass P one other × SameClasses P ones others
SameClasses P ones others = ⊥

-- Links find no instance initialiser, and choose none for another method: it is looked up in the named class alone.
pub record LinksNoInit (links : Links) : Type 0 where
  pub found : (r found : Reference) → links.method r ≡ Some found → found.name ≢ init
  pub selected : (receiver : Name) (r found : Reference) (form : CallForm)
      → r.name ≢ init
      → links.select receiver r form ≡ chosen found
      → found.name ≢ init

pub record SamePrograms (P Q : Program) : Type 0 where
  pub classes : SameClasses P P.classes Q.classes
  pub library : Q.library ≡ P.library
  pub links : Q.links ≡ P.links
  pub no_init : LinksNoInit P.links

-- ---- operations

-- stores that are barred in both programs, or in none, where they begin their class
abbrev pub SameBar : Program → Program → Reference → Option Name → Option Name → Type 0
SameBar P Q r one other =
    (field : Reference)
    → P.links.field r ≡ Some field
    → is_barred Q field other ≡ is_barred P field one

-- an operation that is in both: where it stores, it is barred in both or in none; an instance initialiser that it calls is declared; and
-- what it pushes by itself is no reference
abbrev pub IsInBoth : Program → Program → Op → Type 0
IsInBoth P Q (push_value value) = IsNoReference value
IsInBoth P Q (put_static r one) = SameBar P Q r one one
IsInBoth P Q (put_field r one) = SameBar P Q r one one
IsInBoth P Q (call_special r from) = r.name ≡ init → IsSome (method_of P r)
IsInBoth P Q op = Unit {0}

-- The same operation; a store by a method that counts as another; or a call of an instance initialiser, whose selection starts nowhere.
pub data SameOp (P Q : Program) : Op → Op → Type 0 where
  same_op : {op : Op} → IsInBoth P Q op → SameOp P Q op op
  same_store : {r : Reference} {one other : Option Name}
      → SameBar P Q r one other
      → SameOp P Q (put_field r one) (put_field r other)
  same_initialiser : {r : Reference} {from other : Name}
      → r.name ≡ init
      → IsSome (method_of P r)
      → SameOp P Q (call_special r from) (call_special r other)
