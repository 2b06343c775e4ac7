-- Selection: the method that a call of a resolved method runs (JVM Specification SE 8, 6.5 on the instructions of calls).
use Rattle.std.specs.Prelude.{◌≡◌, ◌≢◌, ◌==◌, ◌⊎◌, ℕ, List, [], ◌∷◌, Some, None, IsTrue, IsFalse, if◌then◌else◌}
use Rattle.class_model.specs.Characters.{left_bracket}
use Rattle.class_model.specs.Members.{has, PUBLIC, PRIVATE, STATIC, ABSTRACT}
use Rattle.class_model.specs.Names.{init}
use Rattle.class_model.specs.declared.header.Header.{Header}
use Rattle.class_tree.specs.Headers.{Name, Headers, class_named}
use Rattle.class_tree.specs.Names.{object, is_interface}
use Rattle.member_link.specs.DeclaredMembers.{Declared}
use Rattle.member_link.specs.Defaults.{IsDefault, IsOneDefault}
use Rattle.member_link.specs.Overriding.{Overrides}
use Rattle.member_link.specs.Upwards.{FirstUpwards}
use Rattle.member_link.specs.declared.selection.CallForm.{CallForm}
use Rattle.member_link.specs.declared.selection.CallForm.TheVariants.{Virtual, Interface, Special}

pub data Choice : Type 0 where
  chosen_method : Declared → Choice
  abstract_choice : Choice
  several_defaults : Choice
  choice_not_public : Choice

-- a choice that is abstract is none
abbrev pub choice_of : Declared → Choice
choice_of method =
    if has method.member.flags ABSTRACT then abstract_choice else chosen_method method

-- a choice that is not public is refused
abbrev pub public_choice_of : Declared → Choice
public_choice_of method =
    if has method.member.flags PUBLIC then choice_of method else choice_not_public

-- The default rule: the one default among the superinterfaces of a class.
pub data ChoosesDefault (headers : Headers) (class : Name) (name desc : List ℕ) : Choice
    → Type 0 where
  the_one : (method : Declared)
      → IsOneDefault headers class name desc method
      → ChoosesDefault headers class name desc (chosen_method method)
  no_default : ((method : Declared) → ¬ IsDefault headers class name desc method)
      → ChoosesDefault headers class name desc abstract_choice
  two_defaults : (one other : Declared)
      → IsDefault headers class name desc one
      → IsDefault headers class name desc other
      → one ≢ other
      → ChoosesDefault headers class name desc several_defaults

-- the first method upwards that counts; where there is none, by the default rule
pub data Chooses (headers : Headers) (Counts : Declared → Type 0)
    (of_method : Declared → Choice) (class : Name) (name desc : List ℕ) : Choice
    → Type 0 where
  first_upwards : (method : Declared)
      → FirstUpwards headers Counts name desc class (Some method)
      → Chooses headers Counts of_method class name desc (of_method method)
  by_default : (choice : Choice)
      → FirstUpwards headers Counts name desc class None
      → ChoosesDefault headers class name desc choice
      → Chooses headers Counts of_method class name desc choice

-- the class at which selection for a receiver starts: of an array java/lang/Object
abbrev pub start_of : Name → Name
start_of [] = []
start_of (first ∷ rest) = if first == left_bracket then object else first ∷ rest

-- the method itself, or one that overrides it
abbrev pub IsOrOverrides : Headers → Declared → Declared → Type 0
IsOrOverrides headers resolved method = (method ≡ resolved) ⊎ Overrides headers method resolved

-- no static method; from an interface upwards, one of java/lang/Object is public
pub record CountsForSpecial (headers : Headers) (start : Name) (method : Declared) : Type 0 where
  pub of_instance : IsFalse (has method.member.flags STATIC)
  pub at_interface : (header : Header)
      → class_named headers start ≡ Some header
      → IsTrue (is_interface header)
      → (method.class ≢ object) ⊎ IsTrue (has method.member.flags PUBLIC)

-- The choice for a receiver's class and a resolved method. Of a special call the receiver is the class at which the
-- selection starts.
pub data Selects (headers : Headers) (receiver : Name) (resolved : Declared) : CallForm
    → Choice
    → Type 0 where
  of_private : IsTrue (has resolved.member.flags PRIVATE)
      → Selects headers receiver resolved Virtual (choice_of resolved)
  of_virtual : (choice : Choice)
      → IsFalse (has resolved.member.flags PRIVATE)
      → Chooses headers (IsOrOverrides headers resolved) choice_of
      (start_of receiver) resolved.member.name resolved.member.desc choice
      → Selects headers receiver resolved Virtual choice
  of_interface : (choice : Choice)
      → Chooses headers (λ method. IsFalse (has method.member.flags STATIC)) public_choice_of
      (start_of receiver) resolved.member.name resolved.member.desc choice
      → Selects headers receiver resolved Interface choice
  of_initialiser : resolved.member.name ≡ init
      → Selects headers receiver resolved Special (choice_of resolved)
  of_special : (choice : Choice)
      → resolved.member.name ≢ init
      → Chooses headers (CountsForSpecial headers (start_of receiver)) choice_of
      (start_of receiver) resolved.member.name resolved.member.desc choice
      → Selects headers receiver resolved Special choice
