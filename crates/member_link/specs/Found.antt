-- What look-up and selection answer, as places in the lists of a tree.
use Rattle.std.specs.Prelude.{◌≡◌, ◌⊎◌, ℕ, List, slice_get, Option, Some, None}
use Rattle.class_model.specs.declared.header.Header.{Header}
use Rattle.class_model.specs.declared.header.Member.{Member}
use Rattle.class_tree.specs.Headers.{Name, Headers}
use Rattle.class_tree.specs.Order.{header_at, member_place}
use Rattle.class_tree.specs.Subtype.{IsArray}
use Rattle.member_link.specs.DeclaredMembers.{Declared}
use Rattle.member_link.specs.Fields.{FindsField}
use Rattle.member_link.specs.Methods.{FindsMethod}
use Rattle.member_link.specs.Selection.{Choice, chosen_method, abstract_choice, several_defaults, choice_not_public}
use Rattle.member_link.specs.declared.found.Found.{Found}
use Rattle.member_link.specs.declared.selection.Selected.{Selected}
use Rattle.member_link.specs.declared.selection.Selected.TheVariants as selected

abbrev pub fields_of : Header → List Member
fields_of header = header.fields

abbrev pub methods_of : Header → List Member
methods_of header = header.methods

-- the place of a declared member: that of its class, and the first of its name and descriptor there
pub record IsFoundIn (members_of : Header → List Member) (headers : Headers)
    (found : Found) (declared : Declared) : Type 0 where
  pub header : Header
  pub at : header_at headers found.place ≡ Some header
  pub own_class : header.name ≡ declared.class
  pub stands : slice_get (members_of header) found.member ≡ Some declared.member
  pub first : member_place declared.member.name declared.member.desc (members_of header)
      ≡ Some found.member
  pub same_flags : found.flags ≡ declared.member.flags

abbrev pub IsFieldFound : Headers → Found → Declared → Type 0
IsFieldFound headers found declared = IsFoundIn fields_of headers found declared

abbrev pub IsMethodFound : Headers → Found → Declared → Type 0
IsMethodFound headers found declared = IsFoundIn methods_of headers found declared

-- both found nothing, or the one is the place of the other
abbrev pub AreSame : (Found → Declared → Type 0) → Option Found → Option Declared → Type 0
AreSame Is (Some found) (Some declared) = Is found declared
AreSame Is None None = Unit {0}
AreSame Is found declared = ⊥

-- what the look-up of a field answers
pub record IsField (headers : Headers) (class : Name) (name desc : List ℕ)
    (result : Option Found) : Type 0 where
  pub field : Option Declared
  pub finds : FindsField headers class name desc field
  pub same : AreSame (IsFieldFound headers) result field

-- what the look-up of a method answers
pub record IsMethodOf (headers : Headers) (class : Name) (name desc : List ℕ)
    (result : Option Found) : Type 0 where
  pub method : Option Declared
  pub finds : FindsMethod headers class name desc method
  pub same : AreSame (IsMethodFound headers) result method

-- A member that a reference through a class or array finds; through an array it is a method.
abbrev pub IsMemberFound : Headers → Name → Found → Declared → Type 0
IsMemberFound headers named found declared =
    IsMethodFound headers found declared ⊎ ((¬ IsArray named) × IsFieldFound headers found declared)

-- what a selection answers
abbrev pub IsChoice : Headers → Selected → Choice → Type 0
IsChoice headers (selected.Found found) (chosen_method method) = IsMethodFound headers found method
IsChoice headers selected.Abstract abstract_choice = Unit {0}
IsChoice headers selected.Twice several_defaults = Unit {0}
IsChoice headers selected.NotPublic choice_not_public = Unit {0}
IsChoice headers answer choice = ⊥
