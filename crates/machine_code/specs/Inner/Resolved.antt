-- Members that are found, as operations keep them.
use Rattle.std.specs.Prelude.{◌≡◌, ◌&&◌, ◌||◌, not, ℕ, Bool, true, false, bytes_eq, codes, Some, None, Option}
use Rattle.class_model.specs.Members.{has, FINAL, STATIC}
use Rattle.class_tree.specs.Headers.{Name, Headers}
use Rattle.class_tree.specs.Names.{method_handle}
use Rattle.class_tree.specs.declared.place.Place.{Place}
use Rattle.class_tree.specs.declared.place.Place.TheVariants as places
use Rattle.member_link.specs.DeclaredMembers.{Declared}
use Rattle.member_link.specs.Found.{IsMethodFound}
use Rattle.member_link.specs.Machine.Links.{reference_to}
use Rattle.member_link.specs.References.{Reference}
use Rattle.member_link.specs.declared.found.Found.{Found}
use Rattle.machine_code.specs.Inner.QuestionWords.{is_class_of}
use Rattle.member_link.specs.RunOps.{IsStoredAs}
use Rattle.member_link.specs.declared.run_op.CallTarget.{CallTarget}
use Rattle.member_link.specs.declared.run_op.FieldHome.{FieldHome}
use Rattle.member_link.specs.declared.run_op.FieldHome.TheVariants.{Library, Folder}
use Rattle.member_link.specs.declared.run_op.FieldTarget.{FieldTarget}

-- where a field that is found is declared
abbrev pub home_of : Found → FieldHome
home_of found = at_place found.place where
  at_place : Place → FieldHome
  at_place (places.Folder class) = Folder class (Some found.member)
  at_place (places.Library class) = Library

-- what is kept of a field that is found
pub record IsTargetOf (field : Declared) (found : Found) (initialises : Option Name)
    (target : FieldTarget) : Type 0 where
  pub same : target.field ≡ reference_to field
  pub static : target.is_static ≡ has field.member.flags STATIC
  pub barred : target.is_barred
      ≡ (has field.member.flags FINAL && not (is_class_of initialises field.class))
  pub stored : IsStoredAs target.desc field.member.desc
  pub home : target.home ≡ home_of found
  pub unseen : target.seen ≡ None

-- ---- methods

-- the number of the class of the folder at a place
abbrev pub home_number : Place → Option ℕ
home_number (places.Folder class) = Some class
home_number (places.Library class) = None

-- what is kept of a method that is found
pub record IsKeptMethod (method : Declared) (target : CallTarget) : Type 0 where
  pub same : target.method ≡ reference_to method
  pub unseen : target.seen ≡ None

-- what is found of a tree is what a link says
abbrev pub LinksMethod : Headers → Option Found → Option Reference → Type 0
LinksMethod headers None link = link ≡ None
LinksMethod headers (Some found) link =
    (method : Declared) × IsMethodFound headers found method × (link ≡ Some (reference_to method))

-- `invoke` or `invokeExact` of java/lang/invoke/MethodHandle
abbrev pub is_invoke : Name → Name → Bool
is_invoke class name =
    bytes_eq class method_handle
    && (bytes_eq name (codes "invoke") || bytes_eq name (codes "invokeExact"))
