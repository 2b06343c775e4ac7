-- Words of the questions that the machine asks of a tree.
use Rattle.std.specs.Prelude.{◌&&◌, not, Bool, true, false, slice_get, Option, option_and_then}
use Rattle.std.specs.List.{list_any}
use Rattle.class_model.specs.Members.{has, NATIVE}
use Rattle.class_model.specs.declared.class_file.Attr.{Attr}
use Rattle.class_model.specs.declared.class_file.Attr.TheVariants.{Raw, Code}
use Rattle.class_model.specs.declared.class_file.Method.{Method}
use Rattle.class_model.specs.declared.class_file.MethodAt.{MethodAt}
use Rattle.class_model.specs.declared.header.Member.{Member}
use Rattle.class_tree.specs.Headers.{Classes}
use Rattle.member_link.specs.Machine.Programs.{RunMethod}

-- the method of a class file of the folder
abbrev pub file_method : Classes → MethodAt → Option Method
file_method classes at =
    option_and_then (λ class. slice_get class.methods at.method) (slice_get classes.folder at.class)

abbrev pub is_code : Attr → Bool
is_code (Code name part) = true
is_code (Raw name bytes) = false

-- a method that is not native and has a Code attribute
abbrev pub runs_code : Method → Bool
runs_code method = not (has method.flags NATIVE) && list_any is_code method.attrs

-- the member that a method of a program is
abbrev pub member_run : RunMethod → Member
member_run method = method.member
