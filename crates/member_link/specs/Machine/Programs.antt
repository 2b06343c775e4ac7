-- Programs: the classes of a folder with their code as lists of points, the headers of a library, and what look-up and
-- selection answer over both (JVM Specification SE 8, 2.9, 4.6 and 5.4).
use Rattle.std.specs.Prelude.{◌&&◌, ℕ, zero, suc, Bool, false, List, [], ◌∷◌, map, slice_get, bytes_eq, Option, Some, None, option_map, option_and_then, if◌then◌else◌}
use Rattle.class_model.specs.Members.{has, NATIVE}
use Rattle.class_model.specs.declared.class_file.MethodAt.{MethodAt}
use Rattle.class_model.specs.declared.header.Header.{Header}
use Rattle.class_model.specs.declared.header.Member.{Member}
use Rattle.class_tree.specs.Headers.{Name, Headers, class_named}
use Rattle.class_tree.specs.Names.{is_interface, is_member}
use Rattle.machine_values.specs.declared.object.Constant.{Constant}
use Rattle.machine_values.specs.declared.value.Value.{Value}
use Rattle.member_link.specs.References.{Reference}
use Rattle.member_link.specs.declared.selection.CallForm.{CallForm}
use Rattle.member_link.specs.Machine.Ops.{Op}

-- a handler: the point at which it begins, and the class that it catches; without one everything
pub record Catch : Type 0 where
  pub to : ℕ
  pub class : Option Name

-- an operation, and the handlers around it in the order of the exception table
pub record Point : Type 0 where
  pub op : Op
  pub catches : List Catch

-- the local units, and the points one after the other
pub record Code : Type 0 where
  pub locals : ℕ
  pub points : List Point

pub record RunMethod : Type 0 where
  pub member : Member
  pub code : Option Code

-- what a static field begins with (4.7.2): a number, or a string
pub data StartValue : Type 0 where
  start_value : Value → StartValue
  start_string : List ℕ → StartValue

-- the field of a number begins with a value
pub record StaticStart : Type 0 where
  pub field : ℕ
  pub value : StartValue

-- a class of the folder: its methods in the order of its header, its static fields with a ConstantValue, and the method
-- handles of its constant pool
pub record RunClass : Type 0 where
  pub header : Header
  pub methods : List RunMethod
  pub starts : List StaticStart
  pub handles : List Constant

-- the method that a call runs, or why there is none
pub data Chosen : Type 0 where
  chosen : Reference → Chosen
  abstract_method : Chosen
  several_defaults : Chosen
  not_public : Chosen

-- What subtyping, look-up and selection answer: a member is named by the class that declares it, its name and descriptor.
pub record Links : Type 0 where
  pub below : Name → Name → Bool
  pub field : Reference → Option Reference
  pub method : Reference → Option Reference
  pub select : Name → Reference → CallForm → Chosen

pub record Program : Type 0 where
  pub classes : List RunClass
  pub library : List Header
  pub links : Links

-- ---- classes

abbrev pub headers_in : Program → Headers
headers_in P = record { folder = map (λ class. class.header) P.classes; library = P.library }

abbrev pub header_named : Program → Name → Option Header
header_named P name = class_named (headers_in P) name

-- the number of the first in a list that passes a test
abbrev pub number_of_first : {A : Type 0} → (A → Bool) → List A → Option ℕ
number_of_first passes [] = None
number_of_first passes (first ∷ others) =
    if passes first then Some zero else option_map suc (number_of_first passes others)

-- the number of a class of the folder
abbrev pub folder_number : Program → Name → Option ℕ
folder_number P name = number_of_first (λ class. bytes_eq name class.header.name) P.classes

-- the name of the class of a number, empty where there is none
abbrev pub name_of_class : Program → ℕ → Name
name_of_class P number = of_class (slice_get P.classes number) where
  of_class : Option RunClass → Name
  of_class None = []
  of_class (Some class) = class.header.name

abbrev pub is_interface_named : Program → Name → Bool
is_interface_named P name = of_header (header_named P name) where
  of_header : Option Header → Bool
  of_header None = false
  of_header (Some header) = is_interface header

-- ---- members

abbrev pub member_of : Reference → Member → Bool
member_of reference member = is_member reference.name reference.desc member

abbrev pub first_member : Reference → List Member → Option Member
first_member reference [] = None
first_member reference (member ∷ members) =
    if member_of reference member then Some member else first_member reference members

-- the field of a class of the folder or of the library
abbrev pub field_of : Program → Reference → Option Member
field_of P reference =
    option_and_then (λ header. first_member reference header.fields)
    (header_named P reference.class)

abbrev pub method_of : Program → Reference → Option Member
method_of P reference =
    option_and_then (λ header. first_member reference header.methods)
    (header_named P reference.class)

-- the flags of a member that may be there
abbrev pub has_flag : Option Member → ℕ → Bool
has_flag None mask = false
has_flag (Some member) mask = has member.flags mask

-- the place of a method of the folder
abbrev pub place_of_method : Program → Reference → Option MethodAt
place_of_method P reference = option_and_then in_class (folder_number P reference.class) where
  at_number : ℕ → RunClass → Option MethodAt
  at_number number class =
      option_map (λ method. record { class = number; method = method })
      (number_of_first (λ method. member_of reference method.member) class.methods)

  in_class : ℕ → Option MethodAt
  in_class number = option_and_then (at_number number) (slice_get P.classes number)

abbrev pub run_method : Program → MethodAt → Option RunMethod
run_method P at =
    option_and_then (λ class. slice_get class.methods at.method) (slice_get P.classes at.class)

-- the code that a method of the folder runs: that of a native one is not looked at
abbrev pub code_run : RunMethod → Option Code
code_run method = if has method.member.flags NATIVE then None else method.code

abbrev pub code_at : Program → MethodAt → Option Code
code_at P at = option_and_then code_run (run_method P at)

abbrev pub point_at : Program → MethodAt → ℕ → Option Point
point_at P at place = option_and_then (λ code. slice_get code.points place) (code_at P at)

-- two references to one member
abbrev pub same_reference : Reference → Reference → Bool
same_reference one other =
    bytes_eq one.class other.class && (bytes_eq one.name other.name && bytes_eq one.desc other.desc)
