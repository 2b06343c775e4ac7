-- Words of the translation of a method's code.
use Rattle.std.specs.Global.{Box}
use Rattle.std.specs.Prelude.{◌≡◌, ◌<◌, ◌^◌, ◌&&◌, not, bytes_eq, ℕ, Bool, List, length, map, Option, Some, None}
use Rattle.class_model.specs.Header.{header_of}
use Rattle.class_model.specs.OffsetIndexes.{IsIndexOf, first_at, number_in}
use Rattle.class_model.specs.declared.class_file.ClassFile.{ClassFile}
use Rattle.class_model.specs.declared.class_file.CodePart.{CodePart}
use Rattle.class_model.specs.declared.class_file.Method.{Method}
use Rattle.class_model.specs.declared.descriptor.FieldType.{FieldType}
use Rattle.class_model.specs.declared.header.Header.{Header}
use Rattle.class_model.specs.declared.instr.Pair.{Pair}
use Rattle.class_model.specs.declared.instr.Placed.{Placed}
use Rattle.class_tree.specs.Headers.{Classes, Name, headers_of}
use Rattle.class_tree.specs.Names.{is_interface}
use Rattle.member_link.specs.Machine.Ops as ops
use Rattle.member_link.specs.Machine.Programs.{Program, Links}
use Rattle.member_link.specs.References.{Reference}
use Rattle.member_link.specs.RowScope.{RowScope}
use Rattle.member_link.specs.Scope.{Scope, is_init, is_clinit, own_descriptor, row_scope}
use Rattle.member_link.specs.Signatures.{result_of}
use Rattle.member_link.specs.RunOps.{IsFieldOp, IsResolved, op_of}
use Rattle.member_link.specs.TreePrograms.{IsProgram}
use Rattle.member_link.specs.declared.run_op.FieldOp.{FieldOp}
use Rattle.member_link.specs.declared.run_op.RunOp.{RunOp}

-- ---- a method with code

pub record CodeIn : Type 0 where
  pub classes : Classes
  pub class : ClassFile
  pub method : Method
  pub part : CodePart

abbrev pub scope_in : CodeIn → Scope
scope_in code = record {
  headers = headers_of code.classes;
  class = code.class;
  method = code.method;
  part = code.part;
}

abbrev pub rows_in : CodeIn → RowScope
rows_in code = row_scope (scope_in code)

-- what is known of it: the header of its class, its declared result, and whether it is an initialiser
pub record IsCodeIn (code : CodeIn) (own : Header) (gives : Option FieldType) (init clinit : Bool)
    : Type 0 where
  pub header : own ≡ header_of code.class
  pub result : gives ≡ result_of (own_descriptor (scope_in code))
  pub is_init : init ≡ is_init (scope_in code)
  pub is_clinit : clinit ≡ is_clinit (scope_in code)

-- ---- operations

abbrev pub IsOp : Classes → (Links → ops.Op) → RunOp → Type 0
IsOp classes meant op = (P : Program) → IsProgram classes P → op_of op ≡ meant P.links

abbrev pub OpIsResolved : Classes → RunOp → Type 0
OpIsResolved classes op = (P : Program) → IsProgram classes P → IsResolved P op

-- the field that a constant names is resolved, of code that is the initialiser of a class or of none
pub record IsFieldNamed (classes : Classes) (named : Option Reference) (own : Option Name)
    (op : FieldOp) : Type 0 where
  pub names : named ≡ Some op.named
  pub inside : op.initialises ≡ own
  pub resolved : (P : Program) → IsProgram classes P → IsFieldOp P op

abbrev pub IsFieldIn : Classes → Option Reference → Option Name → Option (Box FieldOp) → Type 0
IsFieldIn classes named own None = named ≡ None
IsFieldIn classes named own (Some op) = IsFieldNamed classes named own op.value

-- a class, by its header, is no interface and strictly above the class of the code
abbrev pub is_class_above : Links → Name → Header → Name → Bool
is_class_above links own header named =
    not (is_interface header) && (links.below own named && not (bytes_eq own named))

abbrev pub name_or : Name → Option Name → Name
name_or other None = other
name_or other (Some name) = name

-- ---- numbers of instructions

-- what a table says of an offset; where no instruction starts, how many there are
abbrev pub or_count : ℕ → Option ℕ → ℕ
or_count count None = count
or_count count (Some number) = number

abbrev pub number_by : List ℕ → ℕ → ℕ → ℕ
number_by numbers count at = or_count count (number_in numbers at)

pub record AreSmall (numbers : List ℕ) (count : ℕ) : Type 0 where
  pub small : (at : ℕ) → number_by numbers count at < 2 ^ 32

abbrev pub offsets_of : List Placed → List ℕ
offsets_of instrs = map (λ placed. placed.at) instrs

abbrev pub number_among : List Placed → ℕ → ℕ
number_among instrs at = or_count (length instrs) (first_at (offsets_of instrs) at)

-- the number of the first instruction at an offset; where none is, how many there are
abbrev pub number_of : List ℕ → ℕ → ℕ
number_of offsets at = or_count (length offsets) (first_at offsets at)

-- a table finds the instructions by their offsets
pub record AreNumbers (instrs : List Placed) (numbers : List ℕ) : Type 0 where
  pub few : length instrs < 2 ^ 32
  pub index : IsIndexOf (offsets_of instrs) numbers

-- the pair with the number of its target
abbrev pub numbered : (ℕ → ℕ) → Pair → Pair
numbered number pair = record { key = pair.key; to = number pair.to }
