-- The code of a field constructor in the class file that has it. It is this project's profile.
use Rattle.std.specs.Prelude.{◌≡◌, ◌+◌, ◌++◌, ℕ, List, [], ◌∷◌, bytes_eq, codes, length, map, max, Option, Some, None, if◌then◌else◌}
use Rattle.class_model.specs.Descriptors.{kind_of, type_of, units_of}
use Rattle.class_model.specs.Names.{init}
use Rattle.class_model.specs.Members.{PUBLIC}
use Rattle.class_model.specs.Pool.{Constants}
use Rattle.class_model.specs.declared.class_file.Attr.TheVariants.{Code}
use Rattle.class_model.specs.declared.class_file.CodePart.{CodePart}
use Rattle.class_model.specs.declared.class_file.Method.{Method}
use Rattle.class_model.specs.declared.header.Member.{Member}
use Rattle.class_model.specs.declared.instr.Instr.{Instr}
use Rattle.class_model.specs.declared.instr.Instr.TheVariants.{Invoke, PutField}
use Rattle.class_model.specs.declared.opcodes.TheConstants.{INVOKESPECIAL}
use Rattle.class_tree.specs.Headers.{Name, Headers}
use Rattle.class_tree.specs.Layouts.{instance_fields, own_fields}
use Rattle.class_tree.specs.Names.{object}
use Rattle.code_bytes.specs.Forms.{instr_bytes}
use Rattle.making_code.specs.Constants.{index_in, needs_member, of_field, of_method, text_index}
use Rattle.making_code.specs.FieldConstructor.{CInstr, calls_constructor, calls_object, constructor_items, puts_field, simple, superclass_of, units_of_fields}

-- an instruction by the indices of its constants
abbrev pub indexed_instr : Constants → (Name → List ℕ) → CInstr → Instr
indexed_instr pool constructor (simple instr) = instr
indexed_instr pool constructor calls_object =
    Invoke INVOKESPECIAL (index_in pool (needs_member of_method object init (codes "()V"))) 0
indexed_instr pool constructor (calls_constructor class) =
    Invoke INVOKESPECIAL (index_in pool (needs_member of_method class init (constructor class))) 0
indexed_instr pool constructor (puts_field class name desc) =
    PutField (index_in pool (needs_member of_field class name desc))

abbrev pub constructor_instrs : Headers → Constants → (Name → List ℕ) → Name → List Instr
constructor_instrs headers pool constructor class =
    map (indexed_instr pool constructor) (constructor_items headers class)

-- the units of the greatest of fields
abbrev pub greatest_units : List Member → ℕ
greatest_units [] = 0
greatest_units (field ∷ fields) =
    max (units_of (kind_of (type_of field.desc))) (greatest_units fields)

-- for the call of the superclass's constructor: the object, and where that is a field constructor, the fields of the classes above and null
abbrev pub depth_of_call : Headers → Option Name → ℕ
depth_of_call headers None = 0
depth_of_call headers (Some super) =
    if bytes_eq super object then 1
    else 1 + units_of_fields (instance_fields headers super) + 1

-- for the stores: the object and a field
abbrev pub depth_of_stores : List Member → ℕ
depth_of_stores [] = 0
depth_of_stores (field ∷ fields) = 1 + greatest_units (field ∷ fields)

-- The greatest depth of its stack, in units.
abbrev pub constructor_depth : Headers → Name → ℕ
constructor_depth headers class =
    max (depth_of_call headers (superclass_of headers class))
    (depth_of_stores (own_fields headers class))

-- its bytes, one instruction after the other: none of them jumps
abbrev pub bytes_from : ℕ → List Instr → List ℕ
bytes_from at [] = []
bytes_from at (instr ∷ instrs) =
    instr_bytes at instr ++ bytes_from (at + length (instr_bytes at instr)) instrs

-- its Code, in a pool that has its constants
pub record IsConstructorPart (headers : Headers) (constructor : Name → List ℕ) (class : Name)
    (pool : Constants) (part : CodePart)
    : Type 0 where
  pub max_stack : part.max_stack ≡ constructor_depth headers class
  pub max_locals : part.max_locals
      ≡ 1 + units_of_fields (instance_fields headers class) + 1
  pub code : part.code ≡ bytes_from 0 (constructor_instrs headers pool constructor class)
  pub handlers : part.handlers ≡ []
  pub attrs : part.attrs ≡ []

-- ---- the method

-- it is in no source file (JVM Specification SE 8, 4.6)
abbrev pub SYNTHETIC : ℕ
SYNTHETIC = 0x1000

-- The field constructor of a class as a method of its file, in the pool that has its constants: its code is that of its instructions.
pub record IsConstructorMethod (headers : Headers) (constructor : Name → List ℕ) (class : Name)
    (pool : Constants) (method : Method)
    : Type 0 where
  pub flags : method.flags ≡ PUBLIC + SYNTHETIC
  pub name : method.name ≡ text_index pool init
  pub desc : method.desc ≡ text_index pool (constructor class)
  pub part : CodePart
  pub attrs : method.attrs ≡ Code (text_index pool (codes "Code")) part ∷ []
  pub is_part : IsConstructorPart headers constructor class pool part
