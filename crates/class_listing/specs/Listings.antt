-- The listing of a class file: its lines in the order of the file (JVM Specification SE 8, 4.1 and 4.4 to 4.7; this project's profile).
-- Constants come first, a member's attributes behind the member, and those of the class behind `tail`.
use Rattle.std.specs.Prelude.{ℕ, suc, List, [], ◌∷◌, ◌++◌, drop, map, Option, None, Some, Result, Ok, Err}
use Rattle.std.specs.List.{flat_map, AllByRecursion}
use Rattle.class_model.specs.Checks.{Fault}
use Rattle.class_model.specs.Instructions.{decoded}
use Rattle.class_model.specs.Pool.{Constants}
use Rattle.class_model.specs.declared.class_file.Attr.{Attr}
use Rattle.class_model.specs.declared.class_file.Attr.TheVariants.{Raw, Code}
use Rattle.class_model.specs.declared.class_file.ClassFile.{ClassFile}
use Rattle.class_model.specs.declared.class_file.CodePart.{CodePart}
use Rattle.class_model.specs.declared.class_file.Field.{Field}
use Rattle.class_model.specs.declared.class_file.Handler.{Handler}
use Rattle.class_model.specs.declared.class_file.InnerAttr.{InnerAttr}
use Rattle.class_model.specs.declared.class_file.Method.{Method}
use Rattle.class_model.specs.declared.instr.Placed.{Placed}
use Rattle.class_model.specs.declared.pool.Const.{Const}
use Rattle.code_bytes.specs.Codes.{HasInstrs}
use Rattle.script_text.specs.PrintedTexts.{Bytes}
use Rattle.class_listing.specs.Lines.{Line, class_line, const_line, interface_line, field_line, method_line, attr_line, code_line, op_line, range_line, inner_line, endcode_line, tail_line, end_line, lines_text}
use Rattle.class_listing.specs.Operations.{operation_at}

-- the line of an index, if a constant is there
abbrev pub entry_lines : ℕ → Option Const → List Line
entry_lines index None = []
entry_lines index (Some constant) = const_line index constant ∷ []

-- a line for each constant, by their indices from one on
abbrev pub const_lines : ℕ → Constants → List Line
const_lines index [] = []
const_lines index (entry ∷ entries) = entry_lines index entry ++ const_lines (suc index) entries

-- ---- code

abbrev pub placed_line : Bytes → Placed → Line
placed_line code placed = op_line placed.at (operation_at placed.at (drop placed.at code))

-- a line for each instruction
abbrev pub placed_lines : Bytes → Result (List Placed) Fault → List Line
placed_lines code (Ok instrs) = map (placed_line code) instrs
placed_lines code (Err fault) = []

abbrev pub handler_line : Handler → Line
handler_line handler = range_line handler.start handler.end handler.at handler.catch_type

abbrev pub inner_attr_line : InnerAttr → Line
inner_attr_line attr = inner_line attr.name attr.bytes

-- the instructions, the exception table and the attributes of a Code attribute
abbrev pub part_lines : CodePart → List Line
part_lines part =
    placed_lines part.code (decoded part.code)
    ++ map handler_line part.handlers
    ++ map inner_attr_line part.attrs

-- ---- attributes and members

abbrev pub attr_lines : Attr → List Line
attr_lines (Raw name bytes) = attr_line name bytes ∷ []
attr_lines (Code name part) =
    code_line name part.max_stack part.max_locals ∷ (part_lines part ++ endcode_line ∷ [])

abbrev pub attrs_lines : List Attr → List Line
attrs_lines attrs = flat_map attr_lines attrs

abbrev pub field_lines : Field → List Line
field_lines field = field_line field.flags field.name field.desc ∷ attrs_lines field.attrs

abbrev pub method_lines : Method → List Line
method_lines method = method_line method.flags method.name method.desc ∷ attrs_lines method.attrs

-- those of the class
abbrev pub tail_lines : List Attr → List Line
tail_lines [] = []
tail_lines (attr ∷ attrs) = tail_line ∷ attrs_lines (attr ∷ attrs)

-- ---- the whole

abbrev pub class_lines : ClassFile → List Line
class_lines class =
    class_line class.major class.minor class.flags class.this_class class.super_class
    ∷ (const_lines 0 class.pool
    ++ map interface_line class.interfaces
    ++ flat_map field_lines class.fields
    ++ flat_map method_lines class.methods
    ++ tail_lines class.attrs
    ++ end_line ∷ [])

abbrev pub listing : ClassFile → Bytes
listing class = lines_text (class_lines class)

-- ---- what has a listing

-- decode accepts the code of each Code attribute of a field or method
abbrev pub FieldCodes : Field → Type 0
FieldCodes field = AllByRecursion HasInstrs field.attrs

abbrev pub MethodCodes : Method → Type 0
MethodCodes method = AllByRecursion HasInstrs method.attrs

-- and of the class file
pub record HasCodes (class : ClassFile) : Type 0 where
  pub fields : AllByRecursion FieldCodes class.fields
  pub methods : AllByRecursion MethodCodes class.methods
  pub attrs : AllByRecursion HasInstrs class.attrs
