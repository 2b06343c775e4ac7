-- The listing as a program writes it: part by part.
use Rattle.std.specs.Prelude.{◌==◌, ℕ, suc, List, [], ◌∷◌, ◌++◌, codes, drop, take, Option, if◌then◌else◌}
use Rattle.std.specs.List.{flat_map}
use Rattle.class_model.specs.Instructions.{pad_of, u1_in}
use Rattle.class_model.specs.Pool.{Constants}
use Rattle.class_model.specs.declared.class_file.Attr.{Attr}
use Rattle.class_model.specs.declared.class_file.Attr.TheVariants.{Raw, Code}
use Rattle.class_model.specs.declared.class_file.ClassFile.{ClassFile}
use Rattle.class_model.specs.declared.class_file.CodePart.{CodePart}
use Rattle.class_model.specs.declared.class_file.Field.{Field}
use Rattle.class_model.specs.declared.class_file.Handler.{Handler}
use Rattle.class_model.specs.declared.class_file.InnerAttr.{InnerAttr}
use Rattle.class_model.specs.declared.class_file.Method.{Method}
use Rattle.class_model.specs.declared.instr.Placed.{Placed}
use Rattle.class_model.specs.declared.opcodes.TheConstants.{WIDE}
use Rattle.class_model.specs.declared.pool.Const.{Const}
use Rattle.script_text.specs.Characters.{line_feed}
use Rattle.script_text.specs.Events.{spaced}
use Rattle.script_text.specs.PrintedTexts.{Bytes}
use Rattle.script_text.specs.Scripts.{Word}
use Rattle.class_listing.specs.Lines.{class_line, interface_line, attr_line, code_line, endcode_line, tail_line, end_line, line_text, lines_text, member_words}
use Rattle.class_listing.specs.Listings.{entry_lines, handler_line, inner_attr_line, placed_lines, placed_line}
use Rattle.class_listing.specs.Mnemonics.{mnemonic}
use Rattle.class_model.specs.Instructions.{decoded}

-- ---- constants and interfaces

abbrev pub entry_text : ℕ → Option Const → Bytes
entry_text index entry = lines_text (entry_lines index entry)

-- from an index on
abbrev pub entries_text : ℕ → Constants → Bytes
entries_text index [] = []
entries_text index (entry ∷ entries) = entry_text index entry ++ entries_text (suc index) entries

abbrev pub interface_text : ℕ → Bytes
interface_text index = line_text (interface_line index)

-- ---- code

-- the mnemonic of the instruction that begins these bytes
abbrev pub name_word : Bytes → Word
name_word bytes =
    if u1_in bytes 0 == WIDE then codes "wide_" ++ mnemonic (u1_in bytes 1)
    else mnemonic (u1_in bytes 0)

-- the pad bytes that a switch at an offset has
abbrev pub pad_in : ℕ → Bytes → Bytes
pad_in at bytes = take (pad_of at) (drop 1 bytes)

abbrev pub placed_text : Bytes → Placed → Bytes
placed_text code placed = line_text (placed_line code placed)

abbrev pub handler_text : Handler → Bytes
handler_text handler = line_text (handler_line handler)

abbrev pub inner_attr_text : InnerAttr → Bytes
inner_attr_text attr = line_text (inner_attr_line attr)

abbrev pub part_text : CodePart → Bytes
part_text part =
    lines_text (placed_lines part.code (decoded part.code))
    ++ flat_map handler_text part.handlers
    ++ flat_map inner_attr_text part.attrs

-- ---- attributes and members

abbrev pub code_text : ℕ → CodePart → Bytes
code_text name part =
    line_text (code_line name part.max_stack part.max_locals)
    ++ part_text part
    ++ line_text endcode_line

abbrev pub attr_text : Attr → Bytes
attr_text (Raw name bytes) = line_text (attr_line name bytes)
attr_text (Code name part) = code_text name part

abbrev pub attrs_text : List Attr → Bytes
attrs_text attrs = flat_map attr_text attrs

-- a field or a method, by the word of its line
abbrev pub member_text : Word → ℕ → ℕ → ℕ → List Attr → Bytes
member_text word flags name desc attrs =
    (word ++ spaced (member_words flags name desc) ++ line_feed ∷ []) ++ attrs_text attrs

abbrev pub field_text : Field → Bytes
field_text field = member_text (codes "field") field.flags field.name field.desc field.attrs

abbrev pub method_text : Method → Bytes
method_text method = member_text (codes "method") method.flags method.name method.desc method.attrs

-- those of the class
abbrev pub tail_text : List Attr → Bytes
tail_text [] = []
tail_text (attr ∷ attrs) = line_text tail_line ++ attrs_text (attr ∷ attrs)

-- ---- the whole

abbrev pub class_text : ClassFile → Bytes
class_text class =
    line_text (class_line class.major class.minor class.flags class.this_class class.super_class)
    ++ entries_text 0 class.pool
    ++ flat_map interface_text class.interfaces
    ++ flat_map field_text class.fields
    ++ flat_map method_text class.methods
    ++ tail_text class.attrs
    ++ line_text end_line
