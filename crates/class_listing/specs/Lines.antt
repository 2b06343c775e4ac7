-- The lines of a listing: a form a row, by its words (this project's profile). Names in lower case are written as they stand, numbers in
-- decimal, flags and the bits of floats and doubles in hexadecimal digits.
use Rattle.std.specs.Prelude.{ℕ, List, [], ◌∷◌, ◌++◌, codes, decimal}
use Rattle.std.specs.Fmt.{signed_decimal}
use Rattle.std.specs.Int.{w64, to_be_bytes}
use Rattle.std.specs.List.{flat_map}
use Rattle.class_model.specs.Spelling.{u2, u4}
use Rattle.class_model.specs.declared.pool.Const.{Const}
use Rattle.class_model.specs.declared.pool.Const.TheVariants.{Utf8, Integer, Float, Long, Double, Class, String, Fieldref, Methodref, InterfaceMethodref, NameAndType, MethodHandle, MethodType, InvokeDynamic}
use Rattle.script_text.specs.Characters.{line_feed}
use Rattle.script_text.specs.Events.{spaced}
use Rattle.script_text.specs.PrintedTexts.{Bytes, printed_text}
use Rattle.script_text.specs.Scripts.{Word}
use Rattle.class_listing.specs.Operations.{Operation, operation_words, hex_digits, hex_word}

pub data Line : Type 0 where
  -- the major and minor version, the access flags, and the indices of the class and of its superclass
  class_line : ℕ → ℕ → ℕ → ℕ → ℕ → Line
  -- an index and its constant
  const_line : ℕ → Const → Line
  interface_line : ℕ → Line
  -- access flags, and the indices of name and descriptor
  field_line : ℕ → ℕ → ℕ → Line
  method_line : ℕ → ℕ → ℕ → Line
  -- the index of the name of an attribute, and its content
  attr_line : ℕ → Bytes → Line
  -- the index of the name of a Code attribute, its max_stack and max_locals
  code_line : ℕ → ℕ → ℕ → Line
  -- an offset and its instruction
  op_line : ℕ → Operation → Line
  -- an entry of an exception table: start, end, handler and caught type
  range_line : ℕ → ℕ → ℕ → ℕ → Line
  -- an attribute of a Code attribute
  inner_line : ℕ → Bytes → Line
  endcode_line : Line
  -- before the attributes of the class, if it has any
  tail_line : Line
  end_line : Line

-- access flags by their two bytes
abbrev pub flags_word : ℕ → Word
flags_word flags = codes "flags=" ++ hex_digits (u2 flags)

-- what is listed of a field or a method
abbrev pub member_words : ℕ → ℕ → ℕ → List Word
member_words flags name desc =
    flags_word flags ∷ (codes "name=" ++ decimal name) ∷ (codes "desc=" ++ decimal desc) ∷ []

-- the name of the constant's form and its fields in order
abbrev pub constant_words : Const → List Word
constant_words (Utf8 text) = codes "Utf8" ∷ printed_text text ∷ []
constant_words (Integer number) = codes "Integer" ∷ signed_decimal number ∷ []
constant_words (Float bits) = codes "Float" ∷ hex_digits (u4 bits) ∷ []
constant_words (Long number) = codes "Long" ∷ signed_decimal number ∷ []
constant_words (Double bits) = codes "Double" ∷ hex_digits (to_be_bytes w64 bits) ∷ []
constant_words (Class name) = codes "Class" ∷ decimal name ∷ []
constant_words (String text) = codes "String" ∷ decimal text ∷ []
constant_words (Fieldref class member) = codes "Fieldref" ∷ decimal class ∷ decimal member ∷ []
constant_words (Methodref class member) = codes "Methodref" ∷ decimal class ∷ decimal member ∷ []
constant_words (InterfaceMethodref class member) =
    codes "InterfaceMethodref" ∷ decimal class ∷ decimal member ∷ []
constant_words (NameAndType name descriptor) =
    codes "NameAndType" ∷ decimal name ∷ decimal descriptor ∷ []
constant_words (MethodHandle kind reference) =
    codes "MethodHandle" ∷ decimal kind ∷ decimal reference ∷ []
constant_words (MethodType descriptor) = codes "MethodType" ∷ decimal descriptor ∷ []
constant_words (InvokeDynamic bootstrap member) =
    codes "InvokeDynamic" ∷ decimal bootstrap ∷ decimal member ∷ []

abbrev pub line_words : Line → List Word
line_words (class_line major minor flags this super) =
    codes "class" ∷ (decimal major ++ codes "." ++ decimal minor) ∷ flags_word flags
    ∷ (codes "this=" ++ decimal this) ∷ (codes "super=" ++ decimal super) ∷ []
line_words (const_line index constant) = codes "const" ∷ decimal index ∷ constant_words constant
line_words (interface_line index) = codes "interface" ∷ decimal index ∷ []
line_words (field_line flags name desc) = codes "field" ∷ member_words flags name desc
line_words (method_line flags name desc) = codes "method" ∷ member_words flags name desc
line_words (attr_line name bytes) = codes "attr" ∷ decimal name ∷ hex_word bytes ∷ []
line_words (code_line name stack locals) =
    codes "code" ∷ decimal name ∷ (codes "stack=" ++ decimal stack)
    ∷ (codes "locals=" ++ decimal locals) ∷ []
line_words (op_line at operation) = codes "op" ∷ decimal at ∷ operation_words operation
line_words (range_line start end at type) =
    codes "range" ∷ decimal start ∷ decimal end ∷ decimal at ∷ decimal type ∷ []
line_words (inner_line name bytes) = codes "inner" ∷ decimal name ∷ hex_word bytes ∷ []
line_words endcode_line = codes "endcode" ∷ []
line_words tail_line = codes "tail" ∷ []
line_words end_line = codes "end" ∷ []

-- words with a space between them
abbrev pub words_text : List Word → Bytes
words_text [] = []
words_text (first ∷ others) = first ++ spaced others

abbrev pub line_text : Line → Bytes
line_text line = words_text (line_words line) ++ line_feed ∷ []

abbrev pub lines_text : List Line → Bytes
lines_text lines = flat_map line_text lines
