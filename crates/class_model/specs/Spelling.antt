-- The bytes that spell a class file and its parts (JVM Specification SE 8, 4.1, 4.4 to 4.7). Numbers are
-- big-endian, and a list follows its count. Each is a function of the value.
use Rattle.std.specs.Prelude.{ℕ, List, [], ◌∷◌, ◌++◌, length, Option, Some, None}
use Rattle.std.specs.Int.{w16, w32, w64, to_be_bytes, cast_unsigned}
use Rattle.std.specs.List.{flat_map}
use Rattle.class_model.specs.Pool.{Constants}
use Rattle.class_model.specs.declared.constant_tags.TheConstants.{UTF8_TAG, INTEGER_TAG, FLOAT_TAG, LONG_TAG, DOUBLE_TAG, CLASS_TAG, STRING_TAG, FIELDREF_TAG, METHODREF_TAG, INTERFACE_METHODREF_TAG, NAME_AND_TYPE_TAG, METHOD_HANDLE_TAG, METHOD_TYPE_TAG, INVOKE_DYNAMIC_TAG}
use Rattle.class_model.specs.declared.pool.Const.{Const}
use Rattle.class_model.specs.declared.pool.Const.TheVariants.{Utf8, Integer, Float, Long, Double, Class, String, Fieldref, Methodref, InterfaceMethodref, NameAndType, MethodHandle, MethodType, InvokeDynamic}
use Rattle.class_model.specs.declared.class_file.ClassFile.{ClassFile}
use Rattle.class_model.specs.declared.class_file.Field.{Field}
use Rattle.class_model.specs.declared.class_file.Method.{Method}
use Rattle.class_model.specs.declared.class_file.Attr.{Attr}
use Rattle.class_model.specs.declared.class_file.Attr.TheVariants.{Raw, Code}
use Rattle.class_model.specs.declared.class_file.InnerAttr.{InnerAttr}
use Rattle.class_model.specs.declared.class_file.CodePart.{CodePart}
use Rattle.class_model.specs.declared.class_file.Handler.{Handler}

-- an item of two bytes
abbrev pub u2 : ℕ → List ℕ
u2 number = to_be_bytes w16 number

-- an item of four bytes
abbrev pub u4 : ℕ → List ℕ
u4 number = to_be_bytes w32 number

-- items of two bytes
abbrev pub u2s : List ℕ → List ℕ
u2s numbers = flat_map u2 numbers

-- a constant: its tag, and then its fields (4.4.1 to 4.4.10)
abbrev pub constant_bytes : Const → List ℕ
constant_bytes (Utf8 text) = UTF8_TAG ∷ (u2 (length text) ++ text)
constant_bytes (Integer number) = INTEGER_TAG ∷ u4 (cast_unsigned w32 number)
constant_bytes (Float bits) = FLOAT_TAG ∷ u4 bits
constant_bytes (Long number) = LONG_TAG ∷ to_be_bytes w64 (cast_unsigned w64 number)
constant_bytes (Double bits) = DOUBLE_TAG ∷ to_be_bytes w64 bits
constant_bytes (Class name) = CLASS_TAG ∷ u2 name
constant_bytes (String text) = STRING_TAG ∷ u2 text
constant_bytes (Fieldref class member) = FIELDREF_TAG ∷ (u2 class ++ u2 member)
constant_bytes (Methodref class member) = METHODREF_TAG ∷ (u2 class ++ u2 member)
constant_bytes (InterfaceMethodref class member) = INTERFACE_METHODREF_TAG ∷ (u2 class ++ u2 member)
constant_bytes (NameAndType name descriptor) = NAME_AND_TYPE_TAG ∷ (u2 name ++ u2 descriptor)
constant_bytes (MethodHandle kind reference) = METHOD_HANDLE_TAG ∷ kind ∷ u2 reference
constant_bytes (MethodType descriptor) = METHOD_TYPE_TAG ∷ u2 descriptor
constant_bytes (InvokeDynamic bootstrap member) = INVOKE_DYNAMIC_TAG ∷ (u2 bootstrap ++ u2 member)

-- an index with no constant has no bytes
abbrev pub entry_bytes : Option Const → List ℕ
entry_bytes None = []
entry_bytes (Some constant) = constant_bytes constant

-- the count, which counts index 0 too, and the constants in order of their indices
abbrev pub pool_bytes : Constants → List ℕ
pool_bytes pool = u2 (length pool) ++ flat_map entry_bytes pool

-- an attribute: its name, length and content (4.7)
abbrev pub raw_bytes : ℕ → List ℕ → List ℕ
raw_bytes name content = u2 name ++ (u4 (length content) ++ content)

-- an attribute of a code
abbrev pub inner_bytes : InnerAttr → List ℕ
inner_bytes attr = raw_bytes attr.name attr.bytes

-- an entry of an exception table (4.7.3)
abbrev pub handler_bytes : Handler → List ℕ
handler_bytes handler =
    u2 handler.start ++ (u2 handler.end ++ (u2 handler.at ++ u2 handler.catch_type))

-- the content of a Code attribute (4.7.3)
abbrev pub code_part_bytes : CodePart → List ℕ
code_part_bytes part =
    u2 part.max_stack ++ u2 part.max_locals ++ (u4 (length part.code) ++ part.code)
    ++ (u2 (length part.handlers) ++ flat_map handler_bytes part.handlers)
    ++ (u2 (length part.attrs) ++ flat_map inner_bytes part.attrs)

-- an attribute of a class, a field or a method, and all of one with their count
abbrev pub attr_bytes : Attr → List ℕ
attr_bytes (Raw name bytes) = raw_bytes name bytes
attr_bytes (Code name part) = raw_bytes name (code_part_bytes part)

abbrev pub attrs_bytes : List Attr → List ℕ
attrs_bytes attrs = u2 (length attrs) ++ flat_map attr_bytes attrs

-- a field (4.5)
abbrev pub field_bytes : Field → List ℕ
field_bytes field = u2 field.flags ++ u2 field.name ++ u2 field.desc ++ attrs_bytes field.attrs

-- a method (4.6)
abbrev pub method_bytes : Method → List ℕ
method_bytes method =
    u2 method.flags ++ u2 method.name ++ u2 method.desc ++ attrs_bytes method.attrs

-- the first four bytes of each class file
abbrev pub magic : ℕ
magic = 0xCAFEBABE

-- the class file, first byte to last (4.1)
abbrev pub class_bytes : ClassFile → List ℕ
class_bytes class =
    u4 magic ++ u2 class.minor ++ u2 class.major ++ pool_bytes class.pool
    ++ u2 class.flags ++ u2 class.this_class ++ u2 class.super_class
    ++ (u2 (length class.interfaces) ++ u2s class.interfaces)
    ++ (u2 (length class.fields) ++ flat_map field_bytes class.fields)
    ++ (u2 (length class.methods) ++ flat_map method_bytes class.methods)
    ++ attrs_bytes class.attrs
