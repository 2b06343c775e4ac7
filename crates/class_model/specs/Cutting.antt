-- The bytes of a class file cut into its items, from left to right (JVM Specification SE 8, 4.1, 4.4 to
-- 4.7). Attributes are cut by name, length and content; the inside of Code is cut apart. The first item
-- that needs more bytes than there are is Short at its first byte.
use Rattle.std.specs.Prelude.{◌==◌, ◌&&◌, ◌||◌, ◌+◌, ◌<◌, nat_lt, nat_le, not, ℕ, zero, suc, Bool, List, [], ◌∷◌, ◌++◌, length, take, drop, Option, Some, None, Result, Ok, Err, if◌then◌else◌}
use Rattle.std.specs.List.{AllByRecursion}
use Rattle.std.specs.Int.{Width, w16, w32, w64, byte_len, from_be_bytes, cast_signed}
use Rattle.class_model.specs.Checks.{Fault, fault, ◌>>=◌}
use Rattle.class_model.specs.Pool.{Constants, entries_of}
use Rattle.class_model.specs.Spelling.{magic}
use Rattle.class_model.specs.declared.constant_tags.TheConstants.{UTF8_TAG, INTEGER_TAG, FLOAT_TAG, LONG_TAG, DOUBLE_TAG, CLASS_TAG, STRING_TAG, FIELDREF_TAG, METHODREF_TAG, INTERFACE_METHODREF_TAG, NAME_AND_TYPE_TAG, METHOD_HANDLE_TAG, METHOD_TYPE_TAG, INVOKE_DYNAMIC_TAG}
use Rattle.class_model.specs.declared.fault.FileRule.TheVariants as rules
use Rattle.class_model.specs.declared.pool.Const.{Const}
use Rattle.class_model.specs.declared.pool.Const.TheVariants.{Utf8, Integer, Float, Long, Double, Class, String, Fieldref, Methodref, InterfaceMethodref, NameAndType, MethodHandle, MethodType, InvokeDynamic}
use Rattle.class_model.specs.declared.class_file.ClassFile.{ClassFile}
use Rattle.class_model.specs.declared.class_file.Field.{Field}
use Rattle.class_model.specs.declared.class_file.Method.{Method}
use Rattle.class_model.specs.declared.class_file.Attr.{Attr}
use Rattle.class_model.specs.declared.class_file.Attr.TheVariants.{Raw}

-- The numbers are bytes.
abbrev pub IsBytes : List ℕ → Type 0
IsBytes bytes = AllByRecursion (λ byte. byte < 256) bytes

-- What is left of bytes, and how many came before.
pub record Rest : Type 0 where
  pub at : ℕ
  pub bytes : List ℕ

-- bytes of which nothing is cut
abbrev pub uncut : List ℕ → Rest
uncut bytes = record { at = 0; bytes = bytes }

-- an item and what is left behind it
abbrev pub Cut : Type 0 → Type 0
Cut X = Result (X × Rest) Fault

-- what was cut, if it took all bytes
abbrev pub whole : {X : Type 0} → Cut X → Option X
whole (Ok part) = if length part.1.bytes == 0 then Some part.0 else None
whole (Err f) = None

-- the rest without its first bytes
abbrev pub behind : ℕ → Rest → Rest
behind count rest = record { at = rest.at + count; bytes = drop count rest.bytes }

-- an item of some bytes
abbrev pub bytes_at : ℕ → Rest → Cut (List ℕ)
bytes_at count rest =
    if nat_lt (length rest.bytes) count then Err (fault rest.at rules.Short)
    else Ok (take count rest.bytes, behind count rest)

-- an item that is a number
abbrev pub number_at : Width → Rest → Cut ℕ
number_at w rest = do
  item ← bytes_at (byte_len w) rest
  Ok (from_be_bytes w item.0, item.1)

-- an item of one byte, of two, and of four
abbrev pub u1_at : Rest → Cut ℕ
u1_at rest = do
  item ← bytes_at 1 rest
  Ok (from_be_bytes w16 (0 ∷ item.0), item.1)

abbrev pub u2_at : Rest → Cut ℕ
u2_at rest = number_at w16 rest

abbrev pub u4_at : Rest → Cut ℕ
u4_at rest = number_at w32 rest

-- two numbers of two bytes
abbrev pub u2_pair_at : Rest → Cut (ℕ × ℕ)
u2_pair_at rest = do
  first ← u2_at rest
  second ← u2_at first.1
  Ok ((first.0, second.0), second.1)

-- so many parts, one after the other
unfoldable pub many_at : {X : Type 0} → (Rest → Cut X) → ℕ → Rest → Cut (List X)
many_at part zero rest = Ok ([], rest)
many_at part (suc count) rest = do
  first ← part rest
  others ← many_at part count first.1
  Ok (first.0 ∷ others.0, others.1)

-- a count of two bytes, and so many parts
abbrev pub counted_at : {X : Type 0} → (Rest → Cut X) → Rest → Cut (List X)
counted_at part rest = do
  count ← u2_at rest
  many_at part count.0 count.1

-- ---- the constant pool

-- A tag is known, and method handles, method types and invokedynamic stand from version 51 on.
abbrev pub is_tag : ℕ → ℕ → Bool
is_tag major tag =
    (tag == UTF8_TAG)
    || (nat_le INTEGER_TAG tag && nat_le tag NAME_AND_TYPE_TAG)
    || (nat_le 51 major
    && ((tag == METHOD_HANDLE_TAG) || (tag == METHOD_TYPE_TAG) || (tag == INVOKE_DYNAMIC_TAG)))

-- A tag is known, and that of a long or double is not at the last index.
abbrev pub may_stand : ℕ → ℕ → ℕ → ℕ → Bool
may_stand major index count tag =
    is_tag major tag && not (((tag == LONG_TAG) || (tag == DOUBLE_TAG)) && (index + 1 == count))

-- a constant of a known tag, from behind the tag
unfoldable pub fields_at : ℕ → Rest → Cut Const
fields_at tag rest =
    if tag == UTF8_TAG then
    (u2_at rest >>= λ len. bytes_at len.0 len.1 >>= λ text. Ok (Utf8 text.0, text.1))
    else (if tag == INTEGER_TAG then (u4_at rest >>= λ n. Ok (Integer (cast_signed w32 n.0), n.1))
    else (if tag == FLOAT_TAG then (u4_at rest >>= λ n. Ok (Float n.0, n.1))
    else (if tag == LONG_TAG then (number_at w64 rest >>= λ n. Ok (Long (cast_signed w64 n.0), n.1))
    else (if tag == DOUBLE_TAG then (number_at w64 rest >>= λ n. Ok (Double n.0, n.1))
    else (if tag == CLASS_TAG then (u2_at rest >>= λ n. Ok (Class n.0, n.1))
    else (if tag == STRING_TAG then (u2_at rest >>= λ n. Ok (String n.0, n.1))
    else (if tag == FIELDREF_TAG then (u2_pair_at rest >>= λ n. Ok (Fieldref n.0.0 n.0.1, n.1))
    else (if tag == METHODREF_TAG then (u2_pair_at rest >>= λ n. Ok (Methodref n.0.0 n.0.1, n.1))
    else (if tag == INTERFACE_METHODREF_TAG then
    (u2_pair_at rest >>= λ n. Ok (InterfaceMethodref n.0.0 n.0.1, n.1))
    else (if tag == NAME_AND_TYPE_TAG then
    (u2_pair_at rest >>= λ n. Ok (NameAndType n.0.0 n.0.1, n.1))
    else (if tag == METHOD_HANDLE_TAG then
    (u1_at rest >>= λ k. u2_at k.1 >>= λ n. Ok (MethodHandle k.0 n.0, n.1))
    else (if tag == METHOD_TYPE_TAG then (u2_at rest >>= λ n. Ok (MethodType n.0, n.1))
    else (u2_pair_at rest >>= λ n. Ok (InvokeDynamic n.0.0 n.0.1, n.1))))))))))))))

-- The constants of the indices from one on up to the count. A long or double takes two, and does not
-- stand at the last. The first number bounds the indices that are left.
unfoldable pub entries_at : ℕ → ℕ → ℕ → ℕ → Rest → Cut Constants
entries_at zero major index count rest = Ok ([], rest)
entries_at (suc left) major index count rest =
    if nat_le count index then Ok ([], rest) else (do
      tag ← u1_at rest
      known ← if may_stand major index count tag.0 then Ok tag.1 else Err (fault rest.at rules.Tag)
      constant ← fields_at tag.0 known
      others ← entries_at left major (index + length (entries_of constant.0)) count constant.1
      Ok (entries_of constant.0 ++ others.0, others.1))

-- the pool of a class file of this major version, from its count on
abbrev pub pool_at : ℕ → Rest → Cut Constants
pool_at major rest = do
  count ← u2_at rest
  some ← if count.0 == 0 then Err (fault rest.at rules.Tag) else Ok count.1
  entries ← entries_at count.0 major 1 count.0 some
  Ok (None ∷ entries.0, entries.1)

-- ---- members and attributes

-- an attribute, by its name, length and content (4.7)
abbrev pub attr_at : Rest → Cut Attr
attr_at rest = do
  name ← u2_at rest
  len ← u4_at name.1
  content ← bytes_at len.0 len.1
  Ok (Raw name.0 content.0, content.1)

-- a field (4.5), and a method (4.6)
abbrev pub field_at : Rest → Cut Field
field_at rest = do
  flags ← u2_at rest
  name ← u2_at flags.1
  desc ← u2_at name.1
  attrs ← counted_at attr_at desc.1
  Ok (record { flags = flags.0; name = name.0; desc = desc.0; attrs = attrs.0 }, attrs.1)

abbrev pub method_at : Rest → Cut Method
method_at rest = do
  flags ← u2_at rest
  name ← u2_at flags.1
  desc ← u2_at name.1
  attrs ← counted_at attr_at desc.1
  Ok (record { flags = flags.0; name = name.0; desc = desc.0; attrs = attrs.0 }, attrs.1)

-- ---- the class file

-- the numbers behind the magic
pub record Version : Type 0 where
  pub minor : ℕ
  pub major : ℕ

-- the magic and the version
abbrev pub version_at : Rest → Cut Version
version_at rest = do
  first ← u4_at rest
  magical ← if first.0 == magic then Ok first.1 else Err (fault 0 rules.Magic)
  minor ← u2_at magical
  major ← u2_at minor.1
  Ok (record { minor = minor.0; major = major.0 }, major.1)

-- the class file from behind its pool to its last byte; its attributes are not looked into
abbrev pub body_at : Version → Constants → Rest → Result ClassFile Fault
body_at version pool rest = do
  flags ← u2_at rest
  this ← u2_at flags.1
  super ← u2_at this.1
  interfaces ← counted_at u2_at super.1
  fields ← counted_at field_at interfaces.1
  methods ← counted_at method_at fields.1
  attrs ← counted_at attr_at methods.1
  if length attrs.1.bytes == 0 then Ok (record {
    major = version.major;
    minor = version.minor;
    pool = pool;
    flags = flags.0;
    this_class = this.0;
    super_class = super.0;
    interfaces = interfaces.0;
    fields = fields.0;
    methods = methods.0;
    attrs = attrs.0;
  }) else Err (fault attrs.1.at rules.Extra)

-- the class file from behind its version to its last byte
abbrev pub class_file_at : Version → Rest → Result ClassFile Fault
class_file_at version rest = do
  pool ← pool_at version.major rest
  body_at version pool.0 pool.1
