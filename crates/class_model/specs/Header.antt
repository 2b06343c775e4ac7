-- The header of a library's class file: what is kept of it, with lighter checks (JVM Specification SE 8, 4.1 to 4.6).
-- Attributes are skipped by their length. Of the pool its texts alone are asked, and of the rest the names,
-- descriptors and indices of the head and of the members.
use Rattle.std.specs.Prelude.{◌≡◌, ◌⊎◌, ◌+◌, ◌*◌, ◌≤◌, ℕ, List, [], ◌∷◌, ◌++◌, length, map, Some, None, Ok, Err, IfSome, IsSome}
use Rattle.std.specs.List.{flat_map}
use Rattle.class_model.specs.Checks.{Check, Fault, check, AllHold, IsFirstFault, asked_of}
use Rattle.class_model.specs.Cutting.{Rest, Version, uncut, version_at, class_file_at}
use Rattle.class_model.specs.Members.{class_name_checks, super_checks, interfaces_checks}
use Rattle.class_model.specs.Methods.{IsDescriptorOf}
use Rattle.class_model.specs.ModifiedUtf8.{IsModifiedUtf8}
use Rattle.class_model.specs.Names.{IsMethodName, IsFieldName}
use Rattle.class_model.specs.Pool.{Constants}
use Rattle.class_model.specs.PoolChecks.{utf8_at, class_at, text_or_empty, IsFieldDescriptor, InitIsVoid}
use Rattle.class_model.specs.Spelling.{constant_bytes, entry_bytes, field_bytes, method_bytes}
use Rattle.class_model.specs.declared.class_file.ClassFile.{ClassFile}
use Rattle.class_model.specs.declared.class_file.Field.{Field}
use Rattle.class_model.specs.declared.class_file.Method.{Method}
use Rattle.class_model.specs.declared.fault.FileRule.TheVariants as rules
use Rattle.class_model.specs.declared.header.Header.{Header}
use Rattle.class_model.specs.declared.header.Member.{Member}
use Rattle.class_model.specs.declared.pool.Const.TheVariants.{Utf8}

-- the texts of a pool, from the place of its first entry on
abbrev pub texts_checks : ℕ → Constants → List (Check Fault)
texts_checks at [] = []
texts_checks at (None ∷ entries) = texts_checks at entries
texts_checks at (Some (Utf8 text) ∷ entries) =
    check at rules.Text (IsModifiedUtf8 text)
    ∷ texts_checks (at + length (constant_bytes (Utf8 text))) entries
texts_checks at (Some constant ∷ entries) =
    texts_checks (at + length (constant_bytes constant)) entries

-- the name and the descriptor of a field
abbrev pub field_name_checks : Constants → ℕ → List Field → List (Check Fault)
field_name_checks pool at [] = []
field_name_checks pool at (field ∷ fields) =
    check (at + 2) rules.Index (IsSome (utf8_at pool field.name))
    ∷ check (at + 2) rules.Name (IfSome (utf8_at pool field.name) IsFieldName)
    ∷ check (at + 4) rules.Index (IsSome (utf8_at pool field.desc))
    ∷ check (at + 4) rules.Descriptor (IfSome (utf8_at pool field.desc) IsFieldDescriptor)
    ∷ field_name_checks pool (at + length (field_bytes field)) fields

-- the name and the descriptor of a method
abbrev pub method_name_checks : Constants → ℕ → List Method → List (Check Fault)
method_name_checks pool at [] = []
method_name_checks pool at (method ∷ methods) =
    check (at + 2) rules.Index (IsSome (utf8_at pool method.name))
    ∷ check (at + 2) rules.Name (IfSome (utf8_at pool method.name)
    (λ name. IsMethodName name × InitIsVoid name (utf8_at pool method.desc)))
    ∷ check (at + 4) rules.Index (IsSome (utf8_at pool method.desc))
    ∷ check (at + 4) rules.Descriptor
    (IfSome (utf8_at pool method.desc) (IsDescriptorOf method.flags))
    ∷ method_name_checks pool (at + length (method_bytes method)) methods

-- what is asked of a library's class file that was cut out of bytes
abbrev pub header_checks : ClassFile → List (Check Fault)
header_checks c =
    let pool = c.pool in
    let flags = 10 + length (flat_map entry_bytes pool) in
    let fields = flags + 8 + 2 * length c.interfaces in
    let methods = fields + 2 + length (flat_map field_bytes c.fields) in
    texts_checks 10 pool
    ++ class_name_checks pool (flags + 2) c.this_class
    ++ super_checks pool (flags + 4) c.super_class
    ++ interfaces_checks pool (flags + 8) c.interfaces
    ++ field_name_checks pool (fields + 2) c.fields
    ++ method_name_checks pool (methods + 2) c.methods

-- ---- what is kept

-- a field, and a method, by its name and descriptor
abbrev pub field_member : Constants → Field → Member
field_member pool field = record {
  flags = field.flags;
  name = text_or_empty (utf8_at pool field.name);
  desc = text_or_empty (utf8_at pool field.desc);
}

abbrev pub method_member : Constants → Method → Member
method_member pool method = record {
  flags = method.flags;
  name = text_or_empty (utf8_at pool method.name);
  desc = text_or_empty (utf8_at pool method.desc);
}

-- the header of a class file
abbrev pub header_of : ClassFile → Header
header_of c = record {
  name = text_or_empty (class_at c.pool c.this_class);
  flags = c.flags;
  super_name = class_at c.pool c.super_class;
  interfaces = map (λ index. text_or_empty (class_at c.pool index)) c.interfaces;
  fields = map (field_member c.pool) c.fields;
  methods = map (method_member c.pool) c.methods;
}

-- ---- the versions that are read: 45 to 51, and 52.0
abbrev pub IsLibraryVersion : Version → Type 0
IsLibraryVersion v = ((45 ≤ v.major) × (v.major ≤ 51)) ⊎ ((v.major ≡ 52) × (v.minor ≡ 0))

-- The bytes are those of a class file with this header.
pub record HeaderOf (bytes : List ℕ) (header : Header) : Type 0 where
  pub version : Version
  pub rest : Rest
  pub head : version_at (uncut bytes) ≡ Ok (version, rest)
  pub is_read : IsLibraryVersion version
  pub cut : ClassFile
  pub is_cut : class_file_at version rest ≡ Ok cut
  pub holds : AllHold (header_checks cut)
  pub is : header ≡ header_of cut

-- what is asked of the bytes behind a version that is read
abbrev pub library_file_checks : Version → Rest → List (Check Fault)
library_file_checks version rest = asked_of (class_file_at version rest) header_checks

-- The first fault of the bytes of a library's class file: in the magic and version, or of a version that is read and then
-- the first check of a header that fails.
pub data FirstHeaderFault (bytes : List ℕ) : Fault → Type 0 where
  in_head : (f : Fault) → version_at (uncut bytes) ≡ Err f → FirstHeaderFault bytes f
  behind : (version : Version) (rest : Rest) (f : Fault)
      → version_at (uncut bytes) ≡ Ok (version, rest)
      → IsLibraryVersion version
      → IsFirstFault (library_file_checks version rest) f
      → FirstHeaderFault bytes f

-- the bytes are of a version that is not read of a library
pub record IsNoLibraryVersion (bytes : List ℕ) (version : Version) : Type 0 where
  pub rest : Rest
  pub head : version_at (uncut bytes) ≡ Ok (version, rest)
  pub other : ¬ IsLibraryVersion version
