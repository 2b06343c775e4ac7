-- What a class file is (JVM Specification SE 8, 4.1 to 4.9): its bytes are cut into items, its version is in the
-- list, and every check holds. One list of checks says both that all hold and which is the first that fails.
use Rattle.std.specs.Prelude.{◌≡◌, ◌⊎◌, ◌+◌, ◌*◌, ◌<◌, ℕ, List, [], ◌∷◌, ◌++◌, length, map, Option, Some, None, Ok, Err, IsTrue, if◌then◌else◌}
use Rattle.std.specs.List.{flat_map}
use Rattle.class_model.specs.Checks.{Check, check, Fault, AllHold, IsFirstFault, asked_of}
use Rattle.class_model.specs.Cutting.{Rest, Version, uncut, version_at, class_file_at}
use Rattle.class_model.specs.Members.{Signature, fits_class, class_name_checks, super_checks, interfaces_checks, field_checks, attrs_checks, is_named, field_signature}
use Rattle.class_model.specs.Methods.{Home, method_signature, method_checks, class_attr_checks, bootstrap_count, code, code_content, home_of}
use Rattle.class_model.specs.Pool.{Constants}
use Rattle.class_model.specs.PoolChecks.{entries_checks}
use Rattle.class_model.specs.Spelling.{constant_bytes, entry_bytes, field_bytes, method_bytes}
use Rattle.class_model.specs.declared.class_file.Attr.{Attr}
use Rattle.class_model.specs.declared.class_file.Attr.TheVariants.{Raw, Code}
use Rattle.class_model.specs.declared.class_file.ClassFile.{ClassFile}
use Rattle.class_model.specs.declared.class_file.CodePart.{CodePart}
use Rattle.class_model.specs.declared.class_file.Field.{Field}
use Rattle.class_model.specs.declared.class_file.Method.{Method}
use Rattle.class_model.specs.declared.fault.FileRule.TheVariants as rules
use Rattle.class_model.specs.declared.pool.Const.TheVariants.{InvokeDynamic}

-- ---- members, one after the other from a place on

-- fields (4.5), behind those of these names
abbrev pub fields_checks : Constants → ℕ → List Signature → ℕ → List Field → List (Check Fault)
fields_checks pool flags before at [] = []
fields_checks pool flags before at (field ∷ fields) =
    field_checks pool flags before at field
    ++ fields_checks pool flags (before ++ field_signature field ∷ [])
    (at + length (field_bytes field)) fields

-- methods (4.6), behind those of these names
abbrev pub methods_checks : Home → List Signature → ℕ → List Method → List (Check Fault)
methods_checks home before at [] = []
methods_checks home before at (method ∷ methods) =
    method_checks home before at method
    ++ methods_checks home (before ++ method_signature method ∷ [])
    (at + length (method_bytes method)) methods

-- ---- the pool and the bootstrap methods

-- each InvokeDynamic constant names one of so many bootstrap methods (4.4.10)
abbrev pub bootstrap_index_checks : ℕ → ℕ → Constants → List (Check Fault)
bootstrap_index_checks count at [] = []
bootstrap_index_checks count at (None ∷ entries) = bootstrap_index_checks count at entries
bootstrap_index_checks count at (Some (InvokeDynamic bootstrap member) ∷ entries) =
    check at rules.Index (bootstrap < count)
    ∷ bootstrap_index_checks count
    (at + length (constant_bytes (InvokeDynamic bootstrap member))) entries
bootstrap_index_checks count at (Some constant ∷ entries) =
    bootstrap_index_checks count (at + length (constant_bytes constant)) entries

-- ---- the whole

-- What is asked of a class file that was cut out of bytes, in this order: the pool; the head, the fields, the
-- methods and the attributes; the invokedynamic constants.
abbrev pub class_file_checks : ClassFile → List (Check Fault)
class_file_checks c =
    let pool = c.pool in
    let flags = 10 + length (flat_map entry_bytes pool) in
    let fields = flags + 8 + 2 * length c.interfaces in
    let methods = fields + 2 + length (flat_map field_bytes c.fields) in
    let attrs = methods + 2 + length (flat_map method_bytes c.methods) in
    entries_checks c.major pool 10 pool
    ++ (check flags rules.Flags (IsTrue (fits_class c.flags)) ∷ [])
    ++ class_name_checks pool (flags + 2) c.this_class
    ++ super_checks pool (flags + 4) c.super_class
    ++ interfaces_checks pool (flags + 8) c.interfaces
    ++ fields_checks pool c.flags [] (fields + 2) c.fields
    ++ methods_checks (home_of c) [] (methods + 2) c.methods
    ++ attrs_checks (class_attr_checks pool) [] (attrs + 2) c.attrs
    ++ bootstrap_index_checks (bootstrap_count pool c.attrs) 10 pool

-- ---- code is entered

-- an attribute of a method that is named Code has its content cut into parts
abbrev pub entered_attr : Constants → Attr → Attr
entered_attr pool attr =
    if is_named pool code attr then of_content attr (code_content attr) else attr where
      of_content : Attr → Option CodePart → Attr
      of_content (Raw name bytes) (Some part) = Code name part
      of_content attr other = attr

-- a method with its Code cut into parts
abbrev pub entered_method : Constants → Method → Method
entered_method pool method = record method { attrs = map (entered_attr pool) method.attrs }

-- the class file with the Code of its methods cut into parts
abbrev pub entered : ClassFile → ClassFile
entered c = record c { methods = map (entered_method c.pool) c.methods }

-- ---- the versions that are read

-- 50, 51 and 52.0
abbrev pub IsReadVersion : Version → Type 0
IsReadVersion v = (v.major ≡ 50) ⊎ ((v.major ≡ 51) ⊎ ((v.major ≡ 52) × (v.minor ≡ 0)))

-- The bytes are those of this class file.
pub record ClassOf (bytes : List ℕ) (class : ClassFile) : Type 0 where
  pub version : Version
  pub rest : Rest
  pub head : version_at (uncut bytes) ≡ Ok (version, rest)
  pub is_read : IsReadVersion version
  pub cut : ClassFile
  pub is_cut : class_file_at version rest ≡ Ok cut
  pub holds : AllHold (class_file_checks cut)
  pub is : class ≡ entered cut

-- The bytes are of a version that is not read.
pub record IsOtherVersion (bytes : List ℕ) (version : Version) : Type 0 where
  pub rest : Rest
  pub head : version_at (uncut bytes) ≡ Ok (version, rest)
  pub other : ¬ IsReadVersion version

-- what is asked of bytes behind a version that is read
abbrev pub checks_behind : Version → Rest → List (Check Fault)
checks_behind version rest = asked_of (class_file_at version rest) class_file_checks

-- The first fault of bytes: in the magic and version, or of a version that is read and then the first check that
-- fails.
pub data FirstFault (bytes : List ℕ) : Fault → Type 0 where
  in_head : (f : Fault) → version_at (uncut bytes) ≡ Err f → FirstFault bytes f
  behind : (version : Version) (rest : Rest) (f : Fault)
      → version_at (uncut bytes) ≡ Ok (version, rest)
      → IsReadVersion version
      → IsFirstFault (checks_behind version rest) f
      → FirstFault bytes f
