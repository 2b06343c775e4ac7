-- What is asked of a class file value that was made and not read (JVM Specification SE 8, 4.1 to 4.9): its version is one
-- that is read and has the tags of its constants, the Code of its methods is kept as parts, and every check of a class file
-- holds. The places in a check only say where a fault is. Where also its numbers and lists fit their items, its bytes are a
-- class file, and they are read as this value.
use Rattle.std.specs.Prelude.{◌≤◌, ℕ, Option, Some, None, IsTrue, IsFalse}
use Rattle.std.specs.List.{AllByRecursion}
use Rattle.class_model.specs.Checks.{AllHold}
use Rattle.class_model.specs.ClassOf.{IsReadVersion, class_file_checks}
use Rattle.class_model.specs.Members.{is_named}
use Rattle.class_model.specs.Methods.{code}
use Rattle.class_model.specs.Pool.{Constants}
use Rattle.class_model.specs.declared.class_file.Attr.{Attr}
use Rattle.class_model.specs.declared.class_file.Attr.TheVariants.{Raw, Code}
use Rattle.class_model.specs.declared.class_file.ClassFile.{ClassFile}
use Rattle.class_model.specs.declared.class_file.Field.{Field}
use Rattle.class_model.specs.declared.class_file.Method.{Method}
use Rattle.class_model.specs.declared.pool.Const.{Const}
use Rattle.class_model.specs.declared.pool.Const.TheVariants.{MethodHandle, MethodType, InvokeDynamic}

-- ---- tags (4.4)

-- a class file of this major version has the constant's tag
abbrev pub TagStands : ℕ → Option Const → Type 0
TagStands major (Some (MethodHandle kind reference)) = 51 ≤ major
TagStands major (Some (MethodType descriptor)) = 51 ≤ major
TagStands major (Some (InvokeDynamic bootstrap member)) = 51 ≤ major
TagStands major other = Unit {0}

-- those of all constants
abbrev pub TagsStand : ℕ → Constants → Type 0
TagsStand major pool = AllByRecursion (TagStands major) pool

-- ---- which attributes are kept as parts

-- an attribute of a class or a field is kept as its bytes
abbrev pub IsRaw : Attr → Type 0
IsRaw (Raw name bytes) = Unit {0}
IsRaw (Code name part) = ⊥

-- one of a method is kept as parts exactly where it is named Code
abbrev pub IsParted : Constants → Attr → Type 0
IsParted pool (Raw name bytes) = IsFalse (is_named pool code (Raw name bytes))
IsParted pool (Code name part) = IsTrue (is_named pool code (Code name part))

abbrev pub FieldIsRaw : Field → Type 0
FieldIsRaw field = AllByRecursion IsRaw field.attrs

abbrev pub MethodIsParted : Constants → Method → Type 0
MethodIsParted pool method = AllByRecursion (IsParted pool) method.attrs

-- ---- the whole

-- what is asked of the value
pub record IsValue (c : ClassFile) : Type 0 where
  pub version : IsReadVersion (record { minor = c.minor; major = c.major })
  pub tags : TagsStand c.major c.pool
  pub fields : AllByRecursion FieldIsRaw c.fields
  pub methods : AllByRecursion (MethodIsParted c.pool) c.methods
  pub attrs : AllByRecursion IsRaw c.attrs
  pub checks : AllHold (class_file_checks c)
