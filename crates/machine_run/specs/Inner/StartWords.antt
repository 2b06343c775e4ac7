-- What a static field begins with, field by field.
use Rattle.std.specs.Prelude.{◌≡◌, ℕ, Option, Some, None, slice_get, if◌then◌else◌}
use Rattle.class_model.specs.Descriptors.{type_of}
use Rattle.class_model.specs.Header.{header_of}
use Rattle.class_model.specs.Members.{has, STATIC}
use Rattle.class_model.specs.Pool.{Constants}
use Rattle.class_model.specs.declared.class_file.ClassFile.{ClassFile}
use Rattle.class_model.specs.declared.class_file.Field.{Field}
use Rattle.machine_values.specs.Values.{narrowed}
use Rattle.machine_values.specs.declared.value.Value.{Value}
use Rattle.member_link.specs.Machine.Beginnings.{with_start}
use Rattle.member_link.specs.Machine.Classes.{constant_of, start_of}
use Rattle.member_link.specs.Machine.Programs.{Program, RunClass, StartValue}
use Rattle.member_link.specs.Machine.Worlds.{Memory, field_desc, with_static}

-- the class of a number has the fields of a class file
pub record AreFieldsOf (P : Program) (class : ℕ) (file : ClassFile) : Type 0 where
  pub found : RunClass
  pub at : slice_get P.classes class ≡ Some found
  pub fields : found.header.fields ≡ (header_of file).fields

-- what a field begins with, if it is static and has a ConstantValue
abbrev pub start_if : Constants → Field → Option StartValue
start_if pool field = if has field.flags STATIC then start_of pool (constant_of pool field.attrs) else None

abbrev pub with_start_if : Program → ℕ → Memory → ℕ → Option StartValue → Memory
with_start_if P class memory number None = memory
with_start_if P class memory number (Some value) =
    with_start P class memory (record { field = number; value = value })

-- a field is written with a value, narrowed to its type, if there is one
abbrev pub put_if : Program → ℕ → Memory → ℕ → Option Value → Memory
put_if P class memory number None = memory
put_if P class memory number (Some value) =
    with_static memory class number (narrowed (type_of (field_desc P class number)) value)
