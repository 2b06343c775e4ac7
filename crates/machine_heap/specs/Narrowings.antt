-- What a field type keeps of a value, as a case that is found once for each field or array (this project's profile).
use Rattle.std.specs.Prelude.{◌%◌, ◌^◌, ℤ, pos}
use Rattle.std.specs.Int.{w8, w16, w32, cast_signed, cast_unsigned}
use Rattle.class_model.specs.declared.descriptor.FieldType.{FieldType}
use Rattle.class_model.specs.declared.descriptor.FieldType.TheVariants as types
use Rattle.machine_values.specs.declared.value.Value.{Value}
use Rattle.machine_values.specs.declared.value.Value.TheVariants.{Int}
use Rattle.machine_heap.specs.declared.values.Narrowing.{Narrowing}
use Rattle.machine_heap.specs.declared.values.Narrowing.TheVariants as narrowings

abbrev pub narrowing_of : FieldType → Narrowing
narrowing_of types.Byte = narrowings.Byte
narrowing_of types.Short = narrowings.Short
narrowing_of types.Char = narrowings.Char
narrowing_of types.Bool = narrowings.Boolean
narrowing_of type = narrowings.Whole

abbrev pub narrowed_int : Narrowing → ℤ → ℤ
narrowed_int narrowings.Byte number = cast_signed w8 (cast_unsigned w32 number % 2 ^ 8)
narrowed_int narrowings.Short number = cast_signed w16 (cast_unsigned w32 number % 2 ^ 16)
narrowed_int narrowings.Char number = pos (cast_unsigned w32 number % 2 ^ 16)
narrowed_int narrowings.Boolean number = pos (cast_unsigned w32 number % 2)
narrowed_int narrowings.Whole number = number

abbrev pub narrowed_by : Narrowing → Value → Value
narrowed_by narrowing (Int number) = Int (narrowed_int narrowing number)
narrowed_by narrowing value = value
