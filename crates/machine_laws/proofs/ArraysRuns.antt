use Rattle.std.specs.Prelude.{refl}
use Rattle.class_model.specs.Descriptors as descriptors
use Rattle.machine_laws.specs.ArraysCases.{RunArrays}

pub arrays_run : RunArrays
unfolding descriptors.types_before
arrays_run = record {
  null_array = refl;
  index_outside = refl;
  negative_length = refl;
  too_long = refl;
  negative_count_first = refl;
  one_empty_array = refl;
  three_arrays = refl;
  cast_null = refl;
  cast_fails = refl;
  exit_not_entered = refl;
  throw_null = refl;
  store_other = refl;
  store_outside_first = refl;
  least_by_minus_one = refl;
  shift_by_low_bits = refl;
  clone_of_array = refl;
  narrow_byte = refl;
  narrow_boolean = refl;
  narrow_char = refl;
  narrow_short = refl;
  field_of_null = refl;
  store_into_null = refl;
  length_of_null = refl;
  exit_null = refl;
  clone_null = refl;
  instance_of_also = refl;
  no_instance = refl;
  nine_arrays = refl;
  three_arrays_of_none = refl;
  product_too_long = refl;
}
