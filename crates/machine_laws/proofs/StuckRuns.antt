use Rattle.std.specs.Prelude.{refl}
use Rattle.class_model.specs.Descriptors as descriptors
use Rattle.machine_laws.specs.StuckCases.{RunStuck}

pub stuck_run : RunStuck
unfolding descriptors.types_before
stuck_run = record {
  field_of_array = refl;
  field_of_object = refl;
  call_on_array = refl;
  call_on_object = refl;
  empty_stack = refl;
  few_operands = refl;
  local_beyond = refl;
  local_without_value = refl;
  local_of_other_kind = refl;
  store_beyond = refl;
  second_unit_beyond = refl;
  end_of_code = refl;
  jump_beyond = refl;
  meaningless = refl;
  no_member = refl;
  static_call_of_instance_method = refl;
  thrown_array = refl;
  thrown_object = refl;
  length_of_object = refl;
  element_of_other_array = refl;
  half_of_a_long = refl;
  result_of_other_kind = refl;
  field_of_own_handle = refl;
  store_into_own_handle = refl;
  call_on_own_handle = refl;
}
