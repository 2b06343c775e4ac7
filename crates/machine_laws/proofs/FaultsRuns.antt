use Rattle.std.specs.Prelude.{refl}
use Rattle.class_model.specs.Descriptors as descriptors
use Rattle.machine_laws.specs.FaultsCases.{RunFaults}

pub faults_run : RunFaults
unfolding descriptors.types_before
faults_run = record {
  fault_kind = refl;
  fault_count = refl;
  fault_no_method = refl;
  fault_initialiser = refl;
  fault_unknown = refl;
  fault_outside = refl;
  fault_length = refl;
  fault_no_array = refl;
  fault_handle = refl;
  fault_throw_nothing = refl;
  fault_external = refl;
  array_actions = refl;
  construct_gives = refl;
  running = refl;
  no_steps = refl;
  unknown_argument = refl;
  unknown_get = refl;
  unknown_set = refl;
  unknown_throw = refl;
  receiver_does_not_conform = refl;
  receiver_of_other_kind = refl;
  no_receiver = refl;
  value_too_many = refl;
  element_of_other_kind = refl;
  interface_takes_array = refl;
  interfaces_take_classes = refl;
  interfaces_take_arrays = refl;
  interfaces_take_no_numbers = refl;
  objects_take_classes = refl;
  objects_take_arrays = refl;
  objects_take_no_numbers = refl;
  deep_arrays_take_classes = refl;
  deep_arrays_take_no_numbers = refl;
  null_conforms = refl;
  native_method = refl;
  inherited_method = refl;
  method_of_library = refl;
  class_initialiser = refl;
  abstract_class = refl;
  constructor_of_library = refl;
  return_nothing_pending = refl;
  return_value_pending = refl;
  value_for_nothing = refl;
  nothing_for_value = refl;
  answer_of_other_kind = refl;
  value_for_put = refl;
  nothing_for_get = refl;
  int_for_float = refl;
  throw_on_get = refl;
  throw_on_put = refl;
  throw_on_float = refl;
  throw_of_object = refl;
  set_outside = refl;
  get_below = refl;
  length_of_object = refl;
  get_of_object = refl;
  negative_array = refl;
  array_of_nothing = refl;
  array_of_missing_class = refl;
  interface_made = refl;
  also_a_class = refl;
  no_such_class = refl;
  also_twice = refl;
}
