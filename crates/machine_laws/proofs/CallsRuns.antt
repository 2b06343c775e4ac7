use Rattle.std.specs.Prelude.{refl}
use Rattle.class_model.specs.Descriptors as descriptors
use Rattle.machine_laws.specs.CallsCases.{RunCalls}

pub calls_run : RunCalls
unfolding descriptors.types_before
calls_run = record {
  abstract_choice = refl;
  several_choices = refl;
  choice_not_public = refl;
  choice_not_public_there = refl;
  not_implemented = refl;
  implemented = refl;
  null_receiver = refl;
  super_runs_method_above = refl;
  super_of_super = refl;
  super_by_class_above = refl;
  superclass_named = refl;
  class_above_named = refl;
  own_class_named = refl;
  interface_named = refl;
  virtual_invoke = refl;
  special_invoke = refl;
  static_invoke = refl;
  abstract_initialiser = refl;
  table_low = refl;
  table_high = refl;
  table_below = refl;
  table_above = refl;
  lookup_negative = refl;
  lookup_far = refl;
  lookup_other = refl;
  put_of_library = refl;
  native_synchronized = refl;
  initialiser_synchronized = refl;
  interface_first = refl;
  waits = refl;
}
