use Rattle.std.specs.Prelude.{refl}
use Rattle.class_model.specs.Descriptors as descriptors
use Rattle.machine_laws.specs.WorkedProgramsCases.{RunWorkedPrograms}

pub worked_programs_run : RunWorkedPrograms
unfolding descriptors.types_before
worked_programs_run = record {
  key_shows = refl;
  j_2 = refl;
  j_1 = refl;
  j_0 = refl;
  l_4 = refl;
  s_holds = refl;
  s_thrown = refl;
  t_0 = refl;
  t_5 = refl;
  byte_field = refl;
  byte_return = refl;
  t_7 = refl;
  f_5 = refl;
  no_actions = refl;
  one_step = refl;
  nothing_to_return = refl;
  c_3 = refl;
  s_5 = refl;
  cycle = refl;
  inner_box = refl;
  array_as_interface = refl;
  not_null = refl;
  null_receiver = refl;
  private_field = refl;
  lambda = refl;
  no_lambda = refl;
}
