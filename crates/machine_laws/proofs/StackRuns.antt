-- The cases compute.
use Rattle.std.proofs.Common.{refl}
use Rattle.machine_laws.specs.StackCases.{MoveEntries, TakeJumps}

pub entries_move : MoveEntries
entries_move = record {
  pop = refl;
  pop2 = refl;
  pop2_long = refl;
  dup = refl;
  dup_x1 = refl;
  dup_x2 = refl;
  dup_x2_long = refl;
  dup2 = refl;
  dup2_long = refl;
  dup2_x1 = refl;
  dup2_x1_long = refl;
  dup2_x2 = refl;
  dup2_x2_long = refl;
  dup2_x2_over_long = refl;
  dup2_x2_longs = refl;
  swap = refl;
  pop_of_long = refl;
  pop2_of_half = refl;
  dup_of_long = refl;
  dup_x1_of_long = refl;
  dup_x1_over_long = refl;
  dup_x2_over_half = refl;
  dup2_of_half = refl;
  dup2_x1_over_long = refl;
  dup2_x2_over_half = refl;
  swap_of_long = refl;
  swap_of_one = refl;
}

pub jumps_are_taken : TakeJumps
jumps_are_taken = record {
  ifeq_negative = refl;
  ifeq_zero = refl;
  ifeq_positive = refl;
  ifne_negative = refl;
  ifne_zero = refl;
  ifne_positive = refl;
  iflt_negative = refl;
  iflt_zero = refl;
  iflt_positive = refl;
  ifge_negative = refl;
  ifge_zero = refl;
  ifge_positive = refl;
  ifgt_negative = refl;
  ifgt_zero = refl;
  ifgt_positive = refl;
  ifle_negative = refl;
  ifle_zero = refl;
  ifle_positive = refl;
  if_icmpeq_less = refl;
  if_icmpeq_same = refl;
  if_icmpeq_more = refl;
  if_icmpne_less = refl;
  if_icmpne_same = refl;
  if_icmpne_more = refl;
  if_icmplt_less = refl;
  if_icmplt_same = refl;
  if_icmplt_more = refl;
  if_icmpge_less = refl;
  if_icmpge_same = refl;
  if_icmpge_more = refl;
  if_icmpgt_less = refl;
  if_icmpgt_same = refl;
  if_icmpgt_more = refl;
  if_icmple_less = refl;
  if_icmple_same = refl;
  if_icmple_more = refl;
  if_acmpeq_null = refl;
  if_acmpeq_null_and_one = refl;
  if_acmpeq_one_and_null = refl;
  if_acmpeq_one = refl;
  if_acmpeq_two = refl;
  if_acmpne_null = refl;
  if_acmpne_null_and_one = refl;
  if_acmpne_one_and_null = refl;
  if_acmpne_one = refl;
  if_acmpne_two = refl;
  ifnull_null = refl;
  ifnull_one = refl;
  ifnonnull_null = refl;
  ifnonnull_one = refl;
}
