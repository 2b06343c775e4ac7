use Rattle.std.specs.Prelude.{refl}
use Rattle.machine_laws.specs.ArithmeticCases.{RunArithmetic}

pub arithmetic_run : RunArithmetic
arithmetic_run = record {
  iadd = refl;
  ladd = refl;
  isub = refl;
  lsub = refl;
  imul = refl;
  lmul = refl;
  ineg = refl;
  lneg = refl;
  idiv = refl;
  ldiv = refl;
  irem = refl;
  lrem = refl;
  ldiv_by_zero = refl;
  lrem_by_zero = refl;
  ishl = refl;
  ishl_sign = refl;
  lshl = refl;
  lshl_far = refl;
  ishr = refl;
  lshr = refl;
  iushr = refl;
  lushr = refl;
  iand = refl;
  lor = refl;
  ixor = refl;
  i2l = refl;
  l2i = refl;
  l2i_sign = refl;
  i2b = refl;
  i2c = refl;
  i2s = refl;
  less = refl;
  same = refl;
  more = refl;
  other_kind = refl;
  other_divisor = refl;
}
