-- What arithmetic, conversions and comparisons of int and long give, at the ends of their ranges.
use Rattle.std.specs.Prelude.{◌≡◌, ℕ, ℤ, pos, negsuc, List, [], ◌∷◌}
use Rattle.class_model.specs.declared.opcodes.TheConstants.{IADD, LADD, ISUB, LSUB, IMUL, LMUL, IDIV, LDIV, IREM, LREM, INEG, LNEG, ISHL, LSHL, ISHR, LSHR, IUSHR, LUSHR, IAND, LOR, IXOR, I2L, L2I, I2B, I2C, I2S, LCMP}
use Rattle.machine_values.specs.declared.value.Value.{Value}
use Rattle.machine_values.specs.declared.value.Value.TheVariants as values
use Rattle.machine_laws.specs.TestPrograms.{program}
use Rattle.member_link.specs.Machine.Completions.{Completion, gives, raises, ends}
use Rattle.member_link.specs.Machine.Ops as ops
use Rattle.member_link.specs.Machine.Ops.{Op}
use Rattle.member_link.specs.Machine.Throwables.{arithmetic}
use Rattle.member_link.specs.Machine.Work.{work}
use Rattle.member_link.specs.Machine.Worlds.{start, stuck}

-- what an operation comes to with these operands, the topmost last
abbrev pub comes_to : Op → List Value → Completion → Type 0
comes_to op operands completion = work (program []) start.memory op operands ≡ completion

abbrev pub computes : ℕ → List Value → Value → Type 0
computes opcode operands value =
    comes_to (ops.pure_arithmetic opcode) operands (gives start.memory (value ∷ []))

abbrev pub divides : ℕ → List Value → Value → Type 0
divides opcode operands value =
    comes_to (ops.division opcode) operands (gives start.memory (value ∷ []))

abbrev pub least_int : Value
least_int = values.Int (negsuc 2147483647)

abbrev pub greatest_int : Value
greatest_int = values.Int (pos 2147483647)

abbrev pub least_long : Value
least_long = values.Long (negsuc 9223372036854775807)

abbrev pub greatest_long : Value
greatest_long = values.Long (pos 9223372036854775807)

abbrev pub of_int : ℤ → Value
of_int number = values.Int number

abbrev pub of_long : ℤ → Value
of_long number = values.Long number

pub record RunArithmetic : Type 0 where
  -- sums, differences and products wrap around
  pub iadd : computes IADD (greatest_int ∷ of_int (pos 1) ∷ []) least_int
  pub ladd : computes LADD (greatest_long ∷ of_long (pos 1) ∷ []) least_long
  pub isub : computes ISUB (least_int ∷ of_int (pos 1) ∷ []) greatest_int
  pub lsub : computes LSUB (of_long (pos 3) ∷ of_long (pos 5) ∷ []) (of_long (negsuc 1))
  pub imul : computes IMUL (of_int (pos 65536) ∷ of_int (pos 65537) ∷ []) (of_int (pos 65536))
  pub lmul : computes LMUL (of_long (pos 4611686018427387904) ∷ of_long (pos 4) ∷ [])
      (of_long (pos 0))
  pub ineg : computes INEG (least_int ∷ []) least_int
  pub lneg : computes LNEG (least_long ∷ []) least_long
  -- quotients go towards zero, and the least number divided by -1 is itself
  pub idiv : divides IDIV (of_int (negsuc 6) ∷ of_int (pos 2) ∷ []) (of_int (negsuc 2))
  pub ldiv : divides LDIV (least_long ∷ of_long (negsuc 0) ∷ []) least_long
  pub irem : divides IREM (least_int ∷ of_int (negsuc 0) ∷ []) (of_int (pos 0))
  pub lrem : divides LREM (of_long (negsuc 6) ∷ of_long (pos 2) ∷ []) (of_long (negsuc 0))
  pub ldiv_by_zero : comes_to (ops.division LDIV) (of_long (pos 1) ∷ of_long (pos 0) ∷ [])
      (raises arithmetic)
  pub lrem_by_zero : comes_to (ops.division LREM) (of_long (pos 1) ∷ of_long (pos 0) ∷ [])
      (raises arithmetic)
  -- shifts use the low five or six bits
  pub ishl : computes ISHL (of_int (pos 1) ∷ of_int (pos 33) ∷ []) (of_int (pos 2))
  pub ishl_sign : computes ISHL (of_int (pos 1) ∷ of_int (pos 31) ∷ []) least_int
  pub lshl : computes LSHL (of_long (pos 1) ∷ of_int (pos 65) ∷ []) (of_long (pos 2))
  pub lshl_far : computes LSHL (of_long (pos 1) ∷ of_int (pos 32) ∷ []) (of_long (pos 4294967296))
  pub ishr : computes ISHR (of_int (negsuc 7) ∷ of_int (pos 1) ∷ []) (of_int (negsuc 3))
  pub lshr : computes LSHR (least_long ∷ of_int (pos 63) ∷ []) (of_long (negsuc 0))
  pub iushr : computes IUSHR (of_int (negsuc 0) ∷ of_int (negsuc 0) ∷ []) (of_int (pos 1))
  pub lushr : computes LUSHR (of_long (negsuc 0) ∷ of_int (pos 63) ∷ []) (of_long (pos 1))
  pub iand : computes IAND (of_int (negsuc 0) ∷ of_int (pos 6) ∷ []) (of_int (pos 6))
  pub lor : computes LOR (of_long (pos 5) ∷ of_long (pos 6) ∷ []) (of_long (pos 7))
  pub ixor : computes IXOR (of_int (negsuc 0) ∷ of_int (pos 1) ∷ []) (of_int (negsuc 1))
  -- conversions keep low bits, with their sign but for char
  pub i2l : computes I2L (of_int (negsuc 0) ∷ []) (of_long (negsuc 0))
  pub l2i : computes L2I (of_long (pos 4294967301) ∷ []) (of_int (pos 5))
  pub l2i_sign : computes L2I (of_long (pos 2147483648) ∷ []) least_int
  pub i2b : computes I2B (of_int (pos 200) ∷ []) (of_int (negsuc 55))
  pub i2c : computes I2C (of_int (negsuc 0) ∷ []) (of_int (pos 65535))
  pub i2s : computes I2S (of_int (pos 40000) ∷ []) (of_int (negsuc 25535))
  pub less : computes LCMP (least_long ∷ greatest_long ∷ []) (of_int (negsuc 0))
  pub same : computes LCMP (of_long (pos 7) ∷ of_long (pos 7) ∷ []) (of_int (pos 0))
  pub more : computes LCMP (greatest_long ∷ least_long ∷ []) (of_int (pos 1))
  -- operands of other kinds are none
  pub other_kind : comes_to (ops.pure_arithmetic IADD) (of_int (pos 1) ∷ of_long (pos 1) ∷ [])
      (ends stuck)
  pub other_divisor : comes_to (ops.division IDIV) (of_int (pos 1) ∷ of_long (pos 0) ∷ [])
      (ends stuck)
