-- What narrows a value to a field's type in the second run: quiet turns.
use Rattle.std.proofs.Common.{◌≡◌, ◌+◌, ◌%◌, nat_le, ℕ, suc, ℤ, pos, true, List, [], ◌∷◌, length, slice_get, Some, option_and_then, refl, sym, ap, subst, ◌∙◌, arith}
use Rattle.std.specs.Int.{w32, cast_unsigned, int_bit_and}
use Rattle.std.proofs.lemmas.Bool.{false≢true, le-leb}
use Rattle.class_model.specs.Descriptors.{kind_of}
use Rattle.class_model.specs.declared.descriptor.FieldType.{FieldType}
use Rattle.class_model.specs.declared.descriptor.FieldType.TheVariants as types
use Rattle.class_model.specs.declared.opcodes.TheConstants.{I2B, I2C, I2S, IAND}
use Rattle.machine_values.specs.Frames.{MethodState}
use Rattle.machine_values.specs.Values.{has_kind, narrowed}
use Rattle.machine_values.specs.declared.frame.RunFrame.{RunFrame}
use Rattle.machine_values.specs.declared.frame.RunFrame.TheVariants.{Method}
use Rattle.machine_values.specs.declared.value.Value.{Value}
use Rattle.machine_values.specs.declared.value.Value.TheVariants.{Int}
use Rattle.member_link.specs.Machine.Completions.{gives}
use Rattle.member_link.specs.Machine.Ops.{Op, pure_arithmetic, push_value}
use Rattle.member_link.specs.Machine.Performing.{resumed}
use Rattle.member_link.specs.Machine.Programs.{Code, Point as RunPoint, Program, code_at}
use Rattle.member_link.specs.Machine.Runs.{Run}
use Rattle.member_link.specs.Machine.Work.{arity, work}
use Rattle.member_link.specs.Machine.Worlds.{Memory, going}
use Rattle.same_runs.specs.Laws.CaughtUp.{less, operands_of}
use Rattle.same_runs.specs.Laws.Operations.{WorksOnOperands}
use Rattle.same_runs.specs.Laws.QuietBeginnings.{quietly_then, standing}
use Rattle.same_runs.specs.Laws.QuietCalls.{quiet_gives}
use Rattle.same_runs.specs.Simulations.{Quietly, at_once}
use Rattle.written_runs.specs.Laws.Templates.Items.{OpsThere}

-- the operations that narrow
abbrev pub narrowing_ops : FieldType → List Op
narrowing_ops types.Byte = pure_arithmetic I2B ∷ []
narrowing_ops types.Short = pure_arithmetic I2S ∷ []
narrowing_ops types.Char = pure_arithmetic I2C ∷ []
narrowing_ops types.Bool = push_value (Int (pos 1)) ∷ pure_arithmetic IAND ∷ []
narrowing_ops other = []

pub kind_narrowed : (type : FieldType) (value : Value) → has_kind (kind_of type) value ≡ true → has_kind (kind_of type) (narrowed type value) ≡ true
kind_narrowed types.Byte (Int number) fits = refl
kind_narrowed types.Short (Int number) fits = refl
kind_narrowed types.Char (Int number) fits = refl
kind_narrowed types.Bool (Int number) fits = refl
kind_narrowed type value fits = fits

module _ {Q : Program} (r : Run) (others : List RunFrame) (memory : Memory) (goes : r.world.halt ≡ going) (code : Code) where
  -- an operation of the code that gives values
  pub quiet_op : (g : MethodState) (steps : ℕ) (op : Op) (values : List Value)
      → code_at Q g.at ≡ Some code
      → (point : RunPoint) × (slice_get code.points g.place ≡ Some point) × (point.op ≡ op)
      → WorksOnOperands op
      → nat_le (arity op) (length g.stack) ≡ true
      → work Q memory op (operands_of (arity op) g) ≡ gives memory values
      → Quietly Q (standing r (Method g ∷ others) memory steps)
      (standing r (Method (resumed (less (arity op) g) values) ∷ others) memory (steps + 1))
  quiet_op g steps op values is_code found works enough given =
      subst (λ (o : Op). Quietly Q (standing r (Method g ∷ others) memory steps)
      (standing r (Method (resumed (less (arity o) g) values) ∷ others) memory (steps + 1))) found.2
      (quiet_gives r g memory memory steps found.0 values goes
      (ap (option_and_then (λ (c : Code). slice_get c.points g.place)) is_code ∙ found.1) (subst WorksOnOperands (sym found.2) works)
      (ap (λ (o : Op). nat_le (arity o) (length g.stack)) found.2 ∙ enough)
      (ap (λ (o : Op). work Q memory o (operands_of (arity o) g)) found.2 ∙ given))

  -- an int on top becomes another one
  pub quiet_int : (g : MethodState) (steps opcode : ℕ) (number : ℤ) (after : Value) (rest : List Value)
      → arity (pure_arithmetic opcode) ≡ 1
      → code_at Q g.at ≡ Some code
      → OpsThere code g.place (pure_arithmetic opcode ∷ [])
      → work Q memory (pure_arithmetic opcode) (Int number ∷ []) ≡ gives memory (after ∷ [])
      → Quietly Q (standing r (Method (record g { stack = Int number ∷ rest }) ∷ others) memory steps)
      (standing r (Method (record g { place = g.place + 1; stack = after ∷ rest }) ∷ others) memory (steps + 1))
  quiet_int g steps opcode number after rest one is_code there given =
      subst (λ (n : ℕ). Quietly Q (standing r (Method (record g { stack = Int number ∷ rest }) ∷ others) memory steps)
      (standing r (Method (resumed (less n (record g { stack = Int number ∷ rest })) (after ∷ [])) ∷ others) memory (steps + 1))) one
      (quiet_op (record g { stack = Int number ∷ rest }) steps (pure_arithmetic opcode) (after ∷ []) is_code
      (subst (λ (n : ℕ). (point : RunPoint) × (slice_get code.points n ≡ Some point) × (point.op ≡ pure_arithmetic opcode)) (omega arith)
      (there.each 0 (pure_arithmetic opcode) refl)) tt
      (ap (λ (n : ℕ). nat_le n (suc (length rest))) one ∙ le-leb 1 (suc (length rest)) (omega arith))
      (ap (λ (n : ℕ). work Q memory (pure_arithmetic opcode) (operands_of n (record g { stack = Int number ∷ rest }))) one ∙ given))

  -- the narrowed value is on top behind the operations
  pub quiet_narrowing : (g : MethodState) (steps : ℕ) (type : FieldType) (value : Value) (rest : List Value)
      → ((number : ℤ) → int_bit_and w32 number (pos 1) ≡ pos (cast_unsigned w32 number % 2))
      → code_at Q g.at ≡ Some code
      → OpsThere code g.place (narrowing_ops type)
      → has_kind (kind_of type) value ≡ true
      → (later : ℕ)
      × Quietly Q (standing r (Method (record g { stack = value ∷ rest }) ∷ others) memory steps)
      (standing r (Method (record g { place = g.place + length (narrowing_ops type); stack = narrowed type value ∷ rest }) ∷ others) memory later)
  quiet_narrowing g steps types.Byte (Int number) rest bit is_code there fits =
      (steps + 1, quiet_int g steps I2B number (narrowed types.Byte (Int number)) rest refl is_code there refl)
  quiet_narrowing g steps types.Short (Int number) rest bit is_code there fits =
      (steps + 1, quiet_int g steps I2S number (narrowed types.Short (Int number)) rest refl is_code there refl)
  quiet_narrowing g steps types.Char (Int number) rest bit is_code there fits =
      (steps + 1, quiet_int g steps I2C number (narrowed types.Char (Int number)) rest refl is_code there refl)
  quiet_narrowing g steps types.Bool (Int number) rest bit is_code there fits =
      (steps + 1 + 1, quietly_then pushed_one anded) where
        pushed_one : Quietly Q (standing r (Method (record g { stack = Int number ∷ rest }) ∷ others) memory steps)
            (standing r (Method (record g { place = g.place + 1; stack = Int (pos 1) ∷ Int number ∷ rest }) ∷ others) memory (steps + 1))
        pushed_one =
            quiet_op (record g { stack = Int number ∷ rest }) steps (push_value (Int (pos 1))) (Int (pos 1) ∷ []) is_code
            (subst (λ (n : ℕ). (point : RunPoint) × (slice_get code.points n ≡ Some point) × (point.op ≡ push_value (Int (pos 1)))) (omega arith)
            (there.each 0 (push_value (Int (pos 1))) refl)) tt (le-leb 0 (suc (length rest)) (omega arith)) refl

        behind : g.place + 1 + 1 ≡ g.place + 2
        behind = omega arith

        anded : Quietly Q
            (standing r (Method (record g { place = g.place + 1; stack = Int (pos 1) ∷ Int number ∷ rest }) ∷ others) memory (steps + 1))
            (standing r (Method (record g { place = g.place + 2; stack = Int (pos (cast_unsigned w32 number % 2)) ∷ rest }) ∷ others) memory
            (steps + 1 + 1))
        anded =
            subst (λ (n : ℕ). Quietly Q
            (standing r (Method (record g { place = g.place + 1; stack = Int (pos 1) ∷ Int number ∷ rest }) ∷ others) memory (steps + 1))
            (standing r (Method (record g { place = n; stack = Int (pos (cast_unsigned w32 number % 2)) ∷ rest }) ∷ others) memory (steps + 1 + 1)))
            behind
            (quiet_op (record g { place = g.place + 1; stack = Int (pos 1) ∷ Int number ∷ rest }) (steps + 1) (pure_arithmetic IAND)
            (Int (pos (cast_unsigned w32 number % 2)) ∷ []) is_code (there.each 1 (pure_arithmetic IAND) refl) tt
            (le-leb 2 (suc (suc (length rest))) (omega arith)) (ap (λ (found : ℤ). gives memory (Int found ∷ [])) (bit number)))
  quiet_narrowing g steps types.Byte value rest bit is_code there fits = absurd (false≢true fits)
  quiet_narrowing g steps types.Short value rest bit is_code there fits = absurd (false≢true fits)
  quiet_narrowing g steps types.Char value rest bit is_code there fits = absurd (false≢true fits)
  quiet_narrowing g steps types.Bool value rest bit is_code there fits = absurd (false≢true fits)
  quiet_narrowing g steps type value rest bit is_code there fits = (
    steps,
    subst (λ (n : ℕ). Quietly Q (standing r (Method (record g { stack = value ∷ rest }) ∷ others) memory steps)
        (standing r (Method (record g { place = n; stack = value ∷ rest }) ∷ others) memory steps)) none at_once,
  ) where
    none : g.place ≡ g.place + 0
    none = omega arith
