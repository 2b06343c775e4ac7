-- Arithmetic: no operand of it is a reference, so its operands are plain.
use Rattle.std.proofs.Common.{◌≡◌, ◌≤◌, ◌<◌, ◌==◌, ℕ, zero, suc, Bool, true, false, List, [], ◌∷◌, length, slice_get, Option, Some, None, if◌then◌else◌, refl, sym, ap, subst, ◌∙◌, arith}
use Rattle.std.specs.List.{AllByRecursion, list_any}
use Rattle.std.proofs.lemmas.Bool.{eqb-true}
use Rattle.std.proofs.lemmas.Option.{none-some, same_Some}
use Rattle.class_model.specs.declared.descriptor.Kind.{Kind}
use Rattle.class_model.specs.declared.descriptor.Kind.TheVariants as kinds
use Rattle.class_model.specs.declared.instr.Instr.{Instr}
use Rattle.class_model.specs.declared.instr.Instr.TheVariants.{Divide, FloatAsk, Pure}
use Rattle.flow_code.specs.declared.point.Point.{Point}
use Rattle.machine_values.specs.Values.{has_kind}
use Rattle.machine_values.specs.declared.value.Value.{Value}
use Rattle.machine_values.specs.declared.value.Value.TheVariants.{Int, Long, Float, Double, Null, Ref}
use Rattle.member_link.specs.Machine.Arithmetic.{Meaning, MeaningRow, divide_meanings, int_to_long, long_to_int, longs_to_int, meaning_in, of_int, of_ints, of_long, of_long_and_int, of_longs, operands_of, pure_meanings, result_by}
use Rattle.member_link.specs.Machine.Codes.{instr_op}
use Rattle.member_link.specs.Machine.Completions.{Asked, asks, ends}
use Rattle.member_link.specs.Machine.Ops.{division, float_arithmetic, pure_arithmetic}
use Rattle.member_link.specs.Machine.Programs.{Program}
use Rattle.member_link.specs.Machine.Work.{arithmetic_work, arity, float_work, of_result}
use Rattle.member_link.specs.Machine.Worlds.{Memory, stuck}
use Rattle.member_link.specs.RowScope.{RowScope}
use Rattle.member_link.specs.Rows.ArithmeticRows.{Operation, divide_operations, float_operations, operation_in, pure_operations}
use Rattle.plan_flow.specs.PlanRows.{plain_value}
use Rattle.plan_flow.specs.PlanScope.{PlanScope}
use Rattle.plan_flow.specs.PlanTable.{operands_of as row_operands}
use Rattle.plan_flow.specs.Written.Blocks.{state_written}
use Rattle.plan_flow.specs.Written.Routes.{Route}
use Rattle.same_runs.specs.SameWorlds.{IsThrowing}
use Rattle.virtual_state.specs.States.{State}
use Rattle.written_runs.specs.Laws.Carried.Rows.{PlainRow, never_throws}
use Rattle.written_runs.specs.Laws.Carried.SimpleFits.{FitsHere, OpFits, asking_row, moving_row, throws_each}
use Rattle.written_runs.specs.Laws.Carried.StuckFits.{stuck_on_each}

-- ---- results

first_reference : (meaning : Meaning) (reference : ℕ) (more : List Value) → result_by meaning (Ref reference ∷ more) ≡ None
first_reference (of_ints f) reference more = refl
first_reference (of_longs f) reference more = refl
first_reference (of_long_and_int f) reference more = refl
first_reference (of_int f) reference more = refl
first_reference (of_long f) reference more = refl
first_reference (int_to_long f) reference more = refl
first_reference (long_to_int f) reference more = refl
first_reference (longs_to_int f) reference more = refl

second_reference : (meaning : Meaning) (value : Value) (reference : ℕ) (more : List Value) → result_by meaning (value ∷ Ref reference ∷ more) ≡ None
second_reference (of_ints f) (Int n) reference more = refl
second_reference (of_ints f) (Long n) reference more = refl
second_reference (of_ints f) (Float n) reference more = refl
second_reference (of_ints f) (Double n) reference more = refl
second_reference (of_ints f) Null reference more = refl
second_reference (of_ints f) (Ref n) reference more = refl
second_reference (of_longs f) (Int n) reference more = refl
second_reference (of_longs f) (Long n) reference more = refl
second_reference (of_longs f) (Float n) reference more = refl
second_reference (of_longs f) (Double n) reference more = refl
second_reference (of_longs f) Null reference more = refl
second_reference (of_longs f) (Ref n) reference more = refl
second_reference (of_long_and_int f) (Int n) reference more = refl
second_reference (of_long_and_int f) (Long n) reference more = refl
second_reference (of_long_and_int f) (Float n) reference more = refl
second_reference (of_long_and_int f) (Double n) reference more = refl
second_reference (of_long_and_int f) Null reference more = refl
second_reference (of_long_and_int f) (Ref n) reference more = refl
second_reference (of_int f) (Int n) reference more = refl
second_reference (of_int f) (Long n) reference more = refl
second_reference (of_int f) (Float n) reference more = refl
second_reference (of_int f) (Double n) reference more = refl
second_reference (of_int f) Null reference more = refl
second_reference (of_int f) (Ref n) reference more = refl
second_reference (of_long f) (Int n) reference more = refl
second_reference (of_long f) (Long n) reference more = refl
second_reference (of_long f) (Float n) reference more = refl
second_reference (of_long f) (Double n) reference more = refl
second_reference (of_long f) Null reference more = refl
second_reference (of_long f) (Ref n) reference more = refl
second_reference (int_to_long f) (Int n) reference more = refl
second_reference (int_to_long f) (Long n) reference more = refl
second_reference (int_to_long f) (Float n) reference more = refl
second_reference (int_to_long f) (Double n) reference more = refl
second_reference (int_to_long f) Null reference more = refl
second_reference (int_to_long f) (Ref n) reference more = refl
second_reference (long_to_int f) (Int n) reference more = refl
second_reference (long_to_int f) (Long n) reference more = refl
second_reference (long_to_int f) (Float n) reference more = refl
second_reference (long_to_int f) (Double n) reference more = refl
second_reference (long_to_int f) Null reference more = refl
second_reference (long_to_int f) (Ref n) reference more = refl
second_reference (longs_to_int f) (Int n) reference more = refl
second_reference (longs_to_int f) (Long n) reference more = refl
second_reference (longs_to_int f) (Float n) reference more = refl
second_reference (longs_to_int f) (Double n) reference more = refl
second_reference (longs_to_int f) Null reference more = refl
second_reference (longs_to_int f) (Ref n) reference more = refl

-- no operand of an operation that has a result is a reference
reference_result : (meaning : Meaning) (operands : List Value) (place reference : ℕ)
    → place < 2
    → slice_get operands place ≡ Some (Ref reference)
    → result_by meaning operands ≡ None
reference_result meaning [] place reference low is = absurd (none-some (Ref reference) is)
reference_result meaning (value ∷ more) zero reference low is =
    ap (λ (v : Value). result_by meaning (v ∷ more)) (same_Some value (Ref reference) is) ∙ first_reference meaning reference more
reference_result meaning (value ∷ []) (suc zero) reference low is = absurd (none-some (Ref reference) is)
reference_result meaning (value ∷ other ∷ more) (suc zero) reference low is =
    ap (λ (v : Value). result_by meaning (value ∷ v ∷ more)) (same_Some other (Ref reference) is) ∙ second_reference meaning value reference more
reference_result meaning (value ∷ more) (suc (suc place)) reference low is = absurd (omega (arith, low))

few_operands : (meaning : Meaning) → operands_of (Some meaning) ≤ 2
few_operands (of_ints f) = omega arith
few_operands (of_longs f) = omega arith
few_operands (of_long_and_int f) = omega arith
few_operands (of_int f) = omega arith
few_operands (of_long f) = omega arith
few_operands (int_to_long f) = omega arith
few_operands (long_to_int f) = omega arith
few_operands (longs_to_int f) = omega arith

-- ---- tables

-- the row of an operation takes as many operands as the operation
abbrev TakesAsMany : List Operation → MeaningRow → Type 0
TakesAsMany operations row = row_operands (operation_in operations row.opcode) ≡ operands_of (Some row.meaning)

found_meaning : (operations : List Operation) (rows : List MeaningRow) (opcode : ℕ) (meaning : Meaning)
    → AllByRecursion (TakesAsMany operations) rows
    → meaning_in rows opcode ≡ Some meaning
    → row_operands (operation_in operations opcode) ≡ operands_of (Some meaning)
found_meaning operations [] opcode meaning all is = absurd (none-some meaning is)
found_meaning operations (row ∷ rows) opcode meaning all is =
    by (row.opcode == opcode) refl (found_meaning operations rows opcode meaning all.1) where
      by : (same : Bool) → (row.opcode == opcode) ≡ same
          → (meaning_in rows opcode ≡ Some meaning → row_operands (operation_in operations opcode) ≡ operands_of (Some meaning))
          → row_operands (operation_in operations opcode) ≡ operands_of (Some meaning)
      by true here rest =
          let found : Some row.meaning ≡ Some meaning = rw (here) at is in
          ap (λ (n : ℕ). row_operands (operation_in operations n)) (sym (eqb-true row.opcode opcode here)) ∙ all.0
          ∙ ap operands_of found
      by false apart rest = let found : meaning_in rows opcode ≡ Some meaning = rw (apart) at is in rest found

pure_rows : AllByRecursion (TakesAsMany pure_operations) pure_meanings
pure_rows = (refl, (refl, (refl, (refl, (refl, (refl, (refl, (refl, (refl, (refl, (refl, (refl, (refl, (refl, (refl, (refl, (refl, (refl, (refl, (refl, (refl, (refl, (refl, (refl, (refl, (refl, tt))))))))))))))))))))))))))

divide_rows : AllByRecursion (TakesAsMany divide_operations) divide_meanings
divide_rows = (refl, (refl, (refl, (refl, tt))))

two_divided : (rows : List MeaningRow) (opcode : ℕ) (meaning : Meaning)
    → AllByRecursion (λ row. operands_of (Some row.meaning) ≡ 2) rows
    → meaning_in rows opcode ≡ Some meaning
    → operands_of (Some meaning) ≡ 2
two_divided [] opcode meaning all is = absurd (none-some meaning is)
two_divided (row ∷ rows) opcode meaning all is = by (row.opcode == opcode) refl (two_divided rows opcode meaning all.1) where
  by : (same : Bool) → (row.opcode == opcode) ≡ same → (meaning_in rows opcode ≡ Some meaning → operands_of (Some meaning) ≡ 2)
      → operands_of (Some meaning) ≡ 2
  by true here rest = let found : Some row.meaning ≡ Some meaning = rw (here) at is in sym (ap operands_of found) ∙ all.0
  by false apart rest = let found : meaning_in rows opcode ≡ Some meaning = rw (apart) at is in rest found

-- ---- floats

-- an operation that takes one number, or two
abbrev IsNumber : Kind → Type 0
IsNumber kinds.Int = Unit {0}
IsNumber kinds.Long = Unit {0}
IsNumber kinds.Float = Unit {0}
IsNumber kinds.Double = Unit {0}
IsNumber kinds.Ref = ⊥

data TakesNumbers : List Kind → Type 0 where
  takes_one : (kind : Kind) → IsNumber kind → TakesNumbers (kind ∷ [])
  takes_two : (kind other : Kind) → IsNumber kind → IsNumber other → TakesNumbers (kind ∷ other ∷ [])

float_rows : AllByRecursion (λ (o : Operation). TakesNumbers o.takes) float_operations
float_rows =
    (takes_two _ _ tt tt, (takes_two _ _ tt tt, (takes_one _ tt, (takes_one _ tt, (takes_one _ tt, (takes_one _ tt, (takes_one _ tt, (takes_one _ tt, (takes_one _ tt, (takes_one _ tt, (takes_one _ tt, (takes_one _ tt, (takes_one _ tt, (takes_one _ tt, (takes_two _ _ tt tt, (takes_two _ _ tt tt, tt))))))))))))))))

found_operation : (operations : List Operation) (opcode : ℕ) (operation : Operation)
    → AllByRecursion (λ (o : Operation). TakesNumbers o.takes) operations
    → operation_in operations opcode ≡ Some operation
    → TakesNumbers operation.takes
found_operation [] opcode operation all is = absurd (none-some operation is)
found_operation (first ∷ operations) opcode operation all is =
    by (list_any (λ o. o == opcode) first.opcodes) refl (found_operation operations opcode operation all.1) where
      by : (here : Bool) → list_any (λ o. o == opcode) first.opcodes ≡ here
          → (operation_in operations opcode ≡ Some operation → TakesNumbers operation.takes)
          → TakesNumbers operation.takes
      by true here rest =
          let found : Some first ≡ Some operation = rw (here) at is in subst (λ (o : Operation). TakesNumbers o.takes) (same_Some first operation found) all.0
      by false apart rest = let found : operation_in operations opcode ≡ Some operation = rw (apart) at is in rest found

no_reference : (kind : Kind) (reference : ℕ) → IsNumber kind → has_kind kind (Ref reference) ≡ false
no_reference kinds.Int reference is = refl
no_reference kinds.Long reference is = refl
no_reference kinds.Float reference is = refl
no_reference kinds.Double reference is = refl
no_reference kinds.Ref reference is = absurd is

few_numbers : (takes : List Kind) → TakesNumbers takes → length takes ≤ 2
few_numbers _ (takes_one kind is) = omega arith
few_numbers _ (takes_two kind other is is_other) = omega arith

float_stuck : (opcode : ℕ) (opcodes : List ℕ) (gives : Kind) (takes : List Kind) → TakesNumbers takes → (operands : List Value) (place reference : ℕ)
    → length operands ≡ length takes
    → slice_get operands place ≡ Some (Ref reference)
    → float_work opcode (Some (record { opcodes = opcodes; takes = takes; gives = gives })) operands ≡ ends stuck
float_stuck opcode opcodes gives _ (takes_one kind is) (value ∷ []) zero reference many there =
    rw (same_Some value (Ref reference) there, no_reference kind reference is) refl
float_stuck opcode opcodes gives _ (takes_one kind is) (value ∷ []) (suc place) reference many there = absurd (none-some (Ref reference) there)
float_stuck opcode opcodes gives _ (takes_one kind is) [] place reference many there = absurd (omega (arith, many))
float_stuck opcode opcodes gives _ (takes_one kind is) (value ∷ other ∷ more) place reference many there = absurd (omega (arith, many))
float_stuck opcode opcodes gives _ (takes_two kind also is is_also) (value ∷ other ∷ []) zero reference many there =
    rw (same_Some value (Ref reference) there, no_reference kind reference is) refl
float_stuck opcode opcodes gives _ (takes_two kind also is is_also) (value ∷ other ∷ []) (suc zero) reference many there =
    by (has_kind kind value) refl where
      by : (has : Bool) → has_kind kind value ≡ has
          → float_work opcode (Some (record { opcodes = opcodes; takes = kind ∷ also ∷ []; gives = gives })) (value ∷ other ∷ []) ≡ ends stuck
      by true has = rw (same_Some other (Ref reference) there, has, no_reference also reference is_also) refl
      by false has = rw (has) refl
float_stuck opcode opcodes gives _ (takes_two kind also is is_also) (value ∷ other ∷ []) (suc (suc place)) reference many there =
    absurd (none-some (Ref reference) there)
float_stuck opcode opcodes gives _ (takes_two kind also is is_also) [] place reference many there = absurd (omega (arith, many))
float_stuck opcode opcodes gives _ (takes_two kind also is is_also) (value ∷ []) place reference many there = absurd (omega (arith, many))
float_stuck opcode opcodes gives _ (takes_two kind also is is_also) (value ∷ other ∷ third ∷ more) place reference many there = absurd (omega (arith, many))

never_asked : (is : Bool) (asked : Asked) → IsThrowing (if is then asks asked else ends stuck) → ⊥
never_asked true asked throwing = throwing
never_asked false asked throwing = throwing

-- ---- by the instruction

module _ (P : Program) (s : PlanScope) (at : ℕ) (point : Point) (route : Route) (class : ℕ) (scope : RowScope) (memory : Memory) (stack : List Value)
    (number : ℕ → ℕ) where
  abbrev FitsInstr : Instr → Type 0
  FitsInstr instr =
      FitsHere P s at point route class instr scope memory stack
      → OpFits P s at point route memory stack (instr_op P.links number scope instr)

  abbrev before : State
  before = state_written route

  pub fits_pure : (opcode : ℕ) → FitsInstr (Pure opcode)
  fits_pure opcode here = by (meaning_in pure_meanings opcode) refl where
    never : (found : Option Meaning) (operands : List Value) → IsThrowing (arithmetic_work memory found operands) → ⊥
    never None operands throwing = throwing
    never (Some meaning) operands throwing = of_value (result_by meaning operands) refl where
      of_value : (value : Option Value) → result_by meaning operands ≡ value → ⊥
      of_value None none = let no : ⊥ = rw (none) at throwing in no
      of_value (Some value) some = let no : ⊥ = rw (some) at throwing in no

    by : (found : Option Meaning) → meaning_in pure_meanings opcode ≡ found → OpFits P s at point route memory stack (pure_arithmetic opcode)
    by None none = λ works enough not_stuck. absurd (not_stuck (rw (none) refl))
    by (Some meaning) some =
        stuck_on_each here (pure_arithmetic opcode)
        (subst (λ (n : ℕ). PlainRow s at point before n (plain_value ∷ [])) as_many
        (moving_row here (row_operands (operation_in pure_operations opcode)) (plain_value ∷ []) refl refl refl))
        (λ place low operands value many is folder. rw (some) (ap (of_result memory)
        (reference_result meaning operands place folder.reference (few place low) (is ∙ ap Some folder.refers))))
        (never_throws (pure_arithmetic opcode) _ (λ throwing. never (meaning_in pure_meanings opcode) _ throwing) refl) where
          as_many : row_operands (operation_in pure_operations opcode) ≡ arity (pure_arithmetic opcode)
          as_many = found_meaning pure_operations pure_meanings opcode meaning pure_rows some ∙ sym (ap operands_of some)

          few : (place : ℕ) → place < arity (pure_arithmetic opcode) → place < 2
          few place low = let most = few_operands meaning in let same = ap operands_of some in omega (arith, low, most, same)

  pub fits_divide : (opcode : ℕ) → FitsInstr (Divide opcode)
  fits_divide opcode here = by (meaning_in divide_meanings opcode) refl where
    by : (found : Option Meaning) → meaning_in divide_meanings opcode ≡ found → OpFits P s at point route memory stack (division opcode)
    by None none = λ works enough not_stuck. absurd (not_stuck (rw (none) refl))
    by (Some meaning) some =
        stuck_on_each here (division opcode)
        (subst (λ (n : ℕ). PlainRow s at point before n (plain_value ∷ [])) as_many
        (asking_row here (row_operands (operation_in divide_operations opcode)) (plain_value ∷ []) [] refl refl refl))
        (λ place low operands value many is folder.
        rw (some, reference_result meaning operands place folder.reference low (is ∙ ap Some folder.refers)) refl)
        (λ throwing. throws_each here (row_operands (operation_in divide_operations opcode)) (plain_value ∷ []) [] refl) where
          as_many : row_operands (operation_in divide_operations opcode) ≡ 2
          as_many =
              found_meaning divide_operations divide_meanings opcode meaning divide_rows some
              ∙ two_divided divide_meanings opcode meaning (refl, (refl, (refl, (refl, tt)))) some

  pub fits_float_ask : (opcode : ℕ) → FitsInstr (FloatAsk opcode)
  fits_float_ask opcode here = by (operation_in float_operations opcode) refl where
    by : (found : Option Operation) → operation_in float_operations opcode ≡ found → OpFits P s at point route memory stack (float_arithmetic opcode)
    by None none = λ works enough not_stuck. absurd (not_stuck (rw (none) refl))
    by (Some operation) some =
        stuck_on_each here (float_arithmetic opcode)
        (subst (λ (n : ℕ). PlainRow s at point before n (plain_value ∷ [])) as_many
        (moving_row here (row_operands (operation_in float_operations opcode)) (plain_value ∷ []) refl refl refl))
        (λ place low operands value many is folder. rw (some)
        (float_stuck opcode operation.opcodes operation.gives operation.takes numbers operands place folder.reference
        (many ∙ sym as_many ∙ ap row_operands some) (is ∙ ap Some folder.refers)))
        (never_throws (float_arithmetic opcode) _ (λ throwing. never (operation_in float_operations opcode) _ throwing) (rw (some) refl)) where
          numbers : TakesNumbers operation.takes
          numbers = found_operation float_operations opcode operation float_rows some

          as_many : row_operands (operation_in float_operations opcode) ≡ arity (float_arithmetic opcode)
          as_many = rw (some) refl

          never : (found : Option Operation) (operands : List Value) → IsThrowing (float_work opcode found operands) → ⊥
          never None operands throwing = throwing
          never (Some one) operands throwing = never_asked _ _ throwing
