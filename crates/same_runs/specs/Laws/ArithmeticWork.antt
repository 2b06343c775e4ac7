-- Arithmetic comes to the same in both runs: it takes no references, and gives none.
use Rattle.std.proofs.Common.{◌≡◌, ◌&&◌, ℕ, pos, negsuc, Bool, true, false, List, [], ◌∷◌, Option, Some, None, refl, ◌∙◌}
use Rattle.class_model.specs.declared.descriptor.Kind.{Kind}
use Rattle.machine_values.specs.Values.{has_kind}
use Rattle.machine_values.specs.declared.value.Value.{Value}
use Rattle.member_link.specs.Machine.Arithmetic.{Meaning, of_ints, of_longs, of_long_and_int, of_int, of_long, int_to_long, long_to_int, longs_to_int, result_by}
use Rattle.member_link.specs.Machine.Completions.{Completion}
use Rattle.member_link.specs.Machine.Programs.{Program}
use Rattle.member_link.specs.Machine.Work.{arithmetic_work, division_work, divides_by_zero, float_work, of_result}
use Rattle.member_link.specs.Machine.Worlds.{Memory}
use Rattle.member_link.specs.Rows.ArithmeticRows.{Operation}
use Rattle.same_runs.specs.Renamings.{Names, same_int, same_long, same_float, same_double, same_null, same_reference, SameValues, no_values, and_value}
use Rattle.same_runs.specs.SameCompletions.{same_compute, SameCompletions, both_ask, both_end, both_raise}
use Rattle.same_runs.specs.SameMemories.{Apart, SameMemories}
use Rattle.same_runs.specs.SamePrograms.{IsNoReference, SamePrograms}
use Rattle.same_runs.specs.Laws.OperandWork.{gives_value, itself, kind_same}

-- a result of both, which is no reference, or of none
pub data SameResult : Option Value → Option Value → Type 0 where
  no_result : SameResult None None
  one_result : {value : Value} → IsNoReference value → SameResult (Some value) (Some value)

pub results_same : {names : Names} (meaning : Meaning) {ones others : List Value} → SameValues names ones others
    → SameResult (result_by meaning ones) (result_by meaning others)
results_same (of_ints f) no_values = no_result
results_same (of_ints f) (and_value same_long rest) = no_result
results_same (of_ints f) (and_value same_float rest) = no_result
results_same (of_ints f) (and_value same_double rest) = no_result
results_same (of_ints f) (and_value same_null rest) = no_result
results_same (of_ints f) (and_value (same_reference is) rest) = no_result
results_same (of_ints f) (and_value same_int no_values) = no_result
results_same (of_ints f) (and_value same_int (and_value same_long rest)) = no_result
results_same (of_ints f) (and_value same_int (and_value same_float rest)) = no_result
results_same (of_ints f) (and_value same_int (and_value same_double rest)) = no_result
results_same (of_ints f) (and_value same_int (and_value same_null rest)) = no_result
results_same (of_ints f) (and_value same_int (and_value (same_reference is) rest)) = no_result
results_same (of_ints f) (and_value same_int (and_value same_int no_values)) = one_result tt
results_same (of_ints f) (and_value same_int (and_value same_int (and_value more rest))) = no_result
results_same (of_longs f) no_values = no_result
results_same (of_longs f) (and_value same_int rest) = no_result
results_same (of_longs f) (and_value same_float rest) = no_result
results_same (of_longs f) (and_value same_double rest) = no_result
results_same (of_longs f) (and_value same_null rest) = no_result
results_same (of_longs f) (and_value (same_reference is) rest) = no_result
results_same (of_longs f) (and_value same_long no_values) = no_result
results_same (of_longs f) (and_value same_long (and_value same_int rest)) = no_result
results_same (of_longs f) (and_value same_long (and_value same_float rest)) = no_result
results_same (of_longs f) (and_value same_long (and_value same_double rest)) = no_result
results_same (of_longs f) (and_value same_long (and_value same_null rest)) = no_result
results_same (of_longs f) (and_value same_long (and_value (same_reference is) rest)) = no_result
results_same (of_longs f) (and_value same_long (and_value same_long no_values)) = one_result tt
results_same (of_longs f) (and_value same_long (and_value same_long (and_value more rest))) = no_result
results_same (of_long_and_int f) no_values = no_result
results_same (of_long_and_int f) (and_value same_int rest) = no_result
results_same (of_long_and_int f) (and_value same_float rest) = no_result
results_same (of_long_and_int f) (and_value same_double rest) = no_result
results_same (of_long_and_int f) (and_value same_null rest) = no_result
results_same (of_long_and_int f) (and_value (same_reference is) rest) = no_result
results_same (of_long_and_int f) (and_value same_long no_values) = no_result
results_same (of_long_and_int f) (and_value same_long (and_value same_long rest)) = no_result
results_same (of_long_and_int f) (and_value same_long (and_value same_float rest)) = no_result
results_same (of_long_and_int f) (and_value same_long (and_value same_double rest)) = no_result
results_same (of_long_and_int f) (and_value same_long (and_value same_null rest)) = no_result
results_same (of_long_and_int f) (and_value same_long (and_value (same_reference is) rest)) = no_result
results_same (of_long_and_int f) (and_value same_long (and_value same_int no_values)) = one_result tt
results_same (of_long_and_int f) (and_value same_long (and_value same_int (and_value more rest))) = no_result
results_same (longs_to_int f) no_values = no_result
results_same (longs_to_int f) (and_value same_int rest) = no_result
results_same (longs_to_int f) (and_value same_float rest) = no_result
results_same (longs_to_int f) (and_value same_double rest) = no_result
results_same (longs_to_int f) (and_value same_null rest) = no_result
results_same (longs_to_int f) (and_value (same_reference is) rest) = no_result
results_same (longs_to_int f) (and_value same_long no_values) = no_result
results_same (longs_to_int f) (and_value same_long (and_value same_int rest)) = no_result
results_same (longs_to_int f) (and_value same_long (and_value same_float rest)) = no_result
results_same (longs_to_int f) (and_value same_long (and_value same_double rest)) = no_result
results_same (longs_to_int f) (and_value same_long (and_value same_null rest)) = no_result
results_same (longs_to_int f) (and_value same_long (and_value (same_reference is) rest)) = no_result
results_same (longs_to_int f) (and_value same_long (and_value same_long no_values)) = one_result tt
results_same (longs_to_int f) (and_value same_long (and_value same_long (and_value more rest))) = no_result
results_same (of_int f) no_values = no_result
results_same (of_int f) (and_value same_long rest) = no_result
results_same (of_int f) (and_value same_float rest) = no_result
results_same (of_int f) (and_value same_double rest) = no_result
results_same (of_int f) (and_value same_null rest) = no_result
results_same (of_int f) (and_value (same_reference is) rest) = no_result
results_same (of_int f) (and_value same_int no_values) = one_result tt
results_same (of_int f) (and_value same_int (and_value more rest)) = no_result
results_same (of_long f) no_values = no_result
results_same (of_long f) (and_value same_int rest) = no_result
results_same (of_long f) (and_value same_float rest) = no_result
results_same (of_long f) (and_value same_double rest) = no_result
results_same (of_long f) (and_value same_null rest) = no_result
results_same (of_long f) (and_value (same_reference is) rest) = no_result
results_same (of_long f) (and_value same_long no_values) = one_result tt
results_same (of_long f) (and_value same_long (and_value more rest)) = no_result
results_same (int_to_long f) no_values = no_result
results_same (int_to_long f) (and_value same_long rest) = no_result
results_same (int_to_long f) (and_value same_float rest) = no_result
results_same (int_to_long f) (and_value same_double rest) = no_result
results_same (int_to_long f) (and_value same_null rest) = no_result
results_same (int_to_long f) (and_value (same_reference is) rest) = no_result
results_same (int_to_long f) (and_value same_int no_values) = one_result tt
results_same (int_to_long f) (and_value same_int (and_value more rest)) = no_result
results_same (long_to_int f) no_values = no_result
results_same (long_to_int f) (and_value same_int rest) = no_result
results_same (long_to_int f) (and_value same_float rest) = no_result
results_same (long_to_int f) (and_value same_double rest) = no_result
results_same (long_to_int f) (and_value same_null rest) = no_result
results_same (long_to_int f) (and_value (same_reference is) rest) = no_result
results_same (long_to_int f) (and_value same_long no_values) = one_result tt
results_same (long_to_int f) (and_value same_long (and_value more rest)) = no_result

zero_same : {names : Names} {ones others : List Value} → SameValues names ones others → divides_by_zero others ≡ divides_by_zero ones
zero_same no_values = refl
zero_same (and_value same_int no_values) = refl
zero_same (and_value same_int (and_value (same_int {number = pos n}) no_values)) = refl
zero_same (and_value same_int (and_value (same_int {number = negsuc n}) no_values)) = refl
zero_same (and_value same_int (and_value (same_int {number = pos n}) (and_value more rest))) = refl
zero_same (and_value same_int (and_value (same_int {number = negsuc n}) (and_value more rest))) = refl
zero_same (and_value same_int (and_value same_long rest)) = refl
zero_same (and_value same_int (and_value same_float rest)) = refl
zero_same (and_value same_int (and_value same_double rest)) = refl
zero_same (and_value same_int (and_value same_null rest)) = refl
zero_same (and_value same_int (and_value (same_reference is) rest)) = refl
zero_same (and_value same_long no_values) = refl
zero_same (and_value same_long (and_value (same_long {number = pos n}) no_values)) = refl
zero_same (and_value same_long (and_value (same_long {number = negsuc n}) no_values)) = refl
zero_same (and_value same_long (and_value (same_long {number = pos n}) (and_value more rest))) = refl
zero_same (and_value same_long (and_value (same_long {number = negsuc n}) (and_value more rest))) = refl
zero_same (and_value same_long (and_value same_int rest)) = refl
zero_same (and_value same_long (and_value same_float rest)) = refl
zero_same (and_value same_long (and_value same_double rest)) = refl
zero_same (and_value same_long (and_value same_null rest)) = refl
zero_same (and_value same_long (and_value (same_reference is) rest)) = refl
zero_same (and_value same_float rest) = refl
zero_same (and_value same_double rest) = refl
zero_same (and_value same_null rest) = refl
zero_same (and_value (same_reference is) rest) = refl

module _ {P Q : Program} {Allocated Entered : ℕ → ℕ → Type 0} {apart : Apart} {names : Names} {one other : Memory}
    (same : SamePrograms P Q) (memories : SameMemories P Allocated Entered apart names [] one other) where
  abbrev Both : Completion → Completion → Type 0
  Both completion also = SameCompletions P Allocated Entered apart names one other completion also

  result_given : {result also : Option Value} → SameResult result also → Both (of_result one result) (of_result other also)
  result_given no_result = both_end
  result_given (one_result {value = value} none) = gives_value same memories (itself names value none)

  pub computes : (meaning : Option Meaning) {ones others : List Value} → SameValues names ones others
      → Both (arithmetic_work one meaning ones) (arithmetic_work other meaning others)
  computes None are = both_end
  computes (Some meaning) are = result_given (results_same meaning are)

  pub divides : (meaning : Option Meaning) {ones others : List Value} → SameValues names ones others
      → Both (division_work one meaning ones) (division_work other meaning others)
  divides None are = both_end
  divides (Some meaning) {ones = ones} {others = others} are = by (result_by meaning ones) (result_by meaning others) refl refl
      (results_same meaning are) (divides_by_zero ones) refl where
        by : (result also : Option Value) → result_by meaning ones ≡ result → result_by meaning others ≡ also → SameResult result also
            → (b : Bool) → divides_by_zero ones ≡ b
            → Both (division_work one (Some meaning) ones) (division_work other (Some meaning) others)
        by None None is is_also no_result b e = rw (is, is_also) both_end
        by None (Some value) is is_also impossible b e = elim impossible [ ]
        by (Some value) None is is_also impossible b e = elim impossible [ ]
        by (Some value) (Some also) is is_also (one_result none) true e = rw (is, is_also, e, zero_same are ∙ e) both_raise
        by (Some value) (Some also) is is_also (one_result none) false e = rw (
          is,
          is_also,
          e,
          zero_same are
              ∙ e,
        ) (gives_value same memories (itself names value none))

  -- ---- floats and doubles

  abbrev have_all : List Kind → List Value → Bool
  have_all [] [] = true
  have_all (kind ∷ kinds) (value ∷ values) = has_kind kind value && have_all kinds values
  have_all kinds values = false

  have_same : (kinds : List Kind) {ones others : List Value} → SameValues names ones others → have_all kinds others ≡ have_all kinds ones
  have_same [] no_values = refl
  have_same [] (and_value is are) = refl
  have_same (kind ∷ kinds) no_values = refl
  have_same (kind ∷ kinds) (and_value is are) = rw (kind_same same memories kind is, have_same kinds are) refl

  pub asks_same : (opcode : ℕ) (operation : Option Operation) {ones others : List Value} → SameValues names ones others
      → Both (float_work opcode operation ones) (float_work opcode operation others)
  asks_same opcode None are = both_end
  asks_same opcode (Some operation) {ones = ones} {others = others} are = by (have_all operation.takes ones) refl where
    by : (b : Bool) → have_all operation.takes ones ≡ b
        → Both (float_work opcode (Some operation) ones) (float_work opcode (Some operation) others)
    by true e =
        let also : have_all operation.takes others ≡ true = have_same operation.takes are ∙ e in
        rw e (rw also (both_ask (same_compute are)))
    by false e =
        let also : have_all operation.takes others ≡ false = have_same operation.takes are ∙ e in
        rw e (rw also both_end)
