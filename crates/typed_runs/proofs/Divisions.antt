use Rattle.std.specs.Prelude.{◌≡◌, refl, ℕ, Bool, true, false, List, [], ◌∷◌, map, length, take, drop, reverse, Option, Some, None, if◌then◌else◌}
use Rattle.std.proofs.Common.{arith, sym, ◌∙◌, subst}
use Rattle.class_model.specs.declared.descriptor.Kind.{Kind}
use Rattle.class_model.specs.declared.frame.Frame.{Frame}
use Rattle.machine_values.specs.Frames.{MethodState}
use Rattle.machine_values.specs.Values.{has_kind}
use Rattle.machine_values.specs.declared.value.Value.{Value}
use Rattle.machine_values.specs.declared.frame.RunFrame.{RunFrame}
use Rattle.member_link.specs.Machine.Arithmetic.{Meaning, meaning_in, divide_meanings, operands_of}
use Rattle.member_link.specs.Machine.Completions.{gives, raises}
use Rattle.member_link.specs.Machine.Ops.{division}
use Rattle.member_link.specs.Machine.Performing.{perform}
use Rattle.member_link.specs.Machine.Programs.{Program}
use Rattle.member_link.specs.Machine.Stepping.{op_step}
use Rattle.member_link.specs.Machine.Throwables.{arithmetic}
use Rattle.member_link.specs.Machine.Work.{divides_by_zero}
use Rattle.member_link.specs.Machine.Worlds.{World}
use Rattle.member_link.specs.RowScope.{RowScope}
use Rattle.member_link.specs.Rows.ArithmeticRows.{Operation, divide_operations, operation_in, operation_row, type_of_kind}
use Rattle.member_link.specs.Rows.Operands.{of_kind, topmost}
use Rattle.member_link.specs.Rows.Row.{access_aside, plain}
use Rattle.typed_runs.proofs.Arithmetic.{taken_by, given_by, IsMeaningOf, HaveMeanings, has_meaning, of_kinds, result_of_meaning, of_number, takes_many}
use Rattle.typed_runs.proofs.Taken.{takes_nothing}
use Rattle.typed_runs.proofs.Here.{Here, operands_here, worked, gives_same}
use Rattle.typed_runs.proofs.Performing.{raises_goes}
use Rattle.typed_runs.proofs.Raising.{raises_arithmetic}
use Rattle.typed_runs.specs.Conforming.{no_values, and_value}
use Rattle.typed_runs.specs.TypedPrograms.{Typings}
use Rattle.typed_runs.specs.TypedWorlds.{StaysTyped}

pub divisions_have : HaveMeanings (λ opcode. meaning_in divide_meanings opcode) divide_operations
divisions_have = (((refl, refl), ((refl, refl), tt)), (((refl, refl), ((refl, refl), tt)), tt))

-- both divisions take two operands
pub takes_two : (opcode : ℕ) (m : Meaning) → meaning_in divide_meanings opcode ≡ Some m → operands_of (Some m) ≡ 2
takes_two opcode m is = grind arith

module _ {P : Program} {T : Typings} {w : World} {f : MethodState} {rest : List RunFrame} {s : RowScope} {frame : Frame} {place : ℕ} {numbered : ℕ → ℕ} where
  pub meant_stays : (opcode : ℕ) (takes : List Kind) (given : Kind) (m : Meaning) → takes ≡ taken_by m → given ≡ given_by m → meaning_in divide_meanings opcode ≡ Some m
      → Here P T w f rest s frame place numbered (plain frame (map of_kind takes) (type_of_kind given ∷ [])) (division opcode) true []
      → StaysTyped P T w (op_step P w f rest (division opcode))
  meant_stays opcode takes given m t g is h =
      let k : Here P T w f rest s frame place numbered (plain frame (map of_kind (taken_by m)) (type_of_kind (given_by m) ∷ [])) (division opcode) true [] =
      subst (λ x. Here P T w f rest s frame place numbered (plain frame (map of_kind (taken_by m)) (type_of_kind x ∷ [])) (division opcode) true []) g
      (subst (λ x. Here P T w f rest s frame place numbered (plain frame (map of_kind x) (type_of_kind given ∷ [])) (division opcode) true []) t h) in
      let o = operands_here k in
      let result = result_of_meaning m _ (of_kinds s (taken_by m) (topmost (length (map of_kind (taken_by m))) frame.stack) k.holds.operands o.values) in
      worked k (length (map of_kind (taken_by m))) (sym (takes_two opcode m is) ∙ takes_many m) o.enough
      (rw is (rw result.1 (by k result.0 result.2 (divides_by_zero (reverse (take (length (map of_kind (taken_by m))) f.stack)))))) where
        by : (k : Here P T w f rest s frame place numbered (plain frame (map of_kind (taken_by m)) (type_of_kind (given_by m) ∷ [])) (division opcode) true [])
            (v : Value) → has_kind (given_by m) v ≡ true → (b : Bool)
            → StaysTyped P T w (perform P w f (record f { stack = drop (length (map of_kind (taken_by m))) f.stack }) rest (if b then raises arithmetic else gives w.memory (v ∷ [])))
        by k v is true = raises_goes k arithmetic (drop (length (map of_kind (taken_by m))) f.stack) (raises_arithmetic P T k.typed.program)
        by k v is false = gives_same k (v ∷ []) (and_value (of_number m v is) no_values)

  pub divide_stays : (opcode : ℕ) → Here P T w f rest s frame place numbered (access_aside (operation_row frame (operation_in divide_operations opcode))) (division opcode) true []
      → StaysTyped P T w (op_step P w f rest (division opcode))
  divide_stays opcode h = by (operation_in divide_operations opcode) refl h where
    by_meaning : (o : Operation) (m : Option Meaning) → meaning_in divide_meanings opcode ≡ m → IsMeaningOf o m
        → Here P T w f rest s frame place numbered (access_aside (operation_row frame (Some o))) (division opcode) true [] → StaysTyped P T w (op_step P w f rest (division opcode))
    by_meaning o None is fits k = absurd fits
    by_meaning o (Some m) is fits k = meant_stays opcode o.takes o.gives m fits.0 fits.1 is k

    by : (o : Option Operation) → operation_in divide_operations opcode ≡ o
        → Here P T w f rest s frame place numbered (access_aside (operation_row frame o)) (division opcode) true [] → StaysTyped P T w (op_step P w f rest (division opcode))
    by None is k = absurd (takes_nothing s (topmost 1 frame.stack) k.holds.operands)
    by (Some o) is k = by_meaning o (meaning_in divide_meanings opcode) refl (has_meaning (λ x. meaning_in divide_meanings x) divide_operations opcode o is divisions_have) k
