use Rattle.std.specs.Prelude.{◌≡◌, ◌&&◌, refl, ℕ, Bool, true, false, List, [], ◌∷◌, map, length, drop, take, reverse, Option, Some, None}
use Rattle.std.proofs.Common.{ap, sym, ◌∙◌}
use Rattle.std.proofs.lemmas.List.{length-map}
use Rattle.class_model.specs.declared.descriptor.Kind.{Kind}
use Rattle.class_model.specs.declared.frame.Frame.{Frame}
use Rattle.machine_values.specs.Frames.{MethodState}
use Rattle.machine_values.specs.Values.{has_kind}
use Rattle.machine_values.specs.declared.frame.RunFrame.{RunFrame}
use Rattle.machine_values.specs.declared.value.Value.{Value}
use Rattle.member_link.specs.Machine.Completions.{asks_float}
use Rattle.member_link.specs.Machine.Ops.{float_arithmetic}
use Rattle.member_link.specs.Machine.Programs.{Program}
use Rattle.member_link.specs.Machine.Stepping.{op_step}
use Rattle.member_link.specs.Machine.Work.{float_operands}
use Rattle.member_link.specs.Machine.Worlds.{World}
use Rattle.member_link.specs.RowScope.{RowScope}
use Rattle.member_link.specs.Rows.ArithmeticRows.{Operation, float_operations, operation_in, operation_row}
use Rattle.member_link.specs.Rows.Operands.{of_kind, topmost}
use Rattle.member_link.specs.Rows.Row.{access_aside}
use Rattle.typed_runs.proofs.Arithmetic.{AreOfKinds, of_kinds}
use Rattle.typed_runs.proofs.Assigned.{all_in_heap}
use Rattle.typed_runs.proofs.Taken.{takes_nothing}
use Rattle.typed_runs.proofs.Here.{Here, operands_here, worked}
use Rattle.typed_runs.proofs.Performing.{asks_goes}
use Rattle.typed_runs.specs.TypedFrames.{ShowsEvent}
use Rattle.typed_runs.specs.TypedPrograms.{Typings}
use Rattle.typed_runs.specs.TypedWorlds.{StaysTyped}

abbrev pub have_all : List Kind → List Value → Bool
have_all [] [] = true
have_all (kind ∷ kinds) (value ∷ values) = has_kind kind value && have_all kinds values
have_all kinds values = false

pub have_of_kinds : (ks : List Kind) (vs : List Value) → AreOfKinds ks vs → have_all ks vs ≡ true
have_of_kinds [] [] are = refl
have_of_kinds (k ∷ ks) (v ∷ vs) are = rw are.0 (have_of_kinds ks vs are.1)
have_of_kinds [] (v ∷ vs) are = absurd are
have_of_kinds (k ∷ ks) [] are = absurd are

module _ {P : Program} {T : Typings} {w : World} {f : MethodState} {rest : List RunFrame} {s : RowScope} {frame : Frame} {place : ℕ} {numbered : ℕ → ℕ} where
  pub float_stays : (opcode : ℕ) → Here P T w f rest s frame place numbered (access_aside (operation_row frame (operation_in float_operations opcode))) (float_arithmetic opcode) true []
      → StaysTyped P T w (op_step P w f rest (float_arithmetic opcode))
  float_stays opcode h = by (operation_in float_operations opcode) refl h where
    by : (o : Option Operation) → operation_in float_operations opcode ≡ o
        → Here P T w f rest s frame place numbered (access_aside (operation_row frame o)) (float_arithmetic opcode) true [] → StaysTyped P T w (op_step P w f rest (float_arithmetic opcode))
    by None is k = absurd (takes_nothing s (topmost 1 frame.stack) k.holds.operands)
    by (Some o) is k =
        let n : ℕ = length (map of_kind o.takes) in
        let ops = operands_here k in
        let have : have_all o.takes (reverse (take (length (map of_kind o.takes)) f.stack)) ≡ true =
        have_of_kinds o.takes _ (of_kinds s o.takes (topmost (length (map of_kind o.takes)) frame.stack) k.holds.operands ops.values) in
        let shows : ShowsEvent (float_arithmetic opcode) = rw is refl in
        worked k (length (map of_kind o.takes)) (ap float_operands is ∙ sym (length-map o.takes of_kind)) ops.enough
        (rw is (rw have (asks_goes k (asks_float opcode (reverse (take (length (map of_kind o.takes)) f.stack))) (drop (length (map of_kind o.takes)) f.stack) k.locals ops.rest shows (all_in_heap ops.values))))
