use Rattle.std.specs.Prelude.{◌≡◌, ◌⊎◌, refl, ℕ, pos, true, List, [], ◌∷◌, drop}
use Rattle.std.proofs.Common.{inl, inr}
use Rattle.class_model.specs.declared.frame.Frame.{Frame}
use Rattle.class_model.specs.declared.frame.VType.{VType}
use Rattle.class_tree.specs.Subtype.{IsArray}
use Rattle.machine_values.specs.Frames.{MethodState}
use Rattle.machine_values.specs.declared.frame.RunFrame.{RunFrame}
use Rattle.machine_values.specs.declared.value.Value.{Value}
use Rattle.machine_values.specs.declared.value.Value.TheVariants as values
use Rattle.member_link.specs.Machine.ArraySteps.{array_length_work}
use Rattle.member_link.specs.Machine.Ops.{array_length}
use Rattle.member_link.specs.Machine.Programs.{Program}
use Rattle.member_link.specs.Machine.Stepping.{op_step}
use Rattle.member_link.specs.Machine.Throwables.{null_pointer}
use Rattle.member_link.specs.Machine.Worlds.{World}
use Rattle.member_link.specs.RowScope.{RowScope}
use Rattle.member_link.specs.Rows.ArrayRows.{length_row}
use Rattle.member_link.specs.Rows.Operands.{some_array, topmost}
use Rattle.typed_runs.proofs.ArrayShapes.{IsArrayOf, an_array_value}
use Rattle.typed_runs.proofs.Here.{Here, operands_here, worked, gives_same}
use Rattle.typed_runs.proofs.OperandsTaken.{ComesTyped, of_one}
use Rattle.typed_runs.proofs.Performing.{raises_goes}
use Rattle.typed_runs.proofs.Raising.{raises_null}
use Rattle.typed_runs.proofs.Taken.{One}
use Rattle.typed_runs.specs.Conforming.{an_int, no_values, and_value}
use Rattle.typed_runs.specs.TypedPrograms.{Typings}
use Rattle.typed_runs.specs.TypedWorlds.{StaysTyped}

module _ {P : Program} {T : Typings} {w : World} {f : MethodState} {rest : List RunFrame} {s : RowScope} {frame : Frame} {place : ℕ}
    {numbered : ℕ → ℕ} where
  pub length_stays : Here P T w f rest s frame place numbered (length_row frame) array_length true []
      → StaysTyped P T w (op_step P w f rest array_length)
  length_stays h = worked h 1 refl (operands_here h).enough (of_one some_array h (array_length_work w.memory) by) where
    by_array : (v : Value) {t : VType} → (v ≡ values.Null) ⊎ IsArrayOf P w.memory.heap IsArray t v
        → ComesTyped P T w f rest 1 (array_length_work w.memory (v ∷ []))
    by_array v (inl null) = rw null (raises_goes h null_pointer (drop 1 f.stack) (raises_null P T h.typed.program))
    by_array v (inr a) = rw a.array.is (rw a.array.is_there (gives_same h (values.Int (pos a.array.len) ∷ []) (and_value an_int no_values)))

    by : (v : Value) → One P (T f.at).scope w.memory.heap s some_array (topmost 1 frame.stack) v
        → ComesTyped P T w f rest 1 (array_length_work w.memory (v ∷ []))
    by v one = by_array v (an_array_value P T h.typed.program w.memory h.typed.memory IsArray (λ name is. is) one.fits one.conforms)
