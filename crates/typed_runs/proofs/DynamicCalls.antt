use Rattle.std.specs.Prelude.{refl, ℕ, true, List, [], length, take, drop, reverse}
use Rattle.class_model.specs.Descriptors.{parameters_of}
use Rattle.class_model.specs.declared.frame.Frame.{Frame}
use Rattle.class_tree.specs.Headers.{Name}
use Rattle.machine_values.specs.Frames.{MethodState}
use Rattle.machine_values.specs.declared.frame.RunFrame.{RunFrame}
use Rattle.machine_values.specs.declared.value.Value.{Value}
use Rattle.member_link.specs.Machine.Completions.{asks_dynamic}
use Rattle.member_link.specs.Machine.Ops.{call_dynamic}
use Rattle.member_link.specs.Machine.Programs.{Program}
use Rattle.member_link.specs.Machine.Stepping.{op_step}
use Rattle.member_link.specs.Machine.Worlds.{World}
use Rattle.member_link.specs.RowScope.{RowScope}
use Rattle.member_link.specs.Rows.MemberRows.{argument_needs, result_types}
use Rattle.member_link.specs.Rows.Operands.{topmost}
use Rattle.member_link.specs.Rows.Row.{plain}
use Rattle.member_link.specs.Signatures.{result_of}
use Rattle.typed_runs.proofs.Arguments.{arguments, arguments_kinds}
use Rattle.typed_runs.proofs.ArgumentsHere.{as_many_needs}
use Rattle.typed_runs.proofs.Assigned.{all_in_heap}
use Rattle.typed_runs.proofs.Here.{Here, operands_here, worked}
use Rattle.typed_runs.proofs.HereMethods.{headers_here}
use Rattle.typed_runs.proofs.Performing.{asks_goes}
use Rattle.typed_runs.specs.TypedPrograms.{Typings}
use Rattle.typed_runs.specs.TypedWorlds.{StaysTyped}

module _ {P : Program} {T : Typings} {w : World} {f : MethodState} {rest : List RunFrame} {s : RowScope} {frame : Frame} {place : ℕ}
    {numbered : ℕ → ℕ} where
  pub dynamic_stays : (class : Name) (bootstrap : ℕ) (name desc : List ℕ)
      → Here P T w f rest s frame place numbered (plain frame (argument_needs desc) (result_types (result_of desc)))
      (call_dynamic class bootstrap name desc) true []
      → StaysTyped P T w (op_step P w f rest (call_dynamic class bootstrap name desc))
  dynamic_stays class bootstrap name desc h =
      let o = operands_here h in
      let vs : List Value = reverse (take (length (argument_needs desc)) f.stack) in
      let are = arguments P T h.typed.program s (headers_here h) desc
      (topmost (length (argument_needs desc)) frame.stack) h.holds.operands o.values in
      worked h (length (argument_needs desc)) (as_many_needs desc) o.enough
      (rw (arguments_kinds (parameters_of desc) (are s))
      (asks_goes h (asks_dynamic class bootstrap name desc vs) (drop (length (argument_needs desc)) f.stack) h.locals o.rest refl
      (all_in_heap o.values)))
