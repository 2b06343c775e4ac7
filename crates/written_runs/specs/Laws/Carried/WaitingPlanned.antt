-- What a planned frame that waits does, from what is known of it: where something is thrown out of what it waits for, and behind a result.
use Rattle.std.proofs.Common.{◌≡◌, true, List, ◌∷◌, Some, IsTrue, refl, sym, subst, ◌∙◌}
use Rattle.std.proofs.lemmas.Option.{same_Some}
use Rattle.class_model.specs.declared.header.Member.{Member}
use Rattle.machine_values.specs.Frames.{MethodState}
use Rattle.machine_values.specs.Heaps.{Heap}
use Rattle.machine_values.specs.declared.frame.RunFrame.{RunFrame}
use Rattle.machine_values.specs.declared.frame.RunFrame.TheVariants.{Method}
use Rattle.member_link.specs.Machine.Ops.{Op, array_length, call_dynamic, call_interface, call_special, call_static, call_virtual, check_cast, division, enter_monitor, float_arithmetic, get_field, get_static, increment_local, instance_of, jump_by_int, jump_by_ints, jump_by_null, jump_by_references, jump_to, leave_monitor, load_element, load_local, lookup_switch, meaningless, new_array, new_arrays, new_object, no_operation, pure_arithmetic, push_constant, push_value, put_field, put_static, return_nothing, return_value, shuffle_stack, store_element, store_local, table_switch, test_local, throw_reference}
use Rattle.member_link.specs.Machine.Programs.{Point, point_at}
use Rattle.typed_runs.specs.TypedFrames.{Above, FitsCall, FramesConform, asked_library, called_method, nothing_awaited, upon}
use Rattle.written_runs.specs.Inner.Setup.{Setup, first}
use Rattle.written_runs.specs.Inner.Waiting.{may_throw}
use Rattle.written_runs.specs.Laws.Carried.Awaited.{awaits, planned_catches, planned_resumes}
use Rattle.written_runs.specs.Laws.Carried.Knowing.{CarriedFacts}
use Rattle.written_runs.specs.Laws.OwnFrames.{MayThrowTo, ReturnsToPlanned, UnwindsPlanned}

-- a call may throw
call_may_throw : (member : Member) (op : Op) → FitsCall member op → may_throw op ≡ true
call_may_throw member (call_static r) fits = refl
call_may_throw member (call_virtual r) fits = refl
call_may_throw member (call_interface r) fits = refl
call_may_throw member (call_special r from) fits = refl
call_may_throw member no_operation fits = absurd fits
call_may_throw member meaningless fits = absurd fits
call_may_throw member (push_value v) fits = absurd fits
call_may_throw member (push_constant v) fits = absurd fits
call_may_throw member (load_local k n) fits = absurd fits
call_may_throw member (store_local k n) fits = absurd fits
call_may_throw member (increment_local n by) fits = absurd fits
call_may_throw member (test_local n) fits = absurd fits
call_may_throw member (shuffle_stack n) fits = absurd fits
call_may_throw member (pure_arithmetic n) fits = absurd fits
call_may_throw member (division n) fits = absurd fits
call_may_throw member (float_arithmetic n) fits = absurd fits
call_may_throw member (jump_by_int n to) fits = absurd fits
call_may_throw member (jump_by_ints n to) fits = absurd fits
call_may_throw member (jump_by_references n to) fits = absurd fits
call_may_throw member (jump_by_null n to) fits = absurd fits
call_may_throw member (jump_to n) fits = absurd fits
call_may_throw member (table_switch low n to) fits = absurd fits
call_may_throw member (lookup_switch n pairs) fits = absurd fits
call_may_throw member return_nothing fits = absurd fits
call_may_throw member (return_value type) fits = absurd fits
call_may_throw member throw_reference fits = absurd fits
call_may_throw member (get_static r) fits = absurd fits
call_may_throw member (put_static r own) fits = absurd fits
call_may_throw member (get_field r) fits = absurd fits
call_may_throw member (put_field r own) fits = absurd fits
call_may_throw member (call_dynamic class n name desc) fits = absurd fits
call_may_throw member (new_object name) fits = absurd fits
call_may_throw member (new_array name) fits = absurd fits
call_may_throw member (new_arrays name n) fits = absurd fits
call_may_throw member (load_element n) fits = absurd fits
call_may_throw member (store_element n) fits = absurd fits
call_may_throw member array_length fits = absurd fits
call_may_throw member (check_cast name) fits = absurd fits
call_may_throw member (instance_of name) fits = absurd fits
call_may_throw member enter_monitor fits = absurd fits
call_may_throw member leave_monitor fits = absurd fits

-- what it waits for may throw
may_throw_there : (u : Setup) (heap : Heap) (f : MethodState) (ones : List RunFrame) (above : Above) (at_point : Point)
    → point_at (first u) f.at f.place ≡ Some at_point
    → FramesConform (first u) u.typings heap above (Method f ∷ ones)
    → MayThrowTo u f above
    → IsTrue (may_throw at_point.op)
may_throw_there u heap f ones nothing_awaited at_point is typed may = absurd may
may_throw_there u heap f ones (called_method member) at_point is (upon conforms rest) may =
    subst (λ (point : Point). IsTrue (may_throw point.op))
    (same_Some conforms.stands.point at_point (sym conforms.stands.is_point ∙ is))
    (call_may_throw member conforms.stands.point.op conforms.waited)
may_throw_there u heap f ones asked_library at_point is typed may = may at_point is

pub unwinds_planned : (u : Setup) → CarriedFacts u → UnwindsPlanned u
unwinds_planned u laws = record {
  catches = λ virtuals known names heap f g ones others waits may.
      let known_there = awaits u laws waits in
      planned_catches u laws waits
      (known_there.throws (may_throw_there u heap f ones waits.above known_there.at_point known_there.is_point waits.typed may))
      known_there.straight;
}

pub returns_planned : (u : Setup) → CarriedFacts u → ReturnsToPlanned u
returns_planned u laws = record {
  resumes = λ virtuals known names heap f g ones others values also waits are.
      let known_there = awaits u laws waits in
      planned_resumes u laws waits values also are known_there.waits known_there.straight;
}
