use Rattle.std.specs.Prelude.{◌≡◌, ◌⊎◌, ◌==◌, ◌+◌, ◌-◌, refl, ℕ, Bool, true, false, List, [], ◌∷◌, drop, take, reverse, Some, if◌then◌else◌}
use Rattle.std.proofs.Common.{arith, inl, inr, sym, subst}
use Rattle.class_model.specs.declared.descriptor.Kind.TheVariants as kinds
use Rattle.class_model.specs.declared.frame.Frame.{Frame}
use Rattle.machine_values.specs.Frames.{MethodState}
use Rattle.machine_values.specs.Heaps.{object_at, entered, left, monitor_count}
use Rattle.machine_values.specs.declared.frame.RunFrame.{RunFrame}
use Rattle.machine_values.specs.declared.frame.RunFrame.TheVariants as frames
use Rattle.machine_values.specs.declared.object.Object.{Object}
use Rattle.machine_values.specs.declared.value.Value.{Value}
use Rattle.machine_values.specs.declared.value.Value.TheVariants as values
use Rattle.member_link.specs.Machine.Completions.{Completion, gives, raises}
use Rattle.member_link.specs.Machine.ObjectSteps.{if_there, with_entered, enter_monitor_work, leave_monitor_work}
use Rattle.member_link.specs.Machine.Ops.{Op, enter_monitor, leave_monitor, test_local}
use Rattle.member_link.specs.Machine.Performing.{perform}
use Rattle.member_link.specs.Machine.Programs.{Program}
use Rattle.member_link.specs.Machine.Stepping.{op_step, test_step}
use Rattle.member_link.specs.Machine.Throwables.{null_pointer, illegal_monitor}
use Rattle.member_link.specs.Machine.Worlds.{World, Memory, with_heap}
use Rattle.member_link.specs.RowScope.{RowScope}
use Rattle.member_link.specs.Rows.LocalRows.{null_test_row}
use Rattle.member_link.specs.Rows.Operands.{of_kind, topmost}
use Rattle.member_link.specs.Rows.Row.{plain}
use Rattle.typed_runs.proofs.Assigned.{conforms_in_heap}
use Rattle.typed_runs.proofs.Here.{Here, operands_here, worked, gives_values, goes, pushed}
use Rattle.typed_runs.proofs.Kept.{in_heap}
use Rattle.typed_runs.proofs.Memories.{monitor_typed}
use Rattle.typed_runs.proofs.Performing.{raises_goes, can_throw}
use Rattle.typed_runs.proofs.Raising.{raises_null, raises_monitor, raised_stays}
use Rattle.typed_runs.proofs.Stacks.{Operands}
use Rattle.typed_runs.proofs.Taken.{one_of, a_reference_value}
use Rattle.typed_runs.proofs.Units.{local_at}
use Rattle.typed_runs.specs.Conforming.{IsValueInHeap, IsTypedMemory, no_values}
use Rattle.typed_runs.specs.TypedPrograms.{Typings}
use Rattle.typed_runs.specs.TypedWorlds.{StaysTyped}

-- another count of entries
pub entries_typed : (P : Program) (m : Memory) (n : ℕ) → IsTypedMemory P m → IsTypedMemory P (record m { entries = n })
entries_typed P m n typed = record { objects = typed.objects; constants = typed.constants; statics = typed.statics }

-- what is done with an object that is there
pub there_is : (m : Memory) (r : ℕ) (o : Object) (k : Object → Completion) → object_at m.heap r ≡ Some o → if_there m r k ≡ k o
there_is m r o k is = rw is refl

module _ {P : Program} {T : Typings} {w : World} {f : MethodState} {rest : List RunFrame} {s : RowScope} {frame : Frame} {place : ℕ} {numbered : ℕ → ℕ} {op : Op}
    (h : Here P T w f rest s frame place numbered (plain frame (of_kind kinds.Ref ∷ []) []) op true []) where
  pub enters : (v : Value) → IsValueInHeap w.memory.heap v → (v ≡ values.Null) ⊎ ((r : ℕ) × (v ≡ values.Ref r))
      → StaysTyped P T w (perform P w f (record f { stack = drop 1 f.stack }) rest (enter_monitor_work w.memory (v ∷ [])))
  enters v there (inl e) = rw e (raises_goes h null_pointer (drop 1 f.stack) (raises_null P T h.typed.program))
  enters v there (inr e) =
      let o = in_heap w.memory.heap e.0 (subst (IsValueInHeap w.memory.heap) e.1 there) in
      let m = monitor_typed P w.memory e.0 (monitor_count w.memory.heap e.0 + 1) h.typed.memory in
      rw e.1 (subst (λ c. StaysTyped P T w (perform P w f (record f { stack = drop 1 f.stack }) rest c)) (sym (there_is w.memory e.0 o.0 (λ x. gives (with_entered w.memory e.0) []) o.1))
      (gives_values h (with_entered w.memory e.0) m.keep (entries_typed P (with_heap w.memory (entered w.memory.heap e.0)) (w.memory.entries + 1) m.typed) [] no_values))

  pub leaves : (v : Value) → IsValueInHeap w.memory.heap v → (v ≡ values.Null) ⊎ ((r : ℕ) × (v ≡ values.Ref r))
      → StaysTyped P T w (perform P w f (record f { stack = drop 1 f.stack }) rest (leave_monitor_work w.memory (v ∷ [])))
  leaves v there (inl e) = rw e (raises_goes h null_pointer (drop 1 f.stack) (raises_null P T h.typed.program))
  leaves v there (inr e) =
      let o = in_heap w.memory.heap e.0 (subst (IsValueInHeap w.memory.heap) e.1 there) in
      rw e.1 (subst (λ c. StaysTyped P T w (perform P w f (record f { stack = drop 1 f.stack }) rest c))
      (sym (there_is w.memory e.0 o.0 (λ x. if x.monitor == 0 then raises illegal_monitor else gives (with_heap w.memory (left w.memory.heap e.0)) []) o.1)) (by e.0 (o.0.monitor == 0))) where
        by : (r : ℕ) (b : Bool) → StaysTyped P T w (perform P w f (record f { stack = drop 1 f.stack }) rest (if b then raises illegal_monitor else gives (with_heap w.memory (left w.memory.heap r)) []))
        by r true = raises_goes h illegal_monitor (drop 1 f.stack) (raises_monitor P T h.typed.program)
        by r false = let m = monitor_typed P w.memory r (monitor_count w.memory.heap r - 1) h.typed.memory in gives_values h (with_heap w.memory (left w.memory.heap r)) m.keep m.typed [] no_values

  -- the one reference that is taken
  pub of_reference : (work : List Value → Completion)
      → ((v : Value) → IsValueInHeap w.memory.heap v → (v ≡ values.Null) ⊎ ((r : ℕ) × (v ≡ values.Ref r)) → StaysTyped P T w (perform P w f (record f { stack = drop 1 f.stack }) rest (work (v ∷ []))))
      → StaysTyped P T w (perform P w f (record f { stack = drop 1 f.stack }) rest (work (reverse (take 1 f.stack))))
  of_reference work proved = by f.stack refl (operands_here h) where
    by : (stack : List Value) → f.stack ≡ stack → Operands P (T f.at).scope w.memory.heap frame.stack stack 1
        → StaysTyped P T w (perform P w f (record f { stack = drop 1 f.stack }) rest (work (reverse (take 1 stack))))
    by [] e o = absurd (omega (arith, o.enough))
    by (v ∷ others) e o =
        let one = one_of s (of_kind kinds.Ref) (topmost 1 frame.stack) h.holds.operands o.values in
        proved v (conforms_in_heap one.conforms) (a_reference_value one.fits one.conforms)

module _ {P : Program} {T : Typings} {w : World} {f : MethodState} {rest : List RunFrame} {s : RowScope} {frame : Frame} {place : ℕ} {numbered : ℕ → ℕ} where
  pub enter_stays : Here P T w f rest s frame place numbered (plain frame (of_kind kinds.Ref ∷ []) []) enter_monitor true [] → StaysTyped P T w (op_step P w f rest enter_monitor)
  enter_stays h = worked h 1 refl (operands_here h).enough (of_reference h (enter_monitor_work w.memory) (enters h))

  pub leave_stays : Here P T w f rest s frame place numbered (plain frame (of_kind kinds.Ref ∷ []) []) leave_monitor true [] → StaysTyped P T w (op_step P w f rest leave_monitor)
  leave_stays h = worked h 1 refl (operands_here h).enough (of_reference h (leave_monitor_work w.memory) (leaves h))

  pub null_test_stays : (at : ℕ) → Here P T w f rest s frame place numbered (null_test_row frame at) (test_local at) true [] → StaysTyped P T w (op_step P w f rest (test_local at))
  null_test_stays at h =
      let hold = h.holds.local in
      let l = local_at kinds.Ref h.locals at hold.0 hold.1 hold.2 in
      subst (λ v. StaysTyped P T w (test_step P w f rest v)) (sym l.loaded) (by l.value (a_reference_value hold.2 l.conforms)) where
        by : (v : Value) → (v ≡ values.Null) ⊎ ((r : ℕ) × (v ≡ values.Ref r)) → StaysTyped P T w (test_step P w f rest (Some v))
        by v (inl e) = rw e (raised_stays P T w null_pointer (frames.Method f ∷ rest) h.typed (raises_null P T h.typed.program) (can_throw h f.stack))
        by v (inr e) = let o = operands_here h in rw e.1 (goes h (f.place + 1) _ h.next f.locals f.stack h.stands.paired h.locals (pushed f.stack [] o.rest no_values))
