use Rattle.std.specs.Prelude.{◌≡◌, refl, ℕ, Bool, true, List, [], ◌∷◌, take, drop, reverse, get_or}
use Rattle.std.proofs.Common.{arith, ap, sym, subst}
use Rattle.class_model.specs.Characters.{left_bracket}
use Rattle.class_model.specs.declared.frame.Frame.{Frame}
use Rattle.class_model.specs.declared.frame.VType.TheVariants as types
use Rattle.class_model.specs.declared.instr.Instr.TheVariants as instrs
use Rattle.class_tree.specs.Names.{throwable}
use Rattle.class_tree.specs.Subtype.{IsArray}
use Rattle.machine_values.specs.Frames.{MethodState}
use Rattle.machine_values.specs.Heaps.{Heap}
use Rattle.machine_values.specs.declared.frame.RunFrame.{RunFrame}
use Rattle.machine_values.specs.declared.object.Shape.{Shape}
use Rattle.machine_values.specs.declared.value.Value.{Value}
use Rattle.member_link.specs.Bodies.{item_instr}
use Rattle.member_link.specs.Machine.Codes.{item_op}
use Rattle.member_link.specs.Machine.ObjectSteps.{throw_work}
use Rattle.member_link.specs.Machine.Ops.{Op, throw_reference}
use Rattle.member_link.specs.Machine.Programs.{Program}
use Rattle.member_link.specs.Machine.Shapes.{shape_conforms}
use Rattle.member_link.specs.Machine.Stepping.{op_step, step}
use Rattle.member_link.specs.Machine.Throwables.{null_pointer}
use Rattle.member_link.specs.Machine.Worlds.{World, Memory}
use Rattle.member_link.specs.RowScope.{RowScope}
use Rattle.member_link.specs.Rows.Operands.{assignable_to, topmost}
use Rattle.member_link.specs.Rows.Row.{access_aside}
use Rattle.member_link.specs.Rows.Table.{throw_row}
use Rattle.typed_runs.proofs.ClassesTaken.{shape_passes}
use Rattle.typed_runs.proofs.FamilySteps.{EachStays, as_it_is, family_step}
use Rattle.typed_runs.proofs.Here.{Here, operands_here, worked}
use Rattle.typed_runs.proofs.HereMethods.{CompletesTyped, assigned_here}
use Rattle.typed_runs.proofs.OpSorts.{of_throws, sort_of_op, not_of_family}
use Rattle.typed_runs.proofs.Performing.{raises_goes, throws_goes}
use Rattle.typed_runs.proofs.Raising.{raises_null}
use Rattle.typed_runs.proofs.Receivers.{IsReceiver, no_receiver, a_receiver, receiver_of}
use Rattle.typed_runs.proofs.Stacks.{Operands}
use Rattle.typed_runs.proofs.Taken.{one_of}
use Rattle.typed_runs.proofs.Unwinding.{IsThrown}
use Rattle.typed_runs.specs.Conforming.{HasShape, ShapeConforms, IsTypedMemory}
use Rattle.typed_runs.specs.Families.{NextIs, ThrowsReference}
use Rattle.typed_runs.specs.TypedPrograms.{Typings, IsTypedProgram}
use Rattle.typed_runs.specs.TypedWorlds.{TypedWorld, StaysTyped}

no_throwable_array : IsArray throwable → ⊥
no_throwable_array is = let e : 106 ≡ left_bracket = ap (λ xs. get_or xs 0 0) is.1 in absurd (omega (arith, e))

-- an object that conforms to java/lang/Throwable
pub record ConformsThrown (P : Program) (heap : Heap) (r : ℕ) : Type 0 where
  pub thrown : IsThrown P heap r
  pub passes : shape_conforms P thrown.object.shape throwable ≡ true

is_thrown : (P : Program) (T : Typings) → IsTypedProgram P T → (m : Memory) → IsTypedMemory P m
    → (r : ℕ) (shape : Shape) → HasShape m.heap r shape → ShapeConforms P shape throwable
    → ConformsThrown P m.heap r
is_thrown P T program m memory r shape has is =
    let holds = memory.objects r has.object has.is_there in
    let conforms = subst (λ s. ShapeConforms P s throwable) (sym has.same) is in
    record {
      thrown = record { object = has.object; is_there = has.is_there; is_throwable = conforms };
      passes = shape_passes P T program m.heap has.object.shape has.object.values throwable no_throwable_array holds conforms;
    }

module _ {P : Program} {T : Typings} {w : World} {f : MethodState} {rest : List RunFrame} {s : RowScope} {frame : Frame} {place : ℕ}
    {numbered : ℕ → ℕ} {falls : Bool} {places : List ℕ} where
  pub throw_stays : Here P T w f rest s frame place numbered (access_aside (throw_row frame)) throw_reference falls places
      → StaysTyped P T w (op_step P w f rest throw_reference)
  throw_stays h = worked h 1 refl (operands_here h).enough (by f.stack refl (operands_here h)) where
    on : (v : Value) → IsReceiver P w.memory.heap throwable v
        → CompletesTyped P T w f rest 1 (throw_work P w.memory (v ∷ []))
    on _ no_receiver = raises_goes h null_pointer (drop 1 f.stack) (raises_null P T h.typed.program)
    on _ (a_receiver {reference = r} {shape = shape} has is) =
        let found = is_thrown P T h.typed.program w.memory h.typed.memory r shape has is in
        rw found.thrown.is_there (rw found.passes (throws_goes h r (drop 1 f.stack) found.thrown))

    by : (stack : List Value) → f.stack ≡ stack → Operands P (T f.at).scope w.memory.heap frame.stack stack 1
        → CompletesTyped P T w f rest 1 (throw_work P w.memory (reverse (take 1 stack)))
    by [] e o = absurd (omega (arith, o.enough))
    by (v ∷ others) e o =
        let one = one_of s (assignable_to (types.Object throwable)) (topmost 1 frame.stack) h.holds.operands o.values in
        on v (receiver_of (assigned_here h one.fits one.conforms))

-- ---- the family

throws_reference : (op : Op) → ThrowsReference op → sort_of_op op ≡ of_throws
throws_reference throw_reference is = refl
throws_reference op is = absurd is

pub each_throw : (P : Program) (T : Typings) → EachStays P T ThrowsReference
each_throw P T w f rest s frame place numbered (item_instr instrs.Throw) is d h = throw_stays h
each_throw P T w f rest s frame place numbered item is d h =
    absurd (not_of_family P.links numbered s item of_throws (throws_reference (item_op P.links numbered s item) is) (λ e. cc) (λ e. cc))

pub throws_typed : (P : Program) (T : Typings) (w : World) → TypedWorld P T w → NextIs ThrowsReference P w.frames
    → StaysTyped P T w (step P w)
throws_typed P T w typed next =
    family_step P T ThrowsReference (as_it_is P T ThrowsReference (record { no_new = λ name no. no; no_special = λ r from no. no }) (each_throw P T)) w typed next
