use Rattle.std.specs.Prelude.{◌≡◌, ◌+◌, ◌<◌, refl, ℕ, ℤ, true, List, [], ◌∷◌, ◌++◌, length, reverse, slice_get, slice_set, nat_le, Option, Some}
use Rattle.std.proofs.Common.{arith, ap, sym, ◌∙◌, subst}
use Rattle.std.proofs.lemmas.Bool.{le-leb}
use Rattle.std.proofs.lemmas.Option.{slice_get_within}
use Rattle.class_model.specs.declared.descriptor.Kind.{Kind}
use Rattle.class_model.specs.declared.descriptor.Kind.TheVariants as kinds
use Rattle.class_model.specs.declared.frame.Frame.{Frame}
use Rattle.class_model.specs.declared.frame.VType.TheVariants as types
use Rattle.machine_values.specs.Frames.{MethodState}
use Rattle.machine_values.specs.Values.{has_kind}
use Rattle.machine_values.specs.declared.frame.RunFrame.{RunFrame}
use Rattle.machine_values.specs.declared.value.Value.{Value}
use Rattle.machine_values.specs.declared.value.Value.TheVariants as values
use Rattle.member_link.specs.Machine.Locals as machine
use Rattle.member_link.specs.Machine.Locals.{local_value, incremented}
use Rattle.member_link.specs.Machine.Ops.{no_operation, load_local, store_local, increment_local}
use Rattle.member_link.specs.Machine.Programs.{Program}
use Rattle.member_link.specs.Machine.Stepping.{op_step, load_step, store_step, store_units, increment_step}
use Rattle.member_link.specs.Machine.Worlds.{World}
use Rattle.member_link.specs.RowScope.{RowScope}
use Rattle.member_link.specs.Rows.LocalRows.{local_entry, stored, load_row, store_row, iinc_row}
use Rattle.member_link.specs.Rows.Row.{plain}
use Rattle.member_link.specs.Rows.Operands.{of_kind, topmost, under, lowest_of}
use Rattle.typed_runs.proofs.Here.{Here, goes, operands_here, pushed}
use Rattle.typed_runs.proofs.Pairs.{uncut, before_value, stored_paired}
use Rattle.typed_runs.proofs.Stacks.{Operands, lowest_is}
use Rattle.typed_runs.proofs.Taken.{one_of}
use Rattle.typed_runs.proofs.Units.{local_at, kind_conforms, store_conforms, set_conforms, set_same}
use Rattle.typed_runs.specs.Conforming.{Conforms, an_int, AllConform, no_values, and_value, UnitsConform, has_value}
use Rattle.typed_runs.specs.TypedPrograms.{Typings}
use Rattle.typed_runs.specs.TypedWorlds.{StaysTyped}

module _ {P : Program} {T : Typings} {w : World} {f : MethodState} {rest : List RunFrame} {s : RowScope} {frame : Frame} {place : ℕ} {numbered : ℕ → ℕ} where
  pub nop_stays : Here P T w f rest s frame place numbered (plain frame [] []) no_operation true [] → StaysTyped P T w (op_step P w f rest no_operation)
  nop_stays h =
      let o = operands_here h in
      goes h (f.place + 1) _ h.next f.locals f.stack h.stands.paired h.locals (pushed f.stack [] o.rest no_values)

  pub load_stays : (kind : Kind) (at : ℕ) → Here P T w f rest s frame place numbered (load_row frame kind at) (load_local kind at) true [] → StaysTyped P T w (op_step P w f rest (load_local kind at))
  load_stays kind at h =
      let o = operands_here h in
      let hold = h.holds.local in
      let l = local_at kind h.locals at hold.0 hold.1 hold.2 in
      let e : local_entry frame.locals at ≡ hold.0 ∷ [] = rw hold.1 refl in
      subst (λ v. StaysTyped P T w (load_step w f rest v)) (sym l.loaded)
      (goes h (f.place + 1) _ h.next f.locals (l.value ∷ f.stack) h.stands.paired h.locals
      (subst (λ gs. AllConform P (T f.at).scope w.memory.heap (under 0 frame.stack ++ gs) (reverse (l.value ∷ f.stack))) (sym e)
      (pushed f.stack (l.value ∷ []) o.rest (and_value l.conforms no_values))))

  pub store_stays : (kind : Kind) (at : ℕ) → Here P T w f rest s frame place numbered (store_row frame kind at) (store_local kind at) true [] → StaysTyped P T w (op_step P w f rest (store_local kind at))
  store_stays kind at h = by f.stack (operands_here h) where
    by : (stack : List Value) → Operands P (T f.at).scope w.memory.heap frame.stack stack 1 → StaysTyped P T w (store_step w f rest kind at stack)
    by [] o = absurd (omega (arith, o.enough))
    by (v ∷ others) o =
        let one = one_of s (of_kind kind) (topmost 1 frame.stack) h.holds.operands o.values in
        let yes : has_kind kind v ≡ true = kind_conforms kind one.fits one.conforms in
        let new = store_conforms at h.locals kind one.fits h.holds.local one.conforms in
        let low : lowest_of 1 frame.stack ≡ one.type = lowest_is 1 frame.stack one.type [] one.is_type in
        rw yes (rw new.is_stored
        (goes h (f.place + 1) _ h.next new.units others (stored_paired f.locals new.units at v h.stands.paired new.is_stored)
        (subst (λ t. UnitsConform P (T f.at).scope w.memory.heap (stored at t frame.locals) new.units) (sym low) new.conform)
        (pushed others [] o.rest no_values)))

  pub iinc_stays : (at : ℕ) (by : ℤ) → Here P T w f rest s frame place numbered (iinc_row frame at) (increment_local at by) true [] → StaysTyped P T w (op_step P w f rest (increment_local at by))
  iinc_stays at by h =
      let o = operands_here h in
      let hold = h.holds.local in
      let l = local_at kinds.Int h.locals at hold.0 hold.1 hold.2 in
      subst (λ v. StaysTyped P T w (increment_step w f rest at by v)) (sym l.loaded)
      (by_value l.value l.is_there (subst (λ t. Conforms P (T f.at).scope w.memory.heap t l.value) hold.2 l.conforms)) where
        by_value : (v : Value) → slice_get f.locals at ≡ Some (Some v) → Conforms P (T f.at).scope w.memory.heap types.Int v → StaysTyped P T w (increment_step w f rest at by (Some v))
        by_value v there (an_int {number = n}) =
            let o = operands_here h in
            let hold = h.holds.local in
            let new : Value = incremented by (values.Int n) in
            let units : List (Option Value) = slice_set f.locals at (Some new) in
            let inside : at < length f.locals = slice_get_within f.locals at (Some (values.Int n)) there in
            let fits : nat_le (at + 1) (length f.locals) ≡ true = le-leb (at + 1) (length f.locals) (omega (arith, inside)) in
            let e : machine.cut_before at f.locals ≡ f.locals = uncut f.locals at (before_value f.locals at (values.Int n) h.stands.paired there) in
            let is_stored : machine.stored at new f.locals ≡ Some units = rw fits (rw e refl) in
            let typed : slice_get frame.locals at ≡ Some types.Int = hold.1 ∙ ap Some hold.2 in
            subst (λ u. StaysTyped P T w (store_units w f rest f.stack u)) (sym is_stored)
            (goes h (f.place + 1) _ h.next units f.stack (stored_paired f.locals units at new h.stands.paired is_stored)
            (subst (λ ts. UnitsConform P (T f.at).scope w.memory.heap ts units) (set_same frame.locals at types.Int typed) (set_conforms h.locals at (has_value an_int)))
            (pushed f.stack [] o.rest no_values))
