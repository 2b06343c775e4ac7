use Rattle.std.specs.Prelude.{◌≡◌, refl, ℕ, ℤ, zero, suc, Bool, true, false, List, [], ◌∷◌, map, slice_get, int_lt, not, Option, Some, None, IfSome, if◌then◌else◌}
use Rattle.std.specs.Int.{int_gap}
use Rattle.std.specs.List.{AllByRecursion}
use Rattle.std.proofs.Common.{arith, subst}
use Rattle.class_model.specs.declared.descriptor.Kind.TheVariants as kinds
use Rattle.class_model.specs.declared.frame.Frame.{Frame}
use Rattle.class_model.specs.declared.instr.Pair.{Pair}
use Rattle.machine_values.specs.Frames.{MethodState}
use Rattle.machine_values.specs.declared.frame.RunFrame.{RunFrame}
use Rattle.machine_values.specs.declared.value.Value.{Value}
use Rattle.member_link.specs.Machine.Locals.{table_target, lookup_target}
use Rattle.member_link.specs.Machine.Ops.{Op, table_switch, lookup_switch}
use Rattle.member_link.specs.Machine.Programs.{Program}
use Rattle.member_link.specs.Machine.Stepping.{op_step, switch_step}
use Rattle.member_link.specs.Machine.Worlds.{World}
use Rattle.member_link.specs.RowScope.{RowScope}
use Rattle.member_link.specs.Rows.Operands.{of_kind, topmost}
use Rattle.member_link.specs.Rows.Row.{plain, row_frame}
use Rattle.typed_runs.proofs.Here.{Here, goes, operands_here, pushed}
use Rattle.typed_runs.proofs.Stacks.{Operands}
use Rattle.typed_runs.proofs.Taken.{one_of, an_int_value}
use Rattle.typed_runs.specs.Conforming.{no_values}
use Rattle.typed_runs.specs.TypedPoints.{LeadsTo}
use Rattle.typed_runs.specs.TypedPrograms.{Typings}
use Rattle.typed_runs.specs.TypedWorlds.{StaysTyped}

-- ---- what holds of each target holds of the one that is taken

pub all_at : (Q : ℕ → Type 0) (number : ℕ → ℕ) (xs : List ℕ) → AllByRecursion (λ x. Q (number x)) xs → (n t : ℕ) → slice_get (map number xs) n ≡ Some t → Q t
all_at Q number [] all n t is = cc
all_at Q number (x ∷ xs) all zero t is = subst Q (let e : number x ≡ t = cc in e) all.0
all_at Q number (x ∷ xs) all (suc n) t is = all_at Q number xs all.1 n t is

pub table_leads : (Q : ℕ → Type 0) (number : ℕ → ℕ) (low : ℤ) (other : ℕ) (xs : List ℕ) (key : ℤ) → Q (number other) → AllByRecursion (λ x. Q (number x)) xs
    → Q (table_target low (number other) (map number xs) key)
table_leads Q number low other xs key one all = by (int_lt key low) refl where
  by_target : (t : Option ℕ) → slice_get (map number xs) (int_gap low key) ≡ t → int_lt key low ≡ false → Q (table_target low (number other) (map number xs) key)
  by_target None none above = rw above (rw none one)
  by_target (Some t) some above = rw above (rw some (all_at Q number xs all (int_gap low key) t some))

  by : (b : Bool) → int_lt key low ≡ b → Q (table_target low (number other) (map number xs) key)
  by true below = rw below one
  by false above = by_target (slice_get (map number xs) (int_gap low key)) refl above

pub lookup_leads : (Q : ℕ → Type 0) (number : ℕ → ℕ) (other : ℕ) (pairs : List Pair) (key : ℤ) → Q (number other) → AllByRecursion (λ x. Q (number x)) (map (λ (p : Pair). p.to) pairs)
    → Q (lookup_target (number other) (map (λ (pair : Pair). record { key = pair.key; to = number pair.to }) pairs) key)
lookup_leads Q number other [] key one all = one
lookup_leads Q number other (p ∷ pairs) key one all =
    by (if int_lt key p.key then false else not (int_lt p.key key)) (lookup_leads Q number other pairs key one all.1) where
      by : (b : Bool) → Q (lookup_target (number other) (map (λ (pair : Pair). record { key = pair.key; to = number pair.to }) pairs) key)
          → Q (if b then number p.to else lookup_target (number other) (map (λ (pair : Pair). record { key = pair.key; to = number pair.to }) pairs) key)
      by true others = all.0
      by false others = others

module _ {P : Program} {T : Typings} {w : World} {f : MethodState} {rest : List RunFrame} {s : RowScope} {frame : Frame} {place : ℕ} {numbered : ℕ → ℕ} {op : Op} {places : List ℕ}
    (h : Here P T w f rest s frame place numbered (plain frame (of_kind kinds.Int ∷ []) []) op false places) where
  -- whatever the key, there is a frame at its target
  pub switch_goes : (target : ℤ → ℕ) → ((key : ℤ) → IfSome (row_frame frame (plain frame (of_kind kinds.Int ∷ []) [])) (LeadsTo (T f.at) (target key)))
      → StaysTyped P T w (switch_step w f rest target f.stack)
  switch_goes target leads = by f.stack (operands_here h) where
    by : (stack : List Value) → Operands P (T f.at).scope w.memory.heap frame.stack stack 1 → StaysTyped P T w (switch_step w f rest target stack)
    by [] o = absurd (omega (arith, o.enough))
    by (v ∷ others) o =
        let one = one_of s (of_kind kinds.Int) (topmost 1 frame.stack) h.holds.operands o.values in
        let n = an_int_value one.fits one.conforms in
        rw n.1 (goes h (target n.0) _ (leads n.0) f.locals others h.stands.paired h.locals (pushed others [] o.rest no_values))

module _ {P : Program} {T : Typings} {w : World} {f : MethodState} {rest : List RunFrame} {s : RowScope} {frame : Frame} {place : ℕ} {numbered : ℕ → ℕ} where
  pub table_stays : (low : ℤ) (other : ℕ) (targets : List ℕ)
      → Here P T w f rest s frame place numbered (plain frame (of_kind kinds.Int ∷ []) []) (table_switch low (numbered other) (map numbered targets)) false (other ∷ targets)
      → StaysTyped P T w (op_step P w f rest (table_switch low (numbered other) (map numbered targets)))
  table_stays low other targets h =
      switch_goes h (table_target low (numbered other) (map numbered targets))
      (λ key. table_leads (λ n. IfSome (row_frame frame (plain frame (of_kind kinds.Int ∷ []) [])) (LeadsTo (T f.at) n)) numbered low other targets key h.targets.0 h.targets.1)

  pub lookup_stays : (other : ℕ) (pairs : List Pair)
      → Here P T w f rest s frame place numbered (plain frame (of_kind kinds.Int ∷ []) []) (lookup_switch (numbered other) (map (λ (pair : Pair). record { key = pair.key; to = numbered pair.to }) pairs)) false (other ∷ map (λ (p : Pair). p.to) pairs)
      → StaysTyped P T w (op_step P w f rest (lookup_switch (numbered other) (map (λ (pair : Pair). record { key = pair.key; to = numbered pair.to }) pairs)))
  lookup_stays other pairs h =
      switch_goes h (lookup_target (numbered other) (map (λ (pair : Pair). record { key = pair.key; to = numbered pair.to }) pairs))
      (λ key. lookup_leads (λ n. IfSome (row_frame frame (plain frame (of_kind kinds.Int ∷ []) [])) (LeadsTo (T f.at) n)) numbered other pairs key h.targets.0 h.targets.1)
