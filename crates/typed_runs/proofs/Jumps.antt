use Rattle.std.specs.Prelude.{◌≡◌, ◌⊎◌, ◌+◌, ◌-◌, ◌<◌, ◌&&◌, ◌==◌, not, refl, ℕ, ℤ, pos, zero, suc, Bool, true, false, List, [], ◌∷◌, length, reverse, nat_le, Some, if◌then◌else◌}
use Rattle.std.proofs.Common.{arith, inl, inr, sym, subst}
use Rattle.class_model.specs.declared.descriptor.Kind.TheVariants as kinds
use Rattle.class_model.specs.declared.frame.Frame.{Frame}
use Rattle.class_model.specs.declared.opcodes.TheConstants.{IFEQ, IFLE, IF_ICMPEQ, IF_ICMPLE, IF_ACMPEQ, IF_ACMPNE, IFNULL, IFNONNULL}
use Rattle.machine_values.specs.Frames.{MethodState}
use Rattle.machine_values.specs.declared.frame.RunFrame.{RunFrame}
use Rattle.machine_values.specs.declared.value.Value.{Value}
use Rattle.machine_values.specs.declared.value.Value.TheVariants as values
use Rattle.member_link.specs.Machine.Arithmetic.{holds_for}
use Rattle.member_link.specs.Machine.Codes.{if_between}
use Rattle.member_link.specs.Machine.Locals.{with_rest, jump_of_int, jump_of_ints, same_references, jump_of_references, jump_of_null}
use Rattle.member_link.specs.Machine.Ops.{Op, jump_by_int, jump_by_ints, jump_by_references, jump_by_null, jump_to}
use Rattle.member_link.specs.Machine.Programs.{Program}
use Rattle.member_link.specs.Machine.Stepping.{op_step, jump_step}
use Rattle.member_link.specs.Machine.Worlds.{World}
use Rattle.member_link.specs.RowScope.{RowScope}
use Rattle.member_link.specs.Rows.Operands.{Need, of_kind, topmost, under}
use Rattle.member_link.specs.Rows.Row.{access_aside, plain}
use Rattle.member_link.specs.Rows.Table.{jump_row}
use Rattle.typed_runs.proofs.Basics.{within}
use Rattle.typed_runs.proofs.Here.{Here, goes, operands_here, pushed, tested}
use Rattle.typed_runs.proofs.Stacks.{Operands}
use Rattle.typed_runs.proofs.Taken.{one_of, two_of, an_int_value, a_reference_value}
use Rattle.typed_runs.specs.Conforming.{AllConform, no_values}
use Rattle.typed_runs.specs.TypedPrograms.{Typings}
use Rattle.typed_runs.specs.TypedWorlds.{StaysTyped}

-- a comparison by a number below six
pub compares : (n : ℕ) → n < 6 → (one other : ℤ) → (b : Bool) × (holds_for n one other ≡ Some b)
compares zero below one other = (_, refl)
compares (suc zero) below one other = (_, refl)
compares (suc (suc zero)) below one other = (_, refl)
compares (suc (suc (suc zero))) below one other = (_, refl)
compares (suc (suc (suc (suc zero)))) below one other = (_, refl)
compares (suc (suc (suc (suc (suc zero))))) below one other = (_, refl)
compares (suc (suc (suc (suc (suc (suc n)))))) below one other = absurd (omega (arith, below))

module _ {P : Program} {T : Typings} {w : World} {f : MethodState} {rest : List RunFrame} {s : RowScope} {frame : Frame} {place : ℕ} {numbered : ℕ → ℕ} {op : Op} where
  -- to a target, or behind the instruction
  pub jump_goes : (takes : List Need) (target : ℕ) → Here P T w f rest s frame place numbered (plain frame takes []) op true (target ∷ [])
      → (stack : List Value) → AllConform P (T f.at).scope w.memory.heap (under (length takes) frame.stack) (reverse stack) → (taken : Bool)
      → StaysTyped P T w (jump_step w f rest (numbered target) (Some (taken, stack)))
  jump_goes takes target h stack under true = goes h (numbered target) _ h.targets.0 f.locals stack h.stands.paired h.locals (pushed stack [] under no_values)
  jump_goes takes target h stack under false = goes h (f.place + 1) _ h.next f.locals stack h.stands.paired h.locals (pushed stack [] under no_values)

  -- by one int
  pub int_jump : (opcode target : ℕ) → opcode - IFEQ < 6 → Here P T w f rest s frame place numbered (plain frame (of_kind kinds.Int ∷ []) []) op true (target ∷ [])
      → StaysTyped P T w (jump_step w f rest (numbered target) (jump_of_int opcode f.stack))
  int_jump opcode target few h = by f.stack (operands_here h) where
    by : (stack : List Value) → Operands P (T f.at).scope w.memory.heap frame.stack stack 1 → StaysTyped P T w (jump_step w f rest (numbered target) (jump_of_int opcode stack))
    by [] o = absurd (omega (arith, o.enough))
    by (v ∷ others) o =
        let one = one_of s (of_kind kinds.Int) (topmost 1 frame.stack) h.holds.operands o.values in
        let n = an_int_value one.fits one.conforms in
        let b = compares (opcode - IFEQ) few n.0 (pos 0) in
        subst (λ x. StaysTyped P T w (jump_step w f rest (numbered target) (jump_of_int opcode (x ∷ others)))) (sym n.1)
        (subst (λ x. StaysTyped P T w (jump_step w f rest (numbered target) (with_rest others x))) (sym b.1)
        (jump_goes (of_kind kinds.Int ∷ []) target h others o.rest b.0))

  -- by two ints
  pub ints_jump : (opcode target : ℕ) → opcode - IF_ICMPEQ < 6 → Here P T w f rest s frame place numbered (plain frame (of_kind kinds.Int ∷ of_kind kinds.Int ∷ []) []) op true (target ∷ [])
      → StaysTyped P T w (jump_step w f rest (numbered target) (jump_of_ints opcode f.stack))
  ints_jump opcode target few h = by f.stack (operands_here h) where
    by : (stack : List Value) → Operands P (T f.at).scope w.memory.heap frame.stack stack 2 → StaysTyped P T w (jump_step w f rest (numbered target) (jump_of_ints opcode stack))
    by [] o = absurd (omega (arith, o.enough))
    by (v ∷ []) o = absurd (omega (arith, o.enough))
    by (v ∷ x ∷ others) o =
        let two = two_of s (of_kind kinds.Int) (of_kind kinds.Int) (topmost 2 frame.stack) h.holds.operands o.values in
        let m = an_int_value two.first_fits two.first_conforms in
        let n = an_int_value two.second_fits two.second_conforms in
        let b = compares (opcode - IF_ICMPEQ) few m.0 n.0 in
        subst (λ y. StaysTyped P T w (jump_step w f rest (numbered target) (jump_of_ints opcode (y ∷ x ∷ others)))) (sym n.1)
        (subst (λ y. StaysTyped P T w (jump_step w f rest (numbered target) (jump_of_ints opcode (values.Int n.0 ∷ y ∷ others)))) (sym m.1)
        (subst (λ y. StaysTyped P T w (jump_step w f rest (numbered target) (with_rest others y))) (sym b.1)
        (jump_goes (of_kind kinds.Int ∷ of_kind kinds.Int ∷ []) target h others o.rest b.0)))

  -- by two references
  pub references_jump : (opcode target : ℕ) → Here P T w f rest s frame place numbered (plain frame (of_kind kinds.Ref ∷ of_kind kinds.Ref ∷ []) []) op true (target ∷ [])
      → StaysTyped P T w (jump_step w f rest (numbered target) (jump_of_references opcode f.stack))
  references_jump opcode target h = by f.stack (operands_here h) where
    both : (v x : Value) → (v ≡ values.Null) ⊎ ((r : ℕ) × (v ≡ values.Ref r)) → (x ≡ values.Null) ⊎ ((r : ℕ) × (x ≡ values.Ref r)) → (b : Bool) × (same_references v x ≡ Some b)
    both v x (inl e) (inl d) = (true, rw e (rw d refl))
    both v x (inl e) (inr d) = (false, rw e (rw d.1 refl))
    both v x (inr e) (inl d) = (false, rw e.1 (rw d refl))
    both v x (inr e) (inr d) = (e.0 == d.0, rw e.1 (rw d.1 refl))

    by : (stack : List Value) → Operands P (T f.at).scope w.memory.heap frame.stack stack 2 → StaysTyped P T w (jump_step w f rest (numbered target) (jump_of_references opcode stack))
    by [] o = absurd (omega (arith, o.enough))
    by (v ∷ []) o = absurd (omega (arith, o.enough))
    by (v ∷ x ∷ others) o =
        let two = two_of s (of_kind kinds.Ref) (of_kind kinds.Ref) (topmost 2 frame.stack) h.holds.operands o.values in
        let b = both x v (a_reference_value two.first_fits two.first_conforms) (a_reference_value two.second_fits two.second_conforms) in
        rw b.1 (jump_goes (of_kind kinds.Ref ∷ of_kind kinds.Ref ∷ []) target h others o.rest (if opcode == IF_ACMPEQ then b.0 else not b.0))

  -- by null
  pub null_jump : (opcode target : ℕ) → Here P T w f rest s frame place numbered (plain frame (of_kind kinds.Ref ∷ []) []) op true (target ∷ [])
      → StaysTyped P T w (jump_step w f rest (numbered target) (jump_of_null opcode f.stack))
  null_jump opcode target h = by f.stack (operands_here h) where
    by_value : (v : Value) (others : List Value) → AllConform P (T f.at).scope w.memory.heap (under 1 frame.stack) (reverse others) → (v ≡ values.Null) ⊎ ((r : ℕ) × (v ≡ values.Ref r))
        → StaysTyped P T w (jump_step w f rest (numbered target) (jump_of_null opcode (v ∷ others)))
    by_value v others under (inl e) = rw e (jump_goes (of_kind kinds.Ref ∷ []) target h others under (opcode == IFNULL))
    by_value v others under (inr e) = rw e.1 (jump_goes (of_kind kinds.Ref ∷ []) target h others under (not (opcode == IFNULL)))

    by : (stack : List Value) → Operands P (T f.at).scope w.memory.heap frame.stack stack 1 → StaysTyped P T w (jump_step w f rest (numbered target) (jump_of_null opcode stack))
    by [] o = absurd (omega (arith, o.enough))
    by (v ∷ others) o =
        let one = one_of s (of_kind kinds.Ref) (topmost 1 frame.stack) h.holds.operands o.values in
        by_value v others o.rest (a_reference_value one.fits one.conforms)

-- ---- the jumps behind their tests

module _ {P : Program} {T : Typings} {w : World} {f : MethodState} {rest : List RunFrame} {s : RowScope} {frame : Frame} {place : ℕ} {numbered : ℕ → ℕ} where
  pub if_stays : (opcode target : ℕ)
      → Here P T w f rest s frame place numbered (access_aside (jump_row frame (nat_le IFEQ opcode && nat_le opcode IFLE) (of_kind kinds.Int ∷ []))) (if_between IFEQ IFLE opcode (jump_by_int opcode (numbered target))) true (target ∷ [])
      → StaysTyped P T w (op_step P w f rest (if_between IFEQ IFLE opcode (jump_by_int opcode (numbered target))))
  if_stays opcode target h =
      tested (nat_le IFEQ opcode && nat_le opcode IFLE) (plain frame (of_kind kinds.Int ∷ []) []) (jump_by_int opcode (numbered target))
      (λ yes k. int_jump opcode target (within IFEQ IFLE opcode 6 yes (omega arith)) k) h

  pub if2_stays : (opcode target : ℕ)
      → Here P T w f rest s frame place numbered (access_aside (jump_row frame (nat_le IF_ICMPEQ opcode && nat_le opcode IF_ICMPLE) (of_kind kinds.Int ∷ of_kind kinds.Int ∷ []))) (if_between IF_ICMPEQ IF_ICMPLE opcode (jump_by_ints opcode (numbered target))) true (target ∷ [])
      → StaysTyped P T w (op_step P w f rest (if_between IF_ICMPEQ IF_ICMPLE opcode (jump_by_ints opcode (numbered target))))
  if2_stays opcode target h =
      tested (nat_le IF_ICMPEQ opcode && nat_le opcode IF_ICMPLE) (plain frame (of_kind kinds.Int ∷ of_kind kinds.Int ∷ []) []) (jump_by_ints opcode (numbered target))
      (λ yes k. ints_jump opcode target (within IF_ICMPEQ IF_ICMPLE opcode 6 yes (omega arith)) k) h

  pub if_same_stays : (opcode target : ℕ)
      → Here P T w f rest s frame place numbered (access_aside (jump_row frame (nat_le IF_ACMPEQ opcode && nat_le opcode IF_ACMPNE) (of_kind kinds.Ref ∷ of_kind kinds.Ref ∷ []))) (if_between IF_ACMPEQ IF_ACMPNE opcode (jump_by_references opcode (numbered target))) true (target ∷ [])
      → StaysTyped P T w (op_step P w f rest (if_between IF_ACMPEQ IF_ACMPNE opcode (jump_by_references opcode (numbered target))))
  if_same_stays opcode target h =
      tested (nat_le IF_ACMPEQ opcode && nat_le opcode IF_ACMPNE) (plain frame (of_kind kinds.Ref ∷ of_kind kinds.Ref ∷ []) []) (jump_by_references opcode (numbered target))
      (λ yes k. references_jump opcode target k) h

  pub if_null_stays : (opcode target : ℕ)
      → Here P T w f rest s frame place numbered (access_aside (jump_row frame (nat_le IFNULL opcode && nat_le opcode IFNONNULL) (of_kind kinds.Ref ∷ []))) (if_between IFNULL IFNONNULL opcode (jump_by_null opcode (numbered target))) true (target ∷ [])
      → StaysTyped P T w (op_step P w f rest (if_between IFNULL IFNONNULL opcode (jump_by_null opcode (numbered target))))
  if_null_stays opcode target h =
      tested (nat_le IFNULL opcode && nat_le opcode IFNONNULL) (plain frame (of_kind kinds.Ref ∷ []) []) (jump_by_null opcode (numbered target))
      (λ yes k. null_jump opcode target k) h

  pub goto_stays : (target : ℕ) → Here P T w f rest s frame place numbered (plain frame [] []) (jump_to (numbered target)) false (target ∷ [])
      → StaysTyped P T w (op_step P w f rest (jump_to (numbered target)))
  goto_stays target h =
      let o = operands_here h in
      goes h (numbered target) _ h.targets.0 f.locals f.stack h.stands.paired h.locals (pushed f.stack [] o.rest no_values)
