-- Each instruction of a code is read at its offset, and one of a list has what all have.
use Rattle.std.proofs.Common.{◌≡◌, ℕ, zero, suc, ◌+◌, ◌<◌, List, [], ◌∷◌, drop, drop-drop, length, get_or, Ok, refl, sym, subst, ap, ◌∙◌, arith}
use Rattle.std.specs.List.{AllByRecursion}
use Rattle.class_model.specs.Instructions.{instr_at, instrs_at, decoded}
use Rattle.class_model.specs.Laws.Cuts.{bind_ok, same_done}
use Rattle.class_model.specs.declared.instr.Placed.{Placed}

pub record IsReadAt (code : List ℕ) (placed : Placed) : Type 0 where
  pub read : instr_at placed.at (drop placed.at code) ≡ Ok (placed.instr, placed.len)

each_read : (code : List ℕ) (left at : ℕ) (bytes : List ℕ) (instrs : List Placed) → bytes ≡ drop at code → instrs_at left at bytes ≡ Ok instrs → AllByRecursion (IsReadAt code) instrs
unfolding instrs_at
each_read code zero at [] instrs stands is = subst (AllByRecursion (IsReadAt code)) (same_done [] instrs is) tt
each_read code zero at (byte ∷ bytes) instrs stands is = subst (AllByRecursion (IsReadAt code)) (same_done [] instrs is) tt
each_read code (suc left) at [] instrs stands is = subst (AllByRecursion (IsReadAt code)) (same_done [] instrs is) tt
each_read code (suc left) at (byte ∷ bytes) instrs stands is =
    let first = bind_ok (instr_at at (byte ∷ bytes)) _ instrs is in
    let len : ℕ = first.0.1 in
    let others = bind_ok (instrs_at left (at + len) (drop len (byte ∷ bytes))) _ instrs first.2 in
    let rest : drop len (byte ∷ bytes) ≡ drop (at + len) code = ap (drop len) stands ∙ drop-drop len at code in
    let own : Placed = record { at = at; len = len; instr = first.0.0 } in
    subst (AllByRecursion (IsReadAt code)) (same_done (own ∷ others.0) instrs others.2) (
      record { read = subst (λ (b : List ℕ). instr_at at b ≡ Ok first.0) stands first.1 },
      each_read code left (at + len) (drop len (byte ∷ bytes)) others.0 rest others.1,
    )

pub all_read : (code : List ℕ) (instrs : List Placed) → decoded code ≡ Ok instrs → AllByRecursion (IsReadAt code) instrs
all_read code instrs is = each_read code (length code) 0 code instrs refl is

-- ---- one of a list

pub one_of : {X : Type 0} (P : X → Type 0) (xs : List X) (i : ℕ) (x : X) → AllByRecursion P xs → i < length xs → x ≡ get_or xs i x → P x
one_of P [] i x all within is = absurd (omega arith)
one_of P (first ∷ xs) zero x all within is = subst P (sym is) all.0
one_of P (first ∷ xs) (suc i) x all within is = one_of P xs i x all.1 (omega arith) is
