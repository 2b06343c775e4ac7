-- The instructions of a code stand one after the other.
use Rattle.std.proofs.Common.{◌≡◌, ℕ, zero, suc, ◌+◌, ◌-◌, ◌≤◌, List, [], ◌∷◌, length, drop, Ok, refl, subst, arith}
use Rattle.std.proofs.lemmas.List.{length-drop}
use Rattle.class_model.specs.Instructions.{instr_at, instrs_at, decoded}
use Rattle.class_model.specs.Laws.Cuts.{bind_ok, same_done}
use Rattle.class_model.specs.declared.instr.Placed.{Placed}
use Rattle.code_bytes.proofs.Sizes.{read_fits}
use Rattle.code_bytes.specs.Consecutive.{AreConsecutive}

consecutive : (left at : ℕ) (bytes : List ℕ) (instrs : List Placed) → length bytes ≤ left → instrs_at left at bytes ≡ Ok instrs → AreConsecutive at instrs (at + length bytes)
unfolding instrs_at
consecutive zero at [] instrs enough read = subst (λ (all : List Placed). AreConsecutive at all (at + 0)) (same_done [] instrs read) (omega arith)
consecutive (suc left) at [] instrs enough read = subst (λ (all : List Placed). AreConsecutive at all (at + 0)) (same_done [] instrs read) (omega arith)
consecutive zero at (byte ∷ bytes) instrs enough read = absurd (omega (arith, enough))
consecutive (suc left) at (byte ∷ bytes) instrs enough read =
    let first = bind_ok (instr_at at (byte ∷ bytes)) _ instrs read in
    let len : ℕ = first.0.1 in
    let others = bind_ok (instrs_at left (at + len) (drop len (byte ∷ bytes))) _ instrs first.2 in
    let fits = read_fits at (byte ∷ bytes) (omega arith) first.0 first.1 in
    let rest_long : length (drop len (byte ∷ bytes)) ≡ length (byte ∷ bytes) - len = length-drop len (byte ∷ bytes) in
    let rest = consecutive left (at + len) (drop len (byte ∷ bytes)) others.0 (omega (arith, enough, fits.some, fits.few, rest_long)) others.1 in
    let end_is : at + len + length (drop len (byte ∷ bytes)) ≡ at + length (byte ∷ bytes) = omega (arith, fits.few, rest_long) in
    let own : Placed = record { at = at; len = len; instr = first.0.0 } in
    subst (λ (all : List Placed). AreConsecutive at all (at + length (byte ∷ bytes))) (same_done (own ∷ others.0) instrs others.2)
    (refl, fits.some, subst (λ (end : ℕ). AreConsecutive (at + len) others.0 end) end_is rest)

pub code_is_covered : (code : List ℕ) (instrs : List Placed) → decoded code ≡ Ok instrs → AreConsecutive 0 instrs (length code)
code_is_covered code instrs read =
    let end_is : 0 + length code ≡ length code = omega arith in
    subst (AreConsecutive 0 instrs) end_is (consecutive (length code) 0 code instrs (omega arith) read)
