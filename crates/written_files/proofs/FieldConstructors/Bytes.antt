-- Short instructions that are written one after the other are read back.
use Rattle.std.proofs.Common.{◌≡◌, ◌+◌, ◌*◌, ◌^◌, ◌++◌, ◌≤◌, ◌<◌, ℕ, zero, suc, ltb, List, [], ◌∷◌, length, Ok, refl, ap, arith, length-append}
use Rattle.std.specs.List.{AllByRecursion}
use Rattle.std.proofs.lemmas.Bool.{true≢false}
use Rattle.std.proofs.Math.Seq.{drop-append_seam}
use Rattle.class_model.specs.Instructions.{IsSpelling, decoded, instr_at, instrs_at, targets}
use Rattle.class_model.specs.declared.instr.Instr.{Instr}
use Rattle.class_model.specs.declared.instr.Instr.TheVariants.{Nop}
use Rattle.class_model.specs.declared.instr.Placed.{Placed}
use Rattle.code_bytes.specs.Encoding.{FitsForm, HasSpelling, IsPlace}
use Rattle.code_bytes.specs.Forms.{instr_bytes}
use Rattle.code_bytes.specs.Numbers.{HasNumbers}
use Rattle.making_code.specs.ConstructorCode.{bytes_from}

-- it has no target, a form wherever it stands, numbers of their types, and at most four bytes
pub record IsSmall (instr : Instr) : Type 0 where
  pub no_targets : targets instr ≡ []
  pub form : (at : ℕ) → FitsForm at instr
  pub numbers : HasNumbers instr
  pub short : (at : ℕ) → length (instr_bytes at instr) ≤ 4

-- instructions one after the other from an offset on
abbrev pub placed : ℕ → List Instr → List Placed
placed at [] = []
placed at (instr ∷ instrs) =
    record { at = at; len = length (instr_bytes at instr); instr = instr } ∷ placed (at + length (instr_bytes at instr)) instrs

-- what code_bytes says of the spelling that is chosen
abbrev pub Spells : Type 0
Spells = (at : ℕ) (instr : Instr) → HasSpelling at instr → HasNumbers instr → IsSpelling at instr (instr_bytes at instr)

no_places : (instr : Instr) → targets instr ≡ [] → AllByRecursion IsPlace (targets instr)
no_places instr none = rw (none) tt

spelled_at : Spells → (at : ℕ) (instr : Instr) → IsSmall instr → at < 2 ^ 31 → IsSpelling at instr (instr_bytes at instr)
spelled_at spells at instr small within =
    spells at instr (record { place = within; targets = no_places instr small.no_targets; form = small.form at }) small.numbers

-- nothing is spelled by no bytes
some_bytes : (at : ℕ) (instr : Instr) → IsSpelling at instr [] → ⊥
unfolding instr_at
some_bytes at instr spells =
    let e : (Nop, 1) ≡ (instr, 0) = let o : Ok (Nop, 1) ≡ Ok (instr, 0) = spells [] in cc in
    absurd (true≢false (ap (λ (p : Instr × ℕ). ltb 0 p.1) e))

-- one instruction, and then others
reads_one : (left at : ℕ) (instr : Instr) (front rest : List ℕ) (others : List Placed) → IsSpelling at instr front
    → instrs_at left (at + length front) rest ≡ Ok others
    → instrs_at (suc left) at (front ++ rest) ≡ Ok (record { at = at; len = length front; instr = instr } ∷ others)
unfolding instrs_at
reads_one left at instr [] rest others spells behind = absurd (some_bytes at instr spells)
reads_one left at instr (byte ∷ front) rest others spells behind =
    rw (spells rest, drop-append_seam (byte ∷ front) rest, behind) refl

some_len : (at : ℕ) (instr : Instr) (bytes : List ℕ) → IsSpelling at instr bytes → 0 < length bytes
some_len at instr [] spells = absurd (some_bytes at instr spells)
some_len at instr (byte ∷ bytes) spells = omega arith

module _ (spells : Spells) where
  reads_all : (left at : ℕ) (instrs : List Instr) → AllByRecursion IsSmall instrs → at + 4 * length instrs < 2 ^ 31
      → length (bytes_from at instrs) ≤ left
      → instrs_at left at (bytes_from at instrs) ≡ Ok (placed at instrs)
  unfolding instrs_at
  reads_all zero at [] small within enough = refl
  reads_all (suc left) at [] small within enough = refl
  reads_all zero at (instr ∷ instrs) small within enough =
      let front = instr_bytes at instr in
      let is = spelled_at spells at instr small.0 (omega (arith, within)) in
      let some = some_len at instr front is in
      let both = length-append front (bytes_from (at + length front) instrs) in
      absurd (omega (arith, some, both, enough))
  reads_all (suc left) at (instr ∷ instrs) small within enough =
      let front = instr_bytes at instr in
      let rest = bytes_from (at + length front) instrs in
      let is = spelled_at spells at instr small.0 (omega (arith, within)) in
      let some = some_len at instr front is in
      let both = length-append front rest in
      let short = small.0.short at in
      reads_one left at instr front rest (placed (at + length front) instrs) is
      (reads_all left (at + length front) instrs small.1 (omega (arith, short, within)) (omega (arith, some, both, enough)))

  pub decoded_back : (instrs : List Instr) → AllByRecursion IsSmall instrs → 4 * length instrs < 2 ^ 31
      → decoded (bytes_from 0 instrs) ≡ Ok (placed 0 instrs)
  decoded_back instrs small within =
      reads_all (length (bytes_from 0 instrs)) 0 instrs small (omega (arith, within)) (omega arith)
