-- The instructions of a code, read one after the other.
use Rattle.std.proofs.Common.{◌≡◌, ℕ, zero, suc, ◌+◌, ◌<◌, ◌≤◌, List, [], ◌∷◌, ◌++◌, length, drop, Result, Ok, Err, refl, sym, ap, ◌∙◌, append_assoc, arith}
use Rattle.std.proofs.lemmas.List.{append-nil, length-drop}
use Rattle.class_model.specs.Answers.{Gives}
use Rattle.class_model.specs.Checks.{Fault, fault, ◌>>=◌}
use Rattle.class_model.specs.Instructions.{instr_at, instrs_at, decoded}
use Rattle.class_model.specs.declared.fault.ClassFault.{ClassFault}
use Rattle.class_model.specs.declared.fault.ClassFault.TheVariants.{Malformed, Version, NoMemory}
use Rattle.class_model.specs.declared.instr.Instr.{Instr}
use Rattle.class_model.specs.declared.instr.Placed.{Placed}

abbrev Sequence : Type 0
Sequence = Result (List Placed) Fault

-- what is read behind some instructions
pub behind : List Placed → Sequence → Sequence
behind done others = others >>= λ ps. Ok (done ++ ps)

-- The instructions up to an offset were read, and those of the bytes from there on are left.
pub record Reads (code : List ℕ) (done : List Placed) (at : ℕ) (bytes : List ℕ) : Type 0 where
  pub left : ℕ
  pub enough : length bytes ≤ left
  pub place : at + length bytes ≡ length code
  pub whole : decoded code ≡ behind done (instrs_at left at bytes)

behind_none : (others : Sequence) → behind [] others ≡ others
unfolding behind
behind_none (Ok ps) = refl
behind_none (Err f) = refl

behind_one : (done : List Placed) (p : Placed) (others : Sequence) → behind done (others >>= λ ps. Ok (p ∷ ps)) ≡ behind (done ++ p ∷ []) others
unfolding behind
behind_one done p (Ok ps) = ap (λ (qs : List Placed). Ok qs) (sym (append_assoc done (p ∷ []) ps))
behind_one done p (Err f) = refl

pub reads_none : (code : List ℕ) → Reads code [] 0 code
reads_none code = record { left = length code; enough = omega arith; place = omega arith; whole = sym (behind_none (decoded code)) }

step : (left at : ℕ) (bytes : List ℕ) (instr : Instr) (len : ℕ) → 0 < length bytes → instr_at at bytes ≡ Ok (instr, len)
    → instrs_at (suc left) at bytes ≡ (instrs_at left (at + len) (drop len bytes) >>= λ ps. Ok (record { at = at; len = len; instr = instr } ∷ ps))
unfolding instrs_at
step left at [] instr len some read = absurd (omega (arith, some))
step left at (byte ∷ bytes) instr len some read = rw read refl

refused : (left at : ℕ) (bytes : List ℕ) (f : Fault) → 0 < length bytes → instr_at at bytes ≡ Err f → instrs_at (suc left) at bytes ≡ Err f
unfolding instrs_at
refused left at [] f some read = absurd (omega (arith, some))
refused left at (byte ∷ bytes) f some read = rw read refl

ends : (left at : ℕ) → instrs_at left at [] ≡ Ok []
unfolding instrs_at
ends zero at = refl
ends (suc left) at = refl

one_more : (code : List ℕ) (done : List Placed) (at : ℕ) (bytes : List ℕ) (instr : Instr) (len left : ℕ) → length bytes ≤ left → at + length bytes ≡ length code → decoded code ≡ behind done (instrs_at left at bytes)
    → 0 < len → len ≤ length bytes → instr_at at bytes ≡ Ok (instr, len) → Reads code (done ++ record { at = at; len = len; instr = instr } ∷ []) (at + len) (drop len bytes)
one_more code done at bytes instr len zero enough place whole some few read = absurd (omega (arith, enough, some, few))
one_more code done at bytes instr len (suc left) enough place whole some few read = record {
  left = left;
  enough = omega (arith, length-drop len bytes);
  place = omega (arith, length-drop len bytes);
  whole = whole ∙ ap (behind done) (step left at bytes instr len (omega arith) read) ∙ behind_one done (record { at = at; len = len; instr = instr }) (instrs_at left (at + len) (drop len bytes));
}

pub reads_more : (code : List ℕ) (done : List Placed) (at : ℕ) (bytes : List ℕ) (instr : Instr) (len : ℕ) → Reads code done at bytes → 0 < len → len ≤ length bytes → instr_at at bytes ≡ Ok (instr, len)
    → Reads code (done ++ record { at = at; len = len; instr = instr } ∷ []) (at + len) (drop len bytes)
reads_more code done at bytes instr len reads some few read = one_more code done at bytes instr len reads.left reads.enough reads.place reads.whole some few read

none_more : (code : List ℕ) (done : List Placed) (at : ℕ) (bytes : List ℕ) (f : Fault) (left : ℕ) → length bytes ≤ left → decoded code ≡ behind done (instrs_at left at bytes) → 0 < length bytes → instr_at at bytes ≡ Err f → decoded code ≡ Err f
unfolding behind
none_more code done at bytes f zero enough whole some read = absurd (omega (arith, enough, some))
none_more code done at bytes f (suc left) enough whole some read = whole ∙ ap (behind done) (refused left at bytes f some read)

pub reads_fail : (code : List ℕ) (done : List Placed) (at : ℕ) (bytes : List ℕ) (f : Fault) → Reads code done at bytes → 0 < length bytes → instr_at at bytes ≡ Err f → decoded code ≡ Err f
reads_fail code done at bytes f reads some read = none_more code done at bytes f reads.left reads.enough reads.whole some read

pub reads_all : (code : List ℕ) (done : List Placed) (at : ℕ) (bytes : List ℕ) → Reads code done at bytes → length bytes ≡ 0 → decoded code ≡ Ok done
unfolding behind
reads_all code done at [] reads none = reads.whole ∙ ap (behind done) (ends reads.left at) ∙ ap (λ (ps : List Placed). Ok ps) (append-nil done)
reads_all code done at (byte ∷ bytes) reads none = absurd (omega (arith, none))

-- what is given of the bytes from an offset on is given of the code
pub reads_given : (code : List ℕ) (done : List Placed) (at : ℕ) (bytes : List ℕ) (fault : ClassFault) → Reads code done at bytes → 0 < length bytes → Gives (instr_at at bytes) (Err fault) → Gives (decoded code) (Err fault)
reads_given code done at bytes (Malformed place rule) reads some given = reads_fail code done at bytes (fault place rule) reads some given
reads_given code done at bytes NoMemory reads some given = tt
reads_given code done at bytes (Version major minor) reads some given = given
