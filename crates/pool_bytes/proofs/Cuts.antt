-- Cutting the constants of a pool one after the other.
use Rattle.std.proofs.Common.{◌≡◌, ℕ, zero, suc, ◌+◌, ◌<◌, ◌≤◌, ◌≢◌, cond, eqb, [], ◌∷◌, ◌++◌, length, None, Result, Ok, Err, refl, sym, ap, ◌∙◌, append_assoc, length-append, arith}
use Rattle.std.proofs.lemmas.Bool.{lt-leb, le-leb, ne_eqb}
use Rattle.std.proofs.lemmas.List.{append-nil}
use Rattle.class_model.specs.Answers.{Takes}
use Rattle.class_model.specs.Checks.{Fault, fault, ◌>>=◌}
use Rattle.class_model.specs.Cutting.{Rest, Cut, u1_at, u2_at, fields_at, entries_at, pool_at, may_stand}
use Rattle.class_model.specs.Laws.Cuts.{bind_assoc, bind_same}
use Rattle.class_model.specs.Pool.{Constants, entries_of}
use Rattle.class_model.specs.declared.fault.ClassFault.{ClassFault}
use Rattle.class_model.specs.declared.fault.ClassFault.TheVariants.{Malformed, Version, NoMemory}
use Rattle.class_model.specs.declared.fault.FileRule.TheVariants as rules
use Rattle.class_model.specs.declared.pool.Const.{Const}
use Rattle.pool_bytes.specs.Inner.Entries.{entry_at}
use Rattle.class_model.specs.Laws.CutBack.{next, on_true}
use Rattle.pool_bytes.proofs.CutBack.{some_entries}

-- ---- steps

-- ---- one constant

-- what follows a constant
abbrev others_at : ℕ → ℕ → ℕ → ℕ → Const × Rest → Cut Constants
others_at left major index count constant =
    entries_at left major (index + length (entries_of constant.0)) count constant.1 >>= λ others. Ok (entries_of constant.0 ++ others.0, others.1)

-- entries are a constant and what follows it
first_entry : (left major index count : ℕ) (rest : Rest) → index < count → entries_at (suc left) major index count rest ≡ (entry_at major index count rest >>= others_at left major index count)
unfolding entries_at entry_at
first_entry left major index count rest lt =
    let known : ℕ × Rest → Result Rest Fault = λ tag. cond (may_stand major index count tag.0) (Ok tag.1) (Err (fault rest.at rules.Tag)) in
    let go = others_at left major index count in
    ap (λ b. cond b (Ok ([], rest)) (u1_at rest >>= λ tag. known tag >>= λ behind. fields_at tag.0 behind >>= go)) (lt-leb count index lt)
    ∙ bind_same (u1_at rest) (λ tag. known tag >>= λ behind. fields_at tag.0 behind >>= go) (λ tag. (known tag >>= λ behind. fields_at tag.0 behind) >>= go) (λ tag. sym (bind_assoc (known tag) (λ behind. fields_at tag.0 behind) go))
    ∙ sym (bind_assoc (u1_at rest) (λ tag. known tag >>= λ behind. fields_at tag.0 behind) go)

-- ---- the constants up to an index

-- the value of a pool of which these entries are the first
abbrev behind_them : Constants → Constants × Rest → Cut Constants
behind_them pool others = Ok (pool ++ others.0, others.1)

-- These entries were cut, up to this rest: with what is left of the constants they are the whole pool.
pub record SoFar (major count : ℕ) (start : Rest) (pool : Constants) (rest : Rest) : Type 0 where
  pub left : ℕ
  pub enough : count ≤ left + length pool
  pub within : length pool ≤ count
  pub whole : pool_at major start ≡ (entries_at left major (length pool) count rest >>= behind_them pool)

pub at_start : (major count : ℕ) (start rest : Rest) → count ≢ 0 → u2_at start ≡ Ok (count, rest) → SoFar major count start (None ∷ []) rest
at_start major count start rest some e = record {
  left = count;
  enough = omega arith;
  within = omega arith;
  whole =
      ap (λ (r : Cut ℕ). r >>= λ n. cond (eqb n.0 0) (Err (fault start.at rules.Tag)) (Ok n.1) >>= λ behind. entries_at n.0 major 1 n.0 behind >>= behind_them (None ∷ [])) e
      ∙ ap (λ b. cond b (Err (fault start.at rules.Tag)) (Ok rest) >>= λ behind. entries_at count major 1 count behind >>= behind_them (None ∷ [])) (ne_eqb count 0 some);
}

-- there is one more, and this is what follows the entries so far
module _ (major count : ℕ) (start : Rest) (pool : Constants) (rest : Rest) (lt : length pool < count) where
  one_more : (left : ℕ) → count ≤ left + length pool → pool_at major start ≡ (entries_at left major (length pool) count rest >>= behind_them pool)
      → (before : ℕ) × (count ≤ suc before + length pool) × (pool_at major start ≡ (entry_at major (length pool) count rest >>= λ constant. others_at before major (length pool) count constant >>= behind_them pool))
  one_more zero enough whole = absurd (omega arith)
  one_more (suc before) enough whole =
      (before, enough, whole ∙ ap (λ (r : Cut Constants). r >>= behind_them pool) (first_entry before major (length pool) count rest lt) ∙ bind_assoc (entry_at major (length pool) count rest) (others_at before major (length pool) count) (behind_them pool))

  pub fails : SoFar major count start pool rest → (f : Fault) → entry_at major (length pool) count rest ≡ Err f → pool_at major start ≡ Err f
  fails before f e =
      let more = one_more before.left before.enough before.whole in
      more.2 ∙ ap (λ (r : Cut Const). r >>= λ constant. others_at more.0 major (length pool) count constant >>= behind_them pool) e

  pub goes_on : SoFar major count start pool rest → (c : Const) (after : Rest) → entry_at major (length pool) count rest ≡ Ok (c, after) → length pool + length (entries_of c) ≤ count → SoFar major count start (pool ++ entries_of c) after
  goes_on before c after e within =
      let more = one_more before.left before.enough before.whole in
      let both : length pool + length (entries_of c) ≡ length (pool ++ entries_of c) = sym (length-append pool (entries_of c)) in
      let others : Cut Constants = entries_at more.0 major (length pool + length (entries_of c)) count after in
      record {
        left = more.0;
        enough = omega (arith, both, some_entries c, more.1);
        within = omega (arith, both);
        whole =
            more.2
            ∙ ap (λ (r : Cut Const). r >>= λ constant. others_at more.0 major (length pool) count constant >>= behind_them pool) e
            ∙ bind_assoc others (λ o. Ok (entries_of c ++ o.0, o.1)) (behind_them pool)
            ∙ bind_same others (λ o. Ok (pool ++ (entries_of c ++ o.0), o.1)) (behind_them (pool ++ entries_of c)) (λ o. ap (λ (entries : Constants). Ok (entries, o.1)) (sym (append_assoc pool (entries_of c) o.0)))
            ∙ ap (λ (index : ℕ). entries_at more.0 major index count after >>= behind_them (pool ++ entries_of c)) both;
      }

-- want of memory may come at any time, and no other fault comes
pub stops : (major count : ℕ) (start : Rest) (pool : Constants) (rest after : Rest) (index : ℕ) (e : ClassFault) → index ≡ length pool → length pool < count → SoFar major count start pool rest
    → Takes (entry_at major index count rest) after (Err e) → Takes (pool_at major start) after (Err e)
stops major count start pool rest after index (Malformed at rule) here lt before taken = fails major count start pool rest lt before (fault at rule) (rw here at taken)
stops major count start pool rest after index NoMemory here lt before taken = tt
stops major count start pool rest after index (Version n m) here lt before taken = taken

no_more : (left major count : ℕ) (pool : Constants) (rest : Rest) → count ≤ length pool → (entries_at left major (length pool) count rest >>= behind_them pool) ≡ Ok (pool, rest)
unfolding entries_at
no_more zero major count pool rest le = ap (λ (entries : Constants). Ok (entries, rest)) (append-nil pool)
no_more (suc left) major count pool rest le =
    next (behind_them pool) (on_true _ (le-leb count (length pool) le) refl) (ap (λ (entries : Constants). Ok (entries, rest)) (append-nil pool))

pub ends : (major count : ℕ) (start : Rest) (pool : Constants) (rest : Rest) → count ≤ length pool → SoFar major count start pool rest → pool_at major start ≡ Ok (pool, rest)
ends major count start pool rest le before = before.whole ∙ no_more before.left major count pool rest le
