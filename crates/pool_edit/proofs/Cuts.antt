-- Where an edit goes back to: the constants in front of a count.
use Rattle.std.proofs.Common.{◌≡◌, ◌≢◌, inl, inr, ℕ, zero, suc, ◌+◌, ◌-◌, ◌<◌, ◌≤◌, List, [], ◌∷◌, ◌++◌, length, slice_get, take, Some, None, refl, sym, ap, subst, ◌∙◌, append_assoc, arith}
use Rattle.std.specs.List.{flat_map}
use Rattle.std.proofs.lemmas.List.{append-nil, length-append}
use Rattle.std.proofs.lemmas.Option.{same_Some}
use Rattle.class_model.specs.Pool.{Constants, entries_of}
use Rattle.class_model.specs.declared.pool.Const.{Const}
use Rattle.pool_edit.specs.Edits.{numbered}
use Rattle.pool_edit.specs.Inner.Kept.{EndsBelow, StartsFrom}
use Rattle.pool_edit.proofs.Slots.{slice_get-seam, entries_shape}

-- indices begin with the first
numbered-least : (n : ℕ) (constants : List Const) (at : ℕ) (entry : Const × ℕ) → slice_get (numbered n constants) at ≡ Some entry → n ≤ entry.1
numbered-least n [] at entry is = absurd cc
numbered-least n (next ∷ constants) zero entry is =
    let e : (next, n) ≡ entry = same_Some (next, n) entry is in let e1 : n ≡ entry.1 = ap (λ (o : Const × ℕ). o.1) e in omega arith
numbered-least n (next ∷ constants) (suc at) entry is =
    let ih = numbered-least (n + length (entries_of next)) constants at entry is in omega arith

-- a count behind the first index of a constant, and not its second one, is behind its entries
behind-entries : (pool more : Constants) (constant : Const) (count : ℕ) → length pool < count → slice_get (pool ++ (entries_of constant ++ more)) count ≢ Some None → length (pool ++ entries_of constant) ≤ count
behind-entries pool more constant count behind no_second = elim (entries_shape constant) [
  | inl one ↦ rw one (omega (arith, length-append pool (Some constant ∷ [])))
  | inr two ↦ rw two (by two)
]
  where
    by : entries_of constant ≡ Some constant ∷ None ∷ [] → length (pool ++ Some constant ∷ None ∷ []) ≤ count
    by two =
        let here : slice_get ((pool ++ Some constant ∷ []) ++ None ∷ more) (length (pool ++ Some constant ∷ [])) ≡ Some None = slice_get-seam (pool ++ Some constant ∷ []) None more in
        let there : slice_get (pool ++ (entries_of constant ++ more)) (length (pool ++ Some constant ∷ [])) ≡ Some None = rw (two, ← append_assoc pool (Some constant ∷ []) (None ∷ more)) here in
        let apart : count ≢ length (pool ++ Some constant ∷ []) = λ e. no_second (rw e there) in
        omega (arith, length-append pool (Some constant ∷ []), length-append pool (Some constant ∷ None ∷ []))

-- the last of the first so many, without the first of all
ends-rest : (count k : ℕ) (e : Const × ℕ) (entries : List (Const × ℕ)) → EndsBelow count (suc k) (e ∷ entries) → EndsBelow count k entries
ends-rest count zero e entries ends = λ some. absurd (omega arith)
ends-rest count (suc k) e entries ends = λ some.
    let last = ends (omega arith) in
    let one : suc (suc k) - 1 ≡ suc (suc k - 1) = omega arith in
    (last.0, subst (λ (n : ℕ). slice_get (e ∷ entries) n ≡ Some last.0) one last.1, last.2)

-- The first so many constants end at a count, if the last of them has an index below it, those behind have none, and it is no
-- second index.
pub cut-count : (pool : Constants) (constants : List Const) (k count : ℕ) → length pool ≤ count → count ≤ length (pool ++ flat_map entries_of constants)
    → slice_get (pool ++ flat_map entries_of constants) count ≢ Some None
    → EndsBelow count k (numbered (length pool) constants) → StartsFrom count k (numbered (length pool) constants)
    → length (pool ++ flat_map entries_of (take k constants)) ≡ count
cut-count pool [] zero count least most no_second ends starts = let m : count ≤ length pool = rw append-nil at most in rw append-nil (omega arith)
cut-count pool [] (suc k) count least most no_second ends starts = let m : count ≤ length pool = rw append-nil at most in rw append-nil (omega arith)
cut-count pool (next ∷ constants) zero count least most no_second ends starts =
    let first : count ≤ length pool = starts 0 (next, length pool) (omega arith) refl in
    rw append-nil (omega arith)
cut-count pool (next ∷ constants) (suc k) count least most no_second ends starts =
    let units = entries_of next in
    let more = flat_map entries_of constants in
    let last = ends (omega arith) in
    let behind : length pool < count = let low = numbered-least (length pool) (next ∷ constants) (suc k - 1) last.0 last.1 in omega arith in
    let after : length (pool ++ units) ≤ count = behind-entries pool more next count behind no_second in
    let long : length pool + length units ≡ length (pool ++ units) = sym (length-append pool units) in
    let joined = append_assoc pool units more in
    let ends' : EndsBelow count k (numbered (length (pool ++ units)) constants) = subst (λ (n : ℕ). EndsBelow count k (numbered n constants)) long (ends-rest count k (next, length pool) (numbered (length pool + length units) constants) ends) in
    let starts' : StartsFrom count k (numbered (length (pool ++ units)) constants) = subst (λ (n : ℕ). StartsFrom count k (numbered n constants)) long (λ at entry high is. starts (suc at) entry (omega arith) is) in
    ap length (sym (append_assoc pool units (flat_map entries_of (take k constants))))
    ∙ cut-count (pool ++ units) constants k count after (subst (λ (entries : Constants). count ≤ length entries) (sym joined) most) (subst (λ (entries : Constants). slice_get entries count ≢ Some None) (sym joined) no_second) ends' starts'
