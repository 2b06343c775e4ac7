-- Constants that were appended, with their indices.
use Rattle.std.proofs.Common.{◌≡◌, ◌≢◌, ◌↔◌, IsTrue, inl, inr, ℕ, zero, suc, ◌+◌, ◌≤◌, Bool, true, false, cond, List, [], ◌∷◌, ◌++◌, length, take, Option, Some, None, refl, sym, ap, subst, ◌∙◌, append_assoc}
use Rattle.std.specs.List.{flat_map}
use Rattle.std.specs.Map.{keys_of, lookup}
use Rattle.std.proofs.lemmas.List.{append-nil, length-append}
use Rattle.std.proofs.lemmas.List.Concat.{flat_map-append}
use Rattle.class_model.specs.Pool.{Constants, IsPool, entries_of}
use Rattle.class_model.specs.declared.pool.Const.{Const}
use Rattle.pool_edit.specs.Edits.{AreNew, IsAbsent, IsFirstIndex, numbered}
use Rattle.pool_edit.specs.Inner.Known.{Says}
use Rattle.pool_edit.proofs.Slots.{out-append, out-entries, out-left, first-seam, entries_shape}

-- with its entries in front, a constant that is new stands first
pub first-entries : (pool more : Constants) (constant : Const) → IsAbsent pool constant → IsFirstIndex (pool ++ (entries_of constant ++ more)) constant (length pool)
first-entries pool more constant absent = elim (entries_shape constant) [
  | inl one ↦ subst (λ (entries : Constants). IsFirstIndex (pool ++ (entries ++ more)) constant (length pool)) (sym one) (first-seam pool more constant absent)
  | inr two ↦ subst (λ (entries : Constants). IsFirstIndex (pool ++ (entries ++ more)) constant (length pool)) (sym two) (first-seam pool (None ∷ more) constant absent)
]

-- of a constant that no entry equals a look-up says that there is none
says-none : (pool : Constants) (constant : Const) (found : Option ℕ) → IsAbsent pool constant → Says pool constant found → found ≡ None
says-none pool constant None absent said = refl
says-none pool constant (Some index) absent said = absurd (absent index said.there)

-- a comparison that holds of equal constants alone
module _ (eq : Const → Const → Bool) (same : (one other : Const) → IsTrue (eq one other) ↔ (one ≡ other)) where
  -- what a look-up says, as it compares with the first of those that were appended
  says-first : (pool more : Constants) (next constant : Const) (rest : Option ℕ) → IsAbsent pool constant
      → (constant ≢ next → Says (pool ++ (entries_of next ++ more)) constant rest)
      → (b : Bool) → eq constant next ≡ b → Says (pool ++ (entries_of next ++ more)) constant (cond b (Some (length pool)) rest)
  says-first pool more next constant rest absent behind true e =
      subst (λ (c : Const). IsFirstIndex (pool ++ (entries_of c ++ more)) constant (length pool)) ((same constant next).0 e) (first-entries pool more constant absent)
  says-first pool more next constant rest absent behind false e =
      behind (λ is. let holds : eq constant next ≡ true = (same constant next).1 is in cc)

  -- what a look-up among those that were appended says of one that was not there
  pub numbered-says : (pool : Constants) (constants : List Const) (constant : Const) → AreNew pool constants → IsAbsent pool constant
      → Says (pool ++ flat_map entries_of constants) constant (lookup (eq constant) (numbered (length pool) constants))
  numbered-says pool [] constant new absent = rw append-nil absent
  numbered-says pool (next ∷ constants) constant new absent =
      let more : Constants = flat_map entries_of constants in
      let rest : Option ℕ = lookup (eq constant) (numbered (length pool + length (entries_of next)) constants) in
      says-first pool more next constant rest absent
      (λ differs.
      let out : IsAbsent (pool ++ entries_of next) constant = out-append pool (entries_of next) (Some constant) absent (out-entries constant next differs) in
      let said = numbered-says (pool ++ entries_of next) constants constant new.1 out in
      subst (λ (entries : Constants). Says entries constant rest) (append_assoc pool (entries_of next) more)
      (subst (λ (n : ℕ). Says ((pool ++ entries_of next) ++ more) constant (lookup (eq constant) (numbered n constants))) (length-append pool (entries_of next)) said))
      (eq constant next) refl

  -- a constant that no entry equals is not among those that were appended
  pub numbered-lacks : (pool : Constants) (constants : List Const) (constant : Const) → AreNew pool constants → IsAbsent (pool ++ flat_map entries_of constants) constant
      → lookup (eq constant) (numbered (length pool) constants) ≡ None
  numbered-lacks pool constants constant new absent =
      says-none (pool ++ flat_map entries_of constants) constant _ absent (numbered-says pool constants constant new (out-left pool (flat_map entries_of constants) (Some constant) absent))

-- one more is numbered behind the others
pub numbered-push : (pool : Constants) (constants : List Const) (constant : Const)
    → numbered (length pool) (constants ++ constant ∷ []) ≡ numbered (length pool) constants ++ (constant, length (pool ++ flat_map entries_of constants)) ∷ []
numbered-push pool [] constant = rw append-nil refl
numbered-push pool (next ∷ constants) constant =
    let more = flat_map entries_of constants in
    let ih = numbered-push (pool ++ entries_of next) constants constant in
    ap (λ (entries : List (Const × ℕ)). (next, length pool) ∷ entries)
    (subst (λ (entries : Constants). numbered (length pool + length (entries_of next)) (constants ++ constant ∷ []) ≡ numbered (length pool + length (entries_of next)) constants ++ (constant, length entries) ∷ []) (append_assoc pool (entries_of next) more)
    (subst (λ (n : ℕ). numbered n (constants ++ constant ∷ []) ≡ numbered n constants ++ (constant, length ((pool ++ entries_of next) ++ more)) ∷ []) (length-append pool (entries_of next)) ih))

-- one more that no entry equals is new
pub new-push : (pool : Constants) (constants : List Const) (constant : Const) → AreNew pool constants → IsAbsent (pool ++ flat_map entries_of constants) constant → AreNew pool (constants ++ constant ∷ [])
new-push pool [] constant new absent = (rw append-nil at absent, tt)
new-push pool (next ∷ constants) constant new absent =
    (new.0, new-push (pool ++ entries_of next) constants constant new.1 (rw (← append_assoc) at absent))

-- the first so many
pub numbered-take : (n k : ℕ) (constants : List Const) → take k (numbered n constants) ≡ numbered n (take k constants)
numbered-take n zero constants = refl
numbered-take n (suc k) [] = refl
numbered-take n (suc k) (next ∷ constants) = ap (λ (entries : List (Const × ℕ)). (next, n) ∷ entries) (numbered-take (n + length (entries_of next)) k constants)

pub new-take : (pool : Constants) (k : ℕ) (constants : List Const) → AreNew pool constants → AreNew pool (take k constants)
new-take pool zero constants new = tt
new-take pool (suc k) [] new = tt
new-take pool (suc k) (next ∷ constants) new = (new.0, new-take (pool ++ entries_of next) k constants new.1)

pub keys-take : (k : ℕ) (entries : List (Const × ℕ)) → keys_of (take k entries) ≡ take k (keys_of entries)
keys-take zero entries = refl
keys-take (suc k) [] = refl
keys-take (suc k) (e ∷ entries) = ap (λ (ks : List Const). e.0 ∷ ks) (keys-take k entries)

pub keys-push : (entries : List (Const × ℕ)) (e : Const × ℕ) → keys_of (entries ++ e ∷ []) ≡ keys_of entries ++ e.0 ∷ []
keys-push [] e = refl
keys-push (first ∷ entries) e = ap (λ (ks : List Const). first.0 ∷ ks) (keys-push entries e)

-- a pool with constants behind it is one, if its count fits
pub IsPool-append : (pool : Constants) (constants : List Const) → IsPool pool → length (pool ++ flat_map entries_of constants) ≤ 65535 → IsPool (pool ++ flat_map entries_of constants)
IsPool-append pool constants is fits = record {
  constants = is.constants ++ constants;
  all = ap (λ (entries : Constants). entries ++ flat_map entries_of constants) is.all ∙ ap (λ (entries : Constants). None ∷ entries) (sym (flat_map-append entries_of is.constants constants));
  count = fits;
}
