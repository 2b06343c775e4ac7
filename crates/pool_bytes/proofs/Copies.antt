-- Copying the constants of a pool one after the other.
use Rattle.std.proofs.Common.{◌≡◌, ℕ, ◌+◌, ◌≤◌, List, [], ◌∷◌, ◌++◌, length, slice_get, Option, Some, None, refl, sym, ap, ◌∙◌, append_assoc, length-append, arith}
use Rattle.std.specs.List.{flat_map}
use Rattle.std.proofs.lemmas.List.{append-nil}
use Rattle.class_model.specs.Pool.{Constants, constant_at, entries_of, IsPool}
use Rattle.class_model.specs.declared.pool.Const.{Const}
use Rattle.class_model.specs.declared.pool.Const.TheVariants.{Long}

-- the first constants of a pool are these entries, and these constants are left
pub record Left (whole pool : Constants) : Type 0 where
  pub constants : List Const
  pub all : whole ≡ pool ++ flat_map entries_of constants

-- That is known once the whole is known to be a pool.
abbrev pub IsCopied : Constants → Constants → Type 0
IsCopied whole pool = IsPool whole → Left whole pool

pub no_copy : (whole : Constants) → IsCopied whole (None ∷ [])
no_copy whole is = record { constants = is.constants; all = is.all }

seam : (xs ys : Constants) → slice_get (xs ++ ys) (length xs) ≡ slice_get ys 0
seam [] ys = refl
seam (x ∷ xs) ys = seam xs ys

-- the constant behind the entries
behind : (pool : Constants) (c : Const) (others : Constants) → constant_at (pool ++ (entries_of c ++ others)) (length pool) ≡ Some c
behind pool (Long number) others = rw (seam pool) refl
behind pool c others = rw (seam pool) refl

nothing_behind : (pool : Constants) → constant_at (pool ++ []) (length pool) ≡ None
nothing_behind pool = rw (seam pool) refl

some_same : (c d : Const) (o : Option Const) → o ≡ Some d → Some c ≡ o → d ≡ c
some_same c d o e f = cc

-- one more
pub record More (whole pool : Constants) (c : Const) : Type 0 where
  pub copied : IsCopied whole (pool ++ entries_of c)
  pub fits : length pool + length (entries_of c) ≤ 65535

pub one_more : (whole pool : Constants) (index : ℕ) (c : Const) → IsPool whole → IsCopied whole pool → index ≡ length pool → Some c ≡ constant_at whole index → More whole pool c
one_more whole pool index c is copied here found = by (copied is).constants (copied is).all
  where
    by : (constants : List Const) → whole ≡ pool ++ flat_map entries_of constants → More whole pool c
    by [] all = absurd (cc (nothing_behind pool, found, ap (λ (k : ℕ). constant_at whole k) here, all))
    by (d ∷ constants) all =
        let others = flat_map entries_of constants in
        let same : d ≡ c = some_same c d (constant_at whole (length pool)) (ap (λ (w : Constants). constant_at w (length pool)) all ∙ behind pool d others) (found ∙ ap (λ (k : ℕ). constant_at whole k) here) in
        let split : whole ≡ pool ++ (entries_of c ++ others) = rw same at all in
        record {
          copied = λ _. record { constants = constants; all = split ∙ sym (append_assoc pool (entries_of c) others) };
          fits = omega (arith, is.count, ap length split, length-append pool (entries_of c ++ others), length-append (entries_of c) others);
        }

pub all_copied : (whole pool : Constants) (index : ℕ) → IsPool whole → IsCopied whole pool → index ≡ length pool → None ≡ constant_at whole index → pool ≡ whole
all_copied whole pool index is copied here found = by (copied is).constants (copied is).all
  where
    by : (constants : List Const) → whole ≡ pool ++ flat_map entries_of constants → pool ≡ whole
    by [] all = sym (all ∙ append-nil pool)
    by (d ∷ constants) all =
        absurd (cc (behind pool d (flat_map entries_of constants), found, ap (λ (k : ℕ). constant_at whole k) here, all))
