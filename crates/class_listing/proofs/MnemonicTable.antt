-- What a table of names has at an index.
use Rattle.std.proofs.Common.{◌≡◌, ℕ, zero, suc, ◌<◌, ◌≤◌, List, [], ◌∷◌, map, length, get_or, slice_index_or, Bor, refl, ap, subst, arith}

at_map : (names : List (Bor (List ℕ))) (at : ℕ) (name : Bor (List ℕ)) → at < length names → name ≡ get_or names at name → name.now ≡ slice_index_or (map (λ (n : Bor (List ℕ)). n.now) names) at []
at_map [] at name within is = absurd (omega (arith, within))
at_map (first ∷ names) zero name within is = ap (λ (n : Bor (List ℕ)). n.now) is
at_map (first ∷ names) (suc at) name within is = at_map names at name (omega (arith, within)) is

pub name_found : (names : List (Bor (List ℕ))) (table : List (List ℕ)) (at : ℕ) (name : Bor (List ℕ)) → map (λ (n : Bor (List ℕ)). n.now) names ≡ table → at < length names → name ≡ get_or names at name → name.now ≡ slice_index_or table at []
name_found names table at name are within is =
    subst (λ (t : List (List ℕ)). name.now ≡ slice_index_or t at []) are (at_map names at name within is)

behind_map : (names : List (Bor (List ℕ))) (at : ℕ) → length names ≤ at → ◌≡◌ {A = List ℕ} [] (slice_index_or (map (λ (n : Bor (List ℕ)). n.now) names) at [])
behind_map [] at behind = refl
behind_map (first ∷ names) zero behind = absurd (omega (arith, behind))
behind_map (first ∷ names) (suc at) behind = behind_map names at (omega (arith, behind))

pub no_name : (names : List (Bor (List ℕ))) (table : List (List ℕ)) (at : ℕ) → map (λ (n : Bor (List ℕ)). n.now) names ≡ table → length names ≤ at → ◌≡◌ {A = List ℕ} [] (slice_index_or table at [])
no_name names table at are behind =
    subst (λ (t : List (List ℕ)). ◌≡◌ {A = List ℕ} [] (slice_index_or t at [])) are (behind_map names at behind)
