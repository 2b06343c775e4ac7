-- The units that stack entries take.
use Rattle.std.proofs.Common.{◌≡◌, ℕ, ◌+◌, ◌<◌, ◌≤◌, zero, suc, List, [], ◌∷◌, length, take, get_or, ap, arith}
use Rattle.class_model.specs.Frames.{depth}
use Rattle.class_model.specs.Laws.Frames.{depth-append}
use Rattle.class_model.specs.declared.frame.VType.{VType}

-- some entries and the next take no more than all
pub depth_so_far : (xs : List VType) (i : ℕ) (t : VType) → i < length xs → t ≡ get_or xs i t → depth (take i xs) + depth (t ∷ []) ≤ depth xs
depth_so_far [] i t below is = absurd (omega (arith, below))
depth_so_far (x ∷ xs) zero t below is =
    let same : depth (t ∷ []) ≡ depth (x ∷ []) = ap (λ (y : VType). depth (y ∷ [])) is in
    omega (arith, same, depth-append (x ∷ []) xs)
depth_so_far (x ∷ xs) (suc i) t below is =
    let others : depth (take i xs) + depth (t ∷ []) ≤ depth xs = depth_so_far xs i t (omega (arith, below)) is in
    omega (arith, others, depth-append (x ∷ []) xs, depth-append (x ∷ []) (take i xs))
