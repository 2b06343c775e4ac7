-- Where a test of a list's items holds.
use Rattle.std.specs.Prelude.{ℕ, suc, Bool, true, false, List, [], ◌∷◌}

-- the numbers of the tests that hold, where the first one has this number
abbrev pub true_from : ℕ → List Bool → List ℕ
true_from first [] = []
true_from first (true ∷ tests) = first ∷ true_from (suc first) tests
true_from first (false ∷ tests) = true_from (suc first) tests
