-- Choices one after the other.
use Rattle.std.proofs.Common.{◌≡◌, ◌+◌, ◌-◌, ◌<◌, ◌≤◌, ℕ, zero, suc, length, refl, List, ◌∷◌, ◌++◌, ap, ◌∙◌, arith}
use Rattle.std.proofs.lemmas.List.{append-nil}
use Rattle.work_gen.specs.Generated.{behind, choice_at, choices}
use Rattle.work_gen.specs.declared.choices.Choice.{Choice}

pub next_choices : (state size counter : ℕ) → counter < size → choices state (size - counter) ≡ choice_at state ∷ choices (behind (behind state)) (size - (counter + 1))
next_choices state size counter less =
    let one : size - counter ≡ suc (size - (counter + 1)) = omega (arith, less) in
    ap (choices state) one

pub no_choices : (chosen : List Choice) (state size counter : ℕ) → size ≤ counter → chosen ++ choices state (size - counter) ≡ chosen
no_choices chosen state size counter done =
    let none : size - counter ≡ 0 = omega (arith, done) in
    ap (λ count. chosen ++ choices state count) none ∙ append-nil chosen

pub choices_length : (state count : ℕ) → length (choices state count) ≡ count
choices_length state zero = refl
choices_length state (suc count) = ap suc (choices_length (behind (behind state)) count)
