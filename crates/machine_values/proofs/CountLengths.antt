-- How many counts there are.
use Rattle.std.specs.Prelude.{◌≡◌, ◌-◌, ◌++◌, ◌∷◌, [], ℕ, suc, List, length, replicate}
use Rattle.std.proofs.Common.{ap, sym, ◌∙◌, arith}
use Rattle.std.proofs.lemmas.List.{length-replicate, length-append}
use Rattle.machine_values.specs.Counts.{all_counts, AreHeld}
use Rattle.machine_values.specs.declared.count_list.HeldCount.{HeldCount}

pub length-all_counts :
    (from len : ℕ) (held : List HeldCount)
    → AreHeld from len held
    → length (all_counts from len held) ≡ len - from
length-all_counts from len [] are = length-replicate {A = ℕ} (len - from) 0
length-all_counts from len (first ∷ others) are =
    let rest = all_counts (suc first.number) len others in
    omega (
      arith,
      length-append (replicate (first.number - from) 0) (first.count ∷ rest),
      length-replicate {A = ℕ} (first.number - from) 0,
      length-all_counts (suc first.number) len others are.1.1.1,
      are.0,
      are.1.0,
    )

-- as many as the length says
pub length_from_zero :
    (len : ℕ) (held : List HeldCount)
    → AreHeld 0 len held
    → length (all_counts 0 len held) ≡ len
length_from_zero len held are = omega (arith, length-all_counts 0 len held are)
