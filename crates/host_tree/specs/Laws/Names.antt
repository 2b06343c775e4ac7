-- How often a name stands among names.
use Rattle.std.proofs.Common.{◌≡◌, ℕ, ◌+◌, List, ◌∷◌, ◌++◌, cond, refl, ap, ◌∙◌}
use Rattle.std.specs.Str.{bytes_eq}
use Rattle.std.proofs.lemmas.List.Sums.{sum_by-cons, sum_by-append}
use Rattle.std.proofs.lemmas.Slice.Eq.{bytes_eq-Decides}
use Rattle.host_tree.specs.Host.{Bytes, times}

pub times-cons :
    (name other : Bytes) (names : List Bytes)
    → times name (other ∷ names) ≡ cond (bytes_eq name other) 1 0 + times name names
times-cons name other names = sum_by-cons (λ x. cond (bytes_eq name x) 1 0) other names

pub times-first :
    (name : Bytes) (names : List Bytes) → times name (name ∷ names) ≡ 1 + times name names
times-first name names = times-cons name name names ∙ ap {B = ℕ} (λ b. cond b 1 0 + times name names) ((bytes_eq-Decides name name).1 refl)

pub times-append :
    (name : Bytes) (front back : List Bytes)
    → times name (front ++ back) ≡ times name front + times name back
times-append name front back = sum_by-append (λ x. cond (bytes_eq name x) 1 0) front back
