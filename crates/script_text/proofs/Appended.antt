-- What is appended in two steps is appended in one.
use Rattle.std.proofs.Common.{◌≡◌, ◌++◌, ℕ, List, ap, ◌∙◌, append_assoc}

pub behind : {middle end : List ℕ} (start first second : List ℕ) → middle ≡ start ++ first → end ≡ middle ++ second → end ≡ start ++ (first ++ second)
behind {middle} {end} start first second one two =
    two ∙ (ap (λ (t : List ℕ). t ++ second) one ∙ append_assoc start first second)
