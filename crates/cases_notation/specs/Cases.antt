-- Cases of files: a question, " => " and the answer that is wanted.
use Rattle.std.specs.Prelude.{◌≡◌, ℕ, List, ◌++◌, codes}

-- the case ends with this answer
pub record Wants (case answer : List ℕ) : Type 0 where
  pub question : List ℕ
  pub ends : case ≡ question ++ (codes " => " ++ answer)
