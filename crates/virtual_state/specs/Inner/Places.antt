-- Where a site stands among sites by increasing number.
use Rattle.std.specs.Prelude.{◌<◌, ◌≤◌, ℕ, List, Result, length, get_or, IsTrue, MatchResult}
use Rattle.virtual_state.specs.Sites.{has}

-- behind the lesser ones and before the greater ones, where it could be put
pub record IsGap (sites : List ℕ) (site at : ℕ) : Type 0 where
  pub within : at ≤ length sites
  pub before : (index : ℕ) → index < at → get_or sites index 0 < site
  pub behind : (index : ℕ) → at ≤ index → index < length sites → site < get_or sites index 0

-- it is there, or it could be put at an index
abbrev pub IsPlaceOf : List ℕ → ℕ → Result ℕ ℕ → Type 0
IsPlaceOf sites site result =
    MatchResult result (λ at. IsTrue (has sites site)) (λ at. IsGap sites site at)
