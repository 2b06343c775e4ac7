-- How the entries of a frame differ from those of the frame before.
use Rattle.std.specs.Prelude.{◌≡◌, ◌≢◌, List, [], ◌∷◌, ◌++◌}
use Rattle.class_model.specs.declared.frame.VType.{VType}

-- the first entries are not the same
abbrev pub AreApart : List VType → List VType → Type 0
AreApart [] others = Unit {0}
AreApart (one ∷ ones) [] = Unit {0}
AreApart (one ∷ ones) (other ∷ others) = one ≢ other

-- Two lists begin with the same entry, and behind it are these.
pub record BeginSame (ones others behind_one behind_other : List VType) : Type 0 where
  pub first : VType
  pub ones_are : ones ≡ first ∷ behind_one
  pub others_are : others ≡ first ∷ behind_other

-- Two lists begin with the same entries, and behind those are these.
pub record IsChange (before locals gone more : List VType) : Type 0 where
  pub common : List VType
  pub before_is : before ≡ common ++ gone
  pub locals_is : locals ≡ common ++ more
  pub apart : AreApart gone more
