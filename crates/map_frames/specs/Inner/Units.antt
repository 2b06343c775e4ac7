-- Local units, and how they change from one frame to the next.
use Rattle.std.specs.Prelude.{◌≡◌, ◌≤◌, ℕ, Bool, false, List, length, take, Option, Some, None}
use Rattle.class_model.specs.Frames.{depth, filled, is_top}
use Rattle.class_model.specs.declared.frame.VType.{VType}

-- there is a unit, and it is Top
abbrev pub is_top_there : Option VType → Bool
is_top_there None = false
is_top_there (Some unit) = is_top unit

-- The entries begin with so many of those before.
pub record Keeps (kept : ℕ) (before entries : List VType) : Type 0 where
  pub few : kept ≤ length entries
  pub same : take kept before ≡ take kept entries

-- These are the local units of other entries, which take so many units and with so many of which the entries begin.
pub record Follows (max_locals kept before : ℕ) (entries units : List VType) : Type 0 where
  pub others : List VType
  pub units_are : units ≡ filled max_locals others
  pub before_is : before ≡ depth others
  pub keeps : Keeps kept others entries
  pub fits : depth entries ≤ max_locals
