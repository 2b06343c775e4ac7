-- Items that are counted as they are written.
use Rattle.std.specs.Prelude.{◌≡◌, ◌⊎◌, ◌≤◌, ◌<◌, ◌+◌, ℕ, Bool, true, false, List, [], ◌∷◌, length, Option, Some, None}
use Rattle.code_drafts.specs.declared.draft.DraftItem.{DraftItem}
use Rattle.making_code.specs.Items.{WItem}

-- the entries that items take in the exception table
abbrev pub table_entries : List WItem → ℕ
table_entries [] = 0
table_entries (item ∷ items) = length item.catches + table_entries items

-- more items than a code has bytes, or more entries than an exception table has (JVM Specification SE 8, 4.7.3)
abbrev pub AreTooMany : List WItem → Type 0
AreTooMany items = (65535 < length items) ⊎ (65535 < table_entries items)

-- the handlers of items
abbrev pub handlers_of : List DraftItem → ℕ
handlers_of [] = 0
handlers_of (item ∷ items) = length item.catches + handlers_of items

-- where they are not too many, they are all there, and counted
pub record AreCounted (is_long : Bool) (items : List DraftItem) (entries : ℕ) : Type 0 where
  pub few : is_long ≡ false → length items ≤ 65535
  pub few_entries : is_long ≡ false → entries ≤ 65535
  pub counted : is_long ≡ false → entries ≡ handlers_of items

-- they are counted by some number
pub record AreFew (is_long : Bool) (items : List DraftItem) : Type 0 where
  pub entries : ℕ
  pub counted : AreCounted is_long items entries

-- all of them, if they are not too many
pub record AreItems (is_long : Bool) (items : List DraftItem) (found : Option (List DraftItem))
    : Type 0 where
  pub all : is_long ≡ false → found ≡ Some items
  pub none : is_long ≡ true → found ≡ None
  pub few : AreFew is_long items
