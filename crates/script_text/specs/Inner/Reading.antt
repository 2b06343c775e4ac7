-- What the parts of a line were read as.
use Rattle.std.specs.Prelude.{◌≡◌, ℕ, ◌+◌, List, [], ◌∷◌, length, Option, Some, None}
use Rattle.std.specs.Borrow.{Bor}
use Rattle.std.specs.Option.{option_copied}
use Rattle.std.specs.List.{flat_map}
use Rattle.class_model.specs.Cutting.{IsBytes}
use Rattle.script_text.specs.Characters.{space}
use Rattle.script_text.specs.PrintedTexts.{Bytes, printed_byte, printed_text}
use Rattle.script_text.specs.Scripts.{Word, pieces}

-- what was found is spelled, and where nothing was found nothing is
abbrev pub IsRead : {X : Type 0} → (X → Type 0) → Option X → Type 0
IsRead Spells (Some found) = Spells found
IsRead {X} Spells None = (found : X) → ¬ Spells found

-- the pieces of what stands behind a mark, if there was one
abbrev pub pieces_left : ℕ → Option Bytes → List Bytes
pieces_left mark None = []
pieces_left mark (Some rest) = pieces mark rest

-- how many bytes are left, and the mark before them
abbrev pub length_left : Option Bytes → ℕ
length_left None = 0
length_left (Some rest) = length rest + 1

-- the words that are left of a line
abbrev pub words_left : Option Bytes → List Word
words_left rest = pieces_left space rest

-- the first word spells a value, and the others are left
pub data Takes {X : Type 0} (Spells : X → Word → Type 0) : List Word → X → List Word → Type 0 where
  takes_word : {found : X} {word : Word} {rest : List Word}
      → Spells found word
      → Takes Spells (word ∷ rest) found rest

-- what was taken, and the words that are left, where the first word spells a value
abbrev pub TakesOne : {X : Type 0}
    → (X → Word → Type 0)
    → List Word
    → Option (X × Option (Bor Bytes))
    → Type 0
TakesOne Spells words (Some found) = Takes Spells words found.0 (words_left (option_copied found.1))
TakesOne {X} Spells words None = (found : X) (rest : List Word) → ¬ Takes Spells words found rest

-- a word prints bytes one by one
pub record PrintsBytes (word : Word) (bytes : Bytes) : Type 0 where
  pub printed : word ≡ flat_map printed_byte bytes
  pub are_bytes : IsBytes bytes

-- a word prints a text of these bytes
pub record PrintsText (word : Word) (bytes : Bytes) : Type 0 where
  pub printed : word ≡ printed_text bytes
  pub are_bytes : IsBytes bytes
