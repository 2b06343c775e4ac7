-- The grammar of scripts: this project's profile.
use Rattle.std.specs.Prelude.{◌≡◌, ◌==◌, ◌<◌, ◌^◌, ℕ, suc, List, [], ◌∷◌, ◌++◌, codes, ℤ, pos, neg_ℤ, Option, None, Some, FitsSigned, drop, if◌then◌else◌}
use Rattle.std.specs.Int.{Width, w32, w64}
use Rattle.std.specs.Str.Parse.{IsNumeral, digits_value, starts_with_minus}
use Rattle.class_model.specs.ModifiedUtf8.{IsText}
use Rattle.machine_values.specs.declared.action.Action.{Action}
use Rattle.machine_values.specs.declared.action.Action.TheVariants.{Call, Construct, Return, Throw, ArrayGet, ArraySet, ArrayLength, NewArray, NewExternal, Stop}
use Rattle.machine_values.specs.declared.action.Given.{Given}
use Rattle.machine_values.specs.declared.action.Given.TheVariants.{Int, Long, Float, Double, Null, Known}
use Rattle.script_text.specs.Characters.{line_feed, space, hash}
use Rattle.script_text.specs.PrintedTexts.{Bytes, printed_text, hex_text}

-- ---- lines and words

-- what stands before, between and behind the bytes that are a mark
abbrev pub pieces : ℕ → Bytes → List Bytes
pieces mark [] = [] ∷ []
pieces mark (byte ∷ bytes) =
    if byte == mark then [] ∷ pieces mark bytes else in_front byte (pieces mark bytes) where
      in_front : ℕ → List Bytes → List Bytes
      in_front byte [] = (byte ∷ []) ∷ []
      in_front byte (piece ∷ others) = (byte ∷ piece) ∷ others

-- Behind a last line feed stands one more line, which is empty.
abbrev pub lines_of : Bytes → List Bytes
lines_of bytes = pieces line_feed bytes

abbrev pub Word : Type 0
Word = Bytes

-- Between two spaces that stand together is an empty word, which spells nothing.
abbrev pub words_of : Bytes → List Word
words_of line = pieces space line

-- ---- numbers and texts

-- a number of 64 bits: digits, of which the first ones may be 0
pub record SpellsNumber (number : ℕ) (word : Word) : Type 0 where
  pub digits : IsNumeral 10 word
  pub value : digits_value 10 word ≡ number
  pub fits : number < 2 ^ 64

abbrev pub without_minus : Word → Word
without_minus word = if starts_with_minus word then drop 1 word else word

abbrev pub integer_value : Word → ℤ
integer_value word =
    if starts_with_minus word then neg_ℤ (pos (digits_value 10 (drop 1 word)))
    else pos (digits_value 10 word)

-- an integer of a width: digits behind an optional minus sign
pub record SpellsInteger (width : Width) (number : ℤ) (word : Word) : Type 0 where
  pub digits : IsNumeral 10 (without_minus word)
  pub value : integer_value word ≡ number
  pub fits : FitsSigned width number

-- the bits of a float or double: so many hexadecimal digits
pub record SpellsBits (count bits : ℕ) (word : Word) : Type 0 where
  pub spelled : word ≡ hex_text count bits
  pub fits : bits < 16 ^ count

-- a name or descriptor as it is printed
pub record SpellsText (text : Bytes) (word : Word) : Type 0 where
  pub printed : word ≡ printed_text text
  pub is_text : IsText text

-- the number of a known reference
pub data SpellsKnown : ℕ → Word → Type 0 where
  spells_known : {number : ℕ} {word : Word}
      → SpellsNumber number word
      → SpellsKnown number (codes "r:" ++ word)

-- ---- values and actions

pub data SpellsGiven : Given → Word → Type 0 where
  given_int : {number : ℤ} {word : Word}
      → SpellsInteger w32 number word
      → SpellsGiven (Int number) (codes "i:" ++ word)
  given_long : {number : ℤ} {word : Word}
      → SpellsInteger w64 number word
      → SpellsGiven (Long number) (codes "l:" ++ word)
  given_float : {bits : ℕ} {word : Word}
      → SpellsBits 8 bits word
      → SpellsGiven (Float bits) (codes "f:" ++ word)
  given_double : {bits : ℕ} {word : Word}
      → SpellsBits 16 bits word
      → SpellsGiven (Double bits) (codes "d:" ++ word)
  given_null : SpellsGiven Null (codes "null")
  given_known : {number : ℕ} {word : Word}
      → SpellsNumber number word
      → SpellsGiven (Known number) (codes "r:" ++ word)

-- one word for each of a list
pub data SpellsEach {X : Type 0} (Spells : X → Word → Type 0) : List X → List Word → Type 0 where
  none_spelled : SpellsEach Spells [] []
  more_spelled : {first : X} {others : List X} {word : Word} {words : List Word}
      → Spells first word
      → SpellsEach Spells others words
      → SpellsEach Spells (first ∷ others) (word ∷ words)

-- an action, by the words of its line
pub data SpellsAction : Action → List Word → Type 0 where
  call_line : {class name desc : Bytes} {values : List Given} {first second third : Word} {words : List Word}
      → SpellsText class first
      → SpellsText name second
      → SpellsText desc third
      → SpellsEach SpellsGiven values words
      → SpellsAction (Call class name desc values) (codes "call" ∷ first ∷ second ∷ third ∷ words)
  construct_line : {class desc : Bytes} {values : List Given} {first second : Word} {words : List Word}
      → SpellsText class first
      → SpellsText desc second
      → SpellsEach SpellsGiven values words
      → SpellsAction (Construct class desc values) (codes "construct" ∷ first ∷ second ∷ words)
  return_line : SpellsAction (Return None) (codes "return" ∷ [])
  return_value_line : {value : Given} {word : Word}
      → SpellsGiven value word
      → SpellsAction (Return (Some value)) (codes "return" ∷ word ∷ [])
  throw_line : {number : ℕ} {word : Word}
      → SpellsKnown number word
      → SpellsAction (Throw number) (codes "throw" ∷ word ∷ [])
  get_line : {number : ℕ} {index : ℤ} {first second : Word}
      → SpellsKnown number first
      → SpellsInteger w32 index second
      → SpellsAction (ArrayGet number index) (codes "get" ∷ first ∷ second ∷ [])
  set_line : {number : ℕ} {index : ℤ} {value : Given} {first second third : Word}
      → SpellsKnown number first
      → SpellsInteger w32 index second
      → SpellsGiven value third
      → SpellsAction (ArraySet number index value) (codes "set" ∷ first ∷ second ∷ third ∷ [])
  length_line : {number : ℕ} {word : Word}
      → SpellsKnown number word
      → SpellsAction (ArrayLength number) (codes "length" ∷ word ∷ [])
  array_line : {desc : Bytes} {len : ℤ} {first second : Word}
      → SpellsText desc first
      → SpellsInteger w32 len second
      → SpellsAction (NewArray desc len) (codes "array" ∷ first ∷ second ∷ [])
  new_line : {class : Bytes} {also : List Bytes} {first : Word} {words : List Word}
      → SpellsText class first
      → SpellsEach SpellsText also words
      → SpellsAction (NewExternal class also) (codes "new" ∷ first ∷ words)
  stop_line : SpellsAction Stop (codes "stop" ∷ [])

-- ---- scripts

-- what a line gives: nothing where it is empty or a comment, else an action
pub data SpellsLine : Option Action → Bytes → Type 0 where
  empty_line : SpellsLine None []
  comment_line : {text : Bytes} → SpellsLine None (hash ∷ text)
  action_line : {action : Action} {line : Bytes}
      → SpellsAction action (words_of line)
      → SpellsLine (Some action) line

abbrev pub IsLine : Bytes → Type 0
IsLine line = (action : Option Action) × SpellsLine action line

-- the actions of lines, in their order
pub data SpellsLines : List Action → List Bytes → Type 0 where
  no_lines : SpellsLines [] []
  line_without_action : {actions : List Action} {line : Bytes} {lines : List Bytes}
      → SpellsLine None line
      → SpellsLines actions lines
      → SpellsLines actions (line ∷ lines)
  line_with_action : {action : Action} {actions : List Action} {line : Bytes} {lines : List Bytes}
      → SpellsLine (Some action) line
      → SpellsLines actions lines
      → SpellsLines (action ∷ actions) (line ∷ lines)

abbrev pub IsScript : Bytes → List Action → Type 0
IsScript bytes actions = SpellsLines actions (lines_of bytes)

-- the number, from 1, of the first line outside the grammar
pub data IsFirstOutside : List Bytes → ℕ → Type 0 where
  outside_here : {line : Bytes} {lines : List Bytes}
      → ¬ IsLine line
      → IsFirstOutside (line ∷ lines) 1
  outside_behind : {line : Bytes} {lines : List Bytes} {number : ℕ}
      → IsLine line
      → IsFirstOutside lines number
      → IsFirstOutside (line ∷ lines) (suc number)
