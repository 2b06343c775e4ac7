-- The text of a script: one line for each action.
use Rattle.std.specs.Prelude.{◌<◌, ◌^◌, ℕ, List, [], ◌∷◌, ◌++◌, codes, map, decimal, FitsSigned, None, Some}
use Rattle.std.specs.Fmt.{signed_decimal}
use Rattle.std.specs.Int.{w32, w64}
use Rattle.std.specs.List.{flat_map, join_with_byte, AllByRecursion}
use Rattle.class_model.specs.ModifiedUtf8.{IsText}
use Rattle.machine_values.specs.declared.action.Action.{Action}
use Rattle.machine_values.specs.declared.action.Action.TheVariants.{Call, Construct, Return, Throw, ArrayGet, ArraySet, ArrayLength, NewArray, NewExternal, Stop}
use Rattle.machine_values.specs.declared.action.Given.{Given}
use Rattle.machine_values.specs.declared.action.Given.TheVariants.{Int, Long, Float, Double, Null, Known}
use Rattle.script_text.specs.Characters.{line_feed, space}
use Rattle.script_text.specs.PrintedTexts.{Bytes, printed_text, hex_text}
use Rattle.script_text.specs.Scripts.{Word}

abbrev pub printed_known : ℕ → Word
printed_known number = codes "r:" ++ decimal number

abbrev pub printed_given : Given → Word
printed_given (Int number) = codes "i:" ++ signed_decimal number
printed_given (Long number) = codes "l:" ++ signed_decimal number
printed_given (Float bits) = codes "f:" ++ hex_text 8 bits
printed_given (Double bits) = codes "d:" ++ hex_text 16 bits
printed_given Null = codes "null"
printed_given (Known number) = printed_known number

abbrev pub action_words : Action → List Word
action_words (Call class name desc values) =
    codes "call" ∷ printed_text class ∷ printed_text name ∷ printed_text desc
    ∷ map printed_given values
action_words (Construct class desc values) =
    codes "construct" ∷ printed_text class ∷ printed_text desc ∷ map printed_given values
action_words (Return None) = codes "return" ∷ []
action_words (Return (Some value)) = codes "return" ∷ printed_given value ∷ []
action_words (Throw number) = codes "throw" ∷ printed_known number ∷ []
action_words (ArrayGet number index) =
    codes "get" ∷ printed_known number ∷ signed_decimal index ∷ []
action_words (ArraySet number index value) =
    codes "set" ∷ printed_known number ∷ signed_decimal index ∷ printed_given value ∷ []
action_words (ArrayLength number) = codes "length" ∷ printed_known number ∷ []
action_words (NewArray desc len) = codes "array" ∷ printed_text desc ∷ signed_decimal len ∷ []
action_words (NewExternal class also) =
    codes "new" ∷ printed_text class ∷ map printed_text also
action_words Stop = codes "stop" ∷ []

abbrev pub printed_action : Action → Bytes
printed_action action = join_with_byte space (action_words action) ++ line_feed ∷ []

abbrev pub printed_script : List Action → Bytes
printed_script actions = flat_map printed_action actions

-- ---- the values of the types

-- a number of a known reference
abbrev pub IsKnown : ℕ → Type 0
IsKnown number = number < 2 ^ 64

-- numbers and bits fit the type of the value
abbrev pub IsGiven : Given → Type 0
IsGiven (Int number) = FitsSigned w32 number
IsGiven (Long number) = FitsSigned w64 number
IsGiven (Float bits) = bits < 2 ^ 32
IsGiven (Double bits) = bits < 2 ^ 64
IsGiven Null = Unit {0}
IsGiven (Known number) = IsKnown number

-- names and descriptors are texts, and numbers fit
abbrev pub IsAction : Action → Type 0
IsAction (Call class name desc values) =
    IsText class × IsText name × IsText desc × AllByRecursion IsGiven values
IsAction (Construct class desc values) =
    IsText class × IsText desc × AllByRecursion IsGiven values
IsAction (Return None) = Unit {0}
IsAction (Return (Some value)) = IsGiven value
IsAction (Throw number) = IsKnown number
IsAction (ArrayGet number index) = IsKnown number × FitsSigned w32 index
IsAction (ArraySet number index value) =
    IsKnown number × FitsSigned w32 index × IsGiven value
IsAction (ArrayLength number) = IsKnown number
IsAction (NewArray desc len) = IsText desc × FitsSigned w32 len
IsAction (NewExternal class also) = IsText class × AllByRecursion IsText also
IsAction Stop = Unit {0}
