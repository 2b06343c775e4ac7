-- What the words seen so far say of a command, and which words complete it.
use Rattle.std.specs.Prelude.{◌≡◌, ◌↔◌, Option, Some, None, List, [], ◌∷◌, ◌++◌, length}
use Rattle.std.specs.Borrow.{Bor}
use Rattle.std.specs.List.{flat_map, AllByRecursion}
use Rattle.pea_top.specs.Words.{Word, Command, CommandOption, lib_option, steps_option, number_option, size_option, option_name, Part, Positional, Separate, Joined, words_of, IsPart, positionals, values_of, name_of, positionals_of, HasValues, IsApart}
use Rattle.pea_top.specs.declared.words.OptionName.{OptionName}
use Rattle.pea_top.specs.declared.words.OptionName.TheVariants.{Lib, Steps, Number, Size}
use Rattle.pea_top.specs.declared.words.Positionals.{Positionals}
use Rattle.pea_top.specs.declared.words.Positionals.TheVariants.{Zero, One, Two}
use Rattle.pea_top.specs.declared.words.Arguments.{Arguments}
use Rattle.pea_top.specs.declared.words.Seen.{Seen}

-- the option as the grammar sees it
abbrev pub option_view : OptionName → CommandOption
option_view Lib = lib_option
option_view Steps = steps_option
option_view Number = number_option
option_view Size = size_option

-- the positional words seen, in order
abbrev pub positional_words : Positionals → List Word
positional_words Zero = []
positional_words (One word) = word.now ∷ []
positional_words (Two first second) = first.now ∷ second.now ∷ []

-- the value of an option, where it was seen
abbrev pub value_words : Option (Bor Word) → List Word
value_words None = []
value_words (Some value) = value.now ∷ []

-- the values seen of an option
abbrev pub values_seen : Arguments → CommandOption → List Word
values_seen seen lib_option = value_words seen.library
values_seen seen steps_option = value_words seen.steps
values_seen seen number_option = value_words seen.number
values_seen seen size_option = value_words seen.size

-- the option whose value is the next word
abbrev pub awaiting : Option OptionName → List Word
awaiting None = []
awaiting (Some option) = option_name (option_view option) ∷ []

-- These positional words and these values of the options are those of the command.
pub record AreOf (command : Command) (positional : List Word) (values : CommandOption → List Word)
    : Type 0 where
  pub positional_are : positional ≡ positionals_of command
  pub values_are : (option : CommandOption) → HasValues command option (values option)
  pub apart : IsApart command

-- the arguments seen are all of the command's
abbrev pub Makes : Arguments → Command → Type 0
Makes seen command = AreOf command (positional_words seen.positional) (values_seen seen)

-- the arguments seen make no command of this name
abbrev pub MakesNone : Arguments → Word → Type 0
MakesNone seen name = (command : Command) → name_of command ≡ name → ¬ Makes seen command

-- Behind these positional words and these values of the options, the words complete the command.
pub record Completes (positional : List Word) (values : CommandOption → List Word)
    (words : List Word) (command : Command)
    : Type 0 where
  pub parts : List Part
  pub spelled : words ≡ flat_map words_of parts
  pub each : AllByRecursion IsPart parts
  pub whole :
      AreOf command (positional ++ positionals parts)
      (λ asked. values asked ++ values_of asked parts)

-- Behind the words seen, the rest completes the command.
abbrev pub EndsCommand : Seen → List Word → Command → Type 0
EndsCommand seen rest command =
    Completes (positional_words seen.arguments.positional) (values_seen seen.arguments)
    (awaiting seen.awaited ++ rest) command

-- no value of an option is given
abbrev pub no_values : CommandOption → List Word
no_values asked = []

-- the words are those behind the name of the command
abbrev pub AreBehindName : List Word → Command → Type 0
AreBehindName words command = Completes [] no_values words command

-- With this word behind the words seen, the words seen are next.
abbrev pub Leads : Seen → Word → Seen → Type 0
Leads seen word next =
    (rest : List Word) (command : Command)
    → EndsCommand next rest command ↔ EndsCommand seen (word ∷ rest) command

-- This word cannot stand behind the words seen.
abbrev pub Fails : Seen → Word → Type 0
Fails seen word = (rest : List Word) (command : Command) → ¬ EndsCommand seen (word ∷ rest) command

-- With this part behind the arguments seen, the arguments seen are next.
pub record Adds (seen : Arguments) (part : Part) (next : Arguments) : Type 0 where
  pub positional :
      positional_words next.positional
      ≡ positional_words seen.positional ++ positionals (part ∷ [])
  pub values :
      (asked : CommandOption)
      → values_seen next asked ≡ values_seen seen asked ++ values_of asked (part ∷ [])

-- no command has this part behind the arguments seen
abbrev pub IsTooMany : Arguments → Part → Type 0
IsTooMany seen (Positional word) = length (positional_words seen.positional) ≡ 2
IsTooMany seen (Separate option value) = length (values_seen seen option) ≡ 1
IsTooMany seen (Joined option value) = length (values_seen seen option) ≡ 1
