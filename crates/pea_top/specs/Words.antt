-- The grammar of the words behind the program's name.
use Rattle.std.specs.Prelude.{◌≡◌, ◌≢◌, ◌≤◌, ℕ, List, [], ◌∷◌, ◌++◌, codes, length}
use Rattle.std.specs.List.{flat_map, AllByRecursion}
use Rattle.std.specs.Str.Parse.{IsNumeral, digits_value}

-- a word is the list of its bytes
abbrev pub Word : Type 0
Word = List ℕ

-- What is done with a folder: to optimise it into the folder output, to verify it, to say what becomes of each of its methods, to run it by
-- a script in at most so many steps, or to run both it and its written folder.
pub data Task : Type 0 where
  Optimise : (output : Word) → Task
  Verify : Task
  Plan : Task
  Run : (script : Word) (steps : ℕ) → Task
  Both : (script : Word) (steps : ℕ) → Task

-- What the words ask for: to do this with the folder input and the library's folder, to list the class file of this name in the folder
-- input, or to generate work of this number and size and to run it before and after it is optimised.
pub data Command : Type 0 where
  OnFolder : (input library : Word) (task : Task) → Command
  Listing : (input name : Word) → Command
  Generated : (number size : ℕ) → Command

abbrev pub task_name : Task → Word
task_name (Optimise output) = codes "optimise"
task_name Verify = codes "verify"
task_name Plan = codes "plan"
task_name (Run script steps) = codes "run"
task_name (Both script steps) = codes "both"

abbrev pub name_of : Command → Word
name_of (OnFolder input library task) = task_name task
name_of (Listing input name) = codes "list"
name_of (Generated number size) = codes "gen"

-- the positional words of its spelling, in order: of a task those behind the input
abbrev pub task_positionals : Task → List Word
task_positionals (Optimise output) = output ∷ []
task_positionals Verify = []
task_positionals Plan = []
task_positionals (Run script steps) = script ∷ []
task_positionals (Both script steps) = script ∷ []

abbrev pub positionals_of : Command → List Word
positionals_of (OnFolder input library task) = input ∷ task_positionals task
positionals_of (Listing input name) = input ∷ name ∷ []
positionals_of (Generated number size) = []

-- the output differs as text from the input and from the library
abbrev pub IsApart : Command → Type 0
IsApart (OnFolder input library (Optimise output)) = (output ≢ input) × (output ≢ library)
IsApart command = Unit {0}

-- ---- options

pub data CommandOption : Type 0 where
  lib_option : CommandOption
  steps_option : CommandOption
  number_option : CommandOption
  size_option : CommandOption

abbrev pub option_name : CommandOption → Word
option_name lib_option = codes "--lib"
option_name steps_option = codes "--steps"
option_name number_option = codes "--number"
option_name size_option = codes "--size"

-- a number: 1 to 20 decimal digits
pub record IsNumber (number : ℕ) (word : Word) : Type 0 where
  pub digits : IsNumeral 10 word
  pub few : length word ≤ 20
  pub value : digits_value 10 word ≡ number

-- a number within these bounds
pub record IsWithin (low high number : ℕ) (word : Word) : Type 0 where
  pub is : IsNumber number word
  pub least : low ≤ number
  pub most : number ≤ high

-- an option that stands once, with such a number
abbrev pub HasNumber : (low high number : ℕ) → List Word → Type 0
HasNumber low high number [] = ⊥
HasNumber low high number (word ∷ []) = IsWithin low high number word
HasNumber low high number (first ∷ second ∷ others) = ⊥

-- the values of --steps in a run: 1,000,000 where there is none
abbrev pub HasSteps : ℕ → List Word → Type 0
HasSteps steps [] = steps ≡ 1000000
HasSteps steps (word ∷ words) = HasNumber 0 10000000 steps (word ∷ words)

-- the values of --steps in a task
abbrev pub TaskSteps : Task → List Word → Type 0
TaskSteps (Run script steps) values = HasSteps steps values
TaskSteps (Both script steps) values = HasSteps steps values
TaskSteps task values = values ≡ []

-- the values of an option in a command
abbrev pub HasValues : Command → CommandOption → List Word → Type 0
HasValues (OnFolder input library task) lib_option values = values ≡ library ∷ []
HasValues (OnFolder input library task) steps_option values = TaskSteps task values
HasValues (Generated number size) number_option values = HasNumber 0 2147483647 number values
HasValues (Generated number size) size_option values = HasNumber 1 1000 size values
HasValues command option values = values ≡ []

-- ---- parts

-- A part of the words behind the command's name: a positional word, or an option with its value in a word of its own or behind
-- an equals sign.
pub data Part : Type 0 where
  Positional : Word → Part
  Separate : CommandOption → Word → Part
  Joined : CommandOption → Word → Part

abbrev pub words_of : Part → List Word
words_of (Positional word) = word ∷ []
words_of (Separate option value) = option_name option ∷ value ∷ []
words_of (Joined option value) = (option_name option ++ codes "=" ++ value) ∷ []

-- a positional word or a value in a word of its own is not empty and does not begin with a dash
abbrev pub IsOperand : Word → Type 0
IsOperand [] = ⊥
IsOperand (first ∷ rest) = first ≢ 45

abbrev pub IsPart : Part → Type 0
IsPart (Positional word) = IsOperand word
IsPart (Separate option value) = IsOperand value
IsPart (Joined option value) = value ≢ []

-- the positional words, in order
abbrev pub positionals : List Part → List Word
positionals [] = []
positionals (Positional word ∷ parts) = word ∷ positionals parts
positionals (Separate option value ∷ parts) = positionals parts
positionals (Joined option value ∷ parts) = positionals parts

-- one more value in front, where it is of the option that is asked for
abbrev pub with_value : CommandOption → CommandOption → Word → List Word → List Word
with_value lib_option lib_option value values = value ∷ values
with_value steps_option steps_option value values = value ∷ values
with_value number_option number_option value values = value ∷ values
with_value size_option size_option value values = value ∷ values
with_value asked option value values = values

-- the values of an option, in order
abbrev pub values_of : CommandOption → List Part → List Word
values_of asked [] = []
values_of asked (Positional word ∷ parts) = values_of asked parts
values_of asked (Separate option value ∷ parts) =
    with_value asked option value (values_of asked parts)
values_of asked (Joined option value ∷ parts) =
    with_value asked option value (values_of asked parts)

-- ---- commands

-- The words are the command's name and its parts in any order: its positional words, and each option at most once.
pub record Spells (command : Command) (words : List Word) : Type 0 where
  pub parts : List Part
  pub spelled : words ≡ name_of command ∷ flat_map words_of parts
  pub each : AllByRecursion IsPart parts
  pub positional : positionals parts ≡ positionals_of command
  pub values : (option : CommandOption) → HasValues command option (values_of option parts)
  pub apart : IsApart command

-- the words are outside the grammar
abbrev pub IsUsage : List Word → Type 0
IsUsage words = (command : Command) → ¬ Spells command words
