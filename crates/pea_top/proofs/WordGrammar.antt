-- Words are cut into parts in one way, and spell one command.
use Rattle.std.proofs.Common.{◌≡◌, ◌≢◌, ◌⊎◌, inl, inr, ◌==◌, ℕ, List, [], ◌∷◌, ◌++◌, get_or, if◌then◌else◌, true, Option, None, Some, refl, sym, ap, subst, ◌∙◌}
use Rattle.std.specs.Prelude.{codes}
use Rattle.std.specs.List.{flat_map, AllByRecursion}
use Rattle.std.specs.Str.Parse.{digits_value}
use Rattle.pea_top.specs.Words.{Word, Task, Optimise, Verify, Plan, Run, Both, Command, OnFolder, Listing, Generated, name_of, positionals_of, HasNumber, IsWithin, HasSteps, HasValues, CommandOption, lib_option, steps_option, number_option, size_option, option_name, Part, Positional, Separate, Joined, words_of, IsOperand, IsPart, positionals, values_of, Spells}
use Rattle.std.specs.Borrow.{Bor}
use Rattle.std.specs.Option.{is_some}
use Rattle.pea_top.specs.Seen.{Makes, MakesNone, positional_words, value_words, values_seen}
use Rattle.pea_top.specs.declared.words.Arguments.{Arguments}

-- an operand does not begin with a dash
not_dashed : (word rest : Word) → IsOperand word → word ≢ 45 ∷ rest
not_dashed [] rest operand e = absurd operand
not_dashed (first ∷ word) rest operand e = operand cc

-- it is the name of no option
pub not_name : (option : CommandOption) (word : Word) → IsOperand word → word ≢ option_name option
not_name lib_option word operand e = not_dashed word (codes "-lib") operand e
not_name steps_option word operand e = not_dashed word (codes "-steps") operand e
not_name number_option word operand e = not_dashed word (codes "-number") operand e
not_name size_option word operand e = not_dashed word (codes "-size") operand e

-- nor such a name with its value behind an equals sign
not_joined : (option : CommandOption) (word value : Word) → IsOperand word → word ≢ option_name option ++ codes "=" ++ value
not_joined lib_option word value operand e = not_dashed word (codes "-lib=" ++ value) operand e
not_joined steps_option word value operand e = not_dashed word (codes "-steps=" ++ value) operand e
not_joined number_option word value operand e = not_dashed word (codes "-number=" ++ value) operand e
not_joined size_option word value operand e = not_dashed word (codes "-size=" ++ value) operand e

-- the fifth letter of its name tells an option from the others
abbrev option_from : Word → CommandOption
option_from word =
    if get_or word 4 0 == 98 then lib_option
    else if get_or word 4 0 == 101 then steps_option
    else if get_or word 4 0 == 109 then number_option
    else size_option

option_named : (option : CommandOption) → option_from (option_name option) ≡ option
option_named lib_option = refl
option_named steps_option = refl
option_named number_option = refl
option_named size_option = refl

option_joined : (option : CommandOption) (value : Word) → option_from (option_name option ++ codes "=" ++ value) ≡ option
option_joined lib_option value = refl
option_joined steps_option value = refl
option_joined number_option value = refl
option_joined size_option value = refl

same_option : (one other : CommandOption) → option_name one ≡ option_name other → one ≡ other
same_option one other e = sym (option_named one) ∙ ap option_from e ∙ option_named other

not_longer : (option : CommandOption) (value : Word) → option_name option ≢ option_name option ++ codes "=" ++ value
not_longer lib_option value e = cc
not_longer steps_option value e = cc
not_longer number_option value e = cc
not_longer size_option value e = cc

pub name_not_joined : (one other : CommandOption) (value : Word) → option_name one ≢ option_name other ++ codes "=" ++ value
name_not_joined one other value e =
    let same : one ≡ other = sym (option_named one) ∙ ap option_from e ∙ option_joined other value in
    not_longer other value (subst (λ (option : CommandOption). option_name option ≡ option_name other ++ codes "=" ++ value) same e)

same_value : (option : CommandOption) (value word : Word) → option_name option ++ codes "=" ++ value ≡ option_name option ++ codes "=" ++ word → value ≡ word
same_value lib_option value word e = cc
same_value steps_option value word e = cc
same_value number_option value word e = cc
same_value size_option value word e = cc

same_joined : (one other : CommandOption) (value word : Word)
    → option_name one ++ codes "=" ++ value ≡ option_name other ++ codes "=" ++ word → Joined one value ≡ Joined other word
same_joined one other value word e =
    let same : one ≡ other = sym (option_joined one value) ∙ ap option_from e ∙ option_joined other word in
    let words : value ≡ word = same_value other value word (subst (λ (option : CommandOption). option_name option ++ codes "=" ++ value ≡ option_name other ++ codes "=" ++ word) same e) in
    cc

-- words that begin with a part begin with no other
pub same_part : (one other : Part) (xs ys : List Word) → IsPart one → IsPart other → words_of one ++ xs ≡ words_of other ++ ys
    → (one ≡ other) × (xs ≡ ys)
same_part (Positional word) (Positional value) xs ys h i e = (cc, cc)
same_part (Positional word) (Separate option value) xs ys h i e = absurd (not_name option word h cc)
same_part (Positional word) (Joined option value) xs ys h i e = absurd (not_joined option word value h cc)
same_part (Separate option value) (Positional word) xs ys h i e = absurd (not_name option word i cc)
same_part (Separate option value) (Separate other word) xs ys h i e =
    let options : option ≡ other = same_option option other cc in
    (cc, cc)
same_part (Separate option value) (Joined other word) xs ys h i e = absurd (name_not_joined option other word cc)
same_part (Joined option value) (Positional word) xs ys h i e = absurd (not_joined option word value i cc)
same_part (Joined option value) (Separate other word) xs ys h i e = absurd (name_not_joined other option value cc)
same_part (Joined option value) (Joined other word) xs ys h i e = (same_joined option other value word cc, cc)

-- a part takes a word
pub not_empty : (part : Part) (rest : List Word) → words_of part ++ rest ≢ []
not_empty (Positional word) rest e = cc
not_empty (Separate option value) rest e = cc
not_empty (Joined option value) rest e = cc

-- words are spelled by one list of parts at most
same_parts : (ps qs : List Part) → AllByRecursion IsPart ps → AllByRecursion IsPart qs → flat_map words_of ps ≡ flat_map words_of qs
    → ps ≡ qs
same_parts [] [] h i e = refl
same_parts [] (q ∷ qs) h i e = absurd (not_empty q _ (sym e))
same_parts (p ∷ ps) [] h i e = absurd (not_empty p _ e)
same_parts (p ∷ ps) (q ∷ qs) h i e =
    let heads : (p ≡ q) × (flat_map words_of ps ≡ flat_map words_of qs) = same_part p q _ _ h.0 i.0 e in
    let tails : ps ≡ qs = same_parts ps qs h.1 i.1 heads.1 in
    cc

-- ---- a command is given by its name, its positional words and the values of its options

abbrev pub steps_in : List Word → ℕ
steps_in [] = 1000000
steps_in (word ∷ words) = digits_value 10 word

steps_are : (steps : ℕ) (values : List Word) → HasSteps steps values → steps_in values ≡ steps
steps_are steps [] h = sym h
steps_are steps (word ∷ []) h = h.is.value
steps_are steps (first ∷ second ∷ values) h = absurd h

abbrev pub number_in : List Word → ℕ
number_in [] = 0
number_in (word ∷ words) = digits_value 10 word

number_is : (low high number : ℕ) (values : List Word) → HasNumber low high number values → number_in values ≡ number
number_is low high number [] h = absurd h
number_is low high number (word ∷ []) h = h.is.value
number_is low high number (first ∷ second ∷ values) h = absurd h

-- the command of a name whose first letter is this
abbrev pub command_by : ℕ → (input second library : Word) (steps number size : ℕ) → Command
command_by letter input second library steps number size =
    if letter == 111 then OnFolder input library (Optimise second)
    else if letter == 118 then OnFolder input library Verify
    else if letter == 112 then OnFolder input library Plan
    else if letter == 114 then OnFolder input library (Run second steps)
    else if letter == 98 then OnFolder input library (Both second steps)
    else if letter == 103 then Generated number size
    else Listing input second

abbrev pub command_from : Word → List Word → (CommandOption → List Word) → Command
command_from name words values =
    command_by (get_or name 0 0) (get_or words 0 []) (get_or words 1 []) (get_or (values lib_option) 0 []) (steps_in (values steps_option)) (number_in (values number_option)) (number_in (values size_option))

pub rebuilt : (command : Command) (values : CommandOption → List Word) → ((option : CommandOption) → HasValues command option (values option))
    → command_from (name_of command) (positionals_of command) values ≡ command
rebuilt (OnFolder input library (Optimise output)) values has = ap (λ words. OnFolder input (get_or words 0 []) (Optimise output)) (has lib_option)
rebuilt (OnFolder input library Verify) values has = ap (λ words. OnFolder input (get_or words 0 []) Verify) (has lib_option)
rebuilt (OnFolder input library Plan) values has = ap (λ words. OnFolder input (get_or words 0 []) Plan) (has lib_option)
rebuilt (OnFolder input library (Run script steps)) values has =
    let number : steps_in (values steps_option) ≡ steps = steps_are steps (values steps_option) (has steps_option) in
    ap (λ words. OnFolder input (get_or words 0 []) (Run script (steps_in (values steps_option)))) (has lib_option) ∙ ap (λ n. OnFolder input library (Run script n)) number
rebuilt (OnFolder input library (Both script steps)) values has =
    let number : steps_in (values steps_option) ≡ steps = steps_are steps (values steps_option) (has steps_option) in
    ap (λ words. OnFolder input (get_or words 0 []) (Both script (steps_in (values steps_option)))) (has lib_option) ∙ ap (λ n. OnFolder input library (Both script n)) number
rebuilt (Listing input name) values has = refl
rebuilt (Generated number size) values has =
    ap (λ n. Generated n (number_in (values size_option))) (number_is 0 2147483647 number (values number_option) (has number_option))
    ∙ ap (λ n. Generated number n) (number_is 1 1000 size (values size_option) (has size_option))

-- words spell one command at most
pub same_command : (words : List Word) (one other : Command) → Spells one words → Spells other words → one ≡ other
same_command words one other h i =
    let names : name_of one ≡ name_of other = cc (h.spelled, i.spelled) in
    let rests : flat_map words_of h.parts ≡ flat_map words_of i.parts = cc (h.spelled, i.spelled) in
    let parts : h.parts ≡ i.parts = same_parts h.parts i.parts h.each i.each rests in
    let positional : positionals_of one ≡ positionals_of other = cc (h.positional, i.positional, ap positionals parts) in
    let values : CommandOption → List Word = λ option. values_of option h.parts in
    let has : (option : CommandOption) → HasValues other option (values option) = λ option. subst (λ ps. HasValues other option (values_of option ps)) (sym parts) (i.values option) in
    sym (rebuilt one values h.values) ∙ ap (λ name. command_from name (positionals_of one) values) names ∙ ap (λ ps. command_from (name_of other) ps values) positional ∙ rebuilt other values has

-- the arguments seen make one command of a name at most
pub makes_from : (seen : Arguments) (command : Command) (name : Word) → name_of command ≡ name → Makes seen command
    → command_from name (positional_words seen.positional) (values_seen seen) ≡ command
makes_from seen command name named makes =
    ap (λ word. command_from word (positional_words seen.positional) (values_seen seen)) (sym named)
    ∙ ap (λ words. command_from (name_of command) words (values_seen seen)) makes.positional_are
    ∙ rebuilt command (values_seen seen) makes.values_are

-- they make the command that they give, where they make one
pub makes_it : (seen : Arguments) (command : Command) (name : Word) → name_of command ≡ name → Makes seen command
    → Makes seen (command_from name (positional_words seen.positional) (values_seen seen))
makes_it seen command name named makes = subst (λ (at : Command). Makes seen at) (sym (makes_from seen command name named makes)) makes

-- where they do not make that one, they make none
pub makes_none : (seen : Arguments) (name : Word) → ¬ Makes seen (command_from name (positional_words seen.positional) (values_seen seen)) → MakesNone seen name
makes_none seen name not_it command named makes = not_it (makes_it seen command name named makes)

pub no_library : (seen : Arguments) (input library : Word) (task : Task) → seen.library ≡ None → ¬ Makes seen (OnFolder input library task)
no_library seen input library task none makes =
    let given : [] ≡ library ∷ [] = rw none at (makes.values_are lib_option) in
    cc

pub no_value : (value : Option (Bor Word)) → is_some value ≡ true → value_words value ≢ []
no_value None some e = cc
no_value (Some word) some e = cc

-- no value of an option of generated work is given
pub given_none : (seen : Arguments) → (values_seen seen number_option ≢ []) ⊎ (values_seen seen size_option ≢ []) → values_seen seen number_option ≡ [] → values_seen seen size_option ≡ [] → ⊥
given_none seen (inl some) number size = some number
given_none seen (inr some) number size = some size

pub no_number : (value : Option (Bor Word)) (low high number : ℕ) → value ≡ None → ¬ HasNumber low high number (value_words value)
no_number value low high number none has = rw none at has

pub other_number : (value : Option (Bor Word)) (word : Bor Word) (low high : ℕ) → value ≡ Some word → ((number : ℕ) → ¬ IsWithin low high number word.now) → (number : ℕ) → ¬ HasNumber low high number (value_words value)
other_number value word low high some outside number has = outside number (rw some at has)
