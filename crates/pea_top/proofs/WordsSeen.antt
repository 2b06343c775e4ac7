-- What one more word means behind the words seen.
use Rattle.std.proofs.Common.{◌≡◌, ◌≢◌, ℕ, ◌+◌, ◌<◌, ◌≤◌, List, [], ◌∷◌, ◌++◌, length, length-append, get_or, drop, map, refl, sym, ap, ◌∙◌, append_assoc, arith}
use Rattle.std.proofs.lemmas.List.{drop_more}
use Rattle.std.specs.Prelude.{codes, ◌↔◌, IfNone, Option, None, Some}
use Rattle.pea_top.specs.Words.{Word, Command, CommandOption, lib_option, steps_option, number_option, size_option, option_name, Part, Positional, Separate, Joined, words_of, IsOperand, IsPart, positionals, values_of, IsUsage}
use Rattle.pea_top.specs.Seen.{option_view, positional_words, values_seen, awaiting, Makes, MakesNone, AreBehindName, EndsCommand, Leads, Fails, Adds, IsTooMany}
use Rattle.pea_top.specs.declared.words.OptionName.{OptionName}
use Rattle.pea_top.specs.declared.words.Arguments.{Arguments}
use Rattle.pea_top.specs.declared.words.Seen.{Seen}
use Rattle.pea_top.proofs.Completing.{part_first, part_behind, no_part_first, few_with_first, none_left, behind_name, name_spelled}
use Rattle.pea_top.proofs.WordGrammar.{not_name, name_not_joined}

-- a part more than a command has
no_more : (seen : Arguments) (part : Part) → IsTooMany seen part
    → length (positional_words seen.positional ++ positionals (part ∷ [])) ≤ 2
    → ((asked : CommandOption) → length (values_seen seen asked ++ values_of asked (part ∷ [])) ≤ 1) → ⊥
no_more seen (Positional word) many words values = omega (arith, many, simp length-append at words)
no_more seen (Separate lib_option value) many words values = omega (arith, many, simp length-append at (values lib_option))
no_more seen (Separate steps_option value) many words values = omega (arith, many, simp length-append at (values steps_option))
no_more seen (Separate number_option value) many words values = omega (arith, many, simp length-append at (values number_option))
no_more seen (Separate size_option value) many words values = omega (arith, many, simp length-append at (values size_option))
no_more seen (Joined lib_option value) many words values = omega (arith, many, simp length-append at (values lib_option))
no_more seen (Joined steps_option value) many words values = omega (arith, many, simp length-append at (values steps_option))
no_more seen (Joined number_option value) many words values = omega (arith, many, simp length-append at (values number_option))
no_more seen (Joined size_option value) many words values = omega (arith, many, simp length-append at (values size_option))

-- the word is the value of the option that awaits one
pub value_ends : (awaited : Option OptionName) (option : OptionName) (word : Word) → awaited ≡ Some option
    → awaiting awaited ++ word ∷ [] ≡ words_of (Separate (option_view option) word)
value_ends awaited option word is = rw is refl

-- no option awaits a value
pub word_ends : (awaited : Option OptionName) (word : Word) (words : List Word) → awaited ≡ None → word ∷ [] ≡ words
    → awaiting awaited ++ word ∷ [] ≡ words
word_ends awaited word words none is = rw none is

-- the word behind the words seen, with the option that awaits its value, is a part
module _ (seen : Seen) (word : Word) (part : Part) (ends : awaiting seen.awaited ++ word ∷ [] ≡ words_of part) (is_part : IsPart part) where
  spelled : (rest : List Word) → words_of part ++ rest ≡ awaiting seen.awaited ++ word ∷ rest
  spelled rest = ap (λ words. words ++ rest) (sym ends) ∙ append_assoc (awaiting seen.awaited) (word ∷ []) rest

  -- the arguments have one part more
  pub part_leads : (next : Seen) → next.awaited ≡ None → Adds seen.arguments part next.arguments → Leads seen word next
  part_leads next none adds rest command =
      let first = part_first _ _ part _ _ adds.positional adds.values rest command is_part in
      let behind = part_behind _ _ part _ _ adds.positional adds.values rest command is_part in (
        λ h. rw (spelled rest) at (first (rw none at h)),
        λ h. rw none (behind (rw (spelled rest) h)),
      )

  -- no command has this part
  pub part_fails : IsTooMany seen.arguments part → Fails seen word
  part_fails many rest command h =
      let few = few_with_first _ _ part rest command is_part (rw (spelled rest) h) in
      no_more seen.arguments part many few.0 few.1

-- the word is no value of the option that awaits one
pub value_fails : (seen : Seen) (option : OptionName) (word : Word) → seen.awaited ≡ Some option → ¬ IsOperand word → Fails seen word
value_fails seen option word awaited no_operand rest command h =
    no_part_first _ _ (option_name (option_view option)) (word ∷ rest) command none (rw awaited at h)
  where
    none : (part : Part) (tail : List Word) → IsPart part → option_name (option_view option) ∷ word ∷ rest ≢ words_of part ++ tail
    none (Positional first) tail operand e = not_name (option_view option) first operand cc
    none (Separate other value) tail operand e = (let same : word ≡ value = cc in no_operand (rw same operand))
    none (Joined other value) tail some e = name_not_joined (option_view option) other value cc

-- the word begins no part
pub word_fails : (seen : Seen) (word : Word) → seen.awaited ≡ None → ((option : CommandOption) → word ≢ option_name option)
    → ((option : CommandOption) (value : Word) → value ≢ [] → word ≢ option_name option ++ codes "=" ++ value) → ¬ IsOperand word
    → Fails seen word
word_fails seen word awaited no_name no_joined no_operand rest command h =
    no_part_first _ _ word rest command none (rw awaited at h)
  where
    none : (part : Part) (tail : List Word) → IsPart part → word ∷ rest ≢ words_of part ++ tail
    none (Positional first) tail operand e = (let same : word ≡ first = cc in no_operand (rw same operand))
    none (Separate option value) tail operand e = no_name option cc
    none (Joined option value) tail some e = no_joined option value some cc

-- where no word is left, the arguments seen make the command
pub ended : (P : Command → Type 0) (seen : Seen) → seen.awaited ≡ None → ((command : Command) → EndsCommand seen [] command ↔ P command)
    → (command : Command) → Makes seen.arguments command ↔ P command
ended P seen none same command =
    let whole = none_left (positional_words seen.arguments.positional) (values_seen seen.arguments) command in
    (λ h. (same command).0 (rw none (whole.1 h)), λ p. whole.0 (rw none at ((same command).1 p)))

-- an option that awaits its value ends no command
pub unended : (P : Command → Type 0) (seen : Seen) (option : OptionName) → seen.awaited ≡ Some option
    → ((command : Command) → EndsCommand seen [] command ↔ P command) → (command : Command) → ¬ P command
unended P seen option awaited same command p =
    no_part_first _ _ (option_name (option_view option)) [] command none (rw awaited at ((same command).1 p))
  where
    none : (part : Part) (tail : List Word) → IsPart part → option_name (option_view option) ∷ [] ≢ words_of part ++ tail
    none (Positional first) tail operand e = not_name (option_view option) first operand cc
    none (Separate other value) tail operand e = cc
    none (Joined other value) tail some e = name_not_joined (option_view option) other value cc

-- the words behind the first k, of which the next is seen
pub next_word : {A : Type 0} (view : A → Word) (xs : List A) (k : ℕ) (item : A) (word : Word) → k < length xs → item ≡ get_or xs k item
    → word ≡ view item → map view (drop k xs) ≡ word ∷ map view (drop (k + 1) xs)
next_word view xs k item word within is same = rw (drop_more xs k item within, ← is, same) refl

-- what the words complete is what the words seen and the rest complete, and so with one more word seen
pub follows : (P : Command → Type 0) (seen next : Seen) (word : Word) (before rest : List Word) → before ≡ word ∷ rest
    → Leads seen word next → ((command : Command) → EndsCommand seen before command ↔ P command) → (command : Command)
    → EndsCommand next rest command ↔ P command
follows P seen next word before rest split leads same command =
    (λ h. (same command).0 (rw split ((leads rest command).0 h)), λ p. (leads rest command).1 (rw split at ((same command).1 p)))

-- what the words complete is nothing, where no more word can be seen
pub stops : (P : Command → Type 0) (seen : Seen) (word : Word) (before rest : List Word) → before ≡ word ∷ rest → Fails seen word
    → ((command : Command) → EndsCommand seen before command ↔ P command) → (command : Command) → ¬ P command
stops P seen word before rest split fails same command p = fails rest command (rw split at ((same command).1 p))

-- words of this name spell no command where the arguments behind it make none
pub unspelled : (name first : Word) (rest words : List Word) (seen : Arguments) → words ≡ first ∷ rest → first ≡ name
    → ((command : Command) → Makes seen command ↔ AreBehindName rest command) → MakesNone seen name → IsUsage words
unspelled name first rest words seen split is same none command h =
    let spelled = rw split at h in
    none command (sym (name_spelled first rest command spelled) ∙ is) ((same command).1 (behind_name first rest command spelled))

-- what follows where a call gives nothing
pub none_then : {X P Q : Type 0} (r : Option X) → (P → Q) → IfNone r P → IfNone r Q
none_then None more p = more p
none_then (Some x) more p = tt
