-- Which words complete a command behind given positional words and values of options.
use Rattle.std.proofs.Common.{◌≡◌, ◌≢◌, ◌≤◌, ℕ, List, [], ◌∷◌, ◌++◌, length, length-append, refl, sym, ap, subst, ◌∙◌, append_assoc, arith}
use Rattle.std.proofs.lemmas.List.{append-nil}
use Rattle.std.specs.Prelude.{◌↔◌}
use Rattle.std.specs.List.{flat_map, AllByRecursion}
use Rattle.pea_top.specs.Words.{Word, Task, Optimise, Verify, Plan, Run, Both, Command, OnFolder, Listing, Generated, name_of, positionals_of, HasNumber, HasSteps, TaskSteps, HasValues, CommandOption, lib_option, steps_option, number_option, size_option, Part, Positional, Separate, Joined, words_of, IsPart, positionals, with_value, values_of, Spells}
use Rattle.pea_top.specs.Seen.{AreOf, Completes, AreBehindName}
use Rattle.pea_top.proofs.WordGrammar.{same_part, not_empty}

-- equal words and values are of the same command
pub same_are_of : (command : Command) (ps qs : List Word) (vs ws : CommandOption → List Word) → ps ≡ qs
    → ((asked : CommandOption) → vs asked ≡ ws asked) → AreOf command ps vs → AreOf command qs ws
same_are_of command ps qs vs ws positional values h = record {
  positional_are = sym positional ∙ h.positional_are;
  values_are = λ option. subst (λ words. HasValues command option words) (values option) (h.values_are option);
  apart = h.apart;
}

-- what the first part adds, and then the others
positionals_first : (part : Part) (parts : List Part) → positionals (part ∷ parts) ≡ positionals (part ∷ []) ++ positionals parts
positionals_first (Positional word) parts = refl
positionals_first (Separate option value) parts = refl
positionals_first (Joined option value) parts = refl

with_first : (asked option : CommandOption) (value : Word) (values : List Word)
    → with_value asked option value values ≡ with_value asked option value [] ++ values
with_first lib_option lib_option value values = refl
with_first lib_option steps_option value values = refl
with_first lib_option number_option value values = refl
with_first lib_option size_option value values = refl
with_first steps_option lib_option value values = refl
with_first steps_option steps_option value values = refl
with_first steps_option number_option value values = refl
with_first steps_option size_option value values = refl
with_first number_option lib_option value values = refl
with_first number_option steps_option value values = refl
with_first number_option number_option value values = refl
with_first number_option size_option value values = refl
with_first size_option lib_option value values = refl
with_first size_option steps_option value values = refl
with_first size_option number_option value values = refl
with_first size_option size_option value values = refl

values_first : (asked : CommandOption) (part : Part) (parts : List Part)
    → values_of asked (part ∷ parts) ≡ values_of asked (part ∷ []) ++ values_of asked parts
values_first asked (Positional word) parts = refl
values_first asked (Separate option value) parts = with_first asked option value (values_of asked parts)
values_first asked (Joined option value) parts = with_first asked option value (values_of asked parts)

module _ (ps : List Word) (vs : CommandOption → List Word) (part : Part)
    (next_ps : List Word) (next_vs : CommandOption → List Word)
    (positional : next_ps ≡ ps ++ positionals (part ∷ []))
    (values : (asked : CommandOption) → next_vs asked ≡ vs asked ++ values_of asked (part ∷ []))
  where
    -- the words and values with a part more are those of the part in front of the others
    one_more : (parts : List Part) → next_ps ++ positionals parts ≡ ps ++ positionals (part ∷ parts)
    one_more parts =
        ap (λ words. words ++ positionals parts) positional
        ∙ append_assoc ps (positionals (part ∷ [])) (positionals parts)
        ∙ ap (λ words. ps ++ words) (sym (positionals_first part parts))

    one_value_more : (parts : List Part) (asked : CommandOption)
        → next_vs asked ++ values_of asked parts ≡ vs asked ++ values_of asked (part ∷ parts)
    one_value_more parts asked =
        ap (λ words. words ++ values_of asked parts) (values asked)
        ∙ append_assoc (vs asked) (values_of asked (part ∷ [])) (values_of asked parts)
        ∙ ap (λ words. vs asked ++ words) (sym (values_first asked part parts))

    -- what completes the command behind the part completes it with the part
    pub part_first : (rest : List Word) (command : Command) → IsPart part → Completes next_ps next_vs rest command
        → Completes ps vs (words_of part ++ rest) command
    part_first rest command is_part h = record {
      parts = part ∷ h.parts;
      spelled = ap (λ words. words_of part ++ words) h.spelled;
      each = (is_part, h.each);
      whole = same_are_of command _ _ _ _ (one_more h.parts) (one_value_more h.parts) h.whole;
    }

    behind_by : (rest : List Word) (command : Command) → IsPart part → (parts : List Part)
        → words_of part ++ rest ≡ flat_map words_of parts → AllByRecursion IsPart parts
        → AreOf command (ps ++ positionals parts) (λ asked. vs asked ++ values_of asked parts) → Completes next_ps next_vs rest command
    behind_by rest command is_part [] spelled each whole = absurd (not_empty part rest spelled)
    behind_by rest command is_part (first ∷ parts) spelled each whole =
        let same : (part ≡ first) × (rest ≡ flat_map words_of parts) = same_part part first rest (flat_map words_of parts) is_part each.0 spelled in
        record {
          parts = parts;
          spelled = same.1;
          each = each.1;
          whole = same_are_of command _ _ _ _
              (ap (λ (p : Part). ps ++ positionals (p ∷ parts)) (sym same.0) ∙ sym (one_more parts))
              (λ asked. ap (λ (p : Part). vs asked ++ values_of asked (p ∷ parts)) (sym same.0) ∙ sym (one_value_more parts asked))
              whole;
        }

    pub part_behind : (rest : List Word) (command : Command) → IsPart part → Completes ps vs (words_of part ++ rest) command
        → Completes next_ps next_vs rest command
    part_behind rest command is_part h = behind_by rest command is_part h.parts h.spelled h.each h.whole

-- words complete a command only where a part stands first
pub no_part_first : (ps : List Word) (vs : CommandOption → List Word) (word : Word) (rest : List Word) (command : Command)
    → ((part : Part) (tail : List Word) → IsPart part → word ∷ rest ≢ words_of part ++ tail) → ¬ Completes ps vs (word ∷ rest) command
no_part_first ps vs word rest command none h = none_by h.parts h.spelled h.each
  where
    none_by : (parts : List Part) → word ∷ rest ≡ flat_map words_of parts → AllByRecursion IsPart parts → ⊥
    none_by [] e each = cc
    none_by (part ∷ parts) e each = none part (flat_map words_of parts) each.0 e

-- a command has two positional words and a value of each option at most
two_at_most : (command : Command) → length (positionals_of command) ≤ 2
two_at_most (OnFolder input library (Optimise output)) = omega arith
two_at_most (OnFolder input library Verify) = omega arith
two_at_most (OnFolder input library Plan) = omega arith
two_at_most (OnFolder input library (Run script steps)) = omega arith
two_at_most (OnFolder input library (Both script steps)) = omega arith
two_at_most (Listing input name) = omega arith
two_at_most (Generated number size) = omega arith

one_number : (steps : ℕ) (values : List Word) → HasSteps steps values → length values ≤ 1
one_number steps [] h = omega arith
one_number steps (word ∷ []) h = omega arith
one_number steps (first ∷ second ∷ values) h = absurd h

one_within : (low high number : ℕ) (values : List Word) → HasNumber low high number values → length values ≤ 1
one_within low high number [] h = absurd h
one_within low high number (word ∷ []) h = omega arith
one_within low high number (first ∷ second ∷ values) h = absurd h

one_in_task : (task : Task) (values : List Word) → TaskSteps task values → length values ≤ 1
one_in_task (Optimise output) values h = omega (arith, ap length h)
one_in_task Verify values h = omega (arith, ap length h)
one_in_task Plan values h = omega (arith, ap length h)
one_in_task (Run script steps) values h = one_number steps values h
one_in_task (Both script steps) values h = one_number steps values h

one_at_most : (command : Command) (option : CommandOption) (values : List Word) → HasValues command option values → length values ≤ 1
one_at_most (OnFolder input library task) lib_option values h = omega (arith, ap length h)
one_at_most (OnFolder input library task) steps_option values h = one_in_task task values h
one_at_most (OnFolder input library task) number_option values h = omega (arith, ap length h)
one_at_most (OnFolder input library task) size_option values h = omega (arith, ap length h)
one_at_most (Listing input name) lib_option values h = omega (arith, ap length h)
one_at_most (Listing input name) steps_option values h = omega (arith, ap length h)
one_at_most (Listing input name) number_option values h = omega (arith, ap length h)
one_at_most (Listing input name) size_option values h = omega (arith, ap length h)
one_at_most (Generated number size) lib_option values h = omega (arith, ap length h)
one_at_most (Generated number size) steps_option values h = omega (arith, ap length h)
one_at_most (Generated number size) number_option values h = one_within 0 2147483647 number values h
one_at_most (Generated number size) size_option values h = one_within 1 1000 size values h

pub few_positional : (ps : List Word) (vs : CommandOption → List Word) (words : List Word) (command : Command)
    → Completes ps vs words command → length ps ≤ 2
few_positional ps vs words command h =
    omega (arith, two_at_most command, simp length-append at (ap length h.whole.positional_are))

pub few_values : (ps : List Word) (vs : CommandOption → List Word) (asked : CommandOption) (words : List Word) (command : Command)
    → Completes ps vs words command → length (vs asked) ≤ 1
few_values ps vs asked words command h =
    let few : length (vs asked ++ values_of asked h.parts) ≤ 1 = one_at_most command asked _ (h.whole.values_are asked) in
    omega (arith, simp length-append at few)

-- the same with the part that stands first
pub few_with_first : (ps : List Word) (vs : CommandOption → List Word) (part : Part) (rest : List Word) (command : Command)
    → IsPart part → Completes ps vs (words_of part ++ rest) command
    → (length (ps ++ positionals (part ∷ [])) ≤ 2) × ((asked : CommandOption) → length (vs asked ++ values_of asked (part ∷ [])) ≤ 1)
few_with_first ps vs part rest command is_part h =
    let next_vs : CommandOption → List Word = λ asked. vs asked ++ values_of asked (part ∷ []) in
    let more = part_behind ps vs part (ps ++ positionals (part ∷ [])) next_vs refl (λ asked. refl) rest command is_part h in
    (few_positional _ _ rest command more, λ asked. few_values _ _ asked rest command more)

-- where no word is left, all were seen
pub none_left : (ps : List Word) (vs : CommandOption → List Word) (command : Command) → Completes ps vs [] command ↔ AreOf command ps vs
none_left ps vs command = (
  λ h. all_by h.parts h.spelled h.whole,
  λ h. record {
    parts = [];
    spelled = refl;
    each = tt;
    whole = same_are_of command _ _ _ _ (sym (append-nil ps)) (λ asked. sym (append-nil (vs asked))) h;
  },
)
  where
    all_by : (parts : List Part) → [] ≡ flat_map words_of parts
        → AreOf command (ps ++ positionals parts) (λ asked. vs asked ++ values_of asked parts) → AreOf command ps vs
    all_by [] e h = same_are_of command _ _ _ _ (append-nil ps) (λ asked. append-nil (vs asked)) h
    all_by (part ∷ parts) e h = absurd (not_empty part _ (sym e))

-- what is behind the command's name completes the command
pub behind_name : (name : Word) (rest : List Word) (command : Command) → Spells command (name ∷ rest) → AreBehindName rest command
behind_name name rest command h = record {
  parts = h.parts;
  spelled = cc (h.spelled);
  each = h.each;
  whole = record { positional_are = h.positional; values_are = h.values; apart = h.apart };
}

pub name_spelled : (name : Word) (rest : List Word) (command : Command) → Spells command (name ∷ rest) → name ≡ name_of command
name_spelled name rest command h = cc (h.spelled)
