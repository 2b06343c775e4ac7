-- The text of a generated script is the one that is printed of its actions.
use Rattle.std.proofs.Common.{◌≡◌, ◌+◌, ◌<◌, ◌≤◌, ◌==◌, ◌&&◌, ℕ, zero, suc, pos, Bool, true, false, List, [], ◌∷◌, ◌++◌, length, FitsSigned, refl, sym, ap, subst, ◌∙◌, append_assoc, bytes_eq, arith, codes}
use Rattle.std.specs.Fmt.{decimal, digits}
use Rattle.std.specs.Int.{w32}
use Rattle.std.specs.List.{AllByRecursion, flat_map}
use Rattle.std.proofs.lemmas.Bool.{and_parts}
use Rattle.std.proofs.lemmas.List.Concat.{flat_map-append}
use Rattle.std.proofs.lemmas.Slice.Eq.{bytes_eq-Decides}
use Rattle.class_model.specs.Laws.Texts.{plain_text}
use Rattle.class_model.specs.ModifiedUtf8.{is_plain_text}
use Rattle.machine_values.specs.declared.action.Action.{Action}
use Rattle.machine_values.specs.declared.action.Action.TheVariants.{Stop}
use Rattle.script_text.specs.PrintedScripts.{IsAction, printed_action, printed_script}
use Rattle.script_text.specs.PrintedTexts.{printed_text}
use Rattle.script_text.specs.Scripts.{IsScript}
use Rattle.work_gen.specs.Generated.{answer_text, behind, call_text, choices, generated_script, indexed, method_name}
use Rattle.work_gen.specs.Laws.Below.{below, passes_below}
use Rattle.work_gen.specs.declared.choices.Choice.{Choice}
use Rattle.work_gen.specs.declared.choices.Kind.{Kind}
use Rattle.work_gen.specs.declared.choices.Kind.TheVariants.{Adds, Branches, Locks, Loops}
use Rattle.verified_work.specs.GeneratedActions.{answer_actions, call_actions, generated_actions}

-- ---- names of methods, by a test of all numbers below a thousand

abbrev is_printed : ℕ → Bool
is_printed number = bytes_eq (printed_text (method_name number)) (method_name number) && is_plain_text (method_name number)

are_printed : below 1000 is_printed ≡ true
unfolding digits
are_printed = refl

printed_name : (number : ℕ) → number < 1000 → printed_text (method_name number) ≡ method_name number
printed_name number few =
    let parts = and_parts (bytes_eq (printed_text (method_name number)) (method_name number)) (is_plain_text (method_name number)) (passes_below 1000 is_printed are_printed number few) in
    (bytes_eq-Decides (printed_text (method_name number)) (method_name number)).0 parts.0

plain_name : (number : ℕ) → number < 1000 → is_plain_text (method_name number) ≡ true
plain_name number few =
    (and_parts (bytes_eq (printed_text (method_name number)) (method_name number)) (is_plain_text (method_name number)) (passes_below 1000 is_printed are_printed number few)).1

-- ---- a call, and its answer

answered : (kind : Kind) (argument : ℕ) (test : Bool) → (argument == 1) ≡ test → flat_map printed_action (answer_actions kind (argument == 1)) ≡ answer_text (record { kind = kind; argument = argument })
answered Branches argument true is = rw is refl
answered Branches argument false is = rw is refl
answered Adds argument test is = refl
answered Loops argument test is = refl
answered Locks argument test is = refl

regrouped : (name between number end answer : List ℕ) → ((name ++ (between ++ number)) ++ end) ++ answer ≡ (((name ++ between) ++ number) ++ end) ++ answer
regrouped name between number end answer = ap (λ text. (text ++ end) ++ answer) (sym (append_assoc name between number))

call_printed : (number : ℕ) (choice : Choice) → number < 1000 → flat_map printed_action (call_actions number choice) ≡ call_text number choice
call_printed number choice few =
    rw (printed_name number few, answered choice.kind choice.argument (choice.argument == 1) refl)
    (ap (λ rest. codes "call G " ++ rest) (regrouped (method_name number) (codes " (I)I i:") (decimal choice.argument) (codes "\n") (answer_text choice)))

-- ---- the whole

-- the arguments of calls are small
abbrev IsSmall : Choice → Type 0
IsSmall choice = choice.argument < 10

are_small : (state count : ℕ) → AllByRecursion IsSmall (choices state count)
are_small state zero = tt
are_small state (suc count) = (omega arith, are_small (behind (behind state)) count)

calls_printed : (number : ℕ) (left : List Choice) → number + length left ≤ 1000 → printed_script (indexed call_actions number left ++ Stop ∷ []) ≡ indexed call_text number left ++ codes "stop\n"
calls_printed number [] few = refl
calls_printed number (choice ∷ left) few =
    ap printed_script (append_assoc (call_actions number choice) (indexed call_actions (suc number) left) (Stop ∷ []))
    ∙ flat_map-append printed_action (call_actions number choice) (indexed call_actions (suc number) left ++ Stop ∷ [])
    ∙ ap (λ text. text ++ printed_script (indexed call_actions (suc number) left ++ Stop ∷ [])) (call_printed number choice (omega (arith, few)))
    ∙ ap (λ text. call_text number choice ++ text) (calls_printed (suc number) left (omega (arith, few)))
    ∙ sym (append_assoc (call_text number choice) (indexed call_text (suc number) left) (codes "stop\n"))

small_number : (argument : ℕ) → argument < 10 → FitsSigned w32 (pos argument)
small_number argument small = record { sfits = omega (arith, small) }

answer_is : (kind : Kind) (one : Bool) (rest : List Action) → AllByRecursion IsAction rest → AllByRecursion IsAction (answer_actions kind one ++ rest)
answer_is Branches true rest are = (tt, are)
answer_is Branches false rest are = are
answer_is Adds one rest are = are
answer_is Loops one rest are = are
answer_is Locks one rest are = are

are_actions : (number : ℕ) (left : List Choice) → number + length left ≤ 1000 → AllByRecursion IsSmall left → AllByRecursion IsAction (indexed call_actions number left ++ Stop ∷ [])
are_actions number [] few small = (tt, tt)
are_actions number (choice ∷ left) few small =
    let rest = are_actions (suc number) left (omega (arith, few)) small.1 in
    let answer = answer_is choice.kind (choice.argument == 1) (indexed call_actions (suc number) left ++ Stop ∷ []) rest in
    let name = plain_text (method_name number) (plain_name number (omega (arith, few))) in (
      (plain_text (codes "G") refl, name, plain_text (codes "(I)I") refl, (small_number choice.argument small.0, tt)),
      subst (AllByRecursion IsAction) (sym (append_assoc (answer_actions choice.kind (choice.argument == 1)) (indexed call_actions (suc number) left) (Stop ∷ []))) answer,
    )

choices_length : (state count : ℕ) → length (choices state count) ≡ count
choices_length state zero = refl
choices_length state (suc count) = ap suc (choices_length (behind (behind state)) count)

pub is_script : ((actions : List Action) → AllByRecursion IsAction actions → IsScript (printed_script actions) actions) → (state size : ℕ) → size ≤ 1000 → IsScript (generated_script (choices state size)) (generated_actions (choices state size))
is_script reads state size few =
    let long = choices_length state size in
    let chosen = choices state size in
    subst (λ text. IsScript text (generated_actions chosen)) (calls_printed 0 chosen (omega (arith, few, long)))
    (reads (generated_actions chosen) (are_actions 0 chosen (omega (arith, few, long)) (are_small state size)))
