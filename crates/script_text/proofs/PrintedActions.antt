-- A printed action is spelled by the words of its line, and a printed script by its lines.
use Rattle.std.proofs.Common.{◌≡◌, ◌≢◌, ◌++◌, ◌∷◌, [], ◌==◌, ◌≤◌, ◌∙◌, ℕ, suc, ℤ, pos, negsuc, neg_ℤ, false, List, Some}
use Rattle.std.proofs.Common.{None, codes, decimal, map, FitsSigned, ap, sym, refl, subst, arith, rules, append_assoc}
use Rattle.std.specs.Fmt.{signed_decimal}
use Rattle.std.specs.Int.{Width, w32, w64}
use Rattle.std.specs.List.{AllByRecursion}
use Rattle.std.specs.Str.Parse.{IsNumeral, starts_with_minus}
use Rattle.std.proofs.lemmas.Bool.Decides.{nat_tests}
use Rattle.std.proofs.lemmas.Fmt.{decimal_is_IsNumeral}
use Rattle.std.proofs.lemmas.Str.Parse.{digit_from_value}
use Rattle.class_model.specs.ModifiedUtf8.{IsText}
use Rattle.machine_values.specs.declared.action.Action.{Action}
use Rattle.machine_values.specs.declared.action.Action.TheVariants.{Call, Construct, Return, Throw, ArrayGet, ArraySet, ArrayLength}
use Rattle.machine_values.specs.declared.action.Action.TheVariants.{NewArray, NewExternal, Stop}
use Rattle.machine_values.specs.declared.action.Given.{Given}
use Rattle.machine_values.specs.declared.action.Given.TheVariants.{Int, Long, Float, Double, Null, Known}
use Rattle.script_text.specs.PrintedTexts.{Bytes, printed_text}
use Rattle.script_text.specs.PrintedScripts.{IsAction, IsGiven, IsKnown, action_words, printed_action, printed_given, printed_known}
use Rattle.script_text.specs.PrintedScripts.{printed_script}
use Rattle.script_text.specs.Scripts.{Word, SpellsNumber, SpellsInteger, SpellsText, SpellsKnown, spells_known, SpellsGiven}
use Rattle.script_text.specs.Scripts.{given_int, given_long, given_float, given_double, given_null, given_known, SpellsEach, none_spelled}
use Rattle.script_text.specs.Scripts.{more_spelled, SpellsAction, call_line, construct_line, return_line, return_value_line, throw_line}
use Rattle.script_text.specs.Scripts.{get_line, set_line, length_line, array_line, new_line, stop_line, IsScript, SpellsLines, no_lines}
use Rattle.script_text.specs.Scripts.{line_without_action, line_with_action, empty_line, action_line, lines_of}
use Rattle.script_text.specs.Inner.SpacedWords.{spaced_line}
use Rattle.script_text.proofs.SpacedLines.{Above, joined, words_back, line_above, first_piece}
use Rattle.script_text.proofs.VisibleWords.{text_above, hex_above, decimal_above, integer_above}

-- ---- numbers and texts

number_spelled : (number : ℕ) → IsKnown number → SpellsNumber number (decimal number)
number_spelled number small =
    let digits = decimal_is_IsNumeral number small in
    record { digits = digits.0; value = digits.1; fits = small }

no_minus : (digits : List ℕ) → IsNumeral 10 digits → starts_with_minus digits ≡ false
no_minus [] numeral = absurd (omega (arith, numeral.0))
no_minus (digit ∷ digits) numeral = other (digit_from_value digit numeral.1.0) where
  other : (48 ≤ digit) × (digit ≤ 57) → (digit == 45) ≡ false
  other within = grind (arith, nat_tests)

integer_spelled : (width : Width) (number : ℤ)
    → FitsSigned width number
    → FitsSigned w64 number
    → SpellsInteger width number (signed_decimal number)
integer_spelled width (pos number) fits small =
    let digits = decimal_is_IsNumeral number (omega (arith, small.sfits)) in
    let unsigned = no_minus (decimal number) digits.0 in
    record {
      digits = rw unsigned digits.0;
      value = rw unsigned (ap pos digits.1);
      fits = fits;
    }
integer_spelled width (negsuc number) fits small =
    let digits = decimal_is_IsNumeral (suc number) (omega (arith, small.sfits)) in
    record {
      digits = digits.0;
      value = ap (λ (n : ℕ). neg_ℤ (pos n)) digits.1;
      fits = fits;
    }

int_is_long : (number : ℤ) → FitsSigned w32 number → FitsSigned w64 number
int_is_long number fits = record { sfits = omega (arith, fits.sfits) }

int_spelled : (number : ℤ) → FitsSigned w32 number → SpellsInteger w32 number (signed_decimal number)
int_spelled number fits = integer_spelled w32 number fits (int_is_long number fits)

long_spelled : (number : ℤ) → FitsSigned w64 number → SpellsInteger w64 number (signed_decimal number)
long_spelled number fits = integer_spelled w64 number fits fits

text_spelled : (text : Bytes) → IsText text → SpellsText text (printed_text text)
text_spelled text is = record { printed = refl; is_text = is }

known_spelled : (number : ℕ) → IsKnown number → SpellsKnown number (printed_known number)
known_spelled number small = spells_known (number_spelled number small)

-- ---- values

given_spelled : (value : Given) → IsGiven value → SpellsGiven value (printed_given value)
given_spelled (Int number) is = given_int (int_spelled number is)
given_spelled (Long number) is = given_long (long_spelled number is)
given_spelled (Float bits) is = given_float (record { spelled = refl; fits = omega (arith, is) })
given_spelled (Double bits) is = given_double (record { spelled = refl; fits = omega (arith, is) })
given_spelled Null is = given_null
given_spelled (Known number) is = given_known (number_spelled number is)

each_spelled : {X : Type 0} (Is : X → Type 0) (Spells : X → Word → Type 0) (print : X → Word)
    → ((x : X) → Is x → Spells x (print x))
    → (items : List X)
    → AllByRecursion Is items
    → SpellsEach Spells items (map print items)
each_spelled Is Spells print spelled [] are = none_spelled
each_spelled Is Spells print spelled (item ∷ items) are = more_spelled (spelled item are.0) (each_spelled Is Spells print spelled items are.1)

-- ---- actions

givens_spelled : (values : List Given) → AllByRecursion IsGiven values → SpellsEach SpellsGiven values (map printed_given values)
givens_spelled = each_spelled IsGiven SpellsGiven printed_given given_spelled

action_spelled : (action : Action) → IsAction action → SpellsAction action (action_words action)
action_spelled (Call class name desc values) is =
    call_line (text_spelled class is.0) (text_spelled name is.1) (text_spelled desc is.2) (givens_spelled values is.3)
action_spelled (Construct class desc values) is =
    construct_line (text_spelled class is.0) (text_spelled desc is.1) (givens_spelled values is.2)
action_spelled (Return None) is = return_line
action_spelled (Return (Some value)) is = return_value_line (given_spelled value is)
action_spelled (Throw number) is = throw_line (known_spelled number is)
action_spelled (ArrayGet number index) is = get_line (known_spelled number is.0) (int_spelled index is.1)
action_spelled (ArraySet number index value) is =
    set_line (known_spelled number is.0) (int_spelled index is.1) (given_spelled value is.2)
action_spelled (ArrayLength number) is = length_line (known_spelled number is)
action_spelled (NewArray desc len) is = array_line (text_spelled desc is.0) (int_spelled len is.1)
action_spelled (NewExternal class also) is =
    new_line (text_spelled class is.0) (each_spelled IsText SpellsText printed_text text_spelled also is.1)
action_spelled Stop is = stop_line

-- ---- all words are visible

int_above : (number : ℤ) → FitsSigned w32 number → Above 32 (signed_decimal number)
int_above number fits = integer_above number (int_is_long number fits)

known_above : (number : ℕ) → IsKnown number → Above 32 (printed_known number)
known_above number small = (omega arith, (omega arith, decimal_above number small))

given_above : (value : Given) → IsGiven value → Above 32 (printed_given value)
given_above (Int number) is = (omega arith, (omega arith, int_above number is))
given_above (Long number) is = (omega arith, (omega arith, integer_above number is))
given_above (Float bits) is = (omega arith, (omega arith, hex_above 8 bits))
given_above (Double bits) is = (omega arith, (omega arith, hex_above 16 bits))
given_above Null is = search rules
given_above (Known number) is = known_above number is

each_above : {X : Type 0} (Is : X → Type 0) (print : X → Word)
    → ((x : X) → Is x → Above 32 (print x))
    → (items : List X)
    → AllByRecursion Is items
    → AllByRecursion (Above 32) (map print items)
each_above Is print above [] are = tt
each_above Is print above (item ∷ items) are = (above item are.0, each_above Is print above items are.1)

call_above : Above 32 (codes "call")
call_above = search rules

givens_above : (values : List Given) → AllByRecursion IsGiven values → AllByRecursion (Above 32) (map printed_given values)
givens_above = each_above IsGiven printed_given given_above

words_above : (action : Action) → IsAction action → AllByRecursion (Above 32) (action_words action)
words_above (Call class name desc values) is =
    (call_above, (text_above class, (text_above name, (text_above desc, givens_above values is.3))))
words_above (Construct class desc values) is =
    (search rules, (text_above class, (text_above desc, givens_above values is.2)))
words_above (Return None) is = (search rules, tt)
words_above (Return (Some value)) is = (search rules, (given_above value is, tt))
words_above (Throw number) is = (search rules, (known_above number is, tt))
words_above (ArrayGet number index) is = (search rules, (known_above number is.0, (int_above index is.1, tt)))
words_above (ArraySet number index value) is =
    (search rules, (known_above number is.0, (int_above index is.1, (given_above value is.2, tt))))
words_above (ArrayLength number) is = (search rules, (known_above number is, tt))
words_above (NewArray desc len) is = (search rules, (text_above desc, (int_above len is.1, tt)))
words_above (NewExternal class also) is =
    (search rules, (text_above class, each_above IsText printed_text (λ text is. text_above text) also is.1))
words_above Stop is = (search rules, tt)

some_words : (action : Action) → action_words action ≢ []
some_words (Call class name desc values) e = cc
some_words (Construct class desc values) e = cc
some_words (Return None) e = cc
some_words (Return (Some value)) e = cc
some_words (Throw number) e = cc
some_words (ArrayGet number index) e = cc
some_words (ArraySet number index value) e = cc
some_words (ArrayLength number) e = cc
some_words (NewArray desc len) e = cc
some_words (NewExternal class also) e = cc
some_words Stop e = cc

-- ---- scripts

pub as_printed : (start middle end : Bytes) (action : Action)
    → middle ≡ start ++ spaced_line (action_words action)
    → end ≡ middle ++ 10 ∷ []
    → end ≡ start ++ printed_action action
as_printed start middle end action is line =
    line ∙ (ap (λ (t : Bytes). t ++ 10 ∷ []) is
    ∙ (append_assoc start (spaced_line (action_words action)) (10 ∷ [])
    ∙ ap (λ (t : Bytes). start ++ (t ++ 10 ∷ [])) (sym (joined (action_words action)))))

line_back : (action : Action) (rest : Bytes)
    → IsAction action
    → lines_of (printed_action action ++ rest) ≡ spaced_line (action_words action) ∷ lines_of rest
line_back action rest is =
    let line = spaced_line (action_words action) in
    ap (λ (t : Bytes). lines_of ((t ++ 10 ∷ []) ++ rest)) (joined (action_words action))
    ∙ (ap lines_of (append_assoc line (10 ∷ []) rest)
    ∙ first_piece 10 line rest (line_above (action_words action) (words_above action is)))

pub reads_back : (actions : List Action) → AllByRecursion IsAction actions → IsScript (printed_script actions) actions
reads_back [] are = line_without_action empty_line no_lines
reads_back (action ∷ actions) are =
    let words = words_back (action_words action) (some_words action) (words_above action are.0) in
    subst (λ (t : List Bytes). SpellsLines (action ∷ actions) t) (sym (line_back action (printed_script actions) are.0))
    (line_with_action (action_line (subst (λ (t : List Word). SpellsAction action t) (sym words) (action_spelled action are.0))) (reads_back actions are.1))
