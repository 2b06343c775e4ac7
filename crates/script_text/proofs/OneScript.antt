-- A script has one list of actions, or one first line outside the grammar.
use Rattle.std.proofs.Common.{◌≡◌, ◌∷◌, [], ◌/◌, ◌%◌, ◌^◌, ◌<◌, ◌∙◌, ℕ, zero, suc, ℤ, List, Some, None, ap, sym, refl}
use Rattle.std.proofs.Common.{subst, arith}
use Rattle.std.specs.Int.{Width}
use Rattle.std.proofs.Math.Nat.{pow-suc}
use Rattle.machine_values.specs.declared.action.Action.{Action}
use Rattle.machine_values.specs.declared.action.Action.TheVariants.{Return, Throw, ArrayLength}
use Rattle.machine_values.specs.declared.action.Given.{Given}
use Rattle.machine_values.specs.declared.action.Given.TheVariants.{Int, Long, Float, Double, Known}
use Rattle.script_text.specs.PrintedTexts.{Bytes, hex_text}
use Rattle.script_text.specs.Scripts.{Word, SpellsNumber, SpellsInteger, SpellsBits, SpellsKnown, spells_known, SpellsGiven}
use Rattle.script_text.specs.Scripts.{given_int, given_long, given_float, given_double, given_null, given_known, SpellsEach, none_spelled}
use Rattle.script_text.specs.Scripts.{more_spelled, SpellsAction, call_line, construct_line, return_line, return_value_line, throw_line}
use Rattle.script_text.specs.Scripts.{get_line, set_line, length_line, array_line, new_line, stop_line, IsScript, SpellsLine, SpellsLines}
use Rattle.script_text.specs.Scripts.{no_lines, line_without_action, line_with_action, empty_line, comment_line, action_line, lines_of}
use Rattle.script_text.specs.Scripts.{words_of, IsFirstOutside, outside_here, outside_behind}
use Rattle.script_text.proofs.ActionLines.{no_form}
use Rattle.script_text.proofs.HexTexts.{last_split}
use Rattle.script_text.proofs.Pieces.{some_piece, unmarked_first}
use Rattle.script_text.proofs.PrintedBytes.{digit_once}
use Rattle.script_text.proofs.PrintedTexts.{text_once}

-- ---- words

pub hex_once : (count one other : ℕ) → one < 16 ^ count → other < 16 ^ count → hex_text count one ≡ hex_text count other → one ≡ other
hex_once zero one other small also e = omega (arith, small, also)
hex_once (suc count) one other small also e =
    let parts = last_split (hex_text count (one / 16)) (hex_text count (other / 16)) _ _ e in
    let last = digit_once (one % 16) (other % 16) (omega arith) (omega arith) parts.1 in
    let front = hex_once count (one / 16) (other / 16) (omega (arith, small, pow-suc count 16)) (omega (arith, also, pow-suc count 16)) parts.0 in
    omega (arith, last, front)

number_once : {one other : ℕ} {word : Word} → SpellsNumber one word → SpellsNumber other word → one ≡ other
number_once spelled also = sym spelled.value ∙ also.value

integer_once : {width : Width} {one other : ℤ} {word : Word} → SpellsInteger width one word → SpellsInteger width other word → one ≡ other
integer_once spelled also = sym spelled.value ∙ also.value

bits_once : {count one other : ℕ} {word : Word} → SpellsBits count one word → SpellsBits count other word → one ≡ other
bits_once {count} {one} {other} spelled also = hex_once count one other spelled.fits also.fits (sym spelled.spelled ∙ also.spelled)

known_once : {one other : ℕ} {word : Word} → SpellsKnown one word → SpellsKnown other word → one ≡ other
known_once (spells_known spelled) (spells_known also) = number_once spelled also

given_once : {one other : Given} {word : Word} → SpellsGiven one word → SpellsGiven other word → one ≡ other
given_once (given_int spelled) (given_int also) = ap Int (integer_once spelled also)
given_once (given_long spelled) (given_long also) = ap Long (integer_once spelled also)
given_once (given_float spelled) (given_float also) = ap Float (bits_once spelled also)
given_once (given_double spelled) (given_double also) = ap Double (bits_once spelled also)
given_once given_null given_null = refl
given_once (given_known spelled) (given_known also) = ap Known (number_once spelled also)

each_once : {X : Type 0} {Spells : X → Word → Type 0} {one other : List X} {words : List Word}
    → ((x y : X) (word : Word) → Spells x word → Spells y word → x ≡ y)
    → SpellsEach Spells one words
    → SpellsEach Spells other words
    → one ≡ other
each_once once none_spelled none_spelled = refl
each_once once (more_spelled spelled others) (more_spelled also rest) =
    let first = once _ _ _ spelled also in
    let behind = each_once once others rest in
    cc

-- ---- actions

action_once : {one other : Action} {words : List Word} → SpellsAction one words → SpellsAction other words → one ≡ other
action_once (call_line c n d v) (call_line c' n' d' v') =
    let class = text_once _ _ _ c c' in
    let name = text_once _ _ _ n n' in
    let desc = text_once _ _ _ d d' in
    let values = each_once (λ x y word s t. given_once s t) v v' in
    cc
action_once (construct_line c d v) (construct_line c' d' v') =
    let class = text_once _ _ _ c c' in
    let desc = text_once _ _ _ d d' in
    let values = each_once (λ x y word s t. given_once s t) v v' in
    cc
action_once return_line return_line = refl
action_once (return_value_line v) (return_value_line v') = ap (λ (value : Given). Return (Some value)) (given_once v v')
action_once (throw_line k) (throw_line k') = ap Throw (known_once k k')
action_once (get_line k i) (get_line k' i') =
    let number = known_once k k' in
    let index = integer_once i i' in
    cc
action_once (set_line k i v) (set_line k' i' v') =
    let number = known_once k k' in
    let index = integer_once i i' in
    let value = given_once v v' in
    cc
action_once (length_line k) (length_line k') = ap ArrayLength (known_once k k')
action_once (array_line d l) (array_line d' l') =
    let desc = text_once _ _ _ d d' in
    let len = integer_once l l' in
    cc
action_once (new_line c a) (new_line c' a') =
    let class = text_once _ _ _ c c' in
    let also = each_once text_once a a' in
    cc
action_once stop_line stop_line = refl

-- ---- lines

-- the word that a comment begins with is that of no action
no_comment : (text : Bytes) (action : Action) → ¬ SpellsAction action (words_of (35 ∷ text))
no_comment text action spelled =
    let piece = some_piece 32 text in
    let words = unmarked_first 32 35 text piece.0 piece.1.0 (omega arith) piece.1.1 in
    no_form (35 ∷ piece.0) piece.1.0 (λ e. cc) (λ e. cc) (λ e. cc) (λ e. cc) (λ e. cc) (λ e. cc) (λ e. cc) (λ e. cc) (λ e. cc) (λ e. cc) action
    (subst (λ (t : List Word). SpellsAction action t) words spelled)

no_action : {line : Bytes} {action : Action} → SpellsLine None line → ¬ SpellsLine (Some action) line
no_action empty_line (action_line spelled) = no_form [] [] (λ e. cc) (λ e. cc) (λ e. cc) (λ e. cc) (λ e. cc) (λ e. cc) (λ e. cc) (λ e. cc) (λ e. cc) (λ e. cc) _ spelled
no_action (comment_line {text = text}) (action_line spelled) = no_comment text _ spelled

line_once : {line : Bytes} {one other : Action} → SpellsLine (Some one) line → SpellsLine (Some other) line → one ≡ other
line_once (action_line spelled) (action_line also) = action_once spelled also

lines_once : {lines : List Bytes} {one other : List Action} → SpellsLines one lines → SpellsLines other lines → one ≡ other
lines_once no_lines no_lines = refl
lines_once (line_without_action spelled others) (line_without_action also rest) = lines_once others rest
lines_once (line_without_action spelled others) (line_with_action also rest) = absurd (no_action spelled also)
lines_once (line_with_action spelled others) (line_without_action also rest) = absurd (no_action also spelled)
lines_once (line_with_action spelled others) (line_with_action also rest) =
    let action = line_once spelled also in
    let actions = lines_once others rest in
    cc

-- ---- scripts

pub script_once : (bytes : Bytes) (one other : List Action) → IsScript bytes one → IsScript bytes other → one ≡ other
script_once bytes one other spelled also = lines_once spelled also

none_outside : {lines : List Bytes} {actions : List Action} {number : ℕ} → SpellsLines actions lines → ¬ IsFirstOutside lines number
none_outside no_lines outside = elim outside [ ]
none_outside (line_without_action spelled others) (outside_here never) = never (None, spelled)
none_outside (line_with_action spelled others) (outside_here never) = never (Some _, spelled)
none_outside (line_without_action spelled others) (outside_behind is outside) = none_outside others outside
none_outside (line_with_action spelled others) (outside_behind is outside) = none_outside others outside

pub no_line_outside : (bytes : Bytes) (actions : List Action) (number : ℕ)
    → IsScript bytes actions
    → ¬ IsFirstOutside (lines_of bytes) number
no_line_outside bytes actions number spelled outside = none_outside spelled outside

first_once : {lines : List Bytes} {one other : ℕ} → IsFirstOutside lines one → IsFirstOutside lines other → one ≡ other
first_once (outside_here never) (outside_here never') = refl
first_once (outside_here never) (outside_behind is outside) = absurd (never is)
first_once (outside_behind is outside) (outside_here never) = absurd (never is)
first_once (outside_behind is outside) (outside_behind is' outside') = ap suc (first_once outside outside')

pub first_outside_once : (lines : List Bytes) (one other : ℕ) → IsFirstOutside lines one → IsFirstOutside lines other → one ≡ other
first_outside_once lines one other outside also = first_once outside also
