-- Lines, one by one.
use Rattle.std.specs.Prelude.{IfErr}
use Rattle.std.specs.Result.{IsErrAnd}
use Rattle.std.proofs.Common.{Result, Ok, Err, ◌≡◌, ◌++◌, ◌∷◌, [], ◌+◌, ℕ, suc, ◌≤◌, true, false, List, Some, None, sym, subst, arith, append_assoc}
use Rattle.std.proofs.lemmas.Bool.{eqb-true}
use Rattle.std.proofs.lemmas.List.{append-nil}
use Rattle.machine_values.specs.declared.action.Action.{Action}
use Rattle.script_text.specs.Faults.{IsFaultOf}
use Rattle.script_text.specs.declared.scripts.ScriptFault.{ScriptFault}
use Rattle.script_text.specs.declared.scripts.ScriptFault.TheVariants.{BadScript, NoMemory}
use Rattle.script_text.specs.PrintedTexts.{Bytes}
use Rattle.script_text.specs.Scripts.{IsLine, SpellsLine, SpellsLines, no_lines, line_without_action, line_with_action, IsFirstOutside, outside_here, outside_behind, SpellsAction, empty_line, comment_line, action_line, words_of, lines_of}
use Rattle.script_text.specs.Inner.Lines.{is_blank_line, IsLineFault, AddsLine, adds_nothing, adds_action}

-- what was read of lines: it goes on with what is left, and the first line outside is counted from there
pub record LinesSoFar (lines : List Bytes) (done : List Action) (count : ℕ) (left : List Bytes) : Type 0 where
  pub ahead : (more : List Action) → SpellsLines more left → SpellsLines (done ++ more) lines
  pub outside : (number : ℕ) → IsFirstOutside left number → IsFirstOutside lines (count + number)

pub lines_begun : (lines : List Bytes) → LinesSoFar lines [] 0 lines
lines_begun lines = record {
  ahead = λ more spelled. spelled;
  outside = λ number is. subst (λ (n : ℕ). IsFirstOutside lines n) {x = number} {y = 0 + number} (omega arith) is;
}

is_line : {line : Bytes} {before after : List Action} → AddsLine line before after → IsLine line
is_line (adds_nothing spelled) = (None, spelled)
is_line (adds_action spelled) = (Some _, spelled)

line_ahead : (lines : List Bytes) (done next : List Action) (line : Bytes) (rest : List Bytes) → ((more : List Action) → SpellsLines more (line ∷ rest) → SpellsLines (done ++ more) lines) → AddsLine line done next → (more : List Action) → SpellsLines more rest → SpellsLines (next ++ more) lines
line_ahead lines done next line rest ahead (adds_nothing spelled) more others = ahead more (line_without_action spelled others)
line_ahead lines done next line rest ahead (adds_action {action = action} spelled) more others =
    subst (λ (t : List Action). SpellsLines t lines) (sym (append_assoc done (action ∷ []) more)) (ahead (action ∷ more) (line_with_action spelled others))

pub line_read : (lines : List Bytes) (done next : List Action) (count : ℕ) (left : List Bytes) (line : Bytes) (rest : List Bytes) → LinesSoFar lines done count left → left ≡ line ∷ rest → AddsLine line done next → LinesSoFar lines next (count + 1) rest
line_read lines done next count left line rest so is adds =
    let here = subst (λ (t : List Bytes). LinesSoFar lines done count t) is so in
    record {
      ahead = line_ahead lines done next line rest here.ahead adds;
      outside = λ number outside. subst (λ (n : ℕ). IsFirstOutside lines n) {x = count + suc number} {y = count + 1 + number} (omega arith) (here.outside (suc number) (outside_behind (is_line adds) outside));
    }

pub line_outside : (lines : List Bytes) (done : List Action) (count : ℕ) (left : List Bytes) (line : Bytes) (rest : List Bytes) → LinesSoFar lines done count left → left ≡ line ∷ rest → ¬ IsLine line → IsFirstOutside lines (count + 1)
line_outside lines done count left line rest so is other =
    (subst (λ (t : List Bytes). LinesSoFar lines done count t) is so).outside 1 (outside_here other)

pub lines_read : (lines : List Bytes) (done : List Action) (count : ℕ) → LinesSoFar lines done count [] → SpellsLines done lines
lines_read lines done count so = subst (λ (t : List Action). SpellsLines t lines) (append-nil done) (so.ahead [] no_lines)

-- ---- one line

pub blank_line : (line : Bytes) → is_blank_line line ≡ true → SpellsLine None line
blank_line [] is = empty_line
blank_line (first ∷ rest) is = subst (λ (n : ℕ). SpellsLine None (n ∷ rest)) (sym (eqb-true first 35 is)) comment_line

true_is_not_false : true ≡ false → ⊥
true_is_not_false h = cc

not_blank : (line : Bytes) → is_blank_line line ≡ false → ¬ SpellsLine None line
not_blank line is empty_line = true_is_not_false is
not_blank line is comment_line = true_is_not_false is

pub no_line : (line : Bytes) → is_blank_line line ≡ false → ((action : Action) → ¬ SpellsAction action (words_of line)) → ¬ IsLine line
no_line line is never (None, spelled) = not_blank line is spelled
no_line line is never (Some action, action_line spelled) = never action spelled

pub room_more : (number before after all text : ℕ) → number + before ≤ all → after ≤ text → before ≡ text + 1 → number + 1 + after ≤ all
room_more number before after all text room shorter is = omega (arith, room, shorter, is)

pub fault_of : (bytes : Bytes) (done : List Action) (count : ℕ) (left : List Bytes) (line : Bytes) (rest : List Bytes) (fault : ScriptFault) → LinesSoFar (lines_of bytes) done count left → left ≡ line ∷ rest → IsLineFault line (count + 1) fault → IsFaultOf bytes fault
fault_of bytes done count left line rest (BadScript at) so is fault =
    subst (λ (n : ℕ). IsFirstOutside (lines_of bytes) n) (sym fault.0) (line_outside (lines_of bytes) done count left line rest so is fault.1)
fault_of bytes done count left line rest NoMemory so is fault = tt

-- a ? passes on the error
pub errs_by : {A E : Type 0} (P : E → Type 0) (result : Result A E) (error : E) → IsErrAnd result (λ e. e ≡ error) → P error → IfErr result P
errs_by P (Ok value) error is fact = tt
errs_by P (Err e) error is fact = subst P (sym is) fact
