-- What a line was read as.
use Rattle.std.specs.Prelude.{◌≡◌, ◌==◌, Bool, true, ◌++◌, ℕ, List, [], ◌∷◌, Some, None}
use Rattle.machine_values.specs.declared.action.Action.{Action}
use Rattle.script_text.specs.Characters.{hash}
use Rattle.script_text.specs.PrintedTexts.{Bytes}
use Rattle.script_text.specs.Scripts.{IsLine, SpellsLine}
use Rattle.script_text.specs.declared.scripts.Line.{Line}
use Rattle.script_text.specs.declared.scripts.Line.TheVariants as lines
use Rattle.script_text.specs.declared.scripts.ScriptFault.{ScriptFault}
use Rattle.script_text.specs.declared.scripts.ScriptFault.TheVariants.{BadScript, NoMemory}

-- an empty line or a comment
abbrev pub is_blank_line : Bytes → Bool
is_blank_line [] = true
is_blank_line (first ∷ rest) = first == hash

abbrev pub ReadsLine : Bytes → Line → Type 0
ReadsLine line lines.Empty = SpellsLine None line
ReadsLine line (lines.Action action) = SpellsLine (Some action) line
ReadsLine line lines.Outside = ¬ IsLine line

-- the action of a line stands behind those before, if it has one
pub data AddsLine : Bytes → List Action → List Action → Type 0 where
  adds_nothing : {line : Bytes} {actions : List Action}
      → SpellsLine None line
      → AddsLine line actions actions
  adds_action : {line : Bytes} {actions : List Action} {action : Action}
      → SpellsLine (Some action) line
      → AddsLine line actions (actions ++ action ∷ [])

abbrev pub IsLineFault : Bytes → ℕ → ScriptFault → Type 0
IsLineFault line number (BadScript at) = (at ≡ number) × ¬ IsLine line
IsLineFault line number NoMemory = Unit {0}
