-- What script_text says of bytes: they are a script, or have one first line that is outside the grammar.
use Rattle.std.proofs.Common.{◌≡◌, ℕ, List}
use Rattle.machine_values.specs.declared.action.Action.{Action}
use Rattle.host_tree.specs.Host.{Bytes}
use Rattle.script_text.specs.Scripts.{IsFirstOutside, IsScript, lines_of}

pub record ScriptLaws : Type 0 where
  pub none : (bytes : Bytes) (actions : List Action) (line : ℕ) → IsScript bytes actions → ¬ IsFirstOutside (lines_of bytes) line
  pub one : (bytes : Bytes) (one other : ℕ) → IsFirstOutside (lines_of bytes) one → IsFirstOutside (lines_of bytes) other → one ≡ other
