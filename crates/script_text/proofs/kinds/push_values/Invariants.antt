-- What was appended so far is printed of the values before the index.
use Rattle.std.proofs.Common.{◌≡◌, ◌++◌, take, map}
use Rattle.script_text.specs.Events.{spaced, seen_text}
use Rattle.script_text.proofs.kinds.push_values.Given as goal

abbrev pub invariant-loop-value : goal.invariant-loop-value
invariant-loop-value l = l.line.items ≡ l.initial.line.items ++ spaced (map seen_text (take l.value-index l.values))
