-- What was appended so far is printed of the counts before the index.
use Rattle.std.proofs.Common.{◌≡◌, ◌++◌, take, map}
use Rattle.script_text.specs.Events.{spaced}
use Rattle.script_text.specs.Inner.Held.{held_listed}
use Rattle.script_text.proofs.events.push_counts.Given as goal

abbrev pub invariant-loop-count : goal.invariant-loop-count
invariant-loop-count l = l.text.items ≡ l.initial.text.items ++ spaced (map held_listed (take l.count-index l.held))
