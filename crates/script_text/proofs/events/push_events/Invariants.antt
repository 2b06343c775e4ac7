-- What was appended so far is printed of the events before the number.
use Rattle.std.proofs.Common.{◌≡◌, ◌++◌, take}
use Rattle.script_text.specs.Events.{event_lines}
use Rattle.script_text.proofs.events.push_events.Given as goal

abbrev pub invariant-loop-number : goal.invariant-loop-number
invariant-loop-number l = l.text.items ≡ l.initial.text.items ++ event_lines 0 (take l.number l.events)
