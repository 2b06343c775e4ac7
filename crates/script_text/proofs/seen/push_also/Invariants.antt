-- What was appended so far is printed of the names before the index.
use Rattle.std.proofs.Common.{◌≡◌, ◌++◌, take}
use Rattle.script_text.specs.Events.{also_text}
use Rattle.script_text.proofs.seen.push_also.Given as goal

abbrev pub invariant-loop-name : goal.invariant-loop-name
invariant-loop-name l = l.line.items ≡ l.initial.line.items ++ also_text (take l.name-index l.names)
