-- What was read so far, and what is left; there are no more lines than bytes and one.
use Rattle.std.proofs.Common.{◌≤◌, ◌+◌, length}
use Rattle.std.specs.Option.{option_copied}
use Rattle.script_text.specs.Scripts.{lines_of}
use Rattle.script_text.specs.Inner.Reading.{pieces_left, length_left}
use Rattle.script_text.proofs.ScriptLines.{LinesSoFar}
use Rattle.script_text.proofs.scripts.read_script.Given as goal

abbrev pub invariant-loop-left : goal.invariant-loop-left
invariant-loop-left l = record {
  so_far : LinesSoFar (lines_of l.bytes) l.actions l.number (pieces_left 10 (option_copied l.left));
  room : l.number + length_left (option_copied l.left) ≤ length l.bytes + 1;
}

abbrev pub decreases-loop-left : goal.decreases-loop-left
decreases-loop-left l = length_left (option_copied l.left)
