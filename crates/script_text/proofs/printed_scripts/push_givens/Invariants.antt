-- What was appended so far is printed of the values before the index, and these fit their types.
use Rattle.std.proofs.Common.{◌≡◌, ◌++◌, take, map}
use Rattle.std.specs.List.{AllByRecursion}
use Rattle.script_text.specs.Events.{spaced}
use Rattle.script_text.specs.PrintedScripts.{IsGiven, printed_given}
use Rattle.script_text.proofs.printed_scripts.push_givens.Given as goal

abbrev pub invariant-loop-value : goal.invariant-loop-value
invariant-loop-value l = record {
  printed : l.line.items ≡ l.initial.line.items ++ spaced (map printed_given (take l.value-index l.values));
  known : AllByRecursion IsGiven (take l.value-index l.values);
}
