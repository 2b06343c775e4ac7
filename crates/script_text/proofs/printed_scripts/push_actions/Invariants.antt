-- What was appended so far is printed of the actions before the index, and these are of their type.
use Rattle.std.proofs.Common.{◌≡◌, ◌++◌, take}
use Rattle.std.specs.List.{AllByRecursion}
use Rattle.script_text.specs.PrintedScripts.{IsAction, printed_script}
use Rattle.script_text.proofs.printed_scripts.push_actions.Given as goal

abbrev pub invariant-loop-action : goal.invariant-loop-action
invariant-loop-action l = record {
  printed : l.text.items ≡ l.initial.text.items ++ printed_script (take l.action-index l.actions);
  known : AllByRecursion IsAction (take l.action-index l.actions);
}
