use Rattle.std.proofs.Common.{◌≡◌, take}
use Rattle.work_gen.specs.Generated.{call_text, indexed}
use Rattle.work_gen.proofs.generated.script_of.Given as goal

abbrev pub invariant-loop-choice : goal.invariant-loop-choice
invariant-loop-choice l = record {
  number : l.number ≡ l.choice-index;
  text : l.text.items ≡ indexed call_text 0 (take l.choice-index l.chosen);
}
