use Rattle.std.proofs.Common.{◌≡◌, ◌+◌, take}
use Rattle.class_model.specs.Frames.{depth}
use Rattle.type_rules.proofs.step.is_within.Given as goal

abbrev pub invariant-loop-entry : goal.invariant-loop-entry
invariant-loop-entry l = l.left + depth (take l.entry-index l.entries) ≡ l.fn.most
