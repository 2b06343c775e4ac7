use Rattle.std.proofs.Common.{◌≡◌, ◌+◌, take}
use Rattle.work_gen.specs.Generated.{work_methods}
use Rattle.work_gen.proofs.generated.work_methods.Given as goal

abbrev pub invariant-loop-choice : goal.invariant-loop-choice
invariant-loop-choice l = record {
  name : l.name ≡ 30 + l.choice-index;
  methods : l.methods ≡ work_methods (take l.choice-index l.chosen);
}
