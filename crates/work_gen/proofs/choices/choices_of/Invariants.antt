-- What was chosen, and what is chosen from the state on, is all that is to be chosen.
use Rattle.std.proofs.Common.{◌≡◌, ◌<◌, ◌-◌, ◌++◌}
use Rattle.work_gen.specs.Generated.{choices}
use Rattle.work_gen.proofs.choices.choices_of.Given as goal

abbrev pub invariant-loop : goal.invariant-loop
invariant-loop l = record {
  small : l.state < 2147483648;
  all : l.chosen.items ++ choices l.state (l.fn.size - l.counter) ≡ choices l.fn.number l.fn.size;
}
