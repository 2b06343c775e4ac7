use Rattle.std.proofs.Common.{◌≡◌, map, take}
use Rattle.inline_expand.specs.Inner.Numbers.{number_by}
use Rattle.inline_expand.proofs.renumbered.numbers_of.Given as goal

abbrev pub invariant-loop-to : goal.invariant-loop-to
invariant-loop-to l = l.list.items ≡ map (number_by l.numbers) (take l.to-index l.targets)
