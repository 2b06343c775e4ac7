use Rattle.std.proofs.Common.{◌≡◌, map, take}
use Rattle.inline_expand.specs.Inner.Numbers.{number_by}
use Rattle.member_link.specs.Targets.{pair_to}
use Rattle.inline_expand.proofs.renumbered.numbered_pairs.Given as goal

abbrev pub invariant-loop-pair : goal.invariant-loop-pair
invariant-loop-pair l = l.list.items ≡ map (pair_to (number_by l.numbers)) (take l.pair-index l.pairs)
