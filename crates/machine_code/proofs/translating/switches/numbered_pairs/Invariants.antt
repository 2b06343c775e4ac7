use Rattle.std.proofs.Common.{◌≡◌, map, take}
use Rattle.machine_code.specs.Inner.Translating.{numbered, number_of}
use Rattle.machine_code.proofs.translating.switches.numbered_pairs.Given as goal

abbrev pub invariant-loop-pair : goal.invariant-loop-pair
invariant-loop-pair l = l.list ≡ map (numbered (number_of l.numbers)) (take l.pair-index l.pairs)
