use Rattle.std.proofs.Common.{◌≡◌, map, take}
use Rattle.code_bytes.specs.Inner.Operands.{pair_in}
use Rattle.code_bytes.proofs.switches.pairs_of.Given as goal

abbrev pub invariant-loop-part : goal.invariant-loop-part
invariant-loop-part l = l.pairs.items ≡ map (pair_in l.at) (take l.part-index l.parts)
