use Rattle.std.proofs.Common.{◌≡◌, map, take}
use Rattle.code_bytes.specs.Inner.Operands.{target_in}
use Rattle.code_bytes.proofs.switches.targets_of.Given as goal

abbrev pub invariant-loop-word : goal.invariant-loop-word
invariant-loop-word l = l.targets.items ≡ map (target_in l.at) (take l.word-index l.words)
