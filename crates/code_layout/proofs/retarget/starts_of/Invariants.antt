use Rattle.std.proofs.Common.{◌≡◌, map, take}
use Rattle.code_layout.specs.Layout.{start_in}
use Rattle.code_layout.proofs.retarget.starts_of.Given as goal

abbrev pub invariant-loop-to : goal.invariant-loop-to
invariant-loop-to l = l.placed.items ≡ map (start_in l.starts) (take l.to-index l.targets)
