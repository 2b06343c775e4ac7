use Rattle.std.proofs.Common.{◌≡◌, map, take}
use Rattle.member_link.specs.Targets.{pair_to}
use Rattle.code_layout.specs.Layout.{start_in}
use Rattle.code_layout.proofs.retarget.pairs_at.Given as goal

abbrev pub invariant-loop-pair : goal.invariant-loop-pair
invariant-loop-pair l = l.placed.items ≡ map (pair_to (start_in l.starts)) (take l.pair-index l.pairs)
