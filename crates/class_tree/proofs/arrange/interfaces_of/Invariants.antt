use Rattle.std.proofs.Common.{◌≡◌, map, take}
use Rattle.class_model.specs.PoolChecks.{class_at}
use Rattle.class_tree.proofs.HeaderParts.{text_or_empty}
use Rattle.class_tree.proofs.arrange.interfaces_of.Given as goal

abbrev pub invariant-loop-index : goal.invariant-loop-index
invariant-loop-index l = l.names ≡ map (λ index. text_or_empty (class_at l.class.pool index)) (take l.index-index l.class.interfaces)
