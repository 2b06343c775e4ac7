use Rattle.std.proofs.Common.{◌≡◌, take, true}
use Rattle.std.specs.Cmp.Lexicographic.{pointwise}
use Rattle.class_model.specs.contracts.frame.VTypePartialEq.TheImpl.{ghosts as comparison}
use Rattle.class_model.proofs.local_types.has_same_units.Given as goal

abbrev pub invariant-loop-at : goal.invariant-loop-at
invariant-loop-at l = pointwise comparison.eq (take l.at l.list) (take l.at l.other) ≡ true
