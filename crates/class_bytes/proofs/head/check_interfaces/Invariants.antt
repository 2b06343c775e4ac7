use Rattle.std.proofs.Common.{◌≡◌, ◌+◌, ◌*◌, drop}
use Rattle.class_model.specs.Laws.Checks.{Remain}
use Rattle.class_model.specs.Members.{interfaces_checks}
use Rattle.class_bytes.proofs.head.check_interfaces.Given as goal

abbrev pub invariant-loop-index : goal.invariant-loop-index
invariant-loop-index l =
    (l.place ≡ l.at + 2 * l.index-index)
    × Remain (interfaces_checks l.pool l.at l.indices) (interfaces_checks l.pool l.place (drop l.index-index l.indices))
