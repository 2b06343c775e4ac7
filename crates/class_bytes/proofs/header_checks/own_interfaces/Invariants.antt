use Rattle.std.proofs.Common.{◌≡◌, ◌+◌, ◌*◌, map, take, drop}
use Rattle.class_model.specs.Laws.Checks.{Remain}
use Rattle.class_model.specs.Members.{interfaces_checks}
use Rattle.class_bytes.specs.Inner.HeaderParts.{class_name_in}
use Rattle.class_bytes.proofs.header_checks.own_interfaces.Given as goal

abbrev pub invariant-loop-index : goal.invariant-loop-index
invariant-loop-index l =
    (l.place ≡ l.at + 2 * l.index-index)
    × (l.names ≡ map (class_name_in l.pool) (take l.index-index l.indices))
    × Remain (interfaces_checks l.pool l.at l.indices) (interfaces_checks l.pool l.place (drop l.index-index l.indices))
