use Rattle.std.proofs.Common.{◌≡◌, ◌≤◌, ℕ, drop, length}
use Rattle.std.specs.Option.{option_copied}
use Rattle.stackmap_emit.proofs.blocks.items_by_point.Given as goal
use Rattle.stackmap_emit.specs.Inner.BlockTables.{first_item, form_number}
use Rattle.stackmap_emit.specs.Inner.PlacedUnits.{number_by}

abbrev pub invariant-loop-at : goal.invariant-loop-at
invariant-loop-at l = record {
  inside : l.at ≤ length l.starts;
  are : (point : ℕ)
      → number_by l.items.items l.end point
      ≡ first_item (form_number (option_copied l.numbers) l.end) l.end point (drop l.at l.starts);
}

abbrev pub decreases-loop-at : goal.decreases-loop-at
decreases-loop-at l = l.at
