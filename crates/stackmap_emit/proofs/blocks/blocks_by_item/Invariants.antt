use Rattle.std.proofs.Common.{drop}
use Rattle.std.specs.Option.{option_copied}
use Rattle.stackmap_emit.proofs.blocks.blocks_by_item.Given as goal
use Rattle.stackmap_emit.specs.Inner.BlockTables.{AreFilled, form_number}

abbrev pub invariant-loop-start : goal.invariant-loop-start
invariant-loop-start l =
    AreFilled (form_number (option_copied l.numbers) l.end) l.end l.starts (drop l.start-index l.starts) l.blocks.items
