use Rattle.code_emit.proofs.PadLaws.{WritesEdgesTo}
use Rattle.code_emit.proofs.pads.write_edges.Given as goal
use Rattle.code_emit.specs.Inner.PadBlocks.{pad_of}
use Rattle.pool_edit.specs.Edits.{Continues}

abbrev pub invariant-loop-number : goal.invariant-loop-number
invariant-loop-number l =
    WritesEdgesTo l.setting l.at (pad_of l.of l.decided) l.number l.fn.pool l.pool l.fn.drafts l.drafts × Continues l.fn.pool l.pool
