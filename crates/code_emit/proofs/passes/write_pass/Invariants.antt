use Rattle.code_emit.proofs.PassLaws.{WritesPointsTo}
use Rattle.code_emit.proofs.passes.write_pass.Given as goal
use Rattle.code_emit.specs.Inner.PassBlocks.{blocks_at}
use Rattle.pool_edit.specs.Edits.{Continues}

abbrev pub invariant-loop-at : goal.invariant-loop-at
invariant-loop-at l =
    WritesPointsTo l.setting (blocks_at l.pass) l.at l.fn.pool l.pool l.fn.drafts l.drafts × Continues l.fn.pool l.pool
