use Rattle.std.proofs.Common.{rules}
use Rattle.std.specs.Result.{IsErrOf}
use Rattle.code_emit.proofs.PointLaws.{own_full, own_written}
use Rattle.code_emit.proofs.blocks.write_own.Goals as goal
use Rattle.flow_code.specs.declared.reason.KeptFault.TheVariants.{Kept}

pub returns-in_err-write_items-clause-full : goal.returns-in_err-write_items-clause-full
returns-in_err-write_items-clause-full c = λ reason is.
    let fails : IsErrOf c.write_items.result (Kept reason) = search rules in
    own_full c.args.setting.now c.args.at c.args.pool.now reason (c.write_items.ensures.full reason fails)

pub returns-clause-ok : goal.returns-clause-ok
returns-clause-ok c =
    own_written c.args.setting.now c.args.at c.args.state.now c.in_ok-copy.copy c.len-first.result c.leaves_to-leaves.result c.args.pool.now c.write_items.new.pool
    c.args.drafts.now c.note.new.self c.write_items.new.kept c.in_ok-copy.ensures c.len-first.ensures.len c.in_ok-note.ensures.kept c.in_ok-note.ensures.blocks
    c.requires.left c.leaves_to-leaves.ensures c.in_ok-write_items.ensures.ok
