use Rattle.std.proofs.Common.{rules, sym, ◌∙◌}
use Rattle.std.specs.Result.{IsErrOf}
use Rattle.code_drafts.specs.Drafts.{kind_of}
use Rattle.code_emit.proofs.PointLaws.{make_block_full, make_block_written}
use Rattle.code_emit.proofs.blocks.write_make_block.Goals as goal
use Rattle.flow_code.specs.declared.reason.KeptFault.TheVariants.{Kept}

pub returns-in_err-write_made-clause-full : goal.returns-in_err-write_made-clause-full
returns-in_err-write_made-clause-full c = λ reason is.
    let fails : IsErrOf c.write_made.result (Kept reason) = search rules in
    make_block_full c.args.setting.now (kind_of c.args.of) c.args.at c.args.state.now c.args.made.now c.args.leaves c.args.pool.now reason
    (sym c.is_empty.ensures ∙ c.if-is_empty.false) (c.write_made.ensures.full reason fails)

pub returns-clause-ok : goal.returns-clause-ok
returns-clause-ok c =
    make_block_written c.args.setting.now c.args.of c.args.at c.args.state.now c.in_ok-copy.copy c.len-first.result c.args.leaves c.args.pool.now c.write_made.new.pool
    c.args.drafts.now c.note.new.self c.write_made.new.kept c.in_ok-copy.ensures c.len-first.ensures.len c.in_ok-note.ensures.kept c.in_ok-note.ensures.blocks
    c.args.made.now (sym c.is_empty.ensures ∙ c.if-is_empty.false) c.in_ok-write_made.ensures.ok
