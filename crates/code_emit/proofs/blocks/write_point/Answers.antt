use Rattle.std.proofs.Common.{rules}
use Rattle.std.specs.Result.{IsErrOf}
use Rattle.std.proofs.lemmas.Result.{on_ok_weaker}
use Rattle.code_emit.proofs.PointLaws.{both_blocks, both_written, first_too_full, then_too_full}
use Rattle.code_emit.proofs.blocks.write_point.Goals as goal
use Rattle.code_emit.specs.Inner.PointBlocks.{before_blocks, onward_blocks, own_blocks}
use Rattle.flow_code.specs.declared.reason.KeptFault.TheVariants.{Kept}

pub returns-in_err-write_before-clause-full : goal.returns-in_err-write_before-clause-full
returns-in_err-write_before-clause-full c = λ reason is.
    let w = c.args.setting.now in
    let at = c.args.at in
    let fails : IsErrOf c.write_before.result (Kept reason) = search rules in
    first_too_full w at (both_blocks w at before_blocks own_blocks) onward_blocks c.args.pool.now reason
    (first_too_full w at before_blocks own_blocks c.args.pool.now reason (c.write_before.ensures.full reason fails))

pub returns-in_err-write_own-clause-full : goal.returns-in_err-write_own-clause-full
returns-in_err-write_own-clause-full c = λ reason is.
    let w = c.args.setting.now in
    let at = c.args.at in
    let fails : IsErrOf c.write_own.result (Kept reason) = search rules in
    first_too_full w at (both_blocks w at before_blocks own_blocks) onward_blocks c.args.pool.now reason
    (then_too_full w at before_blocks own_blocks c.args.pool.now c.write_before.new.pool c.args.drafts.now c.write_before.new.drafts reason
    c.in_ok-write_before.ensures.ok (c.write_own.ensures.full reason fails))

pub returns-clause-ok : goal.returns-clause-ok
returns-clause-ok c =
    let w = c.args.setting.now in
    let at = c.args.at in
    let both =
    both_written w at before_blocks own_blocks c.args.pool.now c.write_before.new.pool c.write_own.new.pool c.args.drafts.now c.write_before.new.drafts c.write_own.new.drafts
    c.in_ok-write_before.ensures.ok c.in_ok-write_own.ensures.ok in
    on_ok_weaker c.write_onwards.result
    (λ writes.
    both_written w at (both_blocks w at before_blocks own_blocks) onward_blocks c.args.pool.now c.write_own.new.pool c.write_onwards.new.pool c.args.drafts.now
    c.write_own.new.drafts c.write_onwards.new.drafts both writes)
    c.write_onwards.ensures.ok

pub returns-clause-full : goal.returns-clause-full
returns-clause-full c = λ reason is.
    let w = c.args.setting.now in
    let at = c.args.at in
    let both =
    both_written w at before_blocks own_blocks c.args.pool.now c.write_before.new.pool c.write_own.new.pool c.args.drafts.now c.write_before.new.drafts c.write_own.new.drafts
    c.in_ok-write_before.ensures.ok c.in_ok-write_own.ensures.ok in
    then_too_full w at (both_blocks w at before_blocks own_blocks) onward_blocks c.args.pool.now c.write_own.new.pool c.args.drafts.now c.write_own.new.drafts reason both
    (c.write_onwards.ensures.full reason is)
