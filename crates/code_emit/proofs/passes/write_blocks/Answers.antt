use Rattle.std.proofs.Common.{rules}
use Rattle.std.specs.Result.{IsErrOf}
use Rattle.std.proofs.lemmas.Result.{on_ok_weaker}
use Rattle.code_emit.proofs.PassLaws.{both_passed, both_passes, first_pass_full, then_pass_full}
use Rattle.code_emit.proofs.passes.write_blocks.Goals as goal
use Rattle.code_emit.specs.Inner.PassBlocks.{pass_blocks}
use Rattle.code_emit.specs.declared.passes.Pass.TheVariants.{HandlerPads, JumpPads, Points}
use Rattle.flow_code.specs.declared.reason.KeptFault.TheVariants.{Kept}

pub returns-in_err-write_pass-clause-full : goal.returns-in_err-write_pass-clause-full
returns-in_err-write_pass-clause-full c = λ reason is.
    let w = c.args.setting.now in
    let fails : IsErrOf c.write_pass.result (Kept reason) = search rules in
    first_pass_full w (both_passes w (pass_blocks Points) (pass_blocks JumpPads)) (pass_blocks HandlerPads) c.args.pool.now reason
    (first_pass_full w (pass_blocks Points) (pass_blocks JumpPads) c.args.pool.now reason (c.write_pass.ensures.full reason fails))

pub returns-in_err-write_pass-2-clause-full : goal.returns-in_err-write_pass-2-clause-full
returns-in_err-write_pass-2-clause-full c = λ reason is.
    let w = c.args.setting.now in
    let fails : IsErrOf c.write_pass-2.result (Kept reason) = search rules in
    first_pass_full w (both_passes w (pass_blocks Points) (pass_blocks JumpPads)) (pass_blocks HandlerPads) c.args.pool.now reason
    (then_pass_full w (pass_blocks Points) (pass_blocks JumpPads) c.args.pool.now c.write_pass.new.pool c.args.drafts.now c.write_pass.new.drafts reason
    c.in_ok-write_pass.ensures.ok (c.write_pass-2.ensures.full reason fails))

pub returns-clause-ok : goal.returns-clause-ok
returns-clause-ok c =
    let w = c.args.setting.now in
    let both =
    both_passed w (pass_blocks Points) (pass_blocks JumpPads) c.args.pool.now c.write_pass.new.pool c.write_pass-2.new.pool c.args.drafts.now c.write_pass.new.drafts
    c.write_pass-2.new.drafts c.in_ok-write_pass.ensures.ok c.in_ok-write_pass-2.ensures.ok in
    on_ok_weaker c.write_pass-3.result
    (λ writes.
    both_passed w (both_passes w (pass_blocks Points) (pass_blocks JumpPads)) (pass_blocks HandlerPads) c.args.pool.now c.write_pass-2.new.pool c.write_pass-3.new.pool
    c.args.drafts.now c.write_pass-2.new.drafts c.write_pass-3.new.drafts both writes)
    c.write_pass-3.ensures.ok

pub returns-clause-full : goal.returns-clause-full
returns-clause-full c = λ reason is.
    let w = c.args.setting.now in
    let both =
    both_passed w (pass_blocks Points) (pass_blocks JumpPads) c.args.pool.now c.write_pass.new.pool c.write_pass-2.new.pool c.args.drafts.now c.write_pass.new.drafts
    c.write_pass-2.new.drafts c.in_ok-write_pass.ensures.ok c.in_ok-write_pass-2.ensures.ok in
    then_pass_full w (both_passes w (pass_blocks Points) (pass_blocks JumpPads)) (pass_blocks HandlerPads) c.args.pool.now c.write_pass-2.new.pool c.args.drafts.now
    c.write_pass-2.new.drafts reason both (c.write_pass-3.ensures.full reason is)
