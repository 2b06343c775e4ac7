use Rattle.std.proofs.Common.{sym, subst}
use Rattle.std.proofs.lemmas.Result.{on_ok_weaker}
use Rattle.code_drafts.specs.declared.template.Template.{Template}
use Rattle.code_emit.proofs.InstructionLaws.{as_it_is_full, as_it_is_written, jump_emits, jump_full}
use Rattle.code_emit.proofs.instructions.write_rest.Goals as goal
use Rattle.code_emit.specs.Inner.ReachedPoints.{AreFullAt, EmitsAt, rest_of}

pub returns-in-AsItIs-clause-ok : goal.returns-in-AsItIs-clause-ok
returns-in-AsItIs-clause-ok c =
    let w = c.args.setting.now in
    on_ok_weaker c.write_as_it_is.result
    (λ emits.
    subst (λ (chosen : Template). EmitsAt w c.args.at (λ s at point route. rest_of s at point route c.args.class c.args.instr.now chosen) c.args.pool.now c.write_as_it_is.new.pool
    c.args.kept.now c.write_as_it_is.new.kept) (sym c.in-AsItIs.is)
    (as_it_is_written w c.args.at c.args.class c.args.instr.now c.args.pool.now c.write_as_it_is.new.pool c.args.kept.now c.write_as_it_is.new.kept emits))
    c.write_as_it_is.ensures.ok

pub returns-in-AsItIs-clause-full : goal.returns-in-AsItIs-clause-full
returns-in-AsItIs-clause-full c = λ reason is.
    let w = c.args.setting.now in
    subst (λ (chosen : Template). AreFullAt w c.args.at (λ s at point route. rest_of s at point route c.args.class c.args.instr.now chosen) c.args.pool.now reason) (sym c.in-AsItIs.is)
    (as_it_is_full w c.args.at c.args.class c.args.instr.now c.args.pool.now reason
    (λ links constructor point route meant there here. c.write_as_it_is.ensures.full reason links constructor point route is meant there here))

pub returns-in-Jump-clause-ok : goal.returns-in-Jump-clause-ok
returns-in-Jump-clause-ok c =
    let w = c.args.setting.now in
    on_ok_weaker c.write_made_on.result
    (λ emits.
    subst (λ (chosen : Template). EmitsAt w c.args.at (λ s at point route. rest_of s at point route c.args.class c.args.instr.now chosen) c.args.pool.now c.write_made_on.new.pool
    c.args.kept.now c.write_made_on.new.kept) (sym c.in-Jump.is)
    (jump_emits w c.args.at c.args.pool.now c.write_made_on.new.pool c.args.kept.now c.write_made_on.new.kept emits))
    c.write_made_on.ensures.ok

pub returns-in-Jump-clause-full : goal.returns-in-Jump-clause-full
returns-in-Jump-clause-full c = λ reason is.
    let w = c.args.setting.now in
    subst (λ (chosen : Template). AreFullAt w c.args.at (λ s at point route. rest_of s at point route c.args.class c.args.instr.now chosen) c.args.pool.now reason) (sym c.in-Jump.is)
    (jump_full w c.args.at c.args.pool.now reason (c.write_made_on.ensures.full reason is))
