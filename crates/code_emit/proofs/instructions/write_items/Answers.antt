use Rattle.std.proofs.Common.{◌∙◌}
use Rattle.std.proofs.lemmas.Result.{on_ok_weaker}
use Rattle.code_drafts.specs.Laws.LedRoutes.{instr_is}
use Rattle.code_emit.proofs.InstructionLaws.{test_full, test_written}
use Rattle.code_emit.proofs.instructions.write_items.Goals as goal

pub returns-in-NullTest-clause-ok : goal.returns-in-NullTest-clause-ok
returns-in-NullTest-clause-ok c =
    let w = c.args.setting.now in
    on_ok_weaker c.write_test.result
    (λ emits.
    test_written w c.args.at c.args.state.now c.requires.left c.in-NullTest.local c.args.pool.now c.write_test.new.pool c.args.kept.now c.write_test.new.kept
    (λ point there. instr_is c.flat.result.now w c.args.at point c.in-Some.instr.now c.in-Some.ensures c.flat.ensures there ∙ c.in-NullTest.is) emits)
    c.write_test.ensures.ok

pub returns-in-NullTest-clause-full : goal.returns-in-NullTest-clause-full
returns-in-NullTest-clause-full c = λ reason fails.
    let w = c.args.setting.now in
    test_full w c.args.at c.args.state.now c.requires.left c.in-NullTest.local c.args.pool.now reason
    (λ point there. instr_is c.flat.result.now w c.args.at point c.in-Some.instr.now c.in-Some.ensures c.flat.ensures there ∙ c.in-NullTest.is)
    (λ links constructor point route meant there is here. c.write_test.ensures.full reason links constructor point route fails meant there is here)
