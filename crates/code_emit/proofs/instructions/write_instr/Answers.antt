use Rattle.std.proofs.lemmas.Result.{on_ok_weaker}
use Rattle.code_emit.proofs.InstructionLaws.{all_full, all_written}
use Rattle.code_emit.proofs.instructions.write_instr.Goals as goal

pub returns-clause-ok : goal.returns-clause-ok
returns-clause-ok c =
    let w = c.args.setting.now in
    on_ok_weaker c.write_rest.result
    (λ emits.
    all_written w c.args.at c.args.state.now c.args.class c.args.instr.now c.in-Some.types.now c.flat.result.now c.units.result.now c.in_ok-template.template
    c.requires.left c.requires.instr c.in-Some.ensures c.flat.ensures c.units.ensures
    (λ links route are. c.in_ok-template.ensures links route are)
    c.args.pool.now c.write_rest.new.pool c.args.kept.now c.write_left.new.kept c.write_rest.new.kept c.in_ok-write_left.ensures emits)
    c.write_rest.ensures.ok

pub returns-clause-full : goal.returns-clause-full
returns-clause-full c = λ reason is.
    let w = c.args.setting.now in
    all_full w c.args.at c.args.state.now c.args.class c.args.instr.now c.in-Some.types.now c.flat.result.now c.units.result.now c.in_ok-template.template
    c.requires.left c.requires.instr c.in-Some.ensures c.flat.ensures c.units.ensures
    (λ links route are. c.in_ok-template.ensures links route are)
    c.args.pool.now c.args.kept.now c.write_left.new.kept reason c.in_ok-write_left.ensures (c.write_rest.ensures.full reason is)
