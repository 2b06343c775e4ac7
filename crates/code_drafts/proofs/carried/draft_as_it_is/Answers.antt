use Rattle.std.proofs.Common.{rules}
use Rattle.std.specs.Result.{IsErrOf}
use Rattle.code_drafts.proofs.CarriedLaws.{carried_full, caught_full, draft_carried}
use Rattle.code_drafts.proofs.carried.draft_as_it_is.Goals as goal
use Rattle.code_drafts.specs.Writable.{scope}
use Rattle.flow_code.specs.declared.reason.KeptFault.TheVariants.{Kept}

pub returns-in_err-one-clause-full : goal.returns-in_err-one-clause-full
returns-in_err-one-clause-full c = λ reason links constructor point route is are there here.
    let fails : IsErrOf c.carried_instr.result (Kept reason) = search rules in
    carried_full (scope c.args.setting.now links) constructor c.args.at point route c.args.class c.args.instr.now c.args.pool.now reason (c.carried_instr.ensures.full reason links fails)

pub returns-in_err-catches-clause-full : goal.returns-in_err-catches-clause-full
returns-in_err-catches-clause-full c = λ reason links constructor point route is are there here.
    let fails : IsErrOf c.written_catches.result (Kept reason) = search rules in
    caught_full (scope c.args.setting.now links) constructor c.args.at point route c.args.class c.args.instr.now c.args.pool.now c.carried_instr.new.pool reason
    (c.in_ok-one.ensures.ok links) (c.written_catches.ensures.full reason links point route fails are there here)

pub returns-clause-ok : goal.returns-clause-ok
returns-clause-ok c = λ links constructor point route are there here.
    draft_carried (scope c.args.setting.now links) constructor c.args.at point route c.args.class c.args.instr.now c.in_ok-one.one c.in_ok-targets.targets c.in_ok-catches.catches
    c.args.pool.now c.carried_instr.new.pool c.written_catches.new.pool (c.in_ok-one.ensures.ok links) (c.in_ok-one.ensures.instr links)
    (c.in_ok-targets.ensures links point route are there here) (c.in_ok-catches.ensures.ok links point route are there here) c.written_catches.ensures.more
