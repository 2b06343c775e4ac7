use Rattle.std.proofs.Common.{rules}
use Rattle.std.specs.Result.{IsErrOf}
use Rattle.code_drafts.specs.Writable.{scope}
use Rattle.flow_code.specs.declared.reason.KeptFault.TheVariants.{Kept}
use Rattle.code_drafts.proofs.WrittenLaws.{draft_emits, draft_full}
use Rattle.code_drafts.proofs.templates.write_as_it_is.Goals as goal
use Rattle.code_drafts.specs.Inner.CarriedWords.{carried_item}

pub returns-in_err-draft-clause-full : goal.returns-in_err-draft-clause-full
returns-in_err-draft-clause-full c = λ reason links constructor point route is meant there here.
    let fails : IsErrOf c.draft_as_it_is.result (Kept reason) = search rules in
    draft_full (scope c.args.setting.now links) constructor c.args.pool.now (carried_item c.args.at point route c.args.class c.args.instr.now) reason
    (c.draft_as_it_is.ensures.full reason links constructor point route fails meant.is_links there here)

pub returns-clause-ok : goal.returns-clause-ok
returns-clause-ok c = λ links constructor point route meant there here.
    draft_emits (scope c.args.setting.now links) constructor c.args.pool.now c.draft_as_it_is.new.pool (carried_item c.args.at point route c.args.class c.args.instr.now) c.in_ok-draft.draft
    c.args.kept.now c.push.new.self (c.in_ok-draft.ensures.ok links constructor point route meant.is_links there here) c.draft_as_it_is.ensures.more c.in_ok-push.ensures
