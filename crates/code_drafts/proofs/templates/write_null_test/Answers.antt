use Rattle.std.proofs.Common.{rules, [], ◌∷◌}
use Rattle.std.specs.Result.{IsErrOf}
use Rattle.code_drafts.specs.Writable.{scope}
use Rattle.flow_code.specs.declared.reason.KeptFault.TheVariants.{Kept}
use Rattle.code_drafts.proofs.WrittenLaws.{draft_emits, draft_full, throw_draft, throw_item}
use Rattle.code_drafts.specs.Laws.EmittedParts.{puts_full, puts_then}
use Rattle.code_drafts.proofs.templates.write_null_test.Goals as goal
use Rattle.code_drafts.specs.Inner.WrittenWords.{null_jump}

pub returns-in_err-catches-clause-full : goal.returns-in_err-catches-clause-full
returns-in_err-catches-clause-full c = λ reason links constructor point route is meant there here.
    let w = c.args.setting.now in
    let fails : IsErrOf c.written_catches.result (Kept reason) = search rules in
    puts_full w.classes links w.flat constructor c.args.pool.now (null_jump c.args.local) (throw_item c.args.at point route ∷ []) c.args.kept.now c.put_null_jump.new.kept reason
    (c.in_ok-put_null_jump.ensures w.flat)
    (draft_full (scope w links) constructor c.args.pool.now (throw_item c.args.at point route) reason
    (c.written_catches.ensures.full reason links point route fails meant.is_links there here))

pub returns-clause-ok : goal.returns-clause-ok
returns-clause-ok c = λ links constructor point route meant there here.
    let w = c.args.setting.now in
    puts_then w.classes links w.flat constructor c.args.pool.now c.written_catches.new.pool (null_jump c.args.local) (throw_item c.args.at point route ∷ []) c.args.kept.now
    c.put_null_jump.new.kept c.push.new.self (c.in_ok-put_null_jump.ensures w.flat)
    (draft_emits (scope w links) constructor c.args.pool.now c.written_catches.new.pool (throw_item c.args.at point route) _ c.put_null_jump.new.kept c.push.new.self
    (throw_draft (scope w links) constructor c.args.at point route c.args.pool.now c.written_catches.new.pool c.new.result c.in_ok-catches.catches c.new.ensures
    (c.in_ok-catches.ensures.ok links point route meant.is_links there here)) c.written_catches.ensures.more c.in_ok-push.ensures)
