use Rattle.std.proofs.Common.{◌≡◌, ◌∙◌, ℕ, List, Ok, sym, ap, subst}
use Rattle.std.proofs.lemmas.Result.{err_from_is_err_and}
use Rattle.class_model.specs.Instructions.{decoded}
use Rattle.class_model.specs.Methods.{home_of}
use Rattle.member_link.proofs.CodeChecks.{AreInstrs, instrs_refused, handlers_refused, code_answers}
use Rattle.member_link.proofs.code_uses.check_code.Goals as goal
use Rattle.member_link.proofs.code_uses.check_code.Goals.{After-as_slice-2}

instrs : (c : After-as_slice-2) → AreInstrs c.args.part.now.code c.as_slice-2.result.now
instrs c = record { read = subst (λ (code : List ℕ). decoded code ≡ Ok c.in_ok-instrs.instrs) c.as_slice.ensures c.in_ok-instrs.ensures ∙ ap Ok (sym c.as_slice-2.ensures) }

pub returns-in_err-check_instrs-clause-told : goal.returns-in_err-check_instrs-clause-told
returns-in_err-check_instrs-clause-told c =
    let p = err_from_is_err_and c.from_residual-in_err-check_instrs.result c.from_residual-in_err-check_instrs.ensures.1 in
    rw (p.1, p.2) (instrs_refused (home_of c.args.class.now) c.args.method.now c.args.part.now c.args.member.now c.args.resolver.now c.as_slice-2.result.now (instrs (goal.at.returns-in_err-check_instrs-clause-told c).After-as_slice-2) _ c.in_err-check_instrs.ensures.told)

pub returns-in_err-check_handlers-clause-told : goal.returns-in_err-check_handlers-clause-told
returns-in_err-check_handlers-clause-told c =
    let p = err_from_is_err_and c.from_residual-in_err-check_handlers.result c.from_residual-in_err-check_handlers.ensures.1 in
    rw (p.1, p.2) (handlers_refused (home_of c.args.class.now) c.args.method.now c.args.part.now c.args.member.now c.args.resolver.now c.as_slice-2.result.now (instrs (goal.at.returns-in_err-check_handlers-clause-told c).After-as_slice-2)
    c.check_instrs.new.resolver c.as_slice-3.result.now _ c.in_ok-check_instrs.ensures.told c.in_ok-check_instrs.ensures.same c.as_slice-3.ensures c.in_err-check_handlers.ensures.told)

pub returns-clause-told : goal.returns-clause-told
returns-clause-told c =
    let frames = c.as_slice-4.ensures ∙ c.in_ok-frames.ensures in
    code_answers (home_of c.args.class.now) c.args.method.now c.args.part.now c.args.member.now c.args.resolver.now c.as_slice-2.result.now (instrs (goal.at.returns-clause-told c).After-as_slice-2)
    c.check_instrs.new.resolver c.check_handlers.new.resolver c.as_slice-3.result.now c.as_slice-4.result.now c.check_frames.result c.in_ok-check_instrs.ensures.told c.in_ok-check_instrs.ensures.same c.as_slice-3.ensures c.in_ok-check_handlers.ensures.told c.in_ok-check_handlers.ensures.same frames c.check_frames.ensures
