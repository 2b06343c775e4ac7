use Rattle.std.proofs.Common.{List, Err, ap, subst, ◌∙◌}
use Rattle.std.proofs.lemmas.Result.{err_from_is_err_and}
use Rattle.class_model.specs.declared.class_file.CodePart.{CodePart}
use Rattle.class_model.specs.declared.class_file.Handler.{Handler}
use Rattle.type_rules.specs.Checks.{handler_checks}
use Rattle.type_rules.specs.Handlers.{catches_at}
use Rattle.type_rules.specs.MethodBodies.{body_of}
use Rattle.member_link.specs.Scope.{Scope}
use Rattle.verify_folder.proofs.HandlerWalk.{one_fails, one_holds}
use Rattle.verify_folder.specs.Inner.Steps.{ChecksAnswer}
use Rattle.verify_folder.proofs.typing.Typing.check_table.Goals as goal

pub loop-handler-preserved : goal.loop-handler-preserved
loop-handler-preserved c =
    let none : Handler = record { start = 0; end = 0; at = 0; catch_type = 0 } in
    one_holds c.args.self.now c.args.at c.args.before.now c.as_slice-handler-items.result.now c.loop-handler.handler-index none c.loop-handler-test.true
    c.loop-handler.invariant c.in_ok-check_handler.ensures

pub returns-in_err-check_handler : goal.returns-in_err-check_handler
returns-in_err-check_handler c =
    let s = c.args.self.now in
    let none : Handler = record { start = 0; end = 0; at = 0; catch_type = 0 } in
    let are = c.as_slice-handler-items.ensures ∙ ap (λ (part : CodePart). part.handlers) c.part.ensures ∙ ap (λ (s : Scope). s.part.handlers) c.self.view_is in
    let p = err_from_is_err_and c.from_residual.result c.from_residual.ensures.1 in
    rw (p.1, p.2) (
    subst (λ (handlers : List Handler). ChecksAnswer c.args.at (handler_checks (body_of s) c.args.before.now (catches_at s c.args.at handlers)) (Err c.in_err-check_handler.field-0.0)) are
    (one_fails s c.args.at c.args.before.now c.as_slice-handler-items.result.now c.loop-handler.handler-index none c.loop-handler-test.true
    c.loop-handler.invariant c.in_err-check_handler.field-0.0 c.in_err-check_handler.ensures)
    )
