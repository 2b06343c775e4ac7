use Rattle.std.proofs.Common.{None, ap, ◌∙◌}
use Rattle.std.specs.Prelude.{if◌then◌else◌}
use Rattle.std.specs.Option.{option_copied}
use Rattle.std.proofs.lemmas.Result.{err_from_is_err_and}
use Rattle.member_link.specs.Bodies.{falls_through}
use Rattle.type_rules.specs.declared.ruled.Ruled.{Ruled}
use Rattle.verify_folder.proofs.KnownLocals.{gone_on}
use Rattle.verify_folder.proofs.Stepping.{handlers_fail, row_fails, targets_fail, is_typed}
use Rattle.verify_folder.proofs.typing.Typing.step.Goals as goal

pub returns-in_err-check_handlers-clause-told : goal.returns-in_err-check_handlers-clause-told
returns-in_err-check_handlers-clause-told c =
    let p = err_from_is_err_and c.from_residual-in_err-check_handlers.result c.from_residual-in_err-check_handlers.ensures.1 in
    rw (p.1, p.2) (handlers_fail c.args.self.now c.args.flows c.args.placed.now c.in_ok-before.before c.in_ok-before.ensures _ c.in_err-check_handlers.ensures.told)

pub returns-in_err-ruled-clause-told : goal.returns-in_err-ruled-clause-told
returns-in_err-ruled-clause-told c =
    let p = err_from_is_err_and c.from_residual-in_err-ruled.result c.from_residual-in_err-ruled.ensures.1 in
    rw (p.1, p.2) (row_fails c.args.self.now c.args.flows c.args.placed.now c.in_ok-before.before c.in_ok-before.ensures _ c.in_ok-check_handlers.ensures.told c.in_err-ruled.ensures)

pub returns-in_err-check_targets-clause-told : goal.returns-in_err-check_targets-clause-told
returns-in_err-check_targets-clause-told c =
    let p = err_from_is_err_and c.from_residual-in_err-check_targets.result c.from_residual-in_err-check_targets.ensures.1 in
    let is = c.as_ref.ensures.value ∙ ap (λ (ruled : Ruled). ruled.next) c.in_ok-ruled.ensures.1 in
    rw (p.1, p.2) (targets_fail c.args.self.now c.args.flows c.args.placed.now c.in_ok-before.before c.in_ok-before.ensures (option_copied c.as_ref.result) is c.in_ok-check_handlers.ensures.told c.in_ok-ruled.ensures.0 _ c.in_err-check_targets.ensures)

pub returns-clause-told : goal.returns-clause-told
returns-clause-told c =
    let next = ap (λ (ruled : Ruled). ruled.next) c.in_ok-ruled.ensures.1 in
    let is = c.as_ref.ensures.value ∙ next in (
      is_typed c.args.self.now c.args.flows c.args.placed.now c.in_ok-before.before c.in_ok-before.ensures (option_copied c.as_ref.result) is c.in_ok-check_handlers.ensures.told c.in_ok-ruled.ensures.0 c.in_ok-check_targets.ensures,
      c.flows_on.ensures ∙ ap (λ frame. if falls_through c.args.placed.now.instr then frame else None) next,
    )

pub check_handlers-requires-clause-known : goal.check_handlers-requires-clause-known
check_handlers-requires-clause-known c = c.meet.ensures.known c.args.flows c.requires.known c.in_ok-before.before c.in_ok-before.ensures.0

pub returns-clause-known : goal.returns-clause-known
returns-clause-known c =
    let next = ap (λ (ruled : Ruled). ruled.next) c.in_ok-ruled.ensures.1 in
    let is = c.flows_on.ensures ∙ ap (λ frame. if falls_through c.args.placed.now.instr then frame else None) next in
    gone_on c.check_handlers.new.active c.note.new.self c.local_changes.result c.note.ensures c.args.self.now c.args.placed.now c.in_ok-before.before c.in_ok-check_handlers.ensures.known c.local_changes.ensures c.flows_on.result is

pub returns-clause-in_force : goal.returns-clause-in_force
returns-clause-in_force c = c.note.ensures.kept c.args.self.now c.in_ok-check_handlers.ensures.in_force
