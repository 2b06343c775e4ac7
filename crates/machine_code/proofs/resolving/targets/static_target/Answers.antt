use Rattle.std.proofs.Common.{sym, ap, subst, ◌∙◌}
use Rattle.member_link.specs.Machine.CallSteps.{run_call}
use Rattle.member_link.specs.References.{Reference}
use Rattle.machine_code.specs.Inner.Resolved.{IsKeptMethod}
use Rattle.member_link.specs.RunOps.{IsFoundMethod, RunsStatic}
use Rattle.member_link.specs.declared.run_op.CallTarget.{CallTarget}
use Rattle.machine_code.proofs.resolving.targets.static_target.Goals as goal

pub returns-clause-kept : goal.returns-clause-kept
returns-clause-kept c = λ method at.
    let kept = c.in_ok-target.ensures.kept method at in
    subst (IsKeptMethod method) (sym c.with_fixed.ensures) (record { same = kept.same; unseen = kept.unseen })

pub returns-clause-found : goal.returns-clause-found
returns-clause-found c = λ P is.
    let found = c.in_ok-target.ensures.found P is in
    subst (IsFoundMethod P c.args.named.now) (sym c.with_fixed.ensures) (record { static = found.static; asked = found.asked; polymorphic = found.polymorphic; home = found.home })

pub returns-clause-runs : goal.returns-clause-runs
returns-clause-runs c = λ P is.
    subst (λ (target : CallTarget). RunsStatic P target target.fixed) (sym c.with_fixed.ensures)
    (λ memory values. ap (λ (r : Reference). run_call P r values) (sym c.in_ok-copy.ensures) ∙ c.run_call-callee.ensures.runs P memory values is)
