use Rattle.std.proofs.Common.{false, ◌≡◌, Some, refl, sym, subst, ◌∙◌}
use Rattle.machine_code.specs.Inner.Resolved.{IsKeptMethod}
use Rattle.member_link.specs.RunOps.{IsFoundMethod, RunsSpecial}
use Rattle.member_link.specs.declared.run_op.CallTarget.{CallTarget}
use Rattle.machine_code.proofs.resolving.targets.special_target.Goals as goal

pub returns-clause-kept : goal.returns-clause-kept
returns-clause-kept c = λ method at.
    let kept = c.in_ok-target.ensures.kept method at in
    subst (IsKeptMethod method) (sym c.with_fixed.ensures) (record { same = kept.same; unseen = kept.unseen })

pub returns-clause-found : goal.returns-clause-found
returns-clause-found c = λ P is.
    let found = c.in_ok-target.ensures.found P is in
    subst (IsFoundMethod P c.args.named.now) (sym c.with_fixed.ensures) (record { static = found.static; asked = found.asked; polymorphic = found.polymorphic; home = found.home })

pub returns-clause-runs : goal.returns-clause-runs
returns-clause-runs c = λ P is.
    let found = c.in_ok-target.ensures.found P is in
    subst (λ (target : CallTarget). target.is_static ≡ false → RunsSpecial P c.args.from.now target target.fixed) (sym c.with_fixed.ensures)
    (λ not_static. c.in_ok-callee.ensures P (record c.in_ok-target.target { fixed = Some c.in_ok-callee.callee }) is refl (sym found.static ∙ not_static))
