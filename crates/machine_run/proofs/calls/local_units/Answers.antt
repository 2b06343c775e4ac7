use Rattle.std.proofs.Common.{ap, subst, ◌∙◌}
use Rattle.machine_code.specs.Prepared.{IsPreparedIf}
use Rattle.member_link.specs.TreePrograms.{IsProgram}
use Rattle.machine_run.proofs.CalledMethods.{no_units, units_prepared}
use Rattle.machine_run.proofs.calls.local_units.Goals as goal

pub put-requires : goal.put-requires
put-requires c = λ P is.
    subst (IsPreparedIf P c.args.at) c.in-Some.is
    (c.in_ok-method.ensures.prepared P (subst (λ classes. IsProgram classes P) c.take.ensures.same is))

pub returns-in-Some-clause-units : goal.returns-in-Some-clause-units
returns-in-Some-clause-units c = λ P is.
    ap (λ prepared. prepared.locals) c.deref.ensures
    ∙ units_prepared P c.args.at c.in-Some.method.value
    (subst (IsPreparedIf P c.args.at) c.in-Some.is (c.in_ok-method.ensures.prepared P is))

pub returns-in-None-clause-units : goal.returns-in-None-clause-units
returns-in-None-clause-units c = λ P is.
    no_units P c.args.at
    (subst (IsPreparedIf P c.args.at) c.in-None.is (c.in_ok-method.ensures.prepared P is))
