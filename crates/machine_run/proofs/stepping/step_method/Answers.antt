use Rattle.std.proofs.Common.{◌≡◌, None, sym, ap, subst, ◌∙◌}
use Rattle.std.proofs.lemmas.Result.{IfOk-weaker}
use Rattle.class_tree.specs.Headers.{Classes}
use Rattle.member_link.specs.Machine.Programs.{code_at}
use Rattle.machine_code.specs.Prepared.{IsPreparedIf}
use Rattle.member_link.specs.TreePrograms.{IsProgram}
use Rattle.machine_run.specs.Inner.Performed.{HasNoPoint}
use Rattle.machine_run.proofs.StepParts.{no_code}
use Rattle.machine_run.proofs.stepping.step_method.Goals as goal

pub step_prepared-requires-clause-prepared : goal.step_prepared-requires-clause-prepared
step_prepared-requires-clause-prepared c = λ P program.
    let before : IsProgram c.args.prepared.now P = subst (λ (classes : Classes). IsProgram classes P) c.in_ok-method.ensures.same program in
    subst (IsPreparedIf P c.args.at) c.in-Some.is (c.in_ok-method.ensures.prepared P before)

pub step_once-requires-clause-no_code : goal.step_once-requires-clause-no_code
step_once-requires-clause-no_code c = λ P program.
    let f = c.requires.top.0 in
    let before : IsProgram c.args.prepared.now P = subst (λ (classes : Classes). IsProgram classes P) c.in_ok-method.ensures.same program in
    let none : code_at P c.args.at ≡ None = subst (IsPreparedIf P c.args.at) c.in-None.is (c.in_ok-method.ensures.prepared P before) in
    subst (HasNoPoint P) (sym c.requires.top.2) (no_code P f.at f.place (ap (code_at P) c.requires.top.3 ∙ none))

pub returns-in-Some-clause-stepped : goal.returns-in-Some-clause-stepped
returns-in-Some-clause-stepped c = IfOk-weaker c.step_prepared.result _ _
    (λ stepped led P program. led P (subst (λ (classes : Classes). IsProgram classes P) (sym c.in_ok-method.ensures.same) program))
    c.step_prepared.ensures.stepped

pub returns-in-None-clause-stepped : goal.returns-in-None-clause-stepped
returns-in-None-clause-stepped c = IfOk-weaker c.step_once.result _ _
    (λ stepped led P program. led P (subst (λ (classes : Classes). IsProgram classes P) (sym c.in_ok-method.ensures.same) program))
    c.step_once.ensures.stepped
