use Rattle.std.proofs.Common.{◌≡◌, Option, None, option_and_then, sym, ap, subst, ◌∙◌}
use Rattle.class_model.specs.declared.class_file.MethodAt.{MethodAt}
use Rattle.class_tree.specs.Headers.{Classes}
use Rattle.machine_values.specs.Frames.{MethodState}
use Rattle.member_link.specs.Machine.Programs.{code_at}
use Rattle.machine_code.specs.Prepared.{IsPrepared, IsPreparedIf}
use Rattle.member_link.specs.TreePrograms.{IsProgram}
use Rattle.machine_run.specs.Inner.ActingWords.{awaited_at, may_throw}
use Rattle.machine_run.proofs.Waiting.{none_awaited}
use Rattle.machine_run.proofs.acting.answers.may_throw_below.Goals as goal

pub returns-in_default-2-clause-may : goal.returns-in_default-2-clause-may
returns-in_default-2-clause-may c = λ P program.
    let f = c.in-Some.frame.now in
    let at : c.frame.inside.at ≡ f.at = ap (λ (g : MethodState). g.at) c.frame.view_is in
    let none : code_at P c.frame.inside.at ≡ None =
    subst (IsPreparedIf P c.frame.inside.at) c.in_default-2.is (c.in_ok-method.ensures.prepared P program)
    in
    let nothing : awaited_at P f.at f.place ≡ None =
    none_awaited P f.at f.place (subst (λ (a : MethodAt). code_at P a ≡ None) at none)
    in
    sym (ap may_throw (ap (option_and_then (λ (g : MethodState). awaited_at P g.at g.place)) (sym c.in-Some.ensures) ∙ nothing))

pub put-requires : goal.put-requires
put-requires c = λ P program.
    subst (IsPreparedIf P c.frame.inside.at) c.in-Some-2.is
    (c.in_ok-method.ensures.prepared P (subst (λ (classes : Classes). IsProgram classes P) c.in_ok-method.ensures.same program))

pub returns-clause-may : goal.returns-clause-may
returns-clause-may c = λ P program.
    let f = c.in-Some.frame.now in
    let prepared : IsPrepared P c.frame.inside.at c.in-Some-2.method.value =
    subst (IsPreparedIf P c.frame.inside.at) c.in-Some-2.is (c.in_ok-method.ensures.prepared P program)
    in
    c.may_throw_at-may.ensures P c.frame.inside.at (subst (IsPrepared P c.frame.inside.at) (sym c.deref.ensures) prepared)
    ∙ ap (λ (g : MethodState). may_throw (awaited_at P g.at g.place)) c.frame.view_is
    ∙ ap (λ (found : Option MethodState). may_throw (option_and_then (λ (g : MethodState). awaited_at P g.at g.place) found)) c.in-Some.ensures
