use Rattle.std.proofs.Common.{◌≡◌, Option, None, option_and_then, sym, ap, subst, ◌∙◌}
use Rattle.class_model.specs.declared.class_file.MethodAt.{MethodAt}
use Rattle.class_tree.specs.Headers.{Classes}
use Rattle.machine_values.specs.Frames.{MethodState}
use Rattle.member_link.specs.Machine.Acting.{Pending}
use Rattle.member_link.specs.Machine.Programs.{code_at}
use Rattle.member_link.specs.Machine.Worlds.{World}
use Rattle.machine_code.specs.Prepared.{IsPrepared, IsPreparedIf}
use Rattle.member_link.specs.TreePrograms.{IsProgram}
use Rattle.machine_run.specs.Inner.ActingWords.{answer_for, awaited_at, awaited_below, waiting_frame, with_answer}
use Rattle.machine_run.proofs.Waiting.{has_waiting, none_awaited, of_any, returned_to_waiting}
use Rattle.machine_run.proofs.acting.answers.find_answer.Goals as goal

pub returns-in_default-2-clause-answer : goal.returns-in_default-2-clause-answer
returns-in_default-2-clause-answer c = λ P program.
    let w = c.args.w.now in
    let f = c.in-Some.frame.now in
    let none : code_at P c.frame.inside.at ≡ None =
    subst (IsPreparedIf P c.frame.inside.at) c.in_default-2.is (c.in_ok-method.ensures.prepared P program)
    in
    let nothing : awaited_at P f.at f.place ≡ None =
    none_awaited P f.at f.place (subst (λ (a : MethodAt). code_at P a ≡ None) (ap (λ (g : MethodState). g.at) c.frame.view_is) none)
    in
    let awaited : awaited_below P w.frames ≡ None =
    ap (λ (v : World). awaited_below P v.frames) (sym c.w.view_is)
    ∙ ap (option_and_then (λ (g : MethodState). awaited_at P g.at g.place)) (sym c.in-Some.ensures)
    ∙ nothing
    in
    returned_to_waiting P w c.args.value ∙ ap (λ (pending : Option Pending). with_answer w (answer_for P w pending c.args.value)) awaited

pub returns-clause-answer : goal.returns-clause-answer
returns-clause-answer c = λ P program.
    let w = c.args.w.now in
    let inside = c.frame.inside in
    let prepared : IsPrepared P inside.at c.in-Some-2.method.value =
    subst (IsPreparedIf P inside.at) c.in-Some-2.is (c.in_ok-method.ensures.prepared P program)
    in
    let tree : IsProgram c.tree.result.now P =
    subst (λ (classes : Classes). IsProgram classes P) (sym (c.tree.ensures ∙ c.in_ok-method.ensures.same)) program
    in
    let awaited : awaited_below P w.frames ≡ awaited_at P inside.at inside.place =
    ap (λ (v : World). awaited_below P v.frames) (sym c.w.view_is)
    ∙ ap (option_and_then (λ (g : MethodState). awaited_at P g.at g.place)) (sym c.in-Some.ensures)
    ∙ ap (λ (g : MethodState). awaited_at P g.at g.place) (sym c.frame.view_is)
    in
    returned_to_waiting P w c.args.value
    ∙ ap (λ (pending : Option Pending). with_answer w (answer_for P w pending c.args.value)) awaited
    ∙ ap (with_answer w)
    (sym (c.answer_at-answer.ensures P inside.at tree (subst (IsPrepared P inside.at) (sym c.deref.ensures) prepared)))

pub returns-clause-waits : goal.returns-clause-waits
returns-clause-waits c = λ can.
    let w = c.args.w.now in
    of_any c.answer_at-answer.result w.frames
    (has_waiting w.frames c.in-Some.frame.now (c.in-Some.ensures ∙ ap (λ (v : World). waiting_frame v.frames) c.w.view_is) can)
