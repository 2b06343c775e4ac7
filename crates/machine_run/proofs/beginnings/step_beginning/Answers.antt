use Rattle.std.proofs.Common.{◌≡◌, ◌∷◌, ℕ, Some, None, sym, ap, subst, ◌∙◌}
use Rattle.std.proofs.lemmas.Option.{same_Some}
use Rattle.machine_values.specs.declared.frame.RunFrame.TheVariants.{Beginning}
use Rattle.member_link.specs.Machine.Beginnings.{beginning_step, begun_on, initialiser_of}
use Rattle.member_link.specs.Machine.Worlds.{World, going}
use Rattle.member_link.specs.TreePrograms.{IsProgram}
use Rattle.machine_run.specs.Inner.CallWords.{beginning_on_top}
use Rattle.machine_run.specs.Outcomes.{ended}
use Rattle.machine_run.proofs.BegunSteps.{beginning_is, goes_on, past_goes_on}
use Rattle.machine_run.proofs.beginnings.step_beginning.Goals as goal

pub returns-in_ok-begin_class-in-Some-first_unbegun-clause-begun :
    goal.returns-in_ok-begin_class-in-Some-first_unbegun-clause-begun
returns-in_ok-begin_class-in-Some-first_unbegun-clause-begun c = λ P class rest is frames.
    let w = c.args.w.now in
    let first = c.in-Some-first_unbegun.first in
    let halt : w.halt ≡ going = ap (λ (v : World). v.halt) (sym c.w.view_is) in
    let same = same_Some c.in-Some.class class (c.in-Some.ensures ∙ ap beginning_on_top (ap (λ (v : World). v.frames) c.w.view_is ∙ frames)) in
    let program = subst (λ classes. IsProgram classes P) (sym c.tree-tree.ensures) is in
    ap (ended going) (c.in_ok-begin_class-in-Some-first_unbegun.ensures P is)
    ∙ goes_on (begun_on P first w w.frames) halt
    ∙ ap (begun_on P first w) (frames ∙ ap (λ (k : ℕ). Beginning k ∷ rest) (sym same))
    ∙ beginning_is c.tree-tree.result.now P program c.in-Some.class c.in-Some-header.header.now w _ rest (Some first) (sym c.in-Some-header.ensures)
    (ap (λ (v : World). v.memory) c.w.view_is) (c.in-Some-first_unbegun.ensures.first P program)
    ∙ ap (λ (k : ℕ). beginning_step P k w rest) same

pub returns-in_ok-end_beginning-in-None-clause-begun :
    goal.returns-in_ok-end_beginning-in-None-clause-begun
returns-in_ok-end_beginning-in-None-clause-begun c = λ P class rest is frames.
    let w = c.args.w.now in
    let halt : w.halt ≡ going = ap (λ (v : World). v.halt) (sym c.w.view_is) in
    let same = same_Some c.in-Some.class class (c.in-Some.ensures ∙ ap beginning_on_top (ap (λ (v : World). v.frames) c.w.view_is ∙ frames)) in
    let program = subst (λ classes. IsProgram classes P) (sym c.tree-tree.ensures) is in
    ap (ended going) (c.in_ok-end_beginning-in-None.ensures.ended P rest is (frames ∙ ap (λ (k : ℕ). Beginning k ∷ rest) (sym same)))
    ∙ past_goes_on P w rest (initialiser_of P c.in-Some.class) halt
    ∙ beginning_is c.tree-tree.result.now P program c.in-Some.class c.in-Some-header.header.now w _ rest None (sym c.in-Some-header.ensures)
    (ap (λ (v : World). v.memory) c.w.view_is) (c.in-None.ensures.first P program)
    ∙ ap (λ (k : ℕ). beginning_step P k w rest) same
