use Rattle.std.proofs.Common.{◌≡◌, ◌&&◌, Bool, true, Some, None, slice_get, if◌then◌else◌, sym, ap, subst, ◌∙◌, rules}
use Rattle.class_tree.specs.Headers.{Classes}
use Rattle.member_link.specs.Machine.Acting.{act_throw, is_throwable, waiting_in}
use Rattle.member_link.specs.Machine.Worlds.{World}
use Rattle.member_link.specs.TreePrograms.{IsProgram}
use Rattle.machine_run.specs.Inner.ActingWords.{awaited_below, may_throw, thrown_below}
use Rattle.machine_run.proofs.Waiting.{threw_at_waiting}
use Rattle.machine_run.proofs.acting.answers.find_thrown.Goals as goal

pub returns-then-branch-clause-thrown : goal.returns-then-branch-clause-thrown
returns-then-branch-clause-thrown c = λ P program.
    let w = c.args.w.now in
    let at = c.in-Some.at in
    let known : slice_get c.w.inside.known c.args.number ≡ Some at = search rules in
    let known_now : slice_get w.known c.args.number ≡ Some at = ap (λ (v : World). slice_get v.known c.args.number) (sym c.w.view_is) ∙ known in
    let tree : IsProgram c.tree.result.now P = subst (λ (classes : Classes). IsProgram classes P) (sym c.tree.ensures) program in
    let heap : w.memory.heap ≡ c.heap.result.now = ap (λ (v : World). v.memory.heap) (sym c.w.view_is) ∙ sym c.heap.ensures in
    let throwable : is_throwable P w at ≡ true = sym (c.is_throwable-throwable.ensures P w tree heap) ∙ c.if-throwable.true in
    let may : may_throw (awaited_below P w.frames) ≡ true =
    ap (λ (v : World). may_throw (awaited_below P v.frames)) (sym c.w.view_is)
    ∙ sym (c.in_ok-may_throw_below.ensures.may P program)
    ∙ c.if-branch.true
    in
    ap (act_throw P w (waiting_in P w.frames)) known_now
    ∙ threw_at_waiting P w at
    ∙ ap (λ (b : Bool). thrown_below P w (if b && is_throwable P w at then Some at else None)) may
    ∙ ap (λ (b : Bool). thrown_below P w (if b then Some at else None)) throwable
