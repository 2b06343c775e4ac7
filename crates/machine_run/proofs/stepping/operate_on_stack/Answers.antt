use Rattle.std.proofs.Common.{◌≡◌, ◌≤◌, ℕ, List, length, reverse, take, refl, sym, ap, subst, ◌∙◌}
use Rattle.std.proofs.lemmas.List.{length-reverse}
use Rattle.std.proofs.lemmas.Result.{IfOk-weaker}
use Rattle.machine_values.specs.Frames.{MethodState}
use Rattle.machine_values.specs.declared.value.Value.{Value}
use Rattle.member_link.specs.Machine.Work.{work}
use Rattle.member_link.specs.Machine.Worlds.{Memory}
use Rattle.machine_step.specs.Completing.{Completes}
use Rattle.machine_step.specs.FewOperands.{HasFewOperands}
use Rattle.member_link.specs.RunOps.{op_of}
use Rattle.machine_run.specs.Inner.Performed.{operands_in}
use Rattle.machine_run.proofs.WorkSteps.{can_perform, few_stuck, topmost_length, worked}
use Rattle.machine_run.proofs.stepping.operate_on_stack.Goals as goal

pub work-requires-clause-few : goal.work-requires-clause-few
work-requires-clause-few c =
    subst (λ (n : ℕ). HasFewOperands c.args.op.now n)
    (sym
    (ap (λ (values : List Value). length values) c.in-Some.ensures.some
    ∙ topmost_length (reverse c.frame.inside.stack) c.arity-count.result
    (subst (λ (n : ℕ). c.arity-count.result ≤ n) (sym (length-reverse c.frame.inside.stack))
    (c.in-Some.ensures.enough.0 refl))))
    c.arity-count.ensures.few

pub returns-in_ok-completed-in-Some-clause-operated : goal.returns-in_ok-completed-in-Some-clause-operated
returns-in_ok-completed-in-Some-clause-operated c = IfOk-weaker c.complete.result _ _
    (λ operated completes P w rest program resolved memory.
    let f = c.args.frame.now in
    let op = op_of c.args.op.now in
    let count = c.arity-count.result in
    let stack : reverse c.frame.inside.stack ≡ f.stack = ap (λ (g : MethodState). g.stack) c.frame.view_is in
    let values : c.in-Some.values.now ≡ operands_in count f = c.in-Some.ensures.some ∙ ap (λ (s : List Value). reverse (take count s)) stack in
    let enough : count ≤ length f.stack =
    subst (λ (n : ℕ). count ≤ n) (sym (length-reverse c.frame.inside.stack) ∙ ap length stack) (c.in-Some.ensures.enough.0 refl)
    in
    let comes_to : Completes w.memory c.work.new.memory (operands_in count f) c.in_ok-completed-in-Some.completed (work P w.memory op (operands_in count f)) =
    subst (λ (m : Memory). Completes m c.work.new.memory (operands_in count f) c.in_ok-completed-in-Some.completed (work P m op (operands_in count f))) (sym memory)
    (subst (λ (vs : List Value). Completes c.args.memory.now c.work.new.memory vs c.in_ok-completed-in-Some.completed (work P c.args.memory.now op vs)) values
    (c.in_ok-completed-in-Some.ensures.completed P program resolved))
    in
    completes P w rest c.work.new.memory
    ∙ worked P w f rest op count c.work.new.memory c.in_ok-completed-in-Some.completed (c.arity-count.ensures.operands P resolved) enough comes_to)
    c.complete.ensures.completed

pub returns-in_ok-completed-in-Some-clause-can : goal.returns-in_ok-completed-in-Some-clause-can
returns-in_ok-completed-in-Some-clause-can c = IfOk-weaker c.complete.result _ _
    (λ operated can P program resolved.
    let f = c.args.frame.now in
    let count = c.arity-count.result in
    let stack : reverse c.frame.inside.stack ≡ f.stack = ap (λ (g : MethodState). g.stack) c.frame.view_is in
    let enough : count ≤ length f.stack =
    subst (λ (n : ℕ). count ≤ n) (sym (length-reverse c.frame.inside.stack) ∙ ap length stack) (c.in-Some.ensures.enough.0 refl)
    in
    can c.work.new.memory
    (can_perform c.args.memory.now c.work.new.memory c.in-Some.values.now c.in_ok-completed-in-Some.completed
    (work P c.args.memory.now (op_of c.args.op.now) c.in-Some.values.now)
    (c.in_ok-completed-in-Some.ensures.completed P program resolved)
    c.requires.room
    (λ class is. c.begun_classes_are_not_begun.ensures P c.args.memory.now (op_of c.args.op.now) c.in-Some.values.now class is))
    enough)
    c.complete.ensures.can

pub returns-in-None-clause-operated : goal.returns-in-None-clause-operated
returns-in-None-clause-operated c = λ P w rest program resolved memory.
    let f = c.args.frame.now in
    let op = op_of c.args.op.now in
    let stack : reverse c.frame.inside.stack ≡ f.stack = ap (λ (g : MethodState). g.stack) c.frame.view_is in
    let many = c.arity-count.ensures.operands P resolved in
    let none : c.arity-count.result ≤ length c.frame.inside.stack → ⊥ = λ enough. (let no = c.in-None.ensures.enough.1 enough in absurd cc) in
    sym (few_stuck P w f rest op (λ enough. none
    (subst (λ (n : ℕ). c.arity-count.result ≤ n) (sym (ap length stack) ∙ length-reverse c.frame.inside.stack)
    (subst (λ (n : ℕ). n ≤ length f.stack) (sym many) enough))))
