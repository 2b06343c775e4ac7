use Rattle.std.proofs.Common.{◌≡◌, ◌+◌, List, Option, None, length, replicate, sym, ap, subst, ◌∙◌, arith, rules, ℕ}
use Rattle.virtual_state.specs.States.{State}
use Rattle.plan_flow.proofs.HeadMarks.{blank_holds}
use Rattle.plan_flow.proofs.PointLists.{AreNone, none_all, none_first, none_more}
use Rattle.plan_flow.proofs.head_states.HeadStates.new.Goals as goal

pub loop-at-init : goal.loop-at-init
loop-at-init c =
    subst (λ (list : List (Option State)). AreNone list 0 c.len-count.result) (sym c.in_ok-states.ensures.items) (none_first c.len-count.result)

pub loop-at-preserved : goal.loop-at-preserved
loop-at-preserved c =
    subst (λ (list : List (Option State)). AreNone list (c.loop-at._at + 1) c.len-count.result) (sym c.in_ok-push.ensures.items)
    (none_more c.loop-at.states.items c.loop-at._at c.len-count.result c.loop-at.invariant (omega (arith, c.loop-at-test.true)))

pub invariant_of-result : goal.invariant_of-result
invariant_of-result c =
    let len : c.len-count.result ≡ length c.args.heads.items = search rules in
    blank_holds c.args.heads.items c.loop-at.states.items c.len-count.result len
    (none_all c.loop-at.states.items c.loop-at._at c.len-count.result c.loop-at.invariant (omega (arith, c.loop-at-test.false)))

pub returns : goal.returns
returns c =
    let len : c.len-count.result ≡ length c.args.heads.items = search rules in
    let blank = none_all c.loop-at.states.items c.loop-at._at c.len-count.result c.loop-at.invariant (omega (arith, c.loop-at-test.false)) in
    let states : c.loop-at.states.items ≡ replicate (length c.args.heads.items) None = blank ∙ ap (λ (count : ℕ). replicate {A = Option State} count None) len in
    λ i. record { heads = c.args.heads.items; states = states i }
