use Rattle.std.proofs.Common.{◌≡◌, ◌+◌, ◌++◌, ◌∷◌, [], ℕ, suc, take, sym, ap, ◌∙◌, arith, rules}
use Rattle.std.specs.Option.{option_copied}
use Rattle.plan_flow.proofs.AllStates.{took_one}
use Rattle.plan_flow.proofs.Opening.{got_inside}
use Rattle.plan_flow.proofs.PointLists.{took_all}
use Rattle.plan_flow.proofs.head_states.all_of.Goals as goal

pub loop-state-smaller : goal.loop-state-smaller
loop-state-smaller c =
    let low = got_inside c.args.states.now c.loop-state.number c.in-Some.state.now (sym c.state_at.ensures ∙ ap option_copied c.in-Some.is) in
    omega (arith, low)

pub overflow_add-number : goal.overflow_add-number
overflow_add-number c =
    let low = got_inside c.args.states.now c.loop-state.number c.in-Some.state.now (sym c.state_at.ensures ∙ ap option_copied c.in-Some.is) in
    search rules

pub loop-state-preserved : goal.loop-state-preserved
loop-state-preserved c =
    let list = c.args.states.now in
    let number = c.loop-state.number in
    let next : suc number ≡ number + 1 = omega arith in
    c.in_ok-push.ensures.items
    ∙ (λ i. c.loop-state.invariant i ++ c.in_ok-copy.ensures i ∷ [])
    ∙ took_one list number c.in-Some.state.now (sym c.state_at.ensures ∙ ap option_copied c.in-Some.is)
    ∙ ap (λ (count : ℕ). take count list) next

pub returns : goal.returns
returns c =
    c.loop-state.invariant ∙ took_all c.args.states.now c.loop-state.number (sym c.state_at.ensures ∙ ap option_copied c.in_default.is)
