use Rattle.std.proofs.Common.{◌≡◌, ◌-◌, ◌+◌, ◌++◌, ℕ, List, length, replicate, take, sym, ap, ◌∙◌, arith}
use Rattle.plan_flow.specs.Inner.Fronts.{locals_held}
use Rattle.plan_flow.specs.PlanSlots.{fit_locals}
use Rattle.plan_flow.proofs.LocalUnits.{fit_len, top_behind}
use Rattle.virtual_state.specs.declared.slot.Slot.{Slot}
use Rattle.virtual_state.specs.declared.slot.Slot.TheVariants.{Unusable}
use Rattle.plan_flow.proofs.fronts.locals_behind.Goals as goal

pub of-requires : goal.of-requires
of-requires c =
    let target = c.args.target.now in
    let held = locals_held c.args.state.now c.args.types.now c.args.stored in
    let few = c.listed-count.ensures.few in
    let all = c.requires.also in
    let len = c.len.ensures in
    let list : c.from_vec.result ≡ fit_locals (take c.listed-count.result target) held = c.from_vec.ensures ∙ c.in_ok-listed.ensures in
    let count : length c.from_vec.result ≡ c.listed-count.result = ap {B = ℕ} (λ (slots : List Slot). length slots) list ∙ fit_len c.listed-count.result target held few in
    omega (arith, count, few, all, len)

pub returns : goal.returns
returns c =
    let target = c.args.target.now in
    let held = locals_held c.args.state.now c.args.types.now c.args.stored in
    c.in_ok-locals.ensures
    ∙ (λ i. (c.from_vec.ensures ∙ c.in_ok-listed.ensures) i ++ replicate (c.len.ensures i - c.listed-count.result) Unusable)
    ∙ sym (top_behind c.listed-count.result target held (length target - c.listed-count.result) c.listed-count.ensures.tops)
