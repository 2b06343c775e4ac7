use Rattle.std.proofs.Common.{rules, arith, ◌≡◌, ◌++◌, sym, subst, ◌∙◌}
use Rattle.std.proofs.lemmas.Grind.{common_steps}
use Rattle.virtual_state.proofs.Depths.{with_depth_is_state, with_depth_parts}
use Rattle.virtual_state.specs.States.{IsState}
use Rattle.virtual_state.proofs.depth.with_object.Goals as goal

pub from_parts-requires : goal.from_parts-requires
from_parts-requires c =
    let state = c.args.state.now in
    let site = c.args.object.now.site in
    let back : c.in_ok-back.back.value ≡ c.slot_parts.result.1.now.value = first_of (search rules, grind (arith, common_steps)) in
    let same : c.in_ok-front.front ++ c.in_ok-back.back.value ≡ state.slots = (λ i. c.in_ok-front.ensures i ++ back i) ∙ sym c.slot_parts.ensures in
    let whole = with_depth_parts state site c.args.depth (c.in_ok-front.front ++ c.in_ok-back.back.value) c.in_ok-objects-2.objects.value same (c.in_ok-objects-2.ensures.ok ∙ c.in_ok-objects.ensures) in
    subst IsState (sym whole) (with_depth_is_state site (λ _. c.args.depth) state c.is_state.ensures)

pub returns : goal.returns
returns c =
    let state = c.args.state.now in
    let site = c.args.object.now.site in
    let back : c.in_ok-back.back.value ≡ c.slot_parts.result.1.now.value = first_of (search rules, grind (arith, common_steps)) in
    let same : c.in_ok-front.front ++ c.in_ok-back.back.value ≡ state.slots = (λ i. c.in_ok-front.ensures i ++ back i) ∙ sym c.slot_parts.ensures in
    c.from_parts.ensures
    ∙ with_depth_parts state site c.args.depth (c.in_ok-front.front ++ c.in_ok-back.back.value) c.in_ok-objects-2.objects.value same (c.in_ok-objects-2.ensures.ok ∙ c.in_ok-objects.ensures)
