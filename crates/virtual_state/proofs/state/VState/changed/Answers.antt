use Rattle.std.proofs.Common.{◌≡◌, ◌++◌, [], List, replicate, sym, ap, subst, ◌∙◌}
use Rattle.virtual_state.specs.Making.{CanBeState, IsStateOf}
use Rattle.virtual_state.specs.declared.slot.Slot.{Slot}
use Rattle.virtual_state.specs.declared.slot.Slot.TheVariants.{Unusable}
use Rattle.virtual_state.proofs.state.VState.changed.Goals as goal

pub moved-requires : goal.moved-requires
moved-requires c =
    let none : c.in_ok-front.front ≡ [] = c.in_ok-front.ensures ∙ ap (λ (list : List Slot). list ++ replicate 0 Unusable) c.new.ensures in
    subst (λ (front : List Slot). CanBeState (front ++ c.args.slots) (c.args.objects ++ c.args.self.now.objects)) (sym none) c.requires

pub returns : goal.returns
returns c =
    let none : c.in_ok-front.front ≡ [] = c.in_ok-front.ensures ∙ ap (λ (list : List Slot). list ++ replicate 0 Unusable) c.new.ensures in
    subst (λ (front : List Slot). IsStateOf (front ++ c.args.slots) (c.args.objects ++ c.args.self.now.objects) c.in_ok-state.state) none c.in_ok-state.ensures
