use Rattle.std.proofs.Common.{List, sym, ap, ◌∙◌}
use Rattle.std.specs.List.{filter}
use Rattle.virtual_state.specs.Inner.Listed.{holds_object}
use Rattle.virtual_state.proofs.Fronts.{held_listed}
use Rattle.virtual_state.specs.declared.slot.Slot.{Slot}
use Rattle.virtual_state.proofs.front.FrontSlots.held.Goals as goal

pub returns : goal.returns
returns c =
    let listed = c.self.inside.listed.value in
    c.held.ensures
    ∙ ap (λ (slots : List Slot). filter holds_object slots) c.deref.ensures
    ∙ sym (held_listed c.args.self.now listed c.self.inside.unusable (sym c.self.view_is))
