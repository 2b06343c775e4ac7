use Rattle.std.proofs.Common.{ℕ, [], ◌∷◌, replicate, ap, ◌∙◌}
use Rattle.virtual_state.specs.declared.slot.Slot.TheVariants.{Plain}
use Rattle.virtual_state.specs.declared.slot.VObject.{VObject}
use Rattle.plan_flow.proofs.changes.new_object.Goals as goal

pub returns : goal.returns
returns c = λ classes links state.
    c.in_ok-list.ensures
    ∙ ap (λ (o : VObject). o ∷ [])
    (c.in_ok-object.ensures
    ∙ ap (λ (count : ℕ). let o : VObject = record { site = c.args.site; fields = replicate count Plain; depth = 0 } in o) (c.field_count.ensures classes links))
