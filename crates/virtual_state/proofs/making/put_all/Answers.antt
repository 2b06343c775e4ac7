use Rattle.std.proofs.Common.{[], ◌∷◌, ◌++◌, sym, ap, ◌∙◌}
use Rattle.virtual_state.proofs.Reaching.{put_last}
use Rattle.virtual_state.specs.declared.slot.VObject.{VObject}
use Rattle.virtual_state.proofs.making.put_all.Goals as goal

pub loop-object-preserved : goal.loop-object-preserved
loop-object-preserved c = λ site.
    let fewer = c.pop.new.self.items in
    let is = c.in-Some.ensures.items ∙ ap (λ (object : VObject). fewer ++ object ∷ []) (sym c.in_ok-new.ensures) in
    put_last c.loop-object.left.items fewer c.loop-object.table c.put.new.self c.in_ok-new.field-0 is c.in_ok-put.ensures site ∙ c.loop-object.invariant site
