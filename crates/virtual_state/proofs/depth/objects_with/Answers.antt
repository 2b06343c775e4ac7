use Rattle.std.proofs.Common.{◌≡◌, Some, List, ap, subst, ◌∙◌}
use Rattle.virtual_state.proofs.Depths.{put_is_redepth}
use Rattle.virtual_state.specs.Inner.Tables.{HasSet}
use Rattle.virtual_state.specs.declared.slot.Slot.{Slot}
use Rattle.virtual_state.specs.declared.slot.VObject.{VObject}
use Rattle.virtual_state.proofs.depth.objects_with.Goals as goal

pub returns : goal.returns
returns c =
    let state = c.args.state.now in
    let object = c.args.object.now in
    let fields : c.from_vec.result ≡ object.fields = c.from_vec.ensures ∙ c.in_ok-fields.ensures.items ∙ c.as_slice.ensures in
    let is : c.in_ok-new.field-0 ≡ record object { depth = c.args.depth } = c.in_ok-new.ensures ∙ ap (λ (list : List Slot). record object { fields = list; depth = c.args.depth }) fields in
    let before : c.in_ok-objects.objects ≡ state.objects = c.in_ok-objects.ensures ∙ c.objects.ensures in
    let put = subst (λ (one : VObject). HasSet c.in_ok-objects.objects c.put.new.self one.site (Some one)) is c.in_ok-put.ensures in
    let has = subst (λ (objects : List VObject). HasSet objects c.put.new.self object.site (Some (record object { depth = c.args.depth }))) before put in
    put_is_redepth state.objects c.put.new.self object c.args.depth c.is_state.ensures.order c.is_in_order.ensures c.requires has
