use Rattle.std.proofs.Common.{rules, ◌≡◌, List, Some, slice_get, sym, ap, subst, ◌∙◌}
use Rattle.std.specs.Result.{IsErrOf}
use Rattle.flow_code.specs.FlatCode.{FlatCode}
use Rattle.flow_code.specs.declared.point.Site.{Site}
use Rattle.flow_code.specs.declared.reason.KeptFault.TheVariants.{Kept}
use Rattle.making_code.specs.Constants.{Need}
use Rattle.materialise.proofs.ObjectCode.{one_made, one_needs}
use Rattle.materialise.proofs.objects.make_object_of.Goals as goal
use Rattle.materialise.specs.Growing.{IsFull}
use Rattle.materialise.specs.Inner.CodeWords.{WritesObject}
use Rattle.virtual_state.specs.declared.slot.VObject.{VObject}

pub returns-in_err-made-clause-full : goal.returns-in_err-made-clause-full
returns-in_err-made-clause-full c = λ reason constructor is described.
    let flat = c.args.units.now in
    let one = c.in-Some-get.one.now in
    let there : slice_get flat.sites c.args.site ≡ Some one =
    ap (λ (list : List Site). slice_get list c.args.site) (sym (c.sites.ensures ∙ ap (λ (f : FlatCode). f.sites) c.flat.ensures.flat)) ∙ ap (slice_get c.sites.result.now) (sym c.from.ensures) ∙ sym c.in-Some-get.ensures in
    let fails : IsErrOf c.add_made.result (Kept reason) = search rules in
    subst (λ (needs : List Need). IsFull c.args.pool.now needs reason)
    (one_needs constructor flat c.args.state.now c.args.site c.in-Some.object.now.value one (sym c.in-Some.ensures) there)
    (c.add_made.ensures.full reason constructor fails described)

pub returns-clause-ok : goal.returns-clause-ok
returns-clause-ok c = λ constructor described.
    let flat = c.args.units.now in
    let one = c.in-Some-get.one.now in
    let object = c.in-Some.object.now.value in
    let there : slice_get flat.sites c.args.site ≡ Some one =
    ap (λ (list : List Site). slice_get list c.args.site) (sym (c.sites.ensures ∙ ap (λ (f : FlatCode). f.sites) c.flat.ensures.flat)) ∙ ap (slice_get c.sites.result.now) (sym c.from.ensures) ∙ sym c.in-Some-get.ensures in
    let written = subst (λ (o : VObject). WritesObject flat c.args.instrs.now.items o one c.in_ok-made.made.class c.in_ok-made.made.constructor c.write_object.new.instrs.items) c.as_ref.ensures c.in_ok-write_object.ensures in
    one_made constructor flat c.args.state.now c.args.site object one c.args.pool.now c.add_made.new.pool c.args.instrs.now.items c.write_object.new.instrs.items
    c.in_ok-made.made.class c.in_ok-made.made.constructor (sym c.in-Some.ensures) there (c.in_ok-made.ensures.ok constructor described) (c.in_ok-made.ensures.indices constructor described) written
