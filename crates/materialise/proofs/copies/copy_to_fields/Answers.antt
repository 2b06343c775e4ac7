use Rattle.std.proofs.Common.{◌≡◌, ◌+◌, ◌<◌, ◌∷◌, ℕ, List, length, sym, ap, subst, ◌∙◌, arith}
use Rattle.std.specs.List.{flat_map}
use Rattle.making_code.specs.MakeCode.{copy_object}
use Rattle.materialise.proofs.CodeLaws.{writes_all, writes_first, writes_more}
use Rattle.materialise.proofs.ObjectLists.{all_objects, first_from, none_from, objects_from}
use Rattle.materialise.proofs.copies.copy_to_fields.Goals as goal
use Rattle.materialise.specs.Inner.CodeWords.{WritesRest}
use Rattle.virtual_state.specs.Sites.{IsSiteFrom}
use Rattle.virtual_state.specs.declared.slot.VObject.{VObject}

pub loop-site-init : goal.loop-site-init
loop-site-init c =
    let objects = c.args.state.now.objects in
    let of = copy_object c.args.sites.now in
    subst (λ (list : List VObject). WritesRest c.args.units.now c.args.instrs.now.items (flat_map of objects) c.args.instrs.now.items (flat_map of list)) (sym (all_objects objects))
    (writes_first c.args.units.now c.args.instrs.now.items (flat_map of objects))

pub loop-site-smaller : goal.loop-site-smaller
loop-site-smaller c =
    let objects = c.args.state.now.objects in
    let first = first_from objects c.loop-site.from c.in-Some.site c.is_state.ensures.order c.in-Some.ensures in
    let longer : length (objects_from c.loop-site.from objects) ≡ length (first.object ∷ objects_from (c.in-Some.site + 1) objects) = ap length first.is in
    let same : length (objects_from (c.from-from.result + 1) objects) ≡ length (objects_from (c.in-Some.site + 1) objects) =
    ap (λ (n : ℕ). length (objects_from (n + 1) objects)) c.from-from.ensures in
    let less : length (objects_from (c.from-from.result + 1) objects) < length (objects_from c.loop-site.from objects) = omega (arith, longer, same) in
    less

pub loop-site-preserved : goal.loop-site-preserved
loop-site-preserved c =
    let objects = c.args.state.now.objects in
    let of = copy_object c.args.sites.now in
    let first = first_from objects c.loop-site.from c.in-Some.site c.is_state.ensures.order c.in-Some.ensures in
    let split = first.is ∙ ap (λ (n : ℕ). first.object ∷ objects_from (n + 1) objects) (sym c.from-from.ensures) in
    writes_more c.args.units.now c.args.instrs.now.items c.loop-site.instrs.items c.copy_to_object.new.instrs.items (flat_map of objects) (of first.object)
    (flat_map of (objects_from (c.from-from.result + 1) objects)) (flat_map of (objects_from c.loop-site.from objects)) c.loop-site.invariant
    (ap (flat_map of) split) (c.in_ok-copy_to_object.ensures first.object first.there)

pub returns : goal.returns
returns c =
    let objects = c.args.state.now.objects in
    let of = copy_object c.args.sites.now in
    let none = none_from objects c.loop-site.from c.is_state.ensures.order (subst (IsSiteFrom objects c.loop-site.from) c.in_default.is c.site_from.ensures) in
    writes_all c.args.units.now c.args.instrs.now.items c.loop-site.instrs.items (flat_map of objects) (flat_map of (objects_from c.loop-site.from objects)) c.loop-site.invariant
    (ap (flat_map of) none)
