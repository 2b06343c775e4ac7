use Rattle.std.proofs.Common.{◌<◌, Option, ℕ, IsSome, IfSome, sym, subst}
use Rattle.class_tree.specs.Headers.{headers_of}
use Rattle.class_tree.specs.Hierarchy.{height, superclass_of}
use Rattle.class_tree.specs.Laws.Headers.{header_there}
use Rattle.class_tree.specs.declared.place.Place.{Place}
use Rattle.member_link.proofs.SlotNumbers.{IsClimbing, climbing_start, climbing_more, climbing_all}
use Rattle.member_link.proofs.slots.slot_number.Goals as goal

pub loop-next-init : goal.loop-next-init
loop-next-init c = climbing_start (headers_of c.args.tree.now) c.args.field.now c.args.class c.requires

pub loop-next-smaller : goal.loop-next-smaller
loop-next-smaller c =
    let headers = headers_of c.args.tree.now in
    let there = subst (λ (next : Option Place). IsClimbing headers c.args.field.now c.args.class next c.loop-next.number) c.in-Some.is c.loop-next.invariant in
    let class = header_there headers c.in-Some.place there.there in
    subst (λ (next : Option Place). height headers next < height headers c.loop-next.next) (sym c.superclass-next.ensures)
    (subst (λ (next : Option Place). height headers (superclass_of headers c.in-Some.place) < height headers next) (sym c.in-Some.is)
    (c.a_tree_is_a_hierarchy.ensures.falls c.in-Some.place class.0 class.1))

pub loop-next-preserved : goal.loop-next-preserved
loop-next-preserved c =
    let headers = headers_of c.args.tree.now in
    let there = subst (λ (next : Option Place). IsClimbing headers c.args.field.now c.args.class next c.loop-next.number) c.in-Some.is c.loop-next.invariant in
    subst (λ (next : Option Place). IsClimbing headers c.args.field.now c.args.class next c.number_with-number.result) (sym c.superclass-next.ensures)
    (climbing_more headers c.args.field.now c.args.class c.in-Some.place c.loop-next.number c.number_with-number.result c.number_with-number.ensures there)

pub returns : goal.returns
returns c = λ name is.
    climbing_all (headers_of c.args.tree.now) c.args.field.now c.args.class c.loop-next.number c.a_tree_is_a_hierarchy.ensures
    (subst (λ (next : Option Place). IsClimbing (headers_of c.args.tree.now) c.args.field.now c.args.class next c.loop-next.number) c.in_default.is c.loop-next.invariant) name is
