use Rattle.std.proofs.Common.{List, Option, Some, sym, subst}
use Rattle.class_tree.specs.Headers.{headers_of}
use Rattle.class_tree.specs.Hierarchy.{superclass_of}
use Rattle.class_tree.specs.Laws.Headers.{superclass_there}
use Rattle.class_tree.specs.Order.{header_at}
use Rattle.class_tree.specs.declared.place.Place.{Place}
use Rattle.std.specs.Prelude.{IsSome, IfSome}
use Rattle.machine_heap.specs.Inner.Climbs.{Climbs}
use Rattle.machine_heap.proofs.ClimbedFields.{climb_more}
use Rattle.machine_heap.proofs.blanks.places_up.Goals as goal

-- src/blanks.rt:92:5
pub loop-next-preserved : goal.loop-next-preserved
loop-next-preserved c =
    let headers = headers_of c.args.tree.now in
    let from = Some c.args.class in
    let climbs = subst (Climbs headers from c.loop-next.places.items) c.in-Some.is c.loop-next.invariant.0 in
    let pushed = subst (λ (places : List Place). Climbs headers from places (superclass_of headers c.in-Some.place)) (sym c.in_ok-push.ensures.items) (climb_more headers from c.loop-next.places.items c.in-Some.place climbs) in (
      subst (Climbs headers from c.push.new.self.items) (sym c.superclass-next.ensures) pushed,
      subst (λ (next : Option Place). IfSome next (λ place. IsSome (header_at headers place))) (sym c.superclass-next.ensures) (superclass_there headers c.in-Some.place),
    )
