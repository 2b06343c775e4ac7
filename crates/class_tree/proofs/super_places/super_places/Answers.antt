use Rattle.std.proofs.Common.{◌<◌, length, sym, arith}
use Rattle.class_tree.specs.Headers.{all_headers}
use Rattle.class_tree.specs.Inner.Nodes.{super_place}
use Rattle.class_tree.proofs.ClassHolds.{class_holds}
use Rattle.class_tree.proofs.GraphPaths.{some_at}
use Rattle.class_tree.proofs.HierarchyChecks.{targets_at}
use Rattle.class_tree.proofs.SupersGraph.{one_more}
use Rattle.class_tree.proofs.super_places.super_places.Goals as goal
use Rattle.class_tree.proofs.super_places.super_places.Goals.{in-Some+in_ok-push, in_default}

pub super_place-requires-clause-there : goal.super_place-requires-clause-there
super_place-requires-clause-there c =
    (class_holds c.args.headers.now c.requires.hierarchy c.loop-number.number c.in-Some.header.now (sym c.in-Some.ensures)).there

pub super_place-requires-clause-above : goal.super_place-requires-clause-above
super_place-requires-clause-above c =
    targets_at c.args.headers.now c.args.graph.now c.loop-number.number c.in-Some.header.now _ c.requires.graph (sym c.in-Some.ensures) c.get-in-Some.ensures

pub loop-number-preserved : goal.loop-number-preserved
loop-number-preserved c =
    let headers = c.args.headers.now in
    let number = c.loop-number.number in
    let low : number < length (all_headers headers) = omega arith in
    elim c.match-get.branch [
      | in-Some+in_ok-push w ↦
          rw w.places-is (one_more (super_place headers) (all_headers headers) number w.in-Some.header.now c.loop-number.places.items w.push.new.self.items w.super_place.result (sym w.in-Some.ensures) c.loop-number.invariant w.super_place.ensures w.in_ok-push.ensures.items)
      | in_default w ↦ absurd (cc (w.in_default.ensures, (some_at (all_headers headers) number low).1))
    ]
