use Rattle.std.proofs.Common.{◌<◌, length, sym, ◌∙◌, arith}
use Rattle.class_tree.specs.Headers.{all_headers}
use Rattle.class_tree.proofs.GraphPaths.{some_at}
use Rattle.class_tree.proofs.SupersGraph.{one_class_more}
use Rattle.class_tree.proofs.graph.supers_graph.Goals as goal
use Rattle.class_tree.proofs.graph.supers_graph.Goals.{in-Some+in_ok-supers_of+in_ok-push, in_default}

pub loop-number-preserved : goal.loop-number-preserved
loop-number-preserved c =
    let headers = c.args.headers.now in
    let number = c.loop-number.number in
    let low : number < length (all_headers headers) = omega arith in
    elim c.match-get.branch [
      | in-Some+in_ok-supers_of+in_ok-push w ↦
          rw w.graph-is (one_class_more headers number w.in-Some.header.now c.loop-number.graph w.push.new.self w.as_slice.result.now (sym w.in-Some.ensures) c.loop-number.invariant (w.as_slice.ensures ∙ w.in_ok-supers_of.ensures) w.in_ok-push.ensures)
      | in_default w ↦ absurd (cc (w.in_default.ensures, (some_at (all_headers headers) number low).1))
    ]
