use Rattle.std.proofs.Common.{get_or, arith}
use Rattle.class_tree.proofs.Placed.{still_placed}
use Rattle.class_tree.proofs.order.place_hinted.Goals as goal
use Rattle.class_tree.proofs.order.place_hinted.Goals.{then-node-len+then-can_follow+in_ok-push, else-node-len}

pub loop-node-preserved : goal.loop-node-preserved
loop-node-preserved c =
    let graph = c.args.graph.now in
    let node = get_or c.args.hint.now c.loop-node.node-index 0 in
    elim c.if-node-len.branch [
      | then-node-len+then-can_follow+in_ok-push w ↦
          rw w.placed-is (still_placed graph c.loop-node.placed w.push.new.self node w.in_ok-push.ensures.ok c.loop-node.invariant (omega arith) w.if-can_follow.ensures)
      | else-node-len w ↦ rw w.placed-is c.loop-node.invariant
    ]
