use Rattle.class_tree.proofs.Placed.{still_placed}
use Rattle.class_tree.proofs.order.place_rest.Goals as goal

pub loop-node-preserved : goal.loop-node-preserved
loop-node-preserved c = still_placed c.args.graph.now c.loop-node.placed c.push.new.self c.in-Some.node c.in_ok-push.ensures.ok c.loop-node.invariant c.in-Some.ensures.0 c.in-Some.ensures.1
