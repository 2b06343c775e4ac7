use Rattle.std.proofs.Common.{◌<◌, length, get_or, arith}
use Rattle.class_tree.proofs.OneOf.{one_at}
use Rattle.class_tree.proofs.graph.NodeSet.add_all.Goals as goal

pub push-requires-clause-node : goal.push-requires-clause-node
push-requires-clause-node c =
    let at = c.loop-node.node-index in
    let low : at < length c.args.nodes.now = omega arith in
    omega (arith, c.loop-node.invariant.0, c.requires (get_or c.args.nodes.now at 0) (one_at c.args.nodes.now at low))
