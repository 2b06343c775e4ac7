use Rattle.plan_flow.proofs.EdgeKinds.{marked_by}
use Rattle.plan_flow.proofs.plan.own_by.Goals as goal

pub counted_by-requires : goal.counted_by-requires
counted_by-requires c = marked_by c.args.counted c.args.edges.now c.if-counted.true c.requires
