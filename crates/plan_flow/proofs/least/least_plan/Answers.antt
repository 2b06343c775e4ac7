use Rattle.plan_flow.proofs.LeastStarts.{start_listed}
use Rattle.plan_flow.proofs.least.least_plan.Goals as goal

pub iterate-requires-clause-reaching : goal.iterate-requires-clause-reaching
iterate-requires-clause-reaching c =
    start_listed c.args.tree.now c.args.flat.now c.in_ok-heads.heads c.new-work.result c.add.new.self c.new-work.ensures
    (c.in_ok-heads.ensures c.args.tree.now) c.in_ok-add.ensures
