use Rattle.code_emit.proofs.DecidedLaws.{leaves_none, leaves_nowhere, leaves_there}
use Rattle.code_emit.proofs.EdgeLaws.{planned_by}
use Rattle.code_emit.proofs.blocks.leaves_to.Goals as goal
use Rattle.plan_flow.specs.declared.edge.EdgeKind.TheVariants as edges

pub returns-then-not-is_decided : goal.returns-then-not-is_decided
returns-then-not-is_decided c = λ links point route are there here.
    leaves_none c.args.setting.now c.args.at c.args.state.now c.flat.result.now c.is_decided.result c.requires.left c.is_decided.ensures c.flat.ensures links point route
    c.if-not-is_decided.true there here

pub returns-in-Some : goal.returns-in-Some
returns-in-Some c = λ links point route are there here.
    let w = c.args.setting.now in
    let given = planned_by c.plan.result.now w.plan c.args.at (edges.Jump 0) c.edge_by.result c.edge_by.ensures c.plan.ensures in
    leaves_there w c.args.at c.args.state.now c.flat.result.now c.is_decided.result c.requires.left c.is_decided.ensures c.flat.ensures c.requires.can
    c.edge_by.result c.in-Some.edge links point route given c.in-Some.is are c.if-not-is_decided.false there here

pub returns-in-None : goal.returns-in-None
returns-in-None c = λ links point route are there here.
    let w = c.args.setting.now in
    let given = planned_by c.plan.result.now w.plan c.args.at (edges.Jump 0) c.edge_by.result c.edge_by.ensures c.plan.ensures in
    leaves_nowhere w c.args.at c.args.state.now c.flat.result.now c.is_decided.result c.requires.left c.is_decided.ensures c.flat.ensures c.requires.can
    c.edge_by.result links point route given c.in-None.is are c.if-not-is_decided.false there here
