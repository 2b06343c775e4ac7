use Rattle.plan_flow.proofs.AlikeEdges.{alike_behind}
use Rattle.plan_flow.proofs.effects.state_by.Goals as goal

pub returns-in_ok-same-in-Some : goal.returns-in_ok-same-in-Some
returns-in_ok-same-in-Some c = alike_behind c.requires.edges c.in-Some.ensures c.in_ok-same-in-Some.ensures
