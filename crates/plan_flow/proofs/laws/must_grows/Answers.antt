use Rattle.plan_flow.proofs.MustLaws.{must_grown, must_is_one}
use Rattle.plan_flow.proofs.laws.must_grows.Goals as goal

pub returns-clause-grows : goal.returns-clause-grows
returns-clause-grows c = must_grown

pub returns-clause-one : goal.returns-clause-one
returns-clause-one c = must_is_one
