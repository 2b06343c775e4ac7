use Rattle.plan_flow.proofs.EffectGrows.{effect_covered, effect_is_one}
use Rattle.plan_flow.proofs.laws.effect_grows.Goals as goal

pub returns-clause-grows : goal.returns-clause-grows
returns-clause-grows c = effect_covered

pub returns-clause-one : goal.returns-clause-one
returns-clause-one c = effect_is_one
