use Rattle.type_rules.proofs.ByPlace.{by_place, from_places}
use Rattle.type_rules.proofs.laws.frames_type_a_body_by_its_places.Goals as goal

pub returns-clause-places : goal.returns-clause-places
returns-clause-places c = by_place

pub returns-clause-types : goal.returns-clause-types
returns-clause-types c = λ b frames order has. from_places b frames has order
