use Rattle.type_rules.proofs.StatedFrames.{each_goes, stated_there}
use Rattle.type_rules.proofs.laws.a_typed_body_goes_to_stated_frames.Goals as goal

pub returns-clause-stated : goal.returns-clause-stated
returns-clause-stated c = stated_there

pub returns-clause-edges : goal.returns-clause-edges
returns-clause-edges c = each_goes
