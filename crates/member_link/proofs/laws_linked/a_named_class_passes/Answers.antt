use Rattle.member_link.proofs.ByPlace.{class_passes}
use Rattle.member_link.proofs.laws_linked.a_named_class_passes.Goals as goal

pub returns : goal.returns
returns c = class_passes
