use Rattle.member_link.proofs.SpecialStarts.{starts_once}
use Rattle.member_link.proofs.laws_chosen.a_special_call_starts_once.Goals as goal

pub returns : goal.returns
returns c = starts_once
