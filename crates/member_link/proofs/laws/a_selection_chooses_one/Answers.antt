use Rattle.member_link.proofs.SelectsOnce.{selects_once}
use Rattle.member_link.proofs.laws.a_selection_chooses_one.Goals as goal

pub returns : goal.returns
returns c = selects_once
