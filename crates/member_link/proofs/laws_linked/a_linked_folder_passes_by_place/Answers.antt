use Rattle.member_link.proofs.ByPlace.{linked_by_place}
use Rattle.member_link.proofs.laws_linked.a_linked_folder_passes_by_place.Goals as goal

pub returns : goal.returns
returns c = linked_by_place
