use Rattle.member_link.proofs.DeclaredAbove.{field_above}
use Rattle.member_link.proofs.laws_chosen.a_found_field_is_above.Goals as goal

pub returns : goal.returns
returns c = λ headers class name desc field hierarchy finds. field_above headers name desc hierarchy class field finds
