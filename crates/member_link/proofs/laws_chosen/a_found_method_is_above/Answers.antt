use Rattle.member_link.proofs.DeclaredAbove.{method_above}
use Rattle.member_link.proofs.laws_chosen.a_found_method_is_above.Goals as goal

pub returns : goal.returns
returns c = λ headers class name desc method hierarchy finds. method_above headers hierarchy name desc class method finds
