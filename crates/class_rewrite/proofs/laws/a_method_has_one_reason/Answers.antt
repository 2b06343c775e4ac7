use Rattle.class_rewrite.specs.Laws.OneFolder.{reason_at_is_one}
use Rattle.class_rewrite.proofs.laws.a_method_has_one_reason.Goals as goal

pub returns : goal.returns
returns c = λ r at one other tree has also. reason_at_is_one r (c.a_rewriting_has_one_answer.ensures r tree) at one other has also
