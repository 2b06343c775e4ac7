use Rattle.type_rules.proofs.OneTyping.{one_typing}
use Rattle.type_rules.proofs.laws.a_method_has_one_typing.Goals as goal

pub returns : goal.returns
returns c = one_typing
