use Rattle.member_link.proofs.MethodsOnce.{method_once}
use Rattle.member_link.proofs.laws.a_look_up_finds_one_method.Goals as goal

pub returns : goal.returns
returns c = method_once
