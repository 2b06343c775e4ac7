use Rattle.inline_expand.proofs.OneExpansion.{one_flat_code}
use Rattle.inline_expand.proofs.laws.a_method_has_one_expanded_flat_code.Goals as goal

pub returns : goal.returns
returns c = λ classes typed at flat other hierarchy is is_also.
    one_flat_code (λ s offset one also calls calls_also. c.a_call_runs_one_method.ensures classes s offset one also hierarchy calls calls_also) is is_also
