use Rattle.typed_runs.proofs.OnCalls.{calls_next_typed}
use Rattle.typed_runs.proofs.steps.a_call_stays_typed.Goals as goal

pub returns : goal.returns
returns c = calls_next_typed (record { finds_one = c.a_look_up_finds_one_method.ensures; finds_above = c.a_found_method_is_above.ensures })
