use Rattle.typed_runs.proofs.OnFields.{fields_typed}
use Rattle.typed_runs.proofs.steps.an_instruction_on_fields_stays_typed.Goals as goal

pub returns : goal.returns
returns c = fields_typed (record { one = c.a_look_up_finds_one_field.ensures; above = c.a_found_field_is_above.ensures })
