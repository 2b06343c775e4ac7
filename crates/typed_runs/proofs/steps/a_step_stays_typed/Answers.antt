use Rattle.typed_runs.proofs.EachStep.{each_step_typed}
use Rattle.typed_runs.proofs.steps.a_step_stays_typed.Goals as goal

pub returns : goal.returns
returns c = each_step_typed (record {
  operands = c.an_instruction_on_operands_stays_typed.ensures;
  arrays = c.an_instruction_on_arrays_stays_typed.ensures;
  objects = c.a_new_object_stays_typed.ensures;
  fields = c.an_instruction_on_fields_stays_typed.ensures;
  calls = c.a_call_stays_typed.ensures;
  ends = c.a_return_stays_typed.ensures;
  throws = c.a_throw_stays_typed.ensures;
  beginnings = c.a_step_of_a_beginning_stays_typed.ensures;
})
