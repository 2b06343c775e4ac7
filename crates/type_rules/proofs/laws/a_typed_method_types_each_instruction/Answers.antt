use Rattle.type_rules.proofs.EachTyped.{each_instruction, frames_counted, nothing_flows_past}
use Rattle.type_rules.proofs.laws.a_typed_method_types_each_instruction.Goals as goal

pub returns-clause-count : goal.returns-clause-count
returns-clause-count c = frames_counted

pub returns-clause-each : goal.returns-clause-each
returns-clause-each c = each_instruction

pub returns-clause-past : goal.returns-clause-past
returns-clause-past c = nothing_flows_past
