use Rattle.type_rules.proofs.Grown.Replaced.{cleared_grown, replaced_grown}
use Rattle.type_rules.proofs.laws.a_replaced_program_has_grown_classes.Goals as goal

pub returns-clause-added : goal.returns-clause-added
returns-clause-added c = λ P r new. replaced_grown r P new

pub returns-clause-cleared : goal.returns-clause-cleared
returns-clause-cleared c = λ P r none. cleared_grown r P none
