use Rattle.type_rules.proofs.EachTyped.{each_method}
use Rattle.type_rules.proofs.laws.a_typed_folder_types_each_method.Goals as goal

pub returns : goal.returns
returns c = each_method
