use Rattle.type_rules.proofs.Grown.Files.{class_itself, folder_grown, header_grown}
use Rattle.type_rules.proofs.laws.a_grown_class_has_a_grown_header.Goals as goal

pub returns-clause-class : goal.returns-clause-class
returns-clause-class c = header_grown

pub returns-clause-folder : goal.returns-clause-folder
returns-clause-folder c = folder_grown

pub returns-clause-itself : goal.returns-clause-itself
returns-clause-itself c = class_itself
