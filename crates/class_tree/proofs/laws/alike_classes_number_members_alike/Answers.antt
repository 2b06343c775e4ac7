use Rattle.class_tree.proofs.AlikePlaces.{alike_fields, alike_methods}
use Rattle.class_tree.proofs.laws.alike_classes_number_members_alike.Goals as goal

pub returns-clause-fields : goal.returns-clause-fields
returns-clause-fields c = alike_fields

pub returns-clause-methods : goal.returns-clause-methods
returns-clause-methods c = alike_methods
