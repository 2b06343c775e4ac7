use Rattle.written_files.proofs.FieldConstructors.Member.{descriptor_named}
use Rattle.written_files.proofs.laws.a_field_constructor_names_classes_that_are_there.Goals as goal

pub returns : goal.returns
returns c = λ headers among constructor class is described there.
    descriptor_named c.parameters_are_spelled.ensures headers among constructor class is described there
