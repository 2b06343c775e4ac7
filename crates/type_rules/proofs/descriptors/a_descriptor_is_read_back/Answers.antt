use Rattle.type_rules.proofs.TypeTexts.{result_spelled}
use Rattle.type_rules.proofs.descriptors.a_descriptor_is_read_back.Goals as goal

pub returns : goal.returns
returns c = λ text descriptor spells.
    let params = c.parameters_are_spelled.ensures text descriptor spells in
    (params, result_spelled text descriptor params spells)
