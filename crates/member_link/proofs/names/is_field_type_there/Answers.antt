use Rattle.class_model.specs.Descriptors.{SpellsFieldType}
use Rattle.class_tree.specs.Headers.{headers_of, IsThere}
use Rattle.member_link.specs.References.{TypeNames}
use Rattle.member_link.proofs.SpelledTypes.{of_spelled}
use Rattle.member_link.proofs.names.is_field_type_there.Goals as goal

pub returns-in-Ok : goal.returns-in-Ok
returns-in-Ok c =
    let spelled = of_spelled SpellsFieldType (TypeNames (IsThere (headers_of c.args.tree.now))) c.args.desc.now c.in-Ok.field_type c.a_text_spells_one_field_type.ensures c.in-Ok.ensures.read in
    (λ yes. spelled.0 (c.is_type_there.ensures.0 yes), λ all. c.is_type_there.ensures.1 (spelled.1 all))
