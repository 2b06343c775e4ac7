use Rattle.std.proofs.Common.{IfSome}
use Rattle.std.specs.List.{AllByRecursion}
use Rattle.class_model.specs.Descriptors.{SpellsDescriptor}
use Rattle.class_model.specs.declared.descriptor.Descriptor.{Descriptor}
use Rattle.class_model.specs.declared.descriptor.FieldType.{FieldType}
use Rattle.class_tree.specs.Headers.{headers_of, IsThere}
use Rattle.member_link.specs.References.{TypeNames}
use Rattle.member_link.proofs.SpelledTypes.{of_spelled}
use Rattle.member_link.proofs.names.is_descriptor_there.Goals as goal

pub returns-in-Ok : goal.returns-in-Ok
returns-in-Ok c =
    let Asked : FieldType → Type 0 = TypeNames (IsThere (headers_of c.args.tree.now)) in
    let spelled = of_spelled SpellsDescriptor (λ (d : Descriptor). AllByRecursion Asked d.params × IfSome d.result Asked) c.args.desc.now c.in-Ok.descriptor c.a_text_spells_one_descriptor.ensures c.in-Ok.ensures.read in
    (λ yes. spelled.0 (c.are_types_there.ensures.0 yes), λ all. c.are_types_there.ensures.1 (spelled.1 all))
