use Rattle.typed_programs.proofs.LinkedCode.{links_instrs}
use Rattle.typed_programs.proofs.programs.linked_instructions_have_linked_operations.Goals as goal

pub returns : goal.returns
returns c = λ classes links tree are_links some.
    links_instrs
    (record {
      named_class = λ s name. (c.a_named_class_passes.ensures s name).0;
      static_field = λ s r. (c.a_field_reference_passes.ensures.of_static s r).0;
      instance_field = λ s r. (c.a_field_reference_passes.ensures.of_instance s r).0;
      call = λ s opcode constant r. (c.a_method_reference_passes.ensures.of_call s opcode constant r).0;
      parameters = record { are = c.parameters_of_bytes_are_spelled.ensures };
    }) classes links are_links (c.classes_of_a_tree_are_a_hierarchy.ensures classes tree) tree some
