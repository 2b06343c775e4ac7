use Rattle.typed_programs.proofs.VerifiedPrograms.{program_typed}
use Rattle.typed_programs.proofs.programs.a_verified_folder_is_a_typed_program.Goals as goal

pub returns : goal.returns
returns c = λ classes typed links tree linked types are_links some.
    program_typed
    (record {
      methods = c.a_typed_folder_types_each_method.ensures;
      count = c.a_typed_method_types_each_instruction.ensures.count;
      each = c.a_typed_method_types_each_instruction.ensures.each;
      past = c.a_typed_method_types_each_instruction.ensures.past;
      has = c.frames_type_a_body_by_its_places.ensures.places;
      edges = c.a_typed_body_goes_to_stated_frames.ensures.edges;
      order = c.a_method_stands_in_order.ensures.order;
      stated = c.a_method_stands_in_order.ensures.stated;
    })
    (record {
      references = record {
        named_class = λ s name. (c.a_named_class_passes.ensures s name).0;
        static_field = λ s r. (c.a_field_reference_passes.ensures.of_static s r).0;
        instance_field = λ s r. (c.a_field_reference_passes.ensures.of_instance s r).0;
        call = λ s opcode constant r. (c.a_method_reference_passes.ensures.of_call s opcode constant r).0;
        parameters = record { are = c.parameters_of_bytes_are_spelled.ensures };
      };
      by_place = λ classes. (c.a_linked_folder_passes_by_place.ensures classes).0;
      operands = c.a_class_file_has_read_methods.ensures.operands;
    }) classes typed links (c.classes_of_a_tree_are_a_hierarchy.ensures classes tree) tree linked types are_links some
