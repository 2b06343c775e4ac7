use Rattle.expanded_runs.proofs.Types.FlatClasses.{flat_framed}
use Rattle.expanded_runs.proofs.Types.KnownTypes.{NameLaws}
use Rattle.expanded_runs.proofs.Types.OwnPoints.{TypingLaws}
use Rattle.expanded_runs.proofs.named.expanded_flat_codes_have_framed_names.Goals as goal
use Rattle.type_rules.specs.MethodBodies.{body_of}

typing : goal.After-a_typed_body_goes_to_stated_frames → TypingLaws
typing c = record {
  types_each = c.a_typed_folder_types_each_method.ensures;
  in_order = c.a_method_stands_in_order.ensures.order;
  places = c.frames_type_a_body_by_its_places.ensures.places;
  edges = λ s frames. c.a_typed_body_goes_to_stated_frames.ensures.edges (body_of s) frames (c.a_method_stands_in_order.ensures.order s)
      (c.a_method_stands_in_order.ensures.stated s);
}

names : goal.After-a_typed_body_goes_to_stated_frames → NameLaws
names c = record {
  descriptors = record { parameters = c.parameters_are_spelled.ensures; of_text = c.a_descriptor_of_a_text.ensures };
  by_place = λ classes linked. (c.a_linked_folder_passes_by_place.ensures classes).0 linked;
  methods = c.a_class_file_has_read_methods.ensures.methods;
  operands = c.a_class_file_has_read_methods.ensures.operands;
}

pub returns : goal.returns
returns c = λ classes typed at flat s tree linked folder is sites ready.
    flat_framed (names c) tree linked (c.classes_of_a_tree_are_a_hierarchy.ensures classes tree) (typing c) folder at flat s is sites ready
