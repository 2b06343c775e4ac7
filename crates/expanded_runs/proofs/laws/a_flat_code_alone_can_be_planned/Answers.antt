use Rattle.expanded_runs.proofs.Plans.PlannedFlats.{alone_fits, alone_flows, alone_locals}
use Rattle.expanded_runs.proofs.Types.OwnPoints.{TypingLaws}
use Rattle.expanded_runs.proofs.laws.a_flat_code_alone_can_be_planned.Goals as goal
use Rattle.type_rules.specs.MethodBodies.{body_of}

typing : goal.After-a_typed_body_goes_to_stated_frames → TypingLaws
typing c = record {
  types_each = c.a_typed_folder_types_each_method.ensures;
  in_order = c.a_method_stands_in_order.ensures.order;
  places = c.frames_type_a_body_by_its_places.ensures.places;
  edges = λ s frames.
      c.a_typed_body_goes_to_stated_frames.ensures.edges (body_of s) frames (c.a_method_stands_in_order.ensures.order s)
      (c.a_method_stands_in_order.ensures.stated s);
}

pub returns-clause-flows : goal.returns-clause-flows
returns-clause-flows c = λ classes typed at flat tree types is.
    alone_flows (typing c) c.a_typed_method_types_each_instruction.ensures.count c.a_class_file_has_read_methods.ensures.methods tree types at flat is

pub returns-clause-locals : goal.returns-clause-locals
returns-clause-locals c = λ classes typed at flat tree types is.
    alone_locals (typing c) c.a_typed_method_types_each_instruction.ensures.count c.a_class_file_has_read_methods.ensures.methods tree types at flat is

pub returns-clause-narrow : goal.returns-clause-narrow
returns-clause-narrow c = λ classes typed at flat tree types is.
    alone_fits (typing c) c.a_typed_method_types_each_instruction.ensures.count c.a_class_file_has_read_methods.ensures.methods tree types at flat is
