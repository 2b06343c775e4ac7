use Rattle.expanded_runs.proofs.Ready.CarriedPoints.{carries_constants}
use Rattle.expanded_runs.proofs.Types.OwnPoints.{TypingLaws}
use Rattle.expanded_runs.proofs.laws.an_expanded_flat_code_carries_constants.Goals as goal
use Rattle.type_rules.specs.MethodBodies.{body_of}

pub returns : goal.returns
returns c = λ classes typed at flat types is.
    let typing : TypingLaws = record {
      types_each = c.a_typed_folder_types_each_method.ensures;
      in_order = c.a_method_stands_in_order.ensures.order;
      places = c.frames_type_a_body_by_its_places.ensures.places;
      edges = λ s frames.
          c.a_typed_body_goes_to_stated_frames.ensures.edges (body_of s) frames (c.a_method_stands_in_order.ensures.order s)
          (c.a_method_stands_in_order.ensures.stated s);
    } in
    carries_constants typing c.a_typed_method_types_each_instruction.ensures.count classes typed at flat types is
