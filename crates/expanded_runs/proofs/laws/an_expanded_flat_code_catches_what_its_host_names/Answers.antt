use Rattle.expanded_runs.proofs.Ready.CaughtNames.{named_catches}
use Rattle.expanded_runs.proofs.Types.OwnPoints.{TypingLaws}
use Rattle.expanded_runs.proofs.laws.an_expanded_flat_code_catches_what_its_host_names.Goals as goal
use Rattle.type_rules.specs.MethodBodies.{body_of}

pub returns : goal.returns
returns c = λ classes typed at flat s types is there.
    let typing : TypingLaws = record {
      types_each = c.a_typed_folder_types_each_method.ensures;
      in_order = c.a_method_stands_in_order.ensures.order;
      places = c.frames_type_a_body_by_its_places.ensures.places;
      edges = λ one frames.
          c.a_typed_body_goes_to_stated_frames.ensures.edges (body_of one) frames (c.a_method_stands_in_order.ensures.order one)
          (c.a_method_stands_in_order.ensures.stated one);
    } in
    named_catches typing c.a_typed_method_types_each_instruction.ensures.count classes typed at flat s types is there
