use Rattle.expanded_runs.proofs.TypedAloneLaw.{Laws, flat_typed}
use Rattle.expanded_runs.proofs.laws.a_flat_code_alone_is_typed.Goals as goal
use Rattle.type_rules.specs.MethodBodies.{body_of}

pub returns : goal.returns
returns c =
    let laws : Laws = record {
      types_each = c.a_typed_folder_types_each_method.ensures;
      in_order = c.a_method_stands_in_order.ensures.order;
      places = c.frames_type_a_body_by_its_places.ensures.places;
      types = c.frames_type_a_body_by_its_places.ensures.types;
      edges = λ s frames. c.a_typed_body_goes_to_stated_frames.ensures.edges (body_of s) frames (c.a_method_stands_in_order.ensures.order s) (c.a_method_stands_in_order.ensures.stated s);
    } in
    λ classes typed at flat s types alone there. flat_typed laws classes typed at s flat types alone there
