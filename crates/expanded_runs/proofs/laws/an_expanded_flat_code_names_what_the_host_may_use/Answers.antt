use Rattle.expanded_runs.proofs.Ready.UsableCatches.{usable_catches}
use Rattle.expanded_runs.proofs.Ready.UsablePoints.{usable_code}
use Rattle.expanded_runs.proofs.Types.OwnPoints.{TypingLaws}
use Rattle.expanded_runs.proofs.laws.an_expanded_flat_code_names_what_the_host_may_use.Goals as goal
use Rattle.type_rules.specs.MethodBodies.{body_of}

typing : goal.After-a_typed_body_goes_to_stated_frames → TypingLaws
typing c = record {
  types_each = c.a_typed_folder_types_each_method.ensures;
  in_order = c.a_method_stands_in_order.ensures.order;
  places = c.frames_type_a_body_by_its_places.ensures.places;
  edges = λ s frames. c.a_typed_body_goes_to_stated_frames.ensures.edges (body_of s) frames (c.a_method_stands_in_order.ensures.order s)
      (c.a_method_stands_in_order.ensures.stated s);
}

pub returns-clause-code : goal.returns-clause-code
returns-clause-code c = λ classes typed at flat s linked types is is_scope.
    usable_code (typing c) c.a_typed_method_types_each_instruction.ensures.count classes
    ((c.a_linked_folder_passes_by_place.ensures classes).0 linked) typed at flat s types is is_scope

pub returns-clause-catches : goal.returns-clause-catches
returns-clause-catches c = λ classes typed at flat s linked types is is_scope.
    usable_catches (typing c) c.a_typed_method_types_each_instruction.ensures.count classes
    ((c.a_linked_folder_passes_by_place.ensures classes).0 linked) typed at flat s types is is_scope
