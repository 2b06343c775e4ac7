use Rattle.std.proofs.Common.{subst}
use Rattle.class_tree.specs.Hierarchy.{IsHierarchy}
use Rattle.expanded_runs.proofs.Ready.CandidateSites.{has_candidate_sites}
use Rattle.expanded_runs.proofs.Ready.Whole.{ready_code, ready_for_plans}
use Rattle.expanded_runs.proofs.Runs.CallLaws.{CallLaws}
use Rattle.expanded_runs.proofs.Runs.CallTargets.{headers_are}
use Rattle.expanded_runs.proofs.Types.KnownTypes.{NameLaws}
use Rattle.expanded_runs.proofs.Types.NoFlats.{is_own_setup, own_setup}
use Rattle.expanded_runs.proofs.Types.OwnPoints.{TypingLaws}
use Rattle.expanded_runs.proofs.laws.an_expanded_flat_code_is_ready.Goals as goal
use Rattle.type_rules.specs.MethodBodies.{body_of}

names : goal.After-a_step_stays_typed → NameLaws
names c = record {
  descriptors = record { parameters = c.parameters_are_spelled.ensures; of_text = c.a_descriptor_of_a_text.ensures };
  by_place = λ classes linked. (c.a_linked_folder_passes_by_place.ensures classes).0 linked;
  methods = c.a_class_file_has_read_methods.ensures.methods;
  operands = c.a_class_file_has_read_methods.ensures.operands;
}

calls : goal.After-a_step_stays_typed → CallLaws
calls c = record {
  finds_one = c.a_look_up_finds_one_method.ensures;
  finds_above = c.a_found_method_is_above.ensures;
  chooses_one = c.a_selection_chooses_one.ensures;
  runnable = c.a_choice_can_be_run.ensures;
  consecutive = c.instructions_are_consecutive.ensures;
  methods = c.a_typed_folder_types_each_method.ensures;
  instrs = c.a_typed_method_types_each_instruction.ensures.each;
  steps = c.a_step_stays_typed.ensures;
}

typing : goal.After-a_step_stays_typed → TypingLaws
typing c = record {
  types_each = c.a_typed_folder_types_each_method.ensures;
  in_order = c.a_method_stands_in_order.ensures.order;
  places = c.frames_type_a_body_by_its_places.ensures.places;
  edges = λ s frames. c.a_typed_body_goes_to_stated_frames.ensures.edges (body_of s) frames (c.a_method_stands_in_order.ensures.order s)
      (c.a_method_stands_in_order.ensures.stated s);
}

pub returns-clause-code : goal.returns-clause-code
returns-clause-code c = λ classes typed links typings at flat s tree bytes linked types are_links program has is no_host there.
    ready_code (own_setup classes typed links typings)
    (is_own_setup tree (subst IsHierarchy (headers_are classes links) program.hierarchy) types are_links program has)
    linked (names c) (calls c) (typing c) c.a_typed_method_types_each_instruction.ensures.count at flat is bytes no_host s there

pub returns-clause-plans : goal.returns-clause-plans
returns-clause-plans c = λ classes typed links typings at flat tree linked types are_links program has is no_host narrow.
    ready_for_plans (own_setup classes typed links typings)
    (is_own_setup tree (subst IsHierarchy (headers_are classes links) program.hierarchy) types are_links program has)
    linked (names c) (calls c) (typing c) c.a_typed_method_types_each_instruction.ensures.count at flat is no_host narrow

pub returns-clause-sites : goal.returns-clause-sites
returns-clause-sites c = λ classes typed links typings at flat tree types are_links program has is no_host.
    has_candidate_sites (own_setup classes typed links typings)
    (is_own_setup tree (subst IsHierarchy (headers_are classes links) program.hierarchy) types are_links program has) (typing c)
    c.a_typed_method_types_each_instruction.ensures.count c.a_typed_method_types_each_instruction.ensures.each at flat is no_host
