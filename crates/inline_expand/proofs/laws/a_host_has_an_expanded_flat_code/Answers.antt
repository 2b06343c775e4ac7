use Rattle.std.proofs.Common.{◌≡◌, Option, Some, None, List, refl, subst}
use Rattle.class_model.specs.declared.class_file.MethodAt.{MethodAt}
use Rattle.class_model.specs.declared.frame.Frame.{Frame}
use Rattle.class_tree.specs.Headers.{Classes, headers_of}
use Rattle.class_tree.specs.Hierarchy.{IsHierarchy}
use Rattle.expanded_code.specs.ExpandAnswers.{IsExpanded, has_no_code}
use Rattle.flow_code.specs.FlatCode.{FlatCode}
use Rattle.flow_code.specs.TypedFrames.{FolderFrames, typed_frames_at}
use Rattle.inline_expand.proofs.DecidedCallees.{IsAnswered}
use Rattle.inline_expand.proofs.SomeExpansion.{some_expanded}
use Rattle.inline_expand.proofs.laws.a_host_has_an_expanded_flat_code.Goals as goal
use Rattle.member_link.specs.Scope.{Scope, scope_at}
use Rattle.type_rules.specs.Verified.{TypesFolder, TypesMethod}

answered : goal.After-a_typed_folder_types_each_method → (classes : Classes) → IsHierarchy (headers_of classes) → IsAnswered classes
answered c classes hierarchy =
    let fields = c.a_hierarchy_has_links.ensures.fields (headers_of classes) hierarchy in
    let methods = c.a_hierarchy_has_links.ensures.methods (headers_of classes) hierarchy in
    let selections = c.a_hierarchy_has_links.ensures.selections (headers_of classes) hierarchy in
    let starts = c.a_hierarchy_has_links.ensures.starts (headers_of classes) hierarchy in
    record {
      hierarchy = hierarchy;
      answers = record {
        field = fields.0;
        field_is = fields.1;
        method = methods.0;
        method_is = methods.1;
        select = selections.0;
        select_is = selections.1;
        start = starts.0;
        start_is = starts.1;
      };
      laws = record { looks_up = c.a_look_up_finds_one_method.ensures; selects = c.a_selection_chooses_one.ensures; starts = c.a_special_call_starts_once.ensures };
      fields_once = c.a_look_up_finds_one_field.ensures;
      once = λ s at one other calls also. c.a_call_runs_one_method.ensures classes s at one other hierarchy calls also;
    }

-- a method with code has frames
of_code : {classes : Classes} {typed : FolderFrames} {at : MethodAt} → IsAnswered classes
    → (scope : Scope) → scope_at classes at ≡ Some scope
    → (frames : Option (List Frame)) → typed_frames_at typed at ≡ frames → TypesMethod (Some scope) frames
    → (flat : FlatCode) × IsExpanded classes typed at flat
of_code {classes} {typed} {at} is_answered scope is None none types = absurd types
of_code {classes} {typed} {at} is_answered scope is (Some frames) are types =
    some_expanded classes typed is_answered at scope frames (record { is_scope = is; are_frames = are })

expanded_of : goal.After-a_typed_folder_types_each_method → (classes : Classes) (typed : FolderFrames) (at : MethodAt) → IsHierarchy (headers_of classes) → TypesFolder classes typed
    → (scope : Option Scope) → scope_at classes at ≡ scope → (scope ≡ None → ⊥)
    → (flat : FlatCode) × IsExpanded classes typed at flat
expanded_of c classes typed at hierarchy types None is some = absurd (some refl)
expanded_of c classes typed at hierarchy types (Some scope) is some =
    of_code (answered c classes hierarchy) scope is (typed_frames_at typed at) refl
    (subst (λ (s : Option Scope). TypesMethod s (typed_frames_at typed at)) is (c.a_typed_folder_types_each_method.ensures classes typed types at))

pub returns-clause-coded : goal.returns-clause-coded
returns-clause-coded c = λ classes typed at scope hierarchy types is.
    expanded_of c classes typed at hierarchy types (Some scope) is (λ none. absurd cc)

pub returns-clause-host : goal.returns-clause-host
returns-clause-host c = λ classes typed at hierarchy types host.
    expanded_of c classes typed at hierarchy types (scope_at classes at) refl (λ none. host (has_no_code none))
