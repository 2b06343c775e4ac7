use Rattle.std.proofs.Common.{◌≡◌, List, Option, Some, sym, ap, subst, ◌∙◌}
use Rattle.std.specs.Option.{option_copied}
use Rattle.class_model.specs.declared.frame.Frame.{Frame}
use Rattle.flow_code.specs.TypedFrames.{typed_frames_at}
use Rattle.inline_expand.proofs.alone.flat_alone.Goals as goal
use Rattle.member_link.specs.Scope.{Scope, scope_at}
use Rattle.type_rules.specs.Typed.{Typed}
use Rattle.type_rules.specs.Verified.{TypesMethod}

pub unreachable-requires : goal.unreachable-requires
unreachable-requires c =
    let classes = c.args.tree.now in
    let typed = c.args.typed.now in
    let scope : scope_at classes c.args.at ≡ Some c.in-Some.host = sym c.in_ok-host.ensures.scope ∙ c.in-Some.is in
    let each = c.a_typed_folder_types_each_method.ensures classes typed c.requires c.args.at in
    let named = subst (λ (found : Option Scope). TypesMethod found (typed_frames_at typed c.args.at)) scope each in
    subst (λ (frames : Option (List Frame)). TypesMethod (Some c.in-Some.host) frames) (sym c.of.ensures ∙ ap option_copied c.in_default-of.is) named

pub flat_of-flat-requires-clause-typed : goal.flat_of-flat-requires-clause-typed
flat_of-flat-requires-clause-typed c =
    let classes = c.args.tree.now in
    let typed = c.args.typed.now in
    let scope : scope_at classes c.args.at ≡ Some c.in-Some.host = sym c.in_ok-host.ensures.scope ∙ c.in-Some.is in
    let each = c.a_typed_folder_types_each_method.ensures classes typed c.requires c.args.at in
    let named = subst (λ (found : Option Scope). TypesMethod found (typed_frames_at typed c.args.at)) scope each in
    let frames = subst (λ (found : Option (List Frame)). TypesMethod (Some c.in-Some.host) found) (sym c.in-Some-of.ensures) named in
    subst (Typed c.in-Some.host) (sym c.as_slice.ensures) frames
