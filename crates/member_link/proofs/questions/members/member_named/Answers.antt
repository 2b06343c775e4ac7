use Rattle.std.proofs.Common.{List, slice_get, ap, ◌∙◌}
use Rattle.std.specs.Option.{option_copied}
use Rattle.class_model.specs.declared.header.Member.{Member}
use Rattle.class_tree.specs.Headers.{headers_of}
use Rattle.member_link.specs.Laws.ProgramMembers.{no_class_no_member, no_place_no_member, no_header_no_member, member_at_place}
use Rattle.member_link.proofs.questions.members.member_named.Goals as goal

pub returns-in_err-place : goal.returns-in_err-place
returns-in_err-place c =
    ap option_copied c.from_residual.ensures
    ∙ no_class_no_member (headers_of c.args.tree.now) c.a_tree_is_a_hierarchy.ensures c.args.kind c.args.name.now c.args.desc.now c.args.class.now c.in_err-place.ensures

pub returns-in_err-number : goal.returns-in_err-number
returns-in_err-number c =
    ap option_copied c.from_residual-in_err-number.ensures
    ∙ no_place_no_member (headers_of c.args.tree.now) c.a_tree_is_a_hierarchy.ensures c.args.kind c.args.name.now c.args.desc.now c.args.class.now c.in_ok-place.place c.in_ok-place.ensures c.in_err-number.ensures

pub returns-in_err-header : goal.returns-in_err-header
returns-in_err-header c =
    ap option_copied c.from_residual-in_err-header.ensures
    ∙ no_header_no_member (headers_of c.args.tree.now) c.a_tree_is_a_hierarchy.ensures c.args.kind c.args.name.now c.args.desc.now c.args.class.now c.in_ok-place.place c.in_ok-place.ensures c.in_err-header.ensures

pub returns : goal.returns
returns c =
    c.member_at.ensures
    ∙ ap (λ (members : List Member). slice_get members c.in_ok-number.number) c.members_of.ensures
    ∙ member_at_place (headers_of c.args.tree.now) c.a_tree_is_a_hierarchy.ensures c.args.kind c.args.name.now c.args.desc.now c.args.class.now c.in_ok-place.place c.in_ok-header.field-0.now c.in_ok-number.number c.in_ok-place.ensures c.in_ok-header.ensures c.in_ok-number.ensures
