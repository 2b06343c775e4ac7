use Rattle.std.proofs.Common.{◌∙◌, slice_get, Option, option_map, option_and_then, sym, ap, subst}
use Rattle.std.proofs.lemmas.Option.{none-some, same_Some}
use Rattle.class_model.specs.declared.header.Header.{Header}
use Rattle.class_tree.specs.Headers.{headers_of}
use Rattle.class_tree.specs.Order.{member_place}
use Rattle.member_link.specs.DeclaredMembers.{declared_by, declared}
use Rattle.member_link.specs.Found.{AreSame, IsFieldFound, fields_of}
use Rattle.member_link.specs.declared.found.Found.{Found}
use Rattle.member_link.specs.Laws.OwnMembers.{own_at}
use Rattle.member_link.proofs.OwnMembers.{own_found, own_missing}
use Rattle.member_link.proofs.own.own_field.Goals as goal

pub returns-in_err-member : goal.returns-in_err-member
returns-in_err-member c = λ header at.
    let none = c.in_err-member.ensures ∙ ap (option_and_then (λ (h : Header). member_place c.args.name.now c.args.desc.now h.fields)) at in
    subst (λ (r : Option Found). AreSame (IsFieldFound (headers_of c.args.tree.now)) r (option_map (declared_by header.name) (declared c.args.name.now c.args.desc.now header.fields))) (sym c.from_residual.ensures)
    (own_missing fields_of (headers_of c.args.tree.now) header c.args.name.now c.args.desc.now (sym none))

pub returns-in_err-field : goal.returns-in_err-field
returns-in_err-field c = λ header at.
    let is = c.in_ok-member.ensures ∙ ap (option_and_then (λ (h : Header). member_place c.args.name.now c.args.desc.now h.fields)) at in
    let same = same_Some c.in_ok-header.field-0.now header (c.in_ok-header.ensures ∙ at) in
    let own = own_at c.args.name.now c.args.desc.now header.fields c.in_ok-member.member (sym is) in
    absurd (none-some own.member (c.in_err-field.ensures ∙ ap (λ (h : Header). slice_get h.fields c.in_ok-member.member) same ∙ own.stands))

pub returns : goal.returns
returns c = λ header at.
    let is = c.in_ok-member.ensures ∙ ap (option_and_then (λ (h : Header). member_place c.args.name.now c.args.desc.now h.fields)) at in
    let same = same_Some c.in_ok-header.field-0.now header (c.in_ok-header.ensures ∙ at) in
    own_found fields_of (headers_of c.args.tree.now) c.args.class header c.args.name.now c.args.desc.now c.in_ok-member.member c.in_ok-field.field.now at (sym is) (sym (c.in_ok-field.ensures ∙ ap (λ (h : Header). slice_get h.fields c.in_ok-member.member) same))
