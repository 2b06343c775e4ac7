use Rattle.std.proofs.Common.{◌∙◌, slice_get, Option, option_map, option_and_then, sym, ap, subst}
use Rattle.std.proofs.lemmas.Option.{none-some, same_Some}
use Rattle.class_model.specs.declared.header.Header.{Header}
use Rattle.class_tree.specs.Headers.{headers_of}
use Rattle.class_tree.specs.Order.{member_place}
use Rattle.member_link.specs.DeclaredMembers.{declared_by, declared}
use Rattle.member_link.specs.Found.{AreSame, IsMethodFound, methods_of}
use Rattle.member_link.specs.declared.found.Found.{Found}
use Rattle.member_link.specs.Laws.OwnMembers.{own_at}
use Rattle.member_link.proofs.OwnMembers.{own_found, own_missing}
use Rattle.member_link.proofs.own.own_method.Goals as goal

pub returns-in_err-member : goal.returns-in_err-member
returns-in_err-member c = λ header at.
    let none = c.in_err-member.ensures ∙ ap (option_and_then (λ (h : Header). member_place c.args.name.now c.args.desc.now h.methods)) at in
    subst (λ (r : Option Found). AreSame (IsMethodFound (headers_of c.args.tree.now)) r (option_map (declared_by header.name) (declared c.args.name.now c.args.desc.now header.methods))) (sym c.from_residual.ensures)
    (own_missing methods_of (headers_of c.args.tree.now) header c.args.name.now c.args.desc.now (sym none))

pub returns-in_err-method : goal.returns-in_err-method
returns-in_err-method c = λ header at.
    let is = c.in_ok-member.ensures ∙ ap (option_and_then (λ (h : Header). member_place c.args.name.now c.args.desc.now h.methods)) at in
    let same = same_Some c.in_ok-header.field-0.now header (c.in_ok-header.ensures ∙ at) in
    let own = own_at c.args.name.now c.args.desc.now header.methods c.in_ok-member.member (sym is) in
    absurd (none-some own.member (c.in_err-method.ensures ∙ ap (λ (h : Header). slice_get h.methods c.in_ok-member.member) same ∙ own.stands))

pub returns : goal.returns
returns c = λ header at.
    let is = c.in_ok-member.ensures ∙ ap (option_and_then (λ (h : Header). member_place c.args.name.now c.args.desc.now h.methods)) at in
    let same = same_Some c.in_ok-header.field-0.now header (c.in_ok-header.ensures ∙ at) in
    own_found methods_of (headers_of c.args.tree.now) c.args.class header c.args.name.now c.args.desc.now c.in_ok-member.member c.in_ok-method.method.now at (sym is) (sym (c.in_ok-method.ensures ∙ ap (λ (h : Header). slice_get h.methods c.in_ok-member.member) same))
