use Rattle.std.proofs.Common.{◌≡◌, ◌<◌, ℕ, List, length, slice_get, bytes_eq, Option, option_map, IfSome, sym, ap, subst, ◌∙◌}
use Rattle.std.specs.Option.{option_copied}
use Rattle.std.proofs.lemmas.Option.{same_Some, slice_get-get_or}
use Rattle.class_model.specs.declared.header.Header.{Header}
use Rattle.class_model.specs.declared.header.Member.{Member}
use Rattle.class_tree.specs.Headers.{headers_of}
use Rattle.class_tree.specs.Order.{first_place}
use Rattle.member_link.specs.DeclaredMembers.{declared_by}
use Rattle.member_link.specs.Found.{AreSame, IsMethodFound}
use Rattle.member_link.specs.Methods.{first_named}
use Rattle.member_link.specs.declared.found.Found.{Found}
use Rattle.member_link.proofs.FirstNamed.{named_found, named_missing}
use Rattle.member_link.proofs.methods.first_named.Goals as goal

pub returns-in_err-member : goal.returns-in_err-member
returns-in_err-member c = λ header at.
    let headers = headers_of c.args.tree.now in
    let has_name = λ (method : Member). bytes_eq c.args.name.now method.name in
    let own = same_Some c.in_ok-header.field-0.now header (ap option_copied (sym c.in_ok-header.was) ∙ c.header.ensures ∙ at) in
    let methods : c.as_slice-methods.result.now ≡ header.methods = c.as_slice-methods.ensures ∙ ap (λ (h : Header). h.methods) own in
    let none = ap (first_place has_name) (sym methods) ∙ sym c.place_of_name.ensures.first ∙ c.in_err-member.was in
    subst (λ (result : Option Found). AreSame (IsMethodFound headers) result (option_map (declared_by header.name) (first_named c.args.name.now header.methods))) (sym c.from_residual-in_err-member.ensures) (named_missing headers header c.args.name.now none)

pub returns : goal.returns
returns c = λ header at.
    let headers = headers_of c.args.tree.now in
    let has_name = λ (method : Member). bytes_eq c.args.name.now method.name in
    let own = same_Some c.in_ok-header.field-0.now header (ap option_copied (sym c.in_ok-header.was) ∙ c.header.ensures ∙ at) in
    let methods : c.as_slice-methods.result.now ≡ header.methods = c.as_slice-methods.ensures ∙ ap (λ (h : Header). h.methods) own in
    let is = ap (first_place has_name) (sym methods) ∙ sym c.place_of_name.ensures.first ∙ c.in_ok-member.was in
    let within = subst (λ (found : Option ℕ). IfSome found (λ place. place < length c.as_slice-methods.result.now)) c.in_ok-member.was c.place_of_name.ensures.within in
    let stands = ap (λ (list : List Member). slice_get list c.in_ok-member.member) (sym methods) ∙ slice_get-get_or c.as_slice-methods.result.now c.in_ok-member.member c.index-methods-member.result within in
    named_found headers c.args.class header c.args.name.now c.in_ok-member.member _ at is stands
