use Rattle.std.proofs.Common.{◌≡◌, slice_get, sym, ap, ◌∙◌}
use Rattle.std.proofs.lemmas.Option.{same_Some, get_or_from_slice_get}
use Rattle.class_model.specs.declared.header.Header.{Header}
use Rattle.member_link.specs.DeclaredMembers.{declared_by}
use Rattle.member_link.proofs.overriding.method_at.Goals as goal

pub returns-clause-at : goal.returns-clause-at
returns-clause-at c = c.a_tree_is_a_hierarchy.ensures.of_place c.args.found.place c.in-Some.header.now (sym c.in-Some.ensures)

pub returns-clause-same : goal.returns-clause-same
returns-clause-same c = λ method is.
    let header = same_Some is.header c.in-Some.header.now (sym is.at ∙ sym c.in-Some.ensures) in
    let methods : is.header.methods ≡ c.as_slice.result.now = ap (λ (h : Header). h.methods) header ∙ sym c.as_slice.ensures in
    let member = c.index-as_slice-found.result in
    let stands = ap (λ methods. slice_get methods c.args.found.member) (sym methods) ∙ is.stands in
    let same : member ≡ method.member = c.index-as_slice-found.is ∙ get_or_from_slice_get c.as_slice.result.now c.args.found.member method.member member stands in
    ap (λ class. declared_by class method.member) (sym is.own_class ∙ ap (λ (h : Header). h.name) header) ∙ ap (declared_by c.in-Some.header.now.name) (sym same)
