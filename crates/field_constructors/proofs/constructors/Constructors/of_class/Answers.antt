use Rattle.std.proofs.Common.{◌≡◌, is_some, slice_get, Some, sym, ap, subst, ◌∙◌}
use Rattle.std.proofs.lemmas.Option.{none-some, same_Some}
use Rattle.class_model.specs.declared.header.Header.{Header}
use Rattle.class_tree.specs.Headers.{Classes, Name, headers_of}
use Rattle.class_tree.specs.Order.{place_of}
use Rattle.class_tree.specs.declared.place.Place.TheVariants.{Folder}
use Rattle.field_constructors.proofs.AnsweredLaws.{if_ok}
use Rattle.field_constructors.proofs.constructors.Constructors.of_class.Goals as goal
use Rattle.field_constructors.specs.Constructors.{IsConstructor, field_descs}

pub returns-in_default : goal.returns-in_default
returns-in_default c = λ number is may.
    let place = subst (λ (k : Classes). place_of (headers_of k) c.args.class.now ≡ Some (Folder number)) (sym c.self.view_is) is in
    none-some number (sym c.in_default.is ∙ (c.folder_number.ensures number).1 place)

pub field_texts-requires : goal.field_texts-requires
field_texts-requires c =
    let place = (c.folder_number.ensures c.in-Some.number).0 c.in-Some.is in
    let stands = c.a_tree_is_a_hierarchy.ensures.placed c.args.class.now (Folder c.in-Some.number) place in
    ap is_some stands.1.found

pub of_fields-requires : goal.of_fields-requires
of_fields-requires c = λ header is.
    let classes = c.self.inside.tree.now in
    let place = (c.folder_number.ensures c.in-Some.number).0 c.in-Some.is in
    let stands = c.a_tree_is_a_hierarchy.ensures.placed c.args.class.now (Folder c.in-Some.number) place in
    let there = subst (λ (k : Classes). slice_get (headers_of k).folder c.in-Some.number ≡ Some header) (sym c.self.view_is) is in
    let same : header ≡ stands.0 = same_Some header stands.0 (sym there ∙ stands.1.at) in
    let name : c.args.class.now ≡ header.name = sym (ap (λ (h : Header). h.name) same ∙ stands.1.own_name) in
    c.as_slice.ensures.value ∙ c.in_ok-fields.ensures ∙ ap (field_descs (headers_of classes)) name ∙ ap (λ (k : Classes). field_descs (headers_of k) header.name) c.self.view_is

pub returns : goal.returns
returns c =
    let classes = c.args.self.now in
    let place = (c.folder_number.ensures c.in-Some.number).0 c.in-Some.is in
    let stands = c.a_tree_is_a_hierarchy.ensures.placed c.args.class.now (Folder c.in-Some.number) place in
    let there = subst (λ (k : Classes). slice_get (headers_of k).folder c.in-Some.number ≡ Some stands.0) c.self.view_is stands.1.at in
    if_ok c.of_fields.result (λ found at number is. subst (λ (name : Name). IsConstructor classes name found) stands.1.own_name (at stands.0 there)) c.of_fields.ensures
