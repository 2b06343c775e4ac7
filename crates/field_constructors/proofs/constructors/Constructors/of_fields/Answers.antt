use Rattle.std.proofs.Common.{◌≡◌, IfOk, slice_get, Some, sym, ap, subst, ◌∙◌}
use Rattle.std.proofs.lemmas.Option.{get_or_from_slice_get}
use Rattle.std.specs.Option.{option_copied}
use Rattle.class_model.specs.declared.header.Header.{Header}
use Rattle.class_tree.specs.Headers.{Classes, headers_of}
use Rattle.field_constructors.proofs.ConstructorLaws.{constructor_at}
use Rattle.field_constructors.proofs.constructors.Constructors.of_fields.Goals as goal
use Rattle.field_constructors.specs.Constructors.{IsConstructorAt, field_descs}
use Rattle.field_constructors.specs.Inner.ConstructorWords.{handled_of}

pub returns : goal.returns
returns c =
    let classes = c.self.inside.tree.now in
    let header = c.in-Some.header.now in
    let at : slice_get (headers_of classes).folder c.args.class ≡ Some header = sym (ap option_copied (sym c.in-Some.is) ∙ c.header.ensures) in
    let handled : c.as_slice.result.now ≡ handled_of header.name classes.folder =
    c.as_slice.ensures ∙ c.index.ensures
    ∙ get_or_from_slice_get c.self.inside.handles.items c.args.class (handled_of header.name classes.folder) c.index.result.now (c.self.invariant.each c.args.class header at) in
    let fields : c.args.fields.now ≡ field_descs (headers_of classes) header.name =
    subst (λ (k : Classes). (h : Header) → slice_get (headers_of k).folder c.args.class ≡ Some h → c.args.fields.now ≡ field_descs (headers_of k) h.name) (sym c.self.view_is) c.requires header at in
    subst (λ (k : Classes). IfOk c.constructor.result (IsConstructorAt k c.args.class)) c.self.view_is
    (constructor_at classes c.a_tree_is_a_hierarchy.ensures c.args.class header at c.args.fields.now c.as_slice.result.now fields handled c.constructor.result c.constructor.ensures)
