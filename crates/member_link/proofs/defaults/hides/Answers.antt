use Rattle.std.proofs.Common.{IsSome, IsTrue, sym, subst, ◌∙◌}
use Rattle.std.proofs.lemmas.Option.{same_Some}
use Rattle.class_model.specs.declared.header.Header.{Header}
use Rattle.class_tree.specs.Headers.{headers_of}
use Rattle.class_tree.specs.Names.{is_interface}
use Rattle.member_link.specs.Inner.DefaultsAt.{inherited_of}
use Rattle.member_link.specs.Found.{IsMethodFound}
use Rattle.member_link.proofs.InheritedMethods.{same_found}
use Rattle.member_link.proofs.Superinterfaces.{superinterfaces_of, placed_decides}
use Rattle.member_link.proofs.defaults.hides.Goals as goal

pub returns-then-is_some : goal.returns-then-is_some
returns-then-is_some c = λ low high low_at high_at.
    let headers = headers_of c.args.tree.now in
    let hierarchy = c.a_tree_is_a_hierarchy.ensures in
    let places = superinterfaces_of headers hierarchy c.args.below c.superinterfaces.result.now c.superinterfaces.ensures low low_at in
    let stands = hierarchy.of_place c.args.interface high high_at in
    let kind : IsTrue (is_interface high) = subst (λ (header : Header). IsTrue (is_interface header)) (same_Some c.requires.interface.header high (sym c.requires.interface.at ∙ high_at)) c.requires.interface.interface in
    let above = places.all high.name high stands.found kind in
    let contains = placed_decides headers high.name c.args.interface stands.is_place c.superinterfaces.result.now in
    let declares : IsSome (inherited_of c.args.name.now c.args.desc.now low) =
    sym (same_found (IsMethodFound headers) c.inherited_method.result (inherited_of c.args.name.now c.args.desc.now low) (c.inherited_method.ensures low low_at)) ∙ sym c.is_some.ensures ∙ c.if-is_some.true in (
      λ yes. (declares, above.1 (contains.0 (sym c.contains.ensures.value ∙ yes))),
      λ is. c.contains.ensures.value ∙ contains.1 (above.0 is.1),
    )
