use Rattle.class_tree.specs.Headers.{headers_of}
use Rattle.member_link.proofs.TreeLinks.{links, are_links}
use Rattle.member_link.proofs.laws_links.a_tree_has_links.Goals as goal

pub returns : goal.returns
returns c =
    let headers = headers_of c.args.tree.now in
    let is = c.a_tree_is_a_hierarchy.ensures in
    let law = c.a_hierarchy_has_links.ensures in
    let sub = law.subtypes headers is in
    let field = law.fields headers is in
    let method = law.methods headers is in
    let select = law.selections headers is in (
      links headers sub.0 sub.1 field.0 field.1 method.0 method.1 select.0 select.1,
      are_links headers sub.0 sub.1 field.0 field.1 method.0 method.1 select.0 select.1,
    )
