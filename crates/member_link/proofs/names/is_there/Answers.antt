use Rattle.std.proofs.Common.{sym, ap, is_some, ◌∙◌}
use Rattle.class_tree.specs.Headers.{headers_of}
use Rattle.member_link.proofs.ClassesAbove.{placed_is_there}
use Rattle.member_link.proofs.names.is_there.Goals as goal

pub returns : goal.returns
returns c =
    let there = placed_is_there (headers_of c.args.tree.now) c.a_tree_is_a_hierarchy.ensures c.args.name.now in
    let told = c.is_some.ensures ∙ ap is_some c.find.ensures.same in
    (λ yes. there.0 (sym told ∙ yes), λ is. told ∙ there.1 is)
