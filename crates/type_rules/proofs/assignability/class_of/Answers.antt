use Rattle.std.proofs.Common.{sym, ◌∙◌}
use Rattle.type_rules.proofs.assignability.class_of.Goals as goal

pub returns : goal.returns
returns c =
    let stands = c.a_tree_is_a_hierarchy.ensures.placed c.args.name.now c.in_ok-find.field-0 (sym c.in_ok-find.ensures.same) in
    c.header.ensures ∙ stands.1.at ∙ sym stands.1.found
