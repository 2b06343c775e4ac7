use Rattle.std.proofs.Common.{sym, ◌∙◌}
use Rattle.class_tree.specs.Headers.{headers_of}
use Rattle.member_link.specs.Laws.ProgramMembers.{class_at_place}
use Rattle.member_link.proofs.questions.classes.header_named.Goals as goal

pub returns : goal.returns
returns c =
    c.header.ensures
    ∙ class_at_place (headers_of c.args.tree.now) c.a_tree_is_a_hierarchy.ensures c.args.name.now c.in_ok-find.field-0 (sym c.in_ok-find.ensures.same)
