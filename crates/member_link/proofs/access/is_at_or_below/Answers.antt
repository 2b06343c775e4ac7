use Rattle.std.proofs.Common.{sym, subst, ◌∙◌}
use Rattle.std.proofs.lemmas.Bool.{false≢true}
use Rattle.class_tree.specs.Headers.{headers_of}
use Rattle.class_tree.specs.Laws.Above.{class_decides, hierarchy_is_sound}
use Rattle.class_tree.specs.Subtype.{IsArray}
use Rattle.member_link.proofs.access.is_at_or_below.Goals as goal

pub returns-else-is_array : goal.returns-else-is_array
returns-else-is_array c =
    let flat : ¬ IsArray c.args.low.now = λ is. false≢true (sym c.if-is_array.false ∙ c.is_array.ensures.1 (subst IsArray (sym c.bytes.ensures.same) is)) in
    let same = class_decides (headers_of c.args.tree.now) (hierarchy_is_sound (headers_of c.args.tree.now) c.a_tree_is_a_hierarchy.ensures) c.a_tree_is_a_hierarchy.ensures.no_array c.args.low.now c.args.high.now flat in
    (λ yes. same.0 (c.is_sub.ensures.0 yes), λ up. c.is_sub.ensures.1 (same.1 up))
