use Rattle.std.proofs.Common.{is_some, ap, sym, subst, ◌∙◌, inl, inr}
use Rattle.std.proofs.lemmas.Bool.{false≢true, both_ways, not-false, not_from_true}
use Rattle.std.proofs.lemmas.Slice.Eq.{bytes_eq-Decides}
use Rattle.class_tree.specs.Headers.{headers_of}
use Rattle.class_tree.specs.Laws.Above.{class_decides, hierarchy_is_sound}
use Rattle.class_tree.specs.Subtype.{IsBelow}
use Rattle.member_link.proofs.overriding.is_below.Goals as goal

pub returns-then-ne : goal.returns-then-ne
returns-then-ne c =
    let headers = headers_of c.args.tree.now in
    let hierarchy = c.a_tree_is_a_hierarchy.ensures in
    let decides = class_decides headers (hierarchy_is_sound headers hierarchy) hierarchy.no_array c.args.low.now c.args.high.now (λ array. false≢true (sym (ap is_some (hierarchy.no_array c.args.low.now array)) ∙ c.requires)) in (
      λ yes. elim (decides.0 (c.is_sub.ensures.0 yes)) [
        | inl same ↦ absurd (both_ways _ (c.ne.ensures ∙ not_from_true _ ((bytes_eq-Decides c.args.low.now c.args.high.now).1 same)) c.if-ne.true)
        | inr up ↦ up
      ],
      λ up. c.is_sub.ensures.1 (decides.1 (inr up)),
    )

pub returns-else-ne : goal.returns-else-ne
returns-else-ne c =
    let same = (bytes_eq-Decides c.args.low.now c.args.high.now).0 (not-false _ (sym c.ne.ensures ∙ c.if-ne.false)) in (
      λ yes. absurd (both_ways _ c.if-ne.false yes),
      λ up. absurd (c.a_tree_is_a_hierarchy.ensures.acyclic c.args.low.now (subst (IsBelow (headers_of c.args.tree.now) c.args.low.now) (sym same) up)),
    )
