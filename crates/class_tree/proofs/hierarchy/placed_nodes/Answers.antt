use Rattle.std.proofs.Common.{◌≡◌, ℕ, zero, suc, Bool, true, false, List, length, get_or, replicate, ap, subst, sym, ◌∙◌, inl, inr, arith, length-set, get_or-set_other}
use Rattle.std.proofs.Math.ListN.{length-replicate}
use Rattle.std.proofs.lemmas.Bool.{cases_eq, false≢true}
use Rattle.class_tree.specs.Inner.Graphs.{IsOneOf}
use Rattle.class_tree.proofs.OneOf.{one_at}
use Rattle.class_tree.proofs.hierarchy.placed_nodes.Goals as goal

none_placed : (len node : ℕ) → get_or (replicate len false) node false ≡ true → ⊥
none_placed zero node placed = absurd (false≢true placed)
none_placed (suc len) zero placed = absurd (false≢true placed)
none_placed (suc len) (suc node) placed = none_placed len node placed

pub loop-node-init : goal.loop-node-init
loop-node-init c =
    let all : c.in_ok-placed.placed.items ≡ replicate c.args.len false = c.in_ok-placed.ensures.items_if_clones_equal (λ y same. same) in (
      ap length all ∙ length-replicate c.args.len false,
      λ node placed. absurd (none_placed c.args.len node (sym (ap (λ (marks : List Bool). get_or marks node false) all) ∙ placed)),
    )

pub index_mut-requires : goal.index_mut-requires
index_mut-requires c =
    omega (arith, c.requires _ (one_at c.args.order.now c.loop-node.node-index c.loop-node-test.true), c.loop-node.invariant.0, c.loop-node.placed.ok.0)

pub loop-node-preserved : goal.loop-node-preserved
loop-node-preserved c = (
  length-set c.loop-node.placed.items _ true ∙ c.loop-node.invariant.0,
  λ node placed. elim (cases_eq node (get_or c.args.order.now c.loop-node.node-index 0)) [
    | inl same ↦ subst (IsOneOf c.args.order.now) (sym same) (one_at c.args.order.now c.loop-node.node-index c.loop-node-test.true)
    | inr other ↦ c.loop-node.invariant.1 node (sym (get_or-set_other c.loop-node.placed.items _ node true false other) ∙ placed)
  ],
)
