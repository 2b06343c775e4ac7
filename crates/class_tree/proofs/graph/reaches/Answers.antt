use Rattle.std.proofs.Common.{◌<◌, ◌≤◌, ℕ, List, length, ap, subst, ◌∙◌, arith}
use Rattle.class_tree.specs.Inner.Placing.{Collected, HasAdded}
use Rattle.class_tree.proofs.Searched.{targets_within, search_begins, search_goes_on, met_is_within, search_ends}
use Rattle.class_tree.proofs.graph.reaches.Goals as goal

pub add_all-requires : goal.add_all-requires
add_all-requires c = targets_within c.args.graph.now c.args.from c.in_ok-reached.reached.size c.get.result.now c.requires.within c.get.ensures (ap (λ (set : Collected). set.size) c.in_ok-reached.ensures ∙ c.len.ensures)

pub loop-at-init : goal.loop-at-init
loop-at-init c =
    let has = subst (λ (nodes : List ℕ). HasAdded nodes c.add_all.new.self.nodes c.get.result.now) (ap (λ (set : Collected). set.nodes) c.in_ok-reached.ensures) c.in_ok-add_all.ensures.nodes in (
      c.in_ok-add_all.ensures.size ∙ ap (λ (set : Collected). set.size) c.in_ok-reached.ensures ∙ c.len.ensures,
      search_begins c.args.graph.now c.args.from c.add_all.new.self.nodes c.get.result.now c.get.ensures has,
    )

pub get-requires-in-loop-at : goal.get-requires-in-loop-at
get-requires-in-loop-at c =
    let low : c.loop-at.at < length c.loop-at.reached.nodes = omega arith in
    rw c.get-node.ensures (met_is_within c.args.graph.now c.args.from c.loop-at.at c.loop-at.reached.nodes c.requires.within c.loop-at.invariant.1 low)

pub add_all-requires-in-loop-at : goal.add_all-requires-in-loop-at
add_all-requires-in-loop-at c = targets_within c.args.graph.now c.get-node.result c.loop-at.reached.size c.get-in-loop-at.result.now c.requires.within c.get-in-loop-at.ensures c.loop-at.invariant.0

pub loop-at-preserved : goal.loop-at-preserved
loop-at-preserved c =
    let low : c.loop-at.at < length c.loop-at.reached.nodes = omega arith in (
      c.in_ok-add_all-2.ensures.size ∙ c.loop-at.invariant.0,
      search_goes_on c.args.graph.now c.args.from c.loop-at.at c.get-node.result c.loop-at.reached.nodes c.add_all-in-loop-at.new.self.nodes c.get-in-loop-at.result.now c.loop-at.invariant.1 low c.get-node.ensures c.get-in-loop-at.ensures c.in_ok-add_all-2.ensures.nodes,
    )

pub returns : goal.returns
returns c =
    let past : length c.loop-at.reached.nodes ≤ c.loop-at.at = omega arith in
    rw c.has.ensures (search_ends c.args.graph.now c.args.from c.loop-at.at c.args.to c.loop-at.reached.nodes c.loop-at.invariant.1 past)
