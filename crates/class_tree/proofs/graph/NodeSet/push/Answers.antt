use Rattle.std.proofs.Common.{◌≡◌, ◌==◌, ◌+◌, ◌<◌, ◌≤◌, ℕ, Bool, true, false, cond, List, length, get_or, set, count_by, ap, ◌∙◌, arith}
use Rattle.std.specs.List.{list_any}
use Rattle.std.proofs.lemmas.List.{length_push}
use Rattle.std.proofs.lemmas.List.Sums.{sum_by-set, count_by-le-length}
use Rattle.class_tree.specs.Inner.Placing.{Collected}
use Rattle.class_tree.proofs.graph.NodeSet.push.Goals as goal

-- where a number below the length is not marked, there is room for one more
room_for_unmarked : (marks : List Bool) (node count : ℕ) → node < length marks → get_or marks node false ≡ false → count_by (λ mark. mark) marks ≡ count → count + 1 ≤ length (set marks node true)
room_for_unmarked marks node count low unmarked is =
    let sums = sum_by-set (λ (mark : Bool). cond mark 1 0) marks node true false low in
    let old = ap {B = ℕ} (λ (mark : Bool). cond mark 1 0) unmarked in
    omega (arith, sums, old, is, count_by-le-length (λ (mark : Bool). mark) (set marks node true))

pub returns-clause-bound : goal.returns-clause-bound
returns-clause-bound c =
    let nodes = c.self.inside.nodes in
    let marks = c.self.inside.marks.items in
    let size = ap (λ (set : Collected). set.size) c.self.view_is in
    let same = ap (λ (set : Collected). list_any (λ (one : ℕ). one == c.args.node) set.nodes) c.self.view_is in
    let room = room_for_unmarked marks c.args.node (length nodes) (omega (arith, size, c.requires.node)) (c.self.invariant.each c.args.node ∙ same ∙ c.requires.new) c.self.invariant.count in
    omega (arith, room, ap (λ (ns : List ℕ). length ns) c.in_ok-push.ensures.ok, length_push nodes c.args.node)
