use Rattle.std.proofs.Common.{◌≡◌, ◌≤◌, vec_len}
use Rattle.host_tree.proofs.walk.Walk.enter.Given as goal

abbrev pub invariant-loop-entry : goal.invariant-loop-entry
invariant-loop-entry g l =
    (goal.iterator-loop-entry g).can_next l.entry-iterator ×
    (goal.iterator-loop-entry g).is_finite l.entry-iterator ×
    (l.self.most ≡ l.initial.self.most) ×
    (vec_len l.self.names ≤ l.self.most)
