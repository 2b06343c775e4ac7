use Rattle.std.proofs.Common.{◌≡◌, ◌≤◌, vec_len}
use Rattle.host_tree.proofs.walk.list_files.Given as goal

abbrev pub invariant-loop : goal.invariant-loop
invariant-loop g l = (l.walk.most ≡ l.most) × (vec_len l.walk.names ≤ l.most)
