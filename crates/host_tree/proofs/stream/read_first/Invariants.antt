use Rattle.std.proofs.Common.{◌≡◌, ◌+◌, ◌-◌, ◌≤◌, vec_len}
use Rattle.std.specs.Io.KnownBytes.{Consumes}
use Rattle.host_tree.proofs.stream.read_first.Given as goal

abbrev pub invariant-loop-wanted : goal.invariant-loop-wanted
invariant-loop-wanted g l =
    record {
      taken : Consumes (g.I.Read.remaining l.initial.input) (g.I.Read.remaining l.input) l.bytes.items;
      room : vec_len l.bytes + l.wanted ≤ l.most;
      done : l.wanted ≡ 0 → vec_len l.bytes ≡ l.most;
    }

abbrev pub decreases-loop-wanted : goal.decreases-loop-wanted
decreases-loop-wanted g l = l.most - vec_len l.bytes
