use Rattle.std.proofs.Common.{[]}
use Rattle.std.specs.Io.KnownBytes.{Appends}
use Rattle.host_tree.proofs.stream.write_some.Given as goal

-- an interrupted write takes nothing
abbrev pub invariant-loop : goal.invariant-loop
invariant-loop g l = Appends (g.W.Write.contents l.initial.output) (g.W.Write.contents l.output) []
