use Rattle.std.proofs.Common.{take}
use Rattle.std.specs.List.{All}
use Rattle.member_link.specs.Inner.FinalEnds.{Grows, IsRaised}
use Rattle.member_link.proofs.final_methods.raise_methods.Given as goal

abbrev pub invariant-loop-method : goal.invariant-loop-method
invariant-loop-method l = Grows l.fn.ends.entries l.ends.entries × All (IsRaised l.ends.entries l.end) (take l.method-index l.methods)
