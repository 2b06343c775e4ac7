use Rattle.field_constructors.proofs.FreeConstructors.{AreTaken}
use Rattle.field_constructors.proofs.free.constructor.Given as goal

abbrev pub invariant-loop-dimensions : goal.invariant-loop-dimensions
invariant-loop-dimensions l = AreTaken l.class l.fields l.handles l.dimensions
