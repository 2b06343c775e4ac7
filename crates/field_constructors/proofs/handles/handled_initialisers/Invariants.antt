use Rattle.std.proofs.Common.{◌≡◌, [], replicate}
use Rattle.field_constructors.proofs.handles.handled_initialisers.Given as goal

abbrev pub invariant-loop : goal.invariant-loop
invariant-loop l = l.lists.items ≡ replicate l.counter []
