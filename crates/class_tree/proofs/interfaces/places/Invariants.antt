use Rattle.std.proofs.Common.{◌≡◌, map, take}
use Rattle.class_tree.specs.Inner.Nodes.{place_at}
use Rattle.class_tree.proofs.interfaces.places.Given as goal

abbrev pub invariant-loop-number : goal.invariant-loop-number
invariant-loop-number l = l.places.items ≡ map (place_at l.headers) (take l.number-index l.numbers)
