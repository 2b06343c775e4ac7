use Rattle.std.proofs.Common.{◌≡◌, map, take}
use Rattle.class_tree.specs.Headers.{all_headers}
use Rattle.class_tree.specs.Inner.Nodes.{super_place}
use Rattle.class_tree.proofs.super_places.super_places.Given as goal

abbrev pub invariant-loop-number : goal.invariant-loop-number
invariant-loop-number l = l.places.items ≡ map (super_place l.headers) (take l.number (all_headers l.headers))
