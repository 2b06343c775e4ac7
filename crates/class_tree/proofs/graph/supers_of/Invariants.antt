use Rattle.std.proofs.Common.{◌≡◌, ◌++◌, take, filter_map}
use Rattle.class_tree.specs.Inner.Nodes.{number_of}
use Rattle.class_tree.proofs.graph.supers_of.Given as goal

abbrev pub invariant-loop-name : goal.invariant-loop-name
invariant-loop-name l = l.numbers ≡ l.initial.numbers ++ filter_map (number_of l.headers) (take l.name-index l.header.interfaces)
