use Rattle.std.proofs.Common.{◌≡◌, map, take}
use Rattle.class_model.specs.Header.{header_of}
use Rattle.class_tree.proofs.arrange.headers_of.Given as goal

abbrev pub invariant-loop-class : goal.invariant-loop-class
invariant-loop-class l = l.headers.items ≡ map header_of (take l.class-index l.folder)
