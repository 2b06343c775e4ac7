use Rattle.std.proofs.Common.{◌≡◌, take}
use Rattle.pea_top.specs.Inner.ReadFiles.{class_names}
use Rattle.pea_top.proofs.work.names_of.Given as goal

abbrev pub invariant-loop-class : goal.invariant-loop-class
invariant-loop-class l = l.names.items ≡ class_names (take l.class-index l.classes)
