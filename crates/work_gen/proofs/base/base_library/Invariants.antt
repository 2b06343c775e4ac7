use Rattle.std.proofs.Common.{◌≡◌, ◌++◌, map, take}
use Rattle.class_tree.specs.Names.{throwable}
use Rattle.work_gen.specs.Values.{named_classes, thrown}
use Rattle.work_gen.proofs.base.base_library.Given as goal

abbrev pub invariant-loop-name : goal.invariant-loop-name
invariant-loop-name l = l.classes ≡ named_classes ++ map (λ name. thrown throwable name.now) (take l.name-index l.name-items)
