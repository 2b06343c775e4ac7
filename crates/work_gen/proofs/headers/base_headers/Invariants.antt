use Rattle.std.proofs.Common.{◌≡◌, ◌++◌, map, take}
use Rattle.class_tree.specs.Names.{throwable}
use Rattle.work_gen.specs.BaseLibrary.{named_headers, thrown_header}
use Rattle.work_gen.proofs.headers.base_headers.Given as goal

abbrev pub invariant-loop-name : goal.invariant-loop-name
invariant-loop-name l =
    l.headers ≡ named_headers ++ map (λ name. thrown_header throwable name.now) (take l.name-index l.name-items)
