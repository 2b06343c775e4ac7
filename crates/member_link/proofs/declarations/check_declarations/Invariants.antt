use Rattle.std.proofs.Common.{drop}
use Rattle.class_model.specs.Checks.{asked_each}
use Rattle.class_model.specs.Laws.Checks.{Remain}
use Rattle.class_tree.specs.Headers.{headers_of}
use Rattle.member_link.specs.Declarations.{declaration_checks}
use Rattle.member_link.proofs.declarations.check_declarations.Given as goal

abbrev pub invariant-loop-index : goal.invariant-loop-index
invariant-loop-index l =
    let headers = headers_of l.tree in
    Remain (asked_each (declaration_checks headers) headers.folder) (asked_each (declaration_checks headers) (drop l.index headers.folder))
