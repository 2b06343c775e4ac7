use Rattle.std.proofs.Common.{take}
use Rattle.std.specs.List.{AllByRecursion}
use Rattle.code_layout.specs.Emitting.{NamesItem}
use Rattle.cases_rewrite.proofs.emitting.catches_within.Given as goal

abbrev pub invariant-loop-catch : goal.invariant-loop-catch
invariant-loop-catch l = AllByRecursion (λ catch. NamesItem l.count catch.to) (take l.catch-index l.catches)
