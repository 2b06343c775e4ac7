use Rattle.std.proofs.Common.{ℕ, List, take}
use Rattle.std.specs.List.{flat_map}
use Rattle.class_tree.specs.Headers.{Name}
use Rattle.making_code.specs.MakeCode.{make_one}
use Rattle.materialise.proofs.objects.make_objects.Given as goal
use Rattle.materialise.specs.Inner.CodeWords.{Makes}
use Rattle.materialise.specs.MadeCode.{DescribesConstructors}
use Rattle.pool_edit.specs.Edits.{Continues}

abbrev pub invariant-loop-site : goal.invariant-loop-site
invariant-loop-site l =
    ((constructor : Name → List ℕ)
    → DescribesConstructors l.constructors constructor
    → Makes l.units constructor l.fn.pool l.fn.instrs.items (flat_map (make_one l.units l.state) (take l.site-index l.order)) l.pool l.instrs.items)
    × Continues l.fn.pool l.pool
