use Rattle.std.proofs.Common.{length}
use Rattle.std.specs.List.{flat_map}
use Rattle.making_code.specs.MakeCode.{copy_object}
use Rattle.materialise.proofs.ObjectLists.{objects_from}
use Rattle.materialise.proofs.copies.copy_to_fields.Given as goal
use Rattle.materialise.specs.Inner.CodeWords.{WritesRest}

abbrev pub invariant-loop-site : goal.invariant-loop-site
invariant-loop-site l =
    WritesRest l.units l.fn.instrs.items (flat_map (copy_object l.sites) l.state.objects) l.instrs.items
    (flat_map (copy_object l.sites) (objects_from l.from l.state.objects))

abbrev pub decreases-loop-site : goal.decreases-loop-site
decreases-loop-site l = length (objects_from l.from l.state.objects)
