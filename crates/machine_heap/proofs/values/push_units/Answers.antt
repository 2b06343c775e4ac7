use Rattle.machine_heap.proofs.UnitLists.{units_more}
use Rattle.machine_heap.proofs.values.push_units.Goals as goal

pub loop-value-preserved : goal.loop-value-preserved
loop-value-preserved c =
    units_more _ _ _ c.args.values.now c.loop-value.value-index c.value-item.result
    c.loop-value-test.true c.value-item.is c.loop-value.invariant c.in_ok-push_value.ensures
