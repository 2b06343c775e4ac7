use Rattle.std.proofs.Common.{drop}
use Rattle.stackmap_emit.proofs.led.mark_items.Given as goal
use Rattle.stackmap_emit.specs.Inner.Marks.{IsMarkedBut, items_lead}

abbrev pub invariant-loop-item : goal.invariant-loop-item
invariant-loop-item l = IsMarkedBut (items_lead (drop l.item-index l.items)) (items_lead l.items) l.initial.led l.led
