use Rattle.std.proofs.Common.{drop}
use Rattle.stackmap_emit.proofs.led.mark_catches.Given as goal
use Rattle.stackmap_emit.specs.Inner.Marks.{IsMarkedBut, catches_lead}

abbrev pub invariant-loop-catch : goal.invariant-loop-catch
invariant-loop-catch l = IsMarkedBut (catches_lead (drop l.catch-index l.catches)) (catches_lead l.catches) l.initial.led l.led
