use Rattle.std.proofs.Common.{◌+◌, ◌-◌, length}
use Rattle.virtual_state.specs.Inner.Marks.{HaveSameMarks}
use Rattle.virtual_state.proofs.marks.grow.Given as goal

abbrev pub invariant-loop-marks : goal.invariant-loop-marks
invariant-loop-marks l = HaveSameMarks l.initial.marks.items l.marks.items

abbrev pub decreases-loop-marks : goal.decreases-loop-marks
decreases-loop-marks l = l.site + 1 - length l.marks.items
