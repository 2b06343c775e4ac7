use Rattle.inline_expand.proofs.AddedMarks.{adds_one, adds_outside}
use Rattle.inline_expand.proofs.final_stores.mark.Goals as goal

pub returns-then-found-marks : goal.returns-then-found-marks
returns-then-found-marks c = adds_one c.args.marks.now c.in-Some.found c.args.found c.in-Some.is c.if-found-marks.true

pub returns-else-found-marks : goal.returns-else-found-marks
returns-else-found-marks c = adds_outside c.args.marks.now c.in-Some.found c.args.found c.in-Some.is c.if-found-marks.false
