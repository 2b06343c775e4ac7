use Rattle.class_bytes.specs.Inner.Shapes.{HasShape}
use Rattle.class_bytes.proofs.Shapes.{units_fit, no_units, most_static, most_with_this}
use Rattle.class_bytes.proofs.methods.fits_units.Goals as goal
use Rattle.class_bytes.proofs.methods.fits_units.Goals.{then-has, else-has}

pub returns-in-None : goal.returns-in-None
returns-in-None c = λ text is. no_units _ text _ is c.in-None.is

pub returns-in-Some : goal.returns-in-Some
returns-in-Some c = λ text is.
    let has : HasShape text c.in-Some.shape = rw c.in-Some.is at is in
    elim c.if-has.branch [
      | then-has w ↦ units_fit _ text _ _ has (most_static _ _ w.if-has.ensures w.most-is)
      | else-has w ↦ units_fit _ text _ _ has (most_with_this _ _ w.if-has.ensures w.most-is)
    ]
