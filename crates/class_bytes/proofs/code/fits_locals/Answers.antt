use Rattle.std.proofs.Common.{◌≡◌, rules}
use Rattle.class_model.specs.Methods.{this_units}
use Rattle.class_bytes.proofs.CallUnits.{units_fit_room, no_units_fit}
use Rattle.class_bytes.proofs.code.fits_locals.Goals as goal

pub returns-in-Some : goal.returns-in-Some
returns-in-Some c =
    let this : c.if-has.this ≡ this_units c.args.method.now.flags = search rules in
    rw (← c.requires.shapes, c.from.ensures, c.from-in-Some.ensures)
    (units_fit_room c.args.method.now.flags c.if-has.this c.args.max_locals _ c.in-Some.shape c.in-Some.ensures this c.parameters_are_spelled.ensures)

pub returns-in-None : goal.returns-in-None
returns-in-None c = rw (← c.requires.shapes) (no_units_fit c.args.method.now.flags c.args.max_locals _ c.in-None.ensures (rw (← c.requires.shapes) at c.requires.descriptor))
