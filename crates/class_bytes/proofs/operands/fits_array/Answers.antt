use Rattle.std.proofs.Common.{refl}
use Rattle.class_bytes.proofs.Decides.{array_fits}
use Rattle.class_bytes.proofs.operands.fits_array.Goals as goal

pub returns-then-name-lt-MAX_TEXT : goal.returns-then-name-lt-MAX_TEXT
returns-then-name-lt-MAX_TEXT c = array_fits c.has_dimensions.result c.args.name.now (c.if-is_array_type.ensures.0 refl) c.has_dimensions.ensures c.if-name-lt-MAX_TEXT.true
