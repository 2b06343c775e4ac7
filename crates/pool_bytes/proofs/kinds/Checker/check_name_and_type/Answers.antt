use Rattle.std.proofs.Common.{inl, inr, refl}
use Rattle.pool_bytes.proofs.kinds.Checker.check_name_and_type.Goals as goal

pub returns-then-not-is_descriptor-clause-told : goal.returns-then-not-is_descriptor-clause-told
returns-then-not-is_descriptor-clause-told c = rw (c.broken-then-not-is_descriptor.ensures, ← c.in-Some-Some.ensures, ← c.in-Some-Some.ensures') (inr ((refl, refl), inr (c.fits_descriptor.ensures.0 c.if-not-fits_descriptor.false, inl (λ d. absurd (cc (c.is_descriptor.ensures.1 d, c.if-not-is_descriptor.true)), refl))))

pub returns-clause-told : goal.returns-clause-told
returns-clause-told c = rw (← c.in-Some-Some.ensures, ← c.in-Some-Some.ensures') (((refl, refl), (c.fits_descriptor.ensures.0 c.if-not-fits_descriptor.false, (c.is_descriptor.ensures.0 c.if-not-is_descriptor.false, tt))), tt)
