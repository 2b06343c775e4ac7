-- The word of the value.
use Rattle.std.proofs.Common.{◌∷◌, ℤ, subst, sym}
use Rattle.std.proofs.lemmas.Int.{to_z-of_z}
use Rattle.std.specs.Int.{w64}
use Rattle.machine_values.specs.declared.action.Given.TheVariants.{Long}
use Rattle.script_text.specs.Scripts.{SpellsGiven, given_long}
use Rattle.script_text.proofs.given.long_given.Goals as goal

pub returns-in-Some : goal.returns-in-Some
returns-in-Some c = subst (λ (z : ℤ). SpellsGiven (Long z) (108 ∷ 58 ∷ c.args.number.now)) (sym (to_z-of_z w64 c.in-Some.number c.in-Some.ensures.fits)) (given_long c.in-Some.ensures)
