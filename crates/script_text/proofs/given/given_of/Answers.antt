-- The word of null.
use Rattle.std.proofs.Common.{List, ℕ, refl, subst, sym}
use Rattle.machine_values.specs.declared.action.Given.TheVariants.{Null}
use Rattle.script_text.specs.Scripts.{SpellsGiven, given_null}
use Rattle.script_text.proofs.given.given_of.Goals as goal

pub returns-then-is_same : goal.returns-then-is_same
returns-then-is_same c = subst (λ (w : List ℕ). SpellsGiven Null w) (sym (c.if-is_same.ensures.0 refl)) given_null
