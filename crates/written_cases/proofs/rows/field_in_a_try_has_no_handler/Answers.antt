use Rattle.std.specs.Prelude.{refl}
use Rattle.written_cases.proofs.RefusedForms.{initialisers_alike, none_through_both}
use Rattle.written_cases.proofs.rows.field_in_a_try_has_no_handler.Goals as goal

pub returns-clause-written : goal.returns-clause-written
returns-clause-written c = record { pool = refl; items = refl; places = refl; units = refl }

pub returns-clause-none : goal.returns-clause-none
returns-clause-none c = none_through_both

pub returns-clause-alike : goal.returns-clause-alike
returns-clause-alike c = initialisers_alike
