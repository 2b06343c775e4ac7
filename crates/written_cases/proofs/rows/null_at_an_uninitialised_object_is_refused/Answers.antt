use Rattle.std.specs.Prelude.{refl}
use Rattle.class_model.specs.Descriptors.{types_before}
use Rattle.written_cases.proofs.RefusedForms.{flows_inside, is_narrow, keeps_none}
use Rattle.written_cases.proofs.rows.null_at_an_uninitialised_object_is_refused.Goals as goal

pub returns-clause-written : goal.returns-clause-written
unfolding types_before
returns-clause-written c = record { pool = refl; items = refl; places = refl; units = refl }

pub returns-clause-flows : goal.returns-clause-flows
returns-clause-flows c = flows_inside

pub returns-clause-narrow : goal.returns-clause-narrow
returns-clause-narrow c = is_narrow

pub returns-clause-refused : goal.returns-clause-refused
returns-clause-refused c = keeps_none
