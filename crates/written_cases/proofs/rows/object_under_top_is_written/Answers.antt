use Rattle.std.specs.Prelude.{refl}
use Rattle.class_model.specs.Descriptors.{types_before}
use Rattle.code_bytes.specs.Forms.{instr_bytes}
use Rattle.written_cases.proofs.rows.object_under_top_is_written.Goals as goal

pub returns-clause-written : goal.returns-clause-written
unfolding types_before
returns-clause-written c = record { pool = refl; items = refl; places = refl; units = refl }

pub returns-clause-bytes : goal.returns-clause-bytes
unfolding instr_bytes
returns-clause-bytes c = refl
