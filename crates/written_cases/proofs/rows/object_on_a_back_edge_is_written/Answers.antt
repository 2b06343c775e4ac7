use Rattle.std.specs.Prelude.{refl}
use Rattle.class_model.specs.Descriptors.{types_before}
use Rattle.written_cases.proofs.rows.object_on_a_back_edge_is_written.Goals as goal

pub returns : goal.returns
unfolding types_before
returns c = record { written = record { pool = refl; items = refl; places = refl; units = refl } }
