-- The operations of a method that runs its own code are in both programs.
use Rattle.std.proofs.Common.{◌≡◌, ℕ, slice_get, Some, None, ap, ◌∙◌}
use Rattle.std.specs.Prelude.{option_and_then}
use Rattle.class_model.specs.declared.class_file.MethodAt.{MethodAt}
use Rattle.expanded_runs.proofs.Runs.CalleeLaws.{initialiser_called}
use Rattle.expanded_runs.proofs.Runs.FlatCodes.{own_code}
use Rattle.expanded_runs.proofs.Runs.Setup.{IsSetup, Setup, after, before}
use Rattle.member_link.specs.Machine.Programs.{Code, Point, point_at}
use Rattle.same_runs.specs.Laws.InstrOps.{DeclaresInitialisers, OwnBars, folder_op_in_both}
use Rattle.same_runs.specs.SamePrograms.{IsInBoth}

-- instance initialisers that the folder's methods call are declared
declares_initialisers : (u : Setup) → IsSetup u → (at : MethodAt) → DeclaresInitialisers u.classes (before u) at
declares_initialisers u is_setup at = record {
  each = λ s number placed opcode index count r is there instr special found name.
      initialiser_called u is_setup at s is number placed there opcode index count instr special r found name;
}

-- a method without a flat code has the same points in both
own_points_same : (u : Setup) → IsSetup u → (at : MethodAt) → u.flats at ≡ None → (k : ℕ) → point_at (after u) at k ≡ point_at (before u) at k
own_points_same u is_setup at none k = ap (option_and_then (λ (code : Code). slice_get code.points k)) (own_code u is_setup at none)

-- A point of a method without a flat code stands in both, and its operation is in both.
pub own_point_in_both : (u : Setup) → IsSetup u → (at : MethodAt) → OwnBars u.classes (before u) (after u) at → u.flats at ≡ None
    → (k : ℕ) (point : Point)
    → point_at (before u) at k ≡ Some point
    → (point_at (after u) at k ≡ Some point) × IsInBoth (before u) (after u) point.op
own_point_in_both u is_setup at bars none k point is = (
  own_points_same u is_setup at none k ∙ is,
  folder_op_in_both u.links at bars (declares_initialisers u is_setup at) k point is,
)
