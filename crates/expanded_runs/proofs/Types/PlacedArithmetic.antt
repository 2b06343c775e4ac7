-- Arithmetic in its place in flat code.
use Rattle.std.proofs.Common.{◌≡◌, List, [], ◌∷◌, map, Option, Some, None, refl, ap}
use Rattle.std.specs.List.{AllByRecursion}
use Rattle.class_model.specs.declared.descriptor.Kind.{Kind}
use Rattle.class_model.specs.declared.descriptor.Kind.TheVariants as kinds
use Rattle.class_model.specs.declared.frame.Frame.{Frame}
use Rattle.class_model.specs.declared.frame.VType.{VType}
use Rattle.expanded_runs.proofs.Types.PlacedRows.{HasOperands, Moves, no_row_moves, plain_moves}
use Rattle.expanded_runs.proofs.Types.PlacedTypes.{IsKept, Place, placed_frame, placed_type}
use Rattle.member_link.specs.Rows.ArithmeticRows.{Operation, operation_row, type_of_kind}
use Rattle.member_link.specs.Rows.Operands.{of_kind}

module _ (p : Place) (f : Frame) where
  pub kinds_kept : (kinds : List Kind) → AllByRecursion (IsKept p) (map of_kind kinds)
  kinds_kept [] = tt
  kinds_kept (kind ∷ kinds) = (tt, kinds_kept kinds)

  given_same : (kind : Kind) → type_of_kind kind ≡ placed_type p (type_of_kind kind)
  given_same kinds.Int = refl
  given_same kinds.Long = refl
  given_same kinds.Float = refl
  given_same kinds.Double = refl
  given_same kinds.Ref = refl

  pub operation_moves : (operation : Option Operation) → HasOperands p f (operation_row f operation)
      → Moves p f (operation_row f operation) (operation_row (placed_frame p f) operation)
  operation_moves None fit = no_row_moves p f fit
  operation_moves (Some o) fit =
      plain_moves p f _ _ _ (kinds_kept o.takes) (ap (λ (type : VType). type ∷ []) (given_same o.gives)) fit
