-- Arithmetic, behind frames whose uninitialised objects have other numbers.
use Rattle.std.proofs.Common.{◌≡◌, ℕ, List, [], ◌∷◌, map, Option, Some, None, refl, ap}
use Rattle.class_model.specs.declared.descriptor.Kind.{Kind}
use Rattle.class_model.specs.declared.descriptor.Kind.TheVariants as kinds
use Rattle.class_model.specs.declared.frame.Frame.{Frame}
use Rattle.class_model.specs.declared.frame.VType.{VType}
use Rattle.row_frames.specs.Laws.NumberedFrames.{numbered_type, numbered_frame}
use Rattle.row_frames.specs.Laws.RenumberedRows.{Moves, no_row_moves, plain_moves}
use Rattle.row_frames.specs.Laws.RenumberedTypes.{numbered_need}
use Rattle.member_link.specs.Rows.ArithmeticRows.{Operation, operation_row, type_of_kind}
use Rattle.member_link.specs.Rows.Operands.{Need, of_kind}

module _ (number : ℕ → ℕ) where
  kinds_same : (kinds : List Kind) → map of_kind kinds ≡ map (numbered_need number) (map of_kind kinds)
  kinds_same [] = refl
  kinds_same (kind ∷ kinds) = ap (λ (needs : List Need). of_kind kind ∷ needs) (kinds_same kinds)

  given_same : (kind : Kind) → type_of_kind kind ≡ numbered_type number (type_of_kind kind)
  given_same kinds.Int = refl
  given_same kinds.Long = refl
  given_same kinds.Float = refl
  given_same kinds.Double = refl
  given_same kinds.Ref = refl

  pub operation_moves : (f : Frame) (operation : Option Operation)
      → Moves number (operation_row f operation) (operation_row (numbered_frame number f) operation)
  operation_moves f None = no_row_moves number f
  operation_moves f (Some o) = plain_moves number f _ _ _ _ (kinds_same o.takes) (ap (λ (type : VType). type ∷ []) (given_same o.gives))
