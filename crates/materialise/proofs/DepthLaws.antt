-- The units of stack entries.
use Rattle.std.proofs.Common.{◌≡◌, ◌+◌, ◌≤◌, ℕ, zero, suc, max, List, [], ◌∷◌, length, slice_get, Some, refl, subst, arith}
use Rattle.std.proofs.lemmas.Option.{none-some, same_Some}
use Rattle.class_model.specs.Descriptors.{units_of}
use Rattle.class_model.specs.Frames.{depth}
use Rattle.class_model.specs.declared.descriptor.Kind.{Kind}
use Rattle.class_model.specs.declared.descriptor.Kind.TheVariants as kinds
use Rattle.class_model.specs.declared.frame.VType.{VType}
use Rattle.class_model.specs.declared.frame.VType.TheVariants.{Top, Int, Float, Long, Double, Null, UninitThis, Object, Uninit}
use Rattle.flow_code.specs.WrittenUnits.{greatest_depth}
use Rattle.flow_code.specs.declared.point.Point.{Point}
use Rattle.making_code.specs.MakeCode.{kind_of_type}

pub one_depth : (type : VType) → depth (type ∷ []) ≡ units_of (kind_of_type type)
one_depth Top = refl
one_depth Int = refl
one_depth Float = refl
one_depth Long = refl
one_depth Double = refl
one_depth Null = refl
one_depth UninitThis = refl
one_depth (Object name) = refl
one_depth (Uninit at) = refl

pub depth_first : (type : VType) (types : List VType) → depth (type ∷ types) ≡ units_of (kind_of_type type) + depth types
depth_first Top types = omega arith
depth_first Int types = omega arith
depth_first Float types = omega arith
depth_first Long types = omega arith
depth_first Double types = omega arith
depth_first Null types = omega arith
depth_first UninitThis types = omega arith
depth_first (Object name) types = omega arith
depth_first (Uninit at) types = omega arith

pub no_deeper : (points : List Point) (at : ℕ) (point : Point) → slice_get points at ≡ Some point → depth point.typed.stack ≤ greatest_depth points
no_deeper [] at point is = absurd (none-some point is)
no_deeper (first ∷ points) zero point is =
    subst (λ (one : Point). depth one.typed.stack ≤ greatest_depth (first ∷ points)) (same_Some first point is)
    (left (depth first.typed.stack) (greatest_depth points))
  where
    left : (a b : ℕ) → a ≤ max a b
    left a b = grind arith
no_deeper (first ∷ points) (suc at) point is =
    above (depth point.typed.stack) (depth first.typed.stack) (greatest_depth points) (no_deeper points at point is)
  where
    above : (low a b : ℕ) → low ≤ b → low ≤ max a b
    above low a b less = grind (arith, less)

-- there are no more entries than units
pub no_more_entries : (types : List VType) → length types ≤ depth types
no_more_entries [] = omega arith
no_more_entries (type ∷ types) =
    let rest = no_more_entries types in
    let first = depth_first type types in
    let some = takes_some (kind_of_type type) in
    omega (arith, rest, first, some)
  where
    takes_some : (kind : Kind) → 1 ≤ units_of kind
    takes_some kinds.Int = omega arith
    takes_some kinds.Long = omega arith
    takes_some kinds.Float = omega arith
    takes_some kinds.Double = omega arith
    takes_some kinds.Ref = omega arith
