-- The room of a stack: two units for each of the most entries that a stack of typed points has.
use Rattle.std.proofs.Common.{◌≡◌, ◌≤◌, ◌+◌, ◌*◌, ℕ, zero, suc, List, [], ◌∷◌, ◌++◌, length, slice_get, Some, option_map, subst, arith, length-append}
use Rattle.std.specs.Prelude.{max}
use Rattle.std.proofs.Math.Nat.{le-max_left, le-max_right}
use Rattle.std.proofs.lemmas.Option.{same_Some}
use Rattle.class_model.specs.Frames.{depth, units, units_of_entries}
use Rattle.class_model.specs.declared.frame.Frame.{Frame}
use Rattle.class_model.specs.declared.frame.VType.{VType}
use Rattle.class_model.specs.declared.frame.VType.TheVariants as types
use Rattle.flow_code.specs.FlatRoom.{deepest}
use Rattle.flow_code.specs.declared.point.Point.{Point}

units_few : (type : VType) → length (units type) ≤ 2
units_few types.Long = omega arith
units_few types.Double = omega arith
units_few other = omega arith

-- an entry takes two units at most
pub two_each : (entries : List VType) → depth entries ≤ 2 * length entries
two_each [] = omega arith
two_each (type ∷ entries) =
    let rest : depth entries ≤ 2 * length entries = two_each entries in
    let here : length (units type) ≤ 2 = units_few type in
    let both : length (units type ++ units_of_entries entries) ≡ length (units type) + length (units_of_entries entries) =
    length-append (units type) (units_of_entries entries) in
    omega (arith, rest, here, both)

-- the stack of no point has more entries than the most
pub no_deeper : (points : List Point) (n : ℕ) (frame : Frame)
    → option_map (λ (point : Point). point.typed) (slice_get points n) ≡ Some frame → length frame.stack ≤ deepest points
no_deeper [] n frame is = absurd cc
no_deeper (first ∷ points) zero frame is =
    subst (λ (f : Frame). length f.stack ≤ deepest (first ∷ points)) (same_Some first.typed frame is)
    (le-max_left (length first.typed.stack) (deepest points))
no_deeper (first ∷ points) (suc n) frame is =
    let below : length frame.stack ≤ deepest points = no_deeper points n frame is in
    let above : deepest points ≤ max (length first.typed.stack) (deepest points) =
    le-max_right (length first.typed.stack) (deepest points) in
    omega (arith, below, above)
