-- The greatest depth of the stack, point by point.
use Rattle.std.proofs.Common.{◌≡◌, ◌+◌, ℕ, zero, suc, drop, max, min, List, [], ◌∷◌, slice_get, Option, Some, None, option_map, refl, sym, ap, ◌∙◌, arith}
use Rattle.std.proofs.lemmas.Option.{none-some, same_Some}
use Rattle.class_model.specs.Frames.{depth}
use Rattle.class_model.specs.declared.frame.Frame.{Frame}
use Rattle.flow_code.specs.WrittenUnits.{greatest_depth}
use Rattle.flow_code.specs.declared.point.Point.{Point}

next_depth : (points : List Point) (at : ℕ) (typed : Frame) → option_map (λ (point : Point). point.typed) (slice_get points at) ≡ Some typed
    → greatest_depth (drop at points) ≡ max (depth typed.stack) (greatest_depth (drop (suc at) points))
next_depth [] at typed is = absurd (none-some typed is)
next_depth (point ∷ points) zero typed is = ap (λ (frame : Frame). max (depth frame.stack) (greatest_depth points)) (same_Some point.typed typed is)
next_depth (point ∷ points) (suc at) typed is = next_depth points at typed is

pub deepest_more : (points : List Point) (at greatest own next : ℕ) (typed : Frame) → Some typed ≡ option_map (λ (point : Point). point.typed) (slice_get points at)
    → own ≡ min (depth typed.stack) 65535
    → next ≡ max greatest own
    → max greatest (min (greatest_depth (drop at points)) 65535) ≡ min (greatest_depth points) 65535
    → max next (min (greatest_depth (drop (at + 1) points)) 65535) ≡ min (greatest_depth points) 65535
deepest_more points at greatest own next typed is own_is next_is so_far =
    let step = next_depth points at typed (sym is) in
    let one_more : greatest_depth (drop (at + 1) points) ≡ greatest_depth (drop (suc at) points) =
    ap (λ (n : ℕ). greatest_depth (drop n points)) {x = at + 1} {y = suc at} (omega arith) in
    omega (arith, step, one_more, own_is, next_is, so_far)
