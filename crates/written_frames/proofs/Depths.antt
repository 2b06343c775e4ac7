-- The units of stack entries and of points, one after the other.
use Rattle.std.proofs.Common.{◌≡◌, ◌+◌, ◌≤◌, ℕ, max, List, ◌∷◌, drop, slice_get, Option, Some, None, option_map, refl, sym, ap, ◌∙◌, arith}
use Rattle.std.proofs.lemmas.Option.{same_Some}
use Rattle.class_model.specs.Frames.{depth}
use Rattle.class_model.specs.Laws.Lists.{drop_item}
use Rattle.class_model.specs.declared.frame.Frame.{Frame}
use Rattle.flow_code.specs.WrittenUnits.{greatest_depth}
use Rattle.flow_code.specs.declared.point.Point.{Point}
use Rattle.written_frames.specs.Inner.Rooms.{IsDeepest}

next_point : (points : List Point) (at : ℕ) (typed : Frame) → Some typed ≡ option_map (λ (point : Point). point.typed) (slice_get points at)
    → greatest_depth (drop at points) ≡ max (depth typed.stack) (greatest_depth (drop (at + 1) points))
next_point points at typed is = of_point (slice_get points at) is (λ point found. drop_item points at point found) where
  of_point : (found : Option Point) → Some typed ≡ option_map (λ (point : Point). point.typed) found
      → ((point : Point) → found ≡ Some point → drop at points ≡ point ∷ drop (at + 1) points)
      → greatest_depth (drop at points) ≡ max (depth typed.stack) (greatest_depth (drop (at + 1) points))
  of_point None is cut = absurd cc
  of_point (Some point) is cut =
      ap greatest_depth (cut point refl) ∙ ap (λ (frame : Frame). max (depth frame.stack) (greatest_depth (drop (at + 1) points))) (same_Some point.typed typed (sym is))

pub deepest_fits : (points : List Point) (at greatest : ℕ) (typed : Frame) → Some typed ≡ option_map (λ (point : Point). point.typed) (slice_get points at)
    → IsDeepest points greatest at → depth typed.stack ≤ 65535
deepest_fits points at greatest typed is before =
    let next = next_point points at typed is in
    grind (arith, next, before.all, before.few)

pub deepest_more : (points : List Point) (at greatest own new : ℕ) (typed : Frame) → Some typed ≡ option_map (λ (point : Point). point.typed) (slice_get points at)
    → own ≡ depth typed.stack → new ≡ max greatest own
    → IsDeepest points greatest at → IsDeepest points new (at + 1)
deepest_more points at greatest own new typed is own_is new_is before =
    let next = next_point points at typed is in
    record { few = before.few; all = grind (arith, next, own_is, new_is, before.all) }
