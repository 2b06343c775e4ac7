-- The greatest depth of points, one after the other.
use Rattle.std.proofs.Common.{◌≡◌, ◌+◌, ℕ, List, ◌∷◌, drop, max, slice_get, Option, Some, None, option_map, refl, sym, ap, ◌∙◌, arith}
use Rattle.std.proofs.lemmas.Option.{same_Some}
use Rattle.class_model.specs.Frames.{depth}
use Rattle.class_model.specs.Laws.Lists.{drop_item}
use Rattle.class_model.specs.declared.frame.Frame.{Frame}
use Rattle.flow_code.specs.WrittenUnits.{greatest_depth}
use Rattle.flow_code.specs.declared.point.Point.{Point}
use Rattle.inline_expand.specs.Inner.WideWords.{counted}

pub next-depth : (points : List Point) (at : ℕ) (typed : Frame) → Some typed ≡ option_map (λ (point : Point). point.typed) (slice_get points at)
    → greatest_depth (drop at points) ≡ max (depth typed.stack) (greatest_depth (drop (at + 1) points))
next-depth points at typed is = of-point (slice_get points at) is (λ point found. drop_item points at point found) where
  of-point : (found : Option Point) → Some typed ≡ option_map (λ (point : Point). point.typed) found
      → ((point : Point) → found ≡ Some point → drop at points ≡ point ∷ drop (at + 1) points)
      → greatest_depth (drop at points) ≡ max (depth typed.stack) (greatest_depth (drop (at + 1) points))
  of-point None is cut = absurd cc
  of-point (Some point) is cut =
      ap greatest_depth (cut point refl) ∙ ap (λ (frame : Frame). max (depth frame.stack) (greatest_depth (drop (at + 1) points))) (same_Some point.typed typed (sym is))

pub deepest-more : (greatest own new deep rest behind whole : ℕ) → new ≡ max greatest own → own ≡ counted deep → behind ≡ max deep rest → counted (max greatest behind) ≡ counted whole → counted (max new rest) ≡ counted whole
deepest-more greatest own new deep rest behind whole new_is own_is cut all =
    let most : counted (max (max greatest (counted deep)) rest) ≡ counted (max greatest (max deep rest)) = omega arith in
    ap (λ (n : ℕ). counted (max n rest)) (new_is ∙ ap (max greatest) own_is) ∙ most ∙ ap (λ (n : ℕ). counted (max greatest n)) (sym cut) ∙ all
