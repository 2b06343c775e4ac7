-- The places of the body of flat code are the numbers of its points.
use Rattle.std.proofs.Common.{◌≡◌, ◌+◌, ℕ, zero, suc, Bool, true, false, List, [], ◌∷◌, length, map, slice_get, Some, option_map, if◌then◌else◌, refl, ap, subst, ◌∙◌, arith, eq-eqb}
use Rattle.std.specs.Prelude.{◌==◌}
use Rattle.std.specs.List.{AllByRecursion}
use Rattle.std.proofs.lemmas.Bool.{ne_eqb}
use Rattle.class_tree.specs.Headers.{Classes}
use Rattle.flow_code.specs.FlatCode.{FlatCode}
use Rattle.flow_code.specs.declared.point.Point.{Point}
use Rattle.member_link.specs.Bodies.{BodyPoint}
use Rattle.member_link.specs.BodyTyping.{AreInOrder, BeginAt, frame_among, frame_at}
use Rattle.member_link.specs.Machine.Replaced.{map_numbered}
use Rattle.member_link.specs.Scope.{Scope}
use Rattle.same_runs.specs.FlatBodies.{body_of_flat, body_point, typed_points}

module _ (classes : Classes) (s : Scope) (flat : FlatCode) where
  typed_among : (points : List Point) (from n : ℕ)
      → frame_among (map_numbered (body_point classes s flat) from points) (map (λ (point : Point). point.typed) points)
      (from + n) ≡ option_map (λ (point : Point). point.typed) (slice_get points n)
  typed_among [] from n = refl
  typed_among (point ∷ points) from zero =
      let here : (from == from + 0) ≡ true = eq-eqb from (from + 0) (omega arith) in
      ap (λ (b : Bool). if b then Some point.typed else frame_among (map_numbered (body_point classes s flat) (suc from) points)
      (map (λ (p : Point). p.typed) points) (from + 0)) here
  typed_among (point ∷ points) from (suc n) =
      let apart : (from == from + suc n) ≡ false = ne_eqb from (from + suc n) (λ e. omega (arith, e)) in
      let later : suc from + n ≡ from + suc n = omega arith in
      ap (λ (b : Bool). if b then Some point.typed else frame_among (map_numbered (body_point classes s flat) (suc from) points)
      (map (λ (p : Point). p.typed) points) (from + suc n)) apart
      ∙ subst (λ (place : ℕ). frame_among (map_numbered (body_point classes s flat) (suc from) points)
      (map (λ (p : Point). p.typed) points) place ≡ option_map (λ (p : Point). p.typed) (slice_get points n)) later
      (typed_among points (suc from) n)

  -- the typed frame of a point stands at its number, and each is stated
  pub frame_is_stated : (n : ℕ) → frame_at (body_of_flat classes s flat) (typed_points flat) n ≡ (body_of_flat classes s flat).stated n
  frame_is_stated n =
      let same : 0 + n ≡ n = omega arith in
      subst (λ (place : ℕ). frame_at (body_of_flat classes s flat) (typed_points flat) place ≡ (body_of_flat classes s flat).stated n) same
      (typed_among flat.points zero n)

  begin_there : (points : List Point) (from : ℕ) → BeginAt (from + 1) (map_numbered (body_point classes s flat) (suc from) points)
  begin_there [] from = tt
  begin_there (point ∷ points) from = omega arith

  in_order : (points : List Point) (from : ℕ) → AreInOrder (map_numbered (body_point classes s flat) from points)
  in_order [] from = tt
  in_order (point ∷ points) from = (omega arith, begin_there points from, in_order points (suc from))

  pub points_in_order : AreInOrder (body_of_flat classes s flat).points
  points_in_order = in_order flat.points zero

  as_many : (points : List Point) (from : ℕ)
      → length (map (λ (point : Point). point.typed) points) ≡ length (map_numbered (body_point classes s flat) from points)
  as_many [] from = refl
  as_many (point ∷ points) from = ap suc (as_many points (suc from))

  pub one_each : length (typed_points flat) ≡ length (body_of_flat classes s flat).points
  one_each = as_many flat.points zero

  each_from : (P : BodyPoint → Type 0) (points : List Point) (from : ℕ)
      → ((n : ℕ) (point : Point) → slice_get points n ≡ Some point → P (body_point classes s flat (from + n) point))
      → AllByRecursion P (map_numbered (body_point classes s flat) from points)
  each_from P [] from each = tt
  each_from P (point ∷ points) from each = (
    subst (λ (n : ℕ). P (body_point classes s flat n point)) (omega arith) (each 0 point refl),
    each_from P points (suc from)
        (λ n later is. subst (λ (number : ℕ). P (body_point classes s flat number later)) (omega arith) (each (suc n) later is)),
  )

  -- what holds of each point at its number
  pub each_point : (P : BodyPoint → Type 0)
      → ((n : ℕ) (point : Point) → slice_get flat.points n ≡ Some point → P (body_point classes s flat n point))
      → AllByRecursion P (body_of_flat classes s flat).points
  each_point P each =
      each_from P flat.points zero
      (λ n point is. subst (λ (number : ℕ). P (body_point classes s flat number point)) (omega arith) (each n point is))
