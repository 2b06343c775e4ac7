-- Flat code as the machine runs it: numbers of its points stay, so that its points are those of the flat code one by one.
use Rattle.std.proofs.Common.{◌≡◌, ◌==◌, ◌<◌, ◌+◌, ◌≤◌, ℕ, zero, suc, false, List, [], ◌∷◌, length, map, slice_get, Option, Some, None, option_map, refl, ap, subst, ◌∙◌, arith}
use Rattle.std.specs.List.{AllByRecursion}
use Rattle.std.proofs.lemmas.Bool.{eq-eqb}
use Rattle.std.proofs.lemmas.Option.{slice_get-map}
use Rattle.class_tree.specs.Headers.{Classes}
use Rattle.flow_code.specs.FlatCode.{FlatCode}
use Rattle.flow_code.specs.declared.handlers.FlatHandler.{FlatHandler}
use Rattle.flow_code.specs.declared.point.Point.{Point as FlatPoint}
use Rattle.member_link.specs.Machine.Codes.{CodePoint, item_op, number_at, renumbered, run_point}
use Rattle.member_link.specs.Machine.Programs.{Catch, Links, Point, number_of_first}
use Rattle.member_link.specs.Machine.Replaced.{map_numbered}
use Rattle.member_link.specs.Scope.{Scope}
use Rattle.same_runs.specs.Flats.{flat_catch, flat_code, flat_item, flat_point, flat_points, instr_scope}
use Rattle.same_runs.specs.Laws.Numbered.{from_zero, length_numbered}

-- ---- numbers of points stay

abbrev or_behind : ℕ → Option ℕ → ℕ
or_behind behind None = behind
or_behind behind (Some number) = number

is_at : (points : List CodePoint) (place : ℕ) (found : Option ℕ) → number_of_first (λ (point : CodePoint). point.place == place) points ≡ found
    → number_at points place ≡ or_behind (length points) found
is_at points place None is = rw is refl
is_at points place (Some number) is = rw is refl

differ : (m n : ℕ) → m < n → (m == n) ≡ false
differ m n less = grind (arith)

module _ {A : Type 0} (point_of : ℕ → A → CodePoint) (stands : (number : ℕ) (item : A) → (point_of number item).place ≡ number) where
  one_more : (behind : ℕ) (found : Option ℕ) → or_behind (suc behind) (option_map suc found) ≡ suc (or_behind behind found)
  one_more behind None = refl
  one_more behind (Some number) = refl

  -- the point that is made at a number is found by it, and behind the last there is none
  found_at : (first to : ℕ) (items : List A) → to ≤ length items
      → or_behind (length items) (number_of_first (λ (point : CodePoint). point.place == first + to) (map_numbered point_of first items)) ≡ to
  found_at first to [] within = omega (arith, within)
  found_at first zero (item ∷ items) within = rw (stands first item, eq-eqb first (first + 0) (omega arith)) refl
  found_at first (suc to) (item ∷ items) within =
      let moved : suc first + to ≡ first + suc to = omega arith in
      let rest =
      subst (λ (n : ℕ). or_behind (length items) (number_of_first (λ (point : CodePoint). point.place == n) (map_numbered point_of (suc first) items)) ≡ to)
      moved (found_at (suc first) to items (omega (arith, within))) in
      rw (stands first item, differ first (first + suc to) (omega arith))
      (one_more (length items) (number_of_first (λ (point : CodePoint). point.place == first + suc to) (map_numbered point_of (suc first) items)) ∙ ap suc rest)

  -- So where each point stands at its number, the number of a place is the place.
  pub number_is_place : (items : List A) (n : ℕ) → n ≤ length items → number_at (map_numbered point_of zero items) n ≡ n
  number_is_place items n within =
      let all = map_numbered point_of zero items in
      let found = number_of_first (λ (point : CodePoint). point.place == n) all in
      let none : 0 + n ≡ n = omega arith in
      is_at all n found refl
      ∙ ap (λ (count : ℕ). or_behind count found) (length_numbered point_of zero items)
      ∙ subst (λ (m : ℕ). or_behind (length items) (number_of_first (λ (point : CodePoint). point.place == m) all) ≡ n) none
      (found_at zero n items within)

module _ (classes : Classes) (s : Scope) (flat : FlatCode) where
  pub number_stays : (n : ℕ) → n ≤ length flat.points → number_at (flat_points classes s flat) n ≡ n
  number_stays n within = number_is_place (flat_point classes s flat) (λ number point. refl) flat.points n within

  -- handlers begin at points, or behind them
  abbrev pub BeginWithin : List FlatHandler → Type 0
  BeginWithin handlers = AllByRecursion (λ (handler : FlatHandler). handler.to ≤ length flat.points) handlers

  catches_stay : (handlers : List FlatHandler) → BeginWithin handlers
      → map (renumbered (number_at (flat_points classes s flat))) (map flat_catch handlers) ≡ map flat_catch handlers
  catches_stay [] within = refl
  catches_stay (handler ∷ handlers) within =
      let first = number_stays handler.to within.0 in
      let rest = catches_stay handlers within.1 in
      λ i. record { to = first i; class = handler.catch_class } ∷ rest i

-- ---- points of flat code

module _ (classes : Classes) (links : Links) (s : Scope) (flat : FlatCode) where
  -- a point, with handlers by the numbers of places
  pub numbered_point_is : (n : ℕ) (point : FlatPoint)
      → slice_get flat.points n ≡ Some point
      → slice_get (flat_code classes links s flat).points n
      ≡ Some (run_point links (number_at (flat_points classes s flat)) (flat_point classes s flat n point))
  numbered_point_is n point is =
      slice_get-map (run_point links (number_at (flat_points classes s flat))) (flat_points classes s flat) n
      ∙ ap (option_map (run_point links (number_at (flat_points classes s flat))))
      (from_zero (flat_point classes s flat) flat.points n ∙ ap (option_map (flat_point classes s flat n)) is)

  -- a point of flat code as the machine runs it
  abbrev pub flat_run_point : FlatPoint → Point
  flat_run_point point = record {
    op = item_op links (number_at (flat_points classes s flat)) (instr_scope classes s flat point.instr) (flat_item point.instr);
    catches = map flat_catch point.handlers;
  }

  pub flat_points_are : (n : ℕ) (point : FlatPoint)
      → slice_get flat.points n ≡ Some point
      → BeginWithin classes s flat point.handlers
      → slice_get (flat_code classes links s flat).points n ≡ Some (flat_run_point point)
  flat_points_are n point is within =
      numbered_point_is n point is
      ∙ ap (λ (catches : List Catch). Some (record {
        op = item_op links (number_at (flat_points classes s flat)) (instr_scope classes s flat point.instr) (flat_item point.instr);
        catches = catches;
      })) (catches_stay classes s flat point.handlers within)
