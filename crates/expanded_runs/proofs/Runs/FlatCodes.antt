-- The codes of methods in both programs, and their points.
use Rattle.std.proofs.Common.{◌≡◌, ◌==◌, ℕ, false, map, slice_get, Option, Some, None, option_map, refl, sym, ap, ◌∙◌}
use Rattle.std.specs.Prelude.{option_and_then}
use Rattle.std.proofs.lemmas.List.{length-map}
use Rattle.class_model.specs.Members.{NATIVE, has}
use Rattle.class_model.specs.declared.class_file.MethodAt.{MethodAt}
use Rattle.class_model.specs.declared.instr.Placed.{Placed}
use Rattle.class_tree.specs.Headers.{headers_of}
use Rattle.expanded_code.specs.Alone.{number_in}
use Rattle.expanded_code.specs.Laws.CodedMethods.{not_native}
use Rattle.expanded_code.specs.Laws.NumberedInstrs.{found-instr, or_behind}
use Rattle.expanded_runs.proofs.AloneCode.{first-placed, found-point}
use Rattle.expanded_runs.proofs.Runs.Setup.{IsSetup, Setup, after, before}
use Rattle.flow_code.specs.FlatCode.{FlatCode}
use Rattle.flow_code.specs.declared.point.Point.{Point as FlatPoint}
use Rattle.member_link.specs.Machine.Classes.{run_method_of}
use Rattle.member_link.specs.Machine.Codes.{catches_at, code_point, code_points, instr_op, method_code, number_at, run_point}
use Rattle.member_link.specs.Machine.Programs.{Catch, Code, Links, Point, RunMethod, code_at, code_run, number_of_first, point_at, run_method}
use Rattle.member_link.specs.Machine.Replaced.{with_body}
use Rattle.member_link.specs.Scope.{Scope, instructions, row_scope, scope_at}
use Rattle.same_runs.specs.Flats.{flat_body, flat_code}
use Rattle.same_runs.specs.Laws.FlatRuns.{BeginWithin, flat_points_are, flat_run_point}
use Rattle.same_runs.specs.Laws.InstrOps.{own_point as numbered_point, own_points_are as numbered_points_are}
use Rattle.same_runs.specs.Laws.Numbered.{replaced_run}
use Rattle.member_link.specs.Laws.Scopes.{scope_is_at}
use Rattle.same_runs.specs.Laws.Scopes.{own_code_at, own_method_code, own_run, runs_in_place}

-- ---- points of a method's own code

-- the instruction at an offset, with its handlers
abbrev pub own_point : Links → Scope → Placed → Point
own_point links s placed = record {
  op = instr_op links (number_in (instructions s)) (row_scope s) placed.instr;
  catches =
      map (λ (catch : Catch). let own : Catch = record catch { to = number_in (instructions s) catch.to } in own)
      (catches_at s.class.pool s.part.handlers placed.at);
}

module _ (links : Links) (s : Scope) where
  own_number : (to : ℕ) → number_at (code_points s) to ≡ number_in (instructions s) to
  own_number to =
      let instrs = instructions s in
      let found = number_of_first (λ (placed : Placed). placed.at == to) instrs in
      found-point (code_points s) to found (first-placed (code_point s) (λ p. refl) to instrs)
      ∙ ap (λ (n : ℕ). or_behind n found) (length-map instrs (code_point s))
      ∙ sym (found-instr instrs to found refl)

  pub own_points_are : (k : ℕ) → slice_get (method_code links s).points k ≡ option_map (own_point links s) (slice_get (instructions s) k)
  own_points_are k = numbered_points_are links s k ∙ by (slice_get (instructions s) k) where
    same : number_at (code_points s) ≡ number_in (instructions s)
    same = λ i to. own_number to i

    by : (placed : Option Placed) → option_map (numbered_point links s) placed ≡ option_map (own_point links s) placed
    by None = refl
    by (Some placed) = ap (λ (number : ℕ → ℕ). Some (run_point links number (code_point s placed))) same

-- ---- the codes of both programs

module _ (u : Setup) (is_setup : IsSetup u) where
  own_not_native : (at : MethodAt) (s : Scope) → scope_at u.classes at ≡ Some s → has s.method.flags NATIVE ≡ false
  own_not_native at s is =
      let there = scope_is_at u.classes at s is in
      not_native u.classes is_setup.tree at s.class s.method s.part there.of_folder there.of_class there.has_code

  -- a method of the folder with code runs it in the first
  pub code_before : (at : MethodAt) (s : Scope) → scope_at u.classes at ≡ Some s → code_at (before u) at ≡ Some (method_code u.links s)
  code_before at s is =
      own_code_at u.classes u.links at s (scope_is_at u.classes at s is) (own_not_native at s is)

  pub point_before : (at : MethodAt) (s : Scope) → scope_at u.classes at ≡ Some s → (k : ℕ)
      → point_at (before u) at k ≡ option_map (own_point u.links s) (slice_get (instructions s) k)
  point_before at s is k =
      ap (option_and_then (λ (code : Code). slice_get code.points k)) (code_before at s is)
      ∙ own_points_are u.links s k

  run_after : (at : MethodAt) → run_method (after u) at
      ≡ option_map (λ (method : RunMethod). with_body method (flat_body u.classes u.links u.flats at)) (run_method (before u) at)
  run_after at =
      replaced_run (before u) u.r is_setup.replaces.none_added at
      ∙ ap (λ (body : Option Code). option_map (λ (method : RunMethod). with_body method body) (run_method (before u) at))
      (is_setup.replaces.bodies at)

  -- a method without a flat code is the same in both
  pub own_run_method : (at : MethodAt) → u.flats at ≡ None → run_method (after u) at ≡ run_method (before u) at
  own_run_method at none = run_after at ∙ rw (none) (by (run_method (before u) at)) where
    by : (method : Option RunMethod) → option_map (λ (method : RunMethod). with_body method None) method ≡ method
    by None = refl
    by (Some method) = refl

  pub own_code : (at : MethodAt) → u.flats at ≡ None → code_at (after u) at ≡ code_at (before u) at
  own_code at none = ap (option_and_then code_run) (own_run_method at none)

  -- one with a flat code differs in its code alone
  pub flat_run_method : (at : MethodAt) (flat : FlatCode) (s : Scope) → u.flats at ≡ Some flat → scope_at u.classes at ≡ Some s
      → run_method (after u) at
      ≡ Some (record (run_method_of u.links (headers_of u.classes) s.class s.method) { code = Some (flat_code u.classes u.links s flat) })
  flat_run_method at flat s some is =
      let body : flat_body u.classes u.links u.flats at ≡ Some (flat_code u.classes u.links s flat) = rw (some, is) refl in
      let own = run_method_of u.links (headers_of u.classes) s.class s.method in
      run_after at
      ∙ ap (λ (body : Option Code). option_map (λ (method : RunMethod). with_body method body) (run_method (before u) at)) body
      ∙ ap (option_map (λ (method : RunMethod). with_body method (Some (flat_code u.classes u.links s flat))))
      (own_run u.classes u.links at s (scope_is_at u.classes at s is))
      ∙ ap (λ (code : Option Code). Some (record own { code = option_map (λ (old : Code). flat_code u.classes u.links s flat) code }))
      (own_method_code u.classes u.links at s (scope_is_at u.classes at s is))

  pub code_after : (at : MethodAt) (flat : FlatCode) (s : Scope) → u.flats at ≡ Some flat → scope_at u.classes at ≡ Some s
      → code_at (after u) at ≡ Some (flat_code u.classes u.links s flat)
  code_after at flat s some is =
      runs_in_place u.classes u.links u.r at s (flat_code u.classes u.links s flat) (scope_is_at u.classes at s is) (own_not_native at s is)
      (is_setup.replaces.bodies at ∙ rw (some, is) refl)

  pub point_after : (at : MethodAt) (flat : FlatCode) (s : Scope) → u.flats at ≡ Some flat → scope_at u.classes at ≡ Some s
      → (n : ℕ) (point : FlatPoint)
      → slice_get flat.points n ≡ Some point
      → BeginWithin u.classes s flat point.handlers
      → point_at (after u) at n ≡ Some (flat_run_point u.classes u.links s flat point)
  point_after at flat s some is n point there within =
      ap (option_and_then (λ (code : Code). slice_get code.points n)) (code_after at flat s some is)
      ∙ flat_points_are u.classes u.links s flat n point there within
