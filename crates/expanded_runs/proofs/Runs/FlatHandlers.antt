-- The handlers around what stands in flat code.
use Rattle.std.proofs.Common.{◌≡◌, ◌==◌, ◌≤◌, ℕ, Bool, true, false, List, [], ◌∷◌, ◌++◌, length, map, Option, Some, None, refl, sym, ap, ◌∙◌, arith, if◌then◌else◌}
use Rattle.std.proofs.lemmas.List.{map-append}
use Rattle.std.specs.List.{AllByRecursion, flat_map}
use Rattle.class_model.specs.PoolChecks.{class_at}
use Rattle.class_model.specs.declared.class_file.Handler.{Handler}
use Rattle.class_model.specs.declared.class_file.MethodAt.{MethodAt}
use Rattle.class_model.specs.declared.frame.Frame.{Frame}
use Rattle.class_model.specs.declared.instr.Placed.{Placed}
use Rattle.class_tree.specs.Headers.{Name}
use Rattle.expanded_code.specs.Alone.{handler_by, number_in}
use Rattle.expanded_code.specs.Expanded.{expanded, host_setting, number_from}
use Rattle.expanded_code.specs.Expansions.{Coded, Expansion}
use Rattle.expanded_runs.proofs.Runs.FlatOps.{catches_in}
use Rattle.expanded_runs.proofs.Runs.PositionLaws.{Fits, length_points, number_start, start_most}
use Rattle.expanded_runs.proofs.Runs.Positions.{Standing, host_standing, inner_standing, start_of}
use Rattle.expanded_runs.proofs.Runs.Standings.{IsStanding, callee_stands, host_stands}
use Rattle.flow_code.specs.declared.handlers.FlatHandler.{FlatHandler}
use Rattle.member_link.specs.Machine.Codes.{catch_in, catches_at, covers}
use Rattle.member_link.specs.Machine.Programs.{Catch}
use Rattle.member_link.specs.Scope.{Scope, instructions}
use Rattle.same_runs.specs.Flats.{flat_catch}

-- ---- handlers by other numbers

abbrev pub at_start : (ℕ → ℕ) → Catch → Catch
at_start start catch = record catch { to = start catch.to }

module _ (s : Scope) (number first start : ℕ → ℕ) (same : (t : ℕ) → number t ≡ start (first t)) where
  one_caught : (handler : Handler)
      → map flat_catch (handler_by s number handler) ≡ map (at_start start) (map (at_start first) (catch_in s.class.pool handler))
  one_caught handler = by (handler.catch_type == 0) refl (class_at s.class.pool handler.catch_type) refl where
    by : (any : Bool) → (handler.catch_type == 0) ≡ any → (class : Option Name) → class_at s.class.pool handler.catch_type ≡ class
        → map flat_catch (handler_by s number handler) ≡ map (at_start start) (map (at_start first) (catch_in s.class.pool handler))
    by true any class is = rw (any) (λ i. record { to = same handler.at i; class = None } ∷ [])
    by false any None is = rw (any, is) refl
    by false any (Some name) is = rw (any, is) (λ i. record { to = same handler.at i; class = Some name } ∷ [])

  around_caught : (handler : Handler) (around : Bool)
      → map flat_catch (if around then handler_by s number handler else [])
      ≡ map (at_start start) (map (at_start first) (if around then catch_in s.class.pool handler else []))
  around_caught handler true = one_caught handler
  around_caught handler false = refl

  all_caught : (at : ℕ) (handlers : List Handler)
      → map flat_catch (flat_map (λ (handler : Handler). if covers handler at then handler_by s number handler else []) handlers)
      ≡ map (at_start start) (map (at_start first) (catches_at s.class.pool handlers at))
  all_caught at [] = refl
  all_caught at (handler ∷ handlers) =
      let own = if covers handler at then handler_by s number handler else [] in
      let others = flat_map (λ (handler : Handler). if covers handler at then handler_by s number handler else []) handlers in
      let caught = if covers handler at then catch_in s.class.pool handler else [] in
      let behind = catches_at s.class.pool handlers at in
      map-append flat_catch own others
      ∙ ap (λ (front : List Catch). front ++ map flat_catch others) (around_caught handler (covers handler at))
      ∙ ap (λ (rest : List Catch). map (at_start start) (map (at_start first) caught) ++ rest) (all_caught at handlers)
      ∙ sym (map-append (at_start start) (map (at_start first) caught) (map (at_start first) behind))
      ∙ ap (map (at_start start)) (sym (map-append (at_start first) caught behind))

-- ---- handlers begin within the points

all_append : {A : Type 0} (P : A → Type 0) (ones others : List A) → AllByRecursion P ones → AllByRecursion P others → AllByRecursion P (ones ++ others)
all_append P [] others all also = also
all_append P (one ∷ ones) others all also = (all.0, all_append P ones others all.1 also)

module _ (s : Scope) (number : ℕ → ℕ) (n : ℕ) (within : (t : ℕ) → number t ≤ n) where
  abbrev Within : FlatHandler → Type 0
  Within handler = handler.to ≤ n

  one_within : (handler : Handler) → AllByRecursion Within (handler_by s number handler)
  one_within handler = by (handler.catch_type == 0) refl (class_at s.class.pool handler.catch_type) refl where
    by : (any : Bool) → (handler.catch_type == 0) ≡ any → (class : Option Name) → class_at s.class.pool handler.catch_type ≡ class
        → AllByRecursion Within (handler_by s number handler)
    by true any class is = rw (any) (within handler.at, tt)
    by false any None is = rw (any, is) tt
    by false any (Some name) is = rw (any, is) (within handler.at, tt)

  all_within : (at : ℕ) (handlers : List Handler)
      → AllByRecursion Within (flat_map (λ (handler : Handler). if covers handler at then handler_by s number handler else []) handlers)
  all_within at [] = tt
  all_within at (handler ∷ handlers) =
      all_append Within (if covers handler at then handler_by s number handler else [])
      (flat_map (λ (handler : Handler). if covers handler at then handler_by s number handler else []) handlers)
      (by (covers handler at)) (all_within at handlers) where
        by : (around : Bool) → AllByRecursion Within (if around then handler_by s number handler else [])
        by true = one_within handler
        by false = tt

-- ---- in flat code

module _ (host : Coded) (e : Expansion) where
  -- the host's own handlers, where they begin in flat code
  pub host_catches : (at : ℕ)
      → catches_in (host_standing host e) at
      ≡ map (at_start (start_of (host_standing host e)))
      (map (at_start (number_in (instructions host.scope))) (catches_at host.scope.class.pool host.scope.part.handlers at))
  host_catches at =
      all_caught host.scope (number_from None 0 (instructions host.scope) e) (number_in (instructions host.scope)) (start_of (host_standing host e))
      (λ t. number_start None t 0 (instructions host.scope) e) at host.scope.part.handlers

  -- a callee has those of its call
  pub callee_catches : (p : Standing) (k : ℕ) (placed : Placed) (frame : Frame) (g : Coded) (inner : Expansion) (within : ℕ)
      → catches_in (inner_standing p k placed frame g inner) within ≡ catches_in p placed.at
  callee_catches p k placed frame g inner within = refl

  pub begin_within : Fits (instructions host.scope) host.frames e → {chain : List MethodAt} {p : Standing} → IsStanding host e chain p
      → (at : ℕ) → AllByRecursion (λ (handler : FlatHandler). handler.to ≤ length (expanded host e).points) (p.setting.handlers at)
  begin_within fits host_stands at =
      let instrs = instructions host.scope in
      let s = host_setting host e in
      let count = length_points s 0 host.scope.part.max_locals fits in
      all_within host.scope (number_from None 0 instrs e) (length (expanded host e).points)
      (λ t. omega (arith, number_start None t 0 instrs e, start_most None 0 instrs e (number_in instrs t), count)) at host.scope.part.handlers
  begin_within fits (callee_stands k placed frame g inner below at_k) at = begin_within fits below placed.at
