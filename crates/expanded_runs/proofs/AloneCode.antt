-- The flat code of a method by itself is the method's own code.
use Rattle.std.proofs.Common.{◌≡◌, ◌==◌, ℕ, zero, suc, ◌+◌, ◌≤◌, Bool, true, false, List, [], ◌∷◌, ◌++◌, length, map, Option, Some, None, refl, sym, ap, subst, ◌∙◌, arith, if◌then◌else◌}
use Rattle.std.specs.List.{AllByRecursion, flat_map}
use Rattle.std.proofs.lemmas.List.{length-map, map-append}
use Rattle.class_model.specs.Instructions.{targets}
use Rattle.class_model.specs.Pool.{Constants}
use Rattle.class_model.specs.declared.class_file.Handler.{Handler}
use Rattle.class_model.specs.declared.class_file.MethodAt.{MethodAt}
use Rattle.class_model.specs.declared.frame.Frame.{Frame}
use Rattle.class_model.specs.declared.instr.Instr.{Instr}
use Rattle.class_model.specs.declared.instr.Instr.TheVariants.{Nop}
use Rattle.class_model.specs.declared.instr.Placed.{Placed}
use Rattle.class_tree.specs.Headers.{Classes}
use Rattle.expanded_code.specs.Alone.{alone_points, flat_alone, handler_of, number_in}
use Rattle.expanded_code.specs.Alone as alone
use Rattle.expanded_code.specs.Laws.NumberedInstrs.{found-instr, length-alone, number-within, or_behind}
use Rattle.flow_code.specs.FlatCode.{FlatCode}
use Rattle.flow_code.specs.FlatRoom.{stack_room}
use Rattle.flow_code.specs.declared.handlers.FlatHandler.{FlatHandler}
use Rattle.member_link.specs.Laws.Renumbered.{IsSamePoint, op_renumbered}
use Rattle.member_link.specs.Machine.Codes.{CodePoint, catch_in, catches_at, code_points, covers, instr_op, method_code, number_at, code_point, renumbered, run_point}
use Rattle.member_link.specs.Machine.Programs.{Catch, Code, Links, Point, number_of_first}
use Rattle.member_link.specs.Machine.Replaced.{map_numbered}
use Rattle.member_link.specs.RowScope.{RowScope}
use Rattle.member_link.specs.Scope.{Scope, class_of_new, instructions, row_scope}
use Rattle.member_link.specs.Targets.{with_targets}
use Rattle.same_runs.specs.Laws.FlatRuns.{number_stays}
use Rattle.same_runs.specs.Flats.{class_of_flat_new, flat_catch, flat_code, flat_point, flat_points, pool_of}

-- ---- numbers

-- the first point at a place is the first instruction there
pub first-placed : (f : Placed → CodePoint) → ((p : Placed) → (f p).place ≡ p.at) → (at : ℕ) (instrs : List Placed)
    → number_of_first (λ (point : CodePoint). point.place == at) (map f instrs) ≡ number_of_first (λ (placed : Placed). placed.at == at) instrs
first-placed f stands at [] = refl
first-placed f stands at (placed ∷ instrs) = rw (stands placed, first-placed f stands at instrs) refl

-- the number of a point in these words
pub found-point : (points : List CodePoint) (place : ℕ) (found : Option ℕ) → number_of_first (λ (point : CodePoint). point.place == place) points ≡ found → number_at points place ≡ or_behind (length points) found
found-point points place None is = rw is refl
found-point points place (Some number) is = rw is refl

-- ---- operations

-- an operation does not read how deep the stack may be
room-aside : (links : Links) (number : ℕ → ℕ) (s : RowScope) (room : ℕ) (instr : Instr) → instr_op links number (record s { max_stack = room }) instr ≡ instr_op links number s instr
room-aside links number s room Nop = refl
room-aside links number s room instr = refl

-- ---- handlers

module _ (s : Scope) (from to : ℕ → ℕ) (same : (t : ℕ) → from (alone.number_at s t) ≡ to t) where
  abbrev flat_caught : List FlatHandler → List Catch
  flat_caught handlers = map (renumbered from) (map flat_catch handlers)

  -- a handler begins at the point at its offset
  handler-same : (handler : Handler) → flat_caught (handler_of s handler) ≡ map (renumbered to) (catch_in s.class.pool handler)
  handler-same handler = let e = same handler.at in grind (arith, e)

  around-same : (handler : Handler) (around : Bool) → flat_caught (if around then handler_of s handler else []) ≡ map (renumbered to) (if around then catch_in s.class.pool handler else [])
  around-same handler true = handler-same handler
  around-same handler false = refl

  caught-append : (ones others : List FlatHandler) → flat_caught (ones ++ others) ≡ flat_caught ones ++ flat_caught others
  caught-append ones others = rw (map-append flat_catch ones others, map-append (renumbered from) (map flat_catch ones) (map flat_catch others)) refl

  handlers-same : (at : ℕ) (handlers : List Handler)
      → flat_caught (flat_map (λ (handler : Handler). if covers handler at then handler_of s handler else []) handlers) ≡ map (renumbered to) (catches_at s.class.pool handlers at)
  handlers-same at [] = refl
  handlers-same at (handler ∷ handlers) =
      rw (
        caught-append (if covers handler at then handler_of s handler else []) (flat_map (λ (handler : Handler). if covers handler at then handler_of s handler else []) handlers),
        map-append (renumbered to) (if covers handler at then catch_in s.class.pool handler else []) (catches_at s.class.pool handlers at),
        around-same handler (covers handler at),
        handlers-same at handlers,
      ) refl

-- ---- points

module _ (classes : Classes) (links : Links) (s : Scope) (flat : FlatCode) (class : ℕ) (pool : pool_of classes class ≡ s.class.pool)
    (from to : ℕ → ℕ) (same : (t : ℕ) → from (alone.number_at s t) ≡ to t) where
  all-same : (targets : List ℕ) → AllByRecursion (IsSamePoint links from to (alone.number_at s)) targets
  all-same [] = tt
  all-same (t ∷ targets) = (same t, all-same targets)

  op-same : (instr : Instr) → instr_op links from (record (row_scope s) { max_stack = stack_room flat; new_class = class_of_flat_new classes flat; pool = pool_of classes class }) (with_targets (alone.number_at s) instr) ≡ instr_op links to (row_scope s) instr
  op-same instr =
      let renumber = op_renumbered links from to (alone.number_at s) (record (row_scope s) { max_stack = stack_room flat; new_class = class_of_flat_new classes flat; pool = pool_of classes class }) (class_of_new s) instr (all-same (targets instr)) in
      let pooled = ap (λ (constants : Constants). instr_op links to (record (row_scope s) { max_stack = stack_room flat; pool = constants }) instr) pool in
      renumber ∙ pooled ∙ room-aside links to (row_scope s) (stack_room flat) instr

  points-same : (number : ℕ) (instrs : List Placed) (frames : List Frame) → length frames ≡ length instrs
      → map (run_point links from) (map_numbered (flat_point classes s flat) number (alone_points s class instrs frames)) ≡ map (run_point links to) (map (code_point s) instrs)
  points-same number [] [] one-each = refl
  points-same number [] (frame ∷ frames) one-each = absurd cc
  points-same number (placed ∷ instrs) [] one-each = absurd cc
  points-same number (placed ∷ instrs) (frame ∷ frames) one-each =
      let rest = points-same (suc number) instrs frames (omega (arith, one-each)) in
      let op = op-same placed.instr in
      let caught = handlers-same s from to same placed.at s.part.handlers in
      λ i. record { op = op i; catches = caught i } ∷ rest i

-- ---- the code

module _ (classes : Classes) (links : Links) (s : Scope) (at : MethodAt) (frames : List Frame) (pool : pool_of classes at.class ≡ s.class.pool)
    (one-each : length frames ≡ length (instructions s)) where
  abbrev flat : FlatCode
  flat = flat_alone s at frames

  -- the point of the number of an instruction is that of the instruction
  number-same : (t : ℕ) → number_at (flat_points classes s flat) (alone.number_at s t) ≡ number_at (code_points s) t
  number-same t =
      let instrs = instructions s in
      let number = number_in instrs t in
      let points = alone_points s at.class instrs frames in
      let all = flat_points classes s flat in
      let long : length points ≡ length instrs = length-alone s at.class instrs frames one-each in
      let flats : number_at all number ≡ number =
      number_stays classes s flat number (subst (λ (n : ℕ). number ≤ n) (sym long) (number-within instrs t)) in
      let places = number_of_first (λ (placed : Placed). placed.at == t) instrs in
      let own : number_at (code_points s) t ≡ number =
      found-point (code_points s) t places (first-placed (code_point s) (λ p. refl) t instrs) ∙ ap (λ (n : ℕ). or_behind n places) (length-map instrs (code_point s)) ∙ sym (found-instr instrs t places refl) in
      flats ∙ sym own

  pub alone-code : flat_code classes links s flat ≡ method_code links s
  alone-code =
      let from = number_at (flat_points classes s flat) in
      let to = number_at (code_points s) in
      let points = points-same classes links s flat at.class pool from to number-same zero (instructions s) frames one-each in
      let code_of : List Point → Code = λ all. record { locals = s.part.max_locals; points = all } in
      ap code_of points
