-- What stands in the flat code of a host for each instruction of a method in its place.
use Rattle.std.proofs.Common.{◌≡◌, ◌+◌, ◌≤◌, ℕ, suc, Bool, true, false, List, [], ◌∷◌, ◌++◌, length, map, reverse, slice_get, bytes_eq, Option, Some, None, option_map, IfSome, inl, inr, refl, sym, ap, subst, ◌∙◌, arith}
use Rattle.std.specs.Prelude.{◌⊎◌}
use Rattle.std.proofs.lemmas.List.{length-map, length-reverse}
use Rattle.std.proofs.lemmas.Option.{same_Some, slice_get-map, slice_get_within}
use Rattle.class_model.specs.Header.{header_of}
use Rattle.class_model.specs.Instructions.{targets}
use Rattle.class_model.specs.Laws.Lists.{at_index, none_behind}
use Rattle.class_model.specs.Names.{clinit}
use Rattle.class_model.specs.Pool.{Constants, constant_at}
use Rattle.class_model.specs.PoolChecks.{text_or_empty, utf8_at}
use Rattle.class_model.specs.declared.class_file.MethodAt.{MethodAt}
use Rattle.class_model.specs.declared.descriptor.Kind.{Kind}
use Rattle.class_model.specs.declared.frame.Frame.{Frame}
use Rattle.class_model.specs.declared.instr.Instr.{Instr}
use Rattle.class_model.specs.declared.instr.Instr.TheVariants.{Dynamic, Goto, Invoke, Load, PutField, PutStatic, Return, Store}
use Rattle.class_model.specs.declared.instr.Placed.{Placed}
use Rattle.class_model.specs.declared.opcodes.TheConstants.{INVOKESPECIAL}
use Rattle.class_tree.specs.Headers.{headers_of}
use Rattle.expanded_code.specs.Alone.{number_in}
use Rattle.expanded_code.specs.Callees.{IsPlain, NamesInitialiser}
use Rattle.expanded_code.specs.ExpandAnswers.{is_initialiser}
use Rattle.expanded_code.specs.Expanded.{Narrowing, arguments, callee_of, callee_setting, expanded, frame_behind_stores, instr_points, own_narrowing, own_points, point_in, points_before, points_from, points_of_callee, set_frame, set_instr, store_points, test_points, with_unit}
use Rattle.expanded_code.specs.Expansions.{Coded, Expands, Expansion}
use Rattle.expanded_code.specs.Sites.{HasFrames, IsReplaced}
use Rattle.expanded_runs.proofs.AloneProgram.{EachTyped, OneEach, pool-of-scope}
use Rattle.expanded_runs.proofs.Runs.CalleeLaws.{Callee, CodeLaws, StandsHere, initialiser_called, operand_fits, replaced_callee, site_is_new, site_makes, stands_here}
use Rattle.expanded_runs.proofs.Runs.FlatCodes.{own_point, point_after}
use Rattle.expanded_runs.proofs.Runs.FlatHandlers.{at_start, begin_within, host_catches}
use Rattle.expanded_runs.proofs.Runs.FlatOpParts.{IsKeptInstr, all_of, clinit_text, ends_plain, kept_points, kept_width, narrowed_by, no_store, returned_points, same_dynamic, same_return, static_same, stored_at}
use Rattle.expanded_runs.proofs.Runs.FlatOps.{AtPlace, EndsHost, EntryStands, OpAt, ReturnStands, at_call, at_op, at_return, catches_in, narrowing_ops, own_result}
use Rattle.expanded_runs.proofs.Runs.MovedOps.{Keeps, Kept, Needs, Same, kept_same, loads_fit, op_moved}
use Rattle.expanded_runs.proofs.Runs.PositionLaws.{Fits, length_fits, length_stores, next_start, part_stands, points_at, start_most, last_start, stands_left, stands_right, width}
use Rattle.expanded_runs.proofs.Runs.Positions.{Becomes, IsReplacedAt, StandsFrom, Standing, becomes, block_of, frames_of, host_standing, inner_standing, instrs_of, is_replaced, makes_site, remains, scope_of, start_of}
use Rattle.expanded_runs.proofs.Runs.ReplacedCalls.{IsPlainMethod}
use Rattle.expanded_runs.proofs.Runs.Setup.{IsSetup, Setup, after, before}
use Rattle.expanded_runs.proofs.Runs.StandingLaws.{BecomesAs, as_replaced, becomes_as, it_is_replaced, it_makes_site, it_remains, stands_so}
use Rattle.expanded_runs.proofs.Runs.Standings.{IsStanding, Stands, callee_stands, host_stands}
use Rattle.flow_code.specs.FlatCode.{FlatCode}
use Rattle.flow_code.specs.declared.point.FlatInstr.TheVariants.{NullTest}
use Rattle.flow_code.specs.declared.point.Point.{Point as FlatPoint}
use Rattle.member_link.specs.Laws.Renumbered.{IsSamePoint, op_renumbered}
use Rattle.member_link.specs.Machine.Classes.{run_method_of}
use Rattle.member_link.specs.Machine.Codes.{dynamic_op, initialises, instr_op, number_at, return_op, special_start}
use Rattle.member_link.specs.Machine.Ops.{Op, call_special, jump_to, put_field, put_static, test_local}
use Rattle.member_link.specs.Machine.Performing.{is_initialiser as is_class_initialiser}
use Rattle.member_link.specs.Machine.Programs.{Point, point_at}
use Rattle.member_link.specs.References.{Reference}
use Rattle.member_link.specs.RowScope.{RowScope}
use Rattle.member_link.specs.Scope.{instructions, is_clinit, is_init, row_scope}
use Rattle.member_link.specs.Signatures.{reference_of}
use Rattle.same_runs.specs.Flats.{flat_points, host_scope, pool_of}
use Rattle.same_runs.specs.Laws.FlatRuns.{number_stays}
use Rattle.member_link.specs.Laws.Scopes.{scope_is_at}
use Rattle.same_runs.specs.Laws.Scopes.{own_run}
use Rattle.same_runs.specs.SameMoves.{moved}
use Rattle.same_runs.specs.SamePrograms.{SameBar, SameOp, same_initialiser, same_op, same_store}

-- ---- stores are barred alike: what another part of the proof gives

pub record Bars (u : Setup) (host : Coded) (e : Expansion) : Type 0 where
  pub fields : (chain : List MethodAt) (p : Standing) → IsStanding host e chain p
      → (k : ℕ) (placed : Placed) (index : ℕ) (r : Reference)
      → slice_get (instrs_of p) k ≡ Some placed
      → becomes p.expansion k ≡ remains
      → placed.instr ≡ PutField index
      → reference_of (scope_of p).class.pool (constant_at (scope_of p).class.pool index) ≡ Some r
      → SameBar (before u) (after u) r (initialises (is_init (scope_of p)) (header_of (scope_of p).class))
      (initialises (is_init host.scope) (header_of host.scope.class))
  pub statics : (chain : List MethodAt) (p : Standing) → IsStanding host e chain p
      → (k : ℕ) (placed : Placed) (index : ℕ) (r : Reference)
      → slice_get (instrs_of p) k ≡ Some placed
      → becomes p.expansion k ≡ remains
      → placed.instr ≡ PutStatic index
      → reference_of (scope_of p).class.pool (constant_at (scope_of p).class.pool index) ≡ Some r
      → SameBar (before u) (after u) r (initialises (is_clinit (scope_of p)) (header_of (scope_of p).class))
      (initialises (is_clinit host.scope) (header_of host.scope.class))

-- each callee in the flat code is a plain method
abbrev pub ArePlain : Setup → Coded → Expansion → Type 0
ArePlain u host e =
    (chain : List MethodAt) (p : Standing) (k : ℕ) (placed : Placed) (frame : Frame) (g : Coded) (inner : Expansion)
    → IsStanding host e chain p
    → IsReplacedAt p k placed frame g inner
    → IsPlainMethod u g

-- ---- what an instruction that reads its method or class comes to in both

module _ (u : Setup) (host : Coded) (e : Expansion) (flat : FlatCode) (p : Standing) (placed : Placed) where
  abbrev first_scope : RowScope
  first_scope = row_scope (scope_of p)

  abbrev second_scope : RowScope
  second_scope = host_scope u.classes host.scope flat

  abbrev SameHere : Op → Op → Type 0
  SameHere op also =
      Same (before u) (after u) u.links p.setting.unit (number_in (instrs_of p)) (start_of p) (row_scope (scope_of p))
      (host_scope u.classes host.scope flat) op also

  abbrev KeepsHere : Op → Op → Type 0
  KeepsHere op also =
      Keeps (before u) (after u) u.links p.setting.unit (number_in (instrs_of p)) (start_of p) (row_scope (scope_of p))
      (host_scope u.classes host.scope flat) op also

  pub record Meets : Type 0 where
    pub puts_static : (index : ℕ) (r : Reference)
        → placed.instr ≡ PutStatic index
        → reference_of (scope_of p).class.pool (constant_at (scope_of p).class.pool index) ≡ Some r
        → SameOp (before u) (after u) (put_static r (initialises (is_clinit (scope_of p)) (header_of (scope_of p).class)))
        (put_static r (initialises (is_clinit host.scope) (header_of host.scope.class)))
    pub puts_field : (index : ℕ) (r : Reference)
        → placed.instr ≡ PutField index
        → reference_of (scope_of p).class.pool (constant_at (scope_of p).class.pool index) ≡ Some r
        → SameOp (before u) (after u) (put_field r (initialises (is_init (scope_of p)) (header_of (scope_of p).class)))
        (put_field r (initialises (is_init host.scope) (header_of host.scope.class)))
    pub calls_special : (opcode index count : ℕ) (r : Reference)
        → placed.instr ≡ Invoke opcode index count
        → opcode ≡ INVOKESPECIAL
        → reference_of (scope_of p).class.pool (constant_at (scope_of p).class.pool index) ≡ Some r
        → SameOp (before u) (after u) (call_special r (special_start u.links (row_scope (scope_of p)) r.class))
        (call_special r (special_start u.links (host_scope u.classes host.scope flat) r.class))
    pub calls_dynamic : (index : ℕ)
        → placed.instr ≡ Dynamic index
        → KeepsHere (dynamic_op (row_scope (scope_of p)) (constant_at (scope_of p).class.pool index))
        (dynamic_op (record (host_scope u.classes host.scope flat) { pool = (scope_of p).class.pool }) (constant_at (scope_of p).class.pool index))
    pub returns : (kind : Option Kind)
        → placed.instr ≡ Return kind
        → SameHere (return_op (row_scope (scope_of p)).result kind) (return_op (host_scope u.classes host.scope flat).result kind)

  needs_of : Meets → (instr : Instr) → placed.instr ≡ instr
      → Needs (before u) (after u) u.links p.setting.unit (number_in (instrs_of p)) (start_of p) (row_scope (scope_of p))
      (host_scope u.classes host.scope flat) instr
  needs_of meets (PutStatic index) is = λ r found. meets.puts_static index r is found
  needs_of meets (PutField index) is = λ r found. meets.puts_field index r is found
  needs_of meets (Invoke opcode index count) is = λ special r found. meets.calls_special opcode index count r is special found
  needs_of meets (Dynamic index) is = meets.calls_dynamic index is
  needs_of meets (Return kind) is = meets.returns kind is
  needs_of meets instr is = tt

  -- an instruction that stands for itself returns only from the host
  ends_of : (chain : List MethodAt) (also : Op) (instr : Instr)
      → Kept (before u) (after u) u.links p.setting.unit (number_in (instrs_of p)) (start_of p) (row_scope (scope_of p))
      (host_scope u.classes host.scope flat) instr (instr_op u.links (number_in (instrs_of p)) (row_scope (scope_of p)) instr) also
      → ((kind : Option Kind) → instr ≡ Return kind → EndsHost chain (return_op (row_scope (scope_of p)).result kind))
      → EndsHost chain (instr_op u.links (number_in (instrs_of p)) (row_scope (scope_of p)) instr)
  ends_of [] also instr kept returns = tt
  ends_of (callee ∷ chain) also (Load kind local) kept returns = tt
  ends_of (callee ∷ chain) also (Return kind) kept returns = returns kind refl
  ends_of (callee ∷ chain) also instr kept returns =
      ends_plain (callee ∷ chain) (instr_op u.links (number_in (instrs_of p)) (row_scope (scope_of p)) instr) kept.1

module _ (laws : CodeLaws) (each : EachTyped) (one : OneEach) (u : Setup) (is_setup : IsSetup u) (host : Coded) (e : Expansion)
    (is_flat : u.flats host.at ≡ Some (expanded host e))
    (has : HasFrames u.classes u.typed host.at host.scope host.frames)
    (expands : Expands u.classes u.typed host.at [] host.at (instructions host.scope) e)
    (bars : Bars u host e) (plain : ArePlain u host e) where
  abbrev flat : FlatCode
  flat = expanded host e

  stands : {chain : List MethodAt} {p : Standing} → IsStanding host e chain p → Stands u.classes u.typed host e chain p
  stands standing = stands_so each one u.classes u.typed is_setup.types host e has expands standing

  fits_host : Fits (instructions host.scope) host.frames e
  fits_host = (stands host_stands).fits

  -- ---- points of the flat code

  at_number : {chain : List MethodAt} {p : Standing} → IsStanding host e chain p → (at number : ℕ) (typed : Frame) (instr : Instr)
      → slice_get flat.points number ≡ Some (point_in p.setting at typed instr)
      → OpAt u host p at number (instr_op u.links (number_at (flat_points u.classes host.scope flat))
      (record (host_scope u.classes host.scope flat) { pool = pool_of u.classes p.setting.coded.at.class }) instr)
  at_number {p = p} standing at number typed instr there =
      point_after u is_setup host.at flat host.scope is_flat has.is_scope number (point_in p.setting at typed instr) there
      (begin_within host e fits_host standing at)

  at_test : {chain : List MethodAt} {p : Standing} → IsStanding host e chain p → (at number unit : ℕ) (typed : Frame)
      → slice_get flat.points number ≡ Some (record { instr = NullTest unit; typed = typed; handlers = p.setting.handlers at })
      → OpAt u host p at number (test_local unit)
  at_test {p = p} standing at number unit typed there =
      point_after u is_setup host.at flat host.scope is_flat has.is_scope number
      (record { instr = NullTest unit; typed = typed; handlers = p.setting.handlers at }) there
      (begin_within host e fits_host standing at)

  -- ---- numbers

  module _ {chain : List MethodAt} {p : Standing} (standing : IsStanding host e chain p) where
    s : Stands u.classes u.typed host e chain p
    s = stands standing

    pub start_within : (k : ℕ) → start_of p k ≤ length flat.points
    start_within k =
        omega (
          arith,
          start_most (callee_of p.setting) p.first (instrs_of p) p.expansion k,
          last_start (callee_of p.setting) p.first (instrs_of p) p.expansion,
          s.ends,
        )

    pub number_same : (at : ℕ) → number_at (flat_points u.classes host.scope flat) (p.setting.number at) ≡ start_of p (number_in (instrs_of p) at)
    number_same at =
        ap (number_at (flat_points u.classes host.scope flat)) (s.numbers at)
        ∙ number_stays u.classes host.scope flat (start_of p (number_in (instrs_of p) at)) (start_within (number_in (instrs_of p) at))

    -- the operation of an instruction that stands for itself
    set_op : (instr : Instr)
        → instr_op u.links (number_at (flat_points u.classes host.scope flat))
        (record (host_scope u.classes host.scope flat) { pool = pool_of u.classes p.setting.coded.at.class }) (set_instr p.setting instr)
        ≡ instr_op u.links (λ (to : ℕ). start_of p (number_in (instrs_of p) to))
        (record (host_scope u.classes host.scope flat) { pool = (scope_of p).class.pool }) (with_unit p.setting.unit instr)
    set_op instr =
        op_renumbered u.links (number_at (flat_points u.classes host.scope flat)) (λ (to : ℕ). start_of p (number_in (instrs_of p) to))
        p.setting.number (record (host_scope u.classes host.scope flat) { pool = pool_of u.classes p.setting.coded.at.class })
        (host_scope u.classes host.scope flat).new_class (with_unit p.setting.unit instr)
        (all_of (IsSamePoint u.links (number_at (flat_points u.classes host.scope flat)) (λ (to : ℕ). start_of p (number_in (instrs_of p) to))
        p.setting.number) number_same (targets (with_unit p.setting.unit instr)))
        ∙ ap (λ (pool : Constants). instr_op u.links (λ (to : ℕ). start_of p (number_in (instrs_of p) to))
        (record (host_scope u.classes host.scope flat) { pool = pool }) (with_unit p.setting.unit instr))
        (pool-of-scope u.classes p.setting.coded.at (scope_of p) s.has.is_scope)

    -- ---- an instruction that stands for itself

    module _ (k : ℕ) (placed : Placed) (frame : Frame) (there : slice_get (instrs_of p) k ≡ Some placed)
        (has_frame : slice_get (frames_of p) k ≡ Some frame) where
      pub points_here : (b : Becomes) → becomes p.expansion k ≡ b
          → StandsFrom flat.points (start_of p k) (points_at p.setting (start_of p k) (block_of p k) placed frame b)
      points_here b is =
          subst (λ (b : Becomes). StandsFrom flat.points (start_of p k) (points_at p.setting (start_of p k) (block_of p k) placed frame b)) is
          (part_stands flat.points p.setting p.first p.block s.fits k placed frame there has_frame s.points)

      next_here : (b : Becomes) → becomes p.expansion k ≡ b
          → start_of p (k + 1) ≡ start_of p k + width (callee_of p.setting) placed b
      next_here b is =
          let one_more : k + 1 ≡ suc k = omega arith in
          ap (start_of p) one_more
          ∙ next_start (callee_of p.setting) p.first (instrs_of p) p.expansion k placed there
          ∙ ap (λ (b : Becomes). start_of p k + width (callee_of p.setting) placed b) is

      op_here : Meets u host e flat p placed
          → IsKeptInstr p.setting.behind placed.instr
          → StandsFrom flat.points (start_of p k) (instr_points p.setting placed frame)
          → start_of p (k + 1) ≡ start_of p k + own_points (callee_of p.setting) placed.instr
          → ((kind : Option Kind) → placed.instr ≡ Return kind → EndsHost chain (return_op (row_scope (scope_of p)).result kind))
          → AtPlace u host chain p k placed (own_point u.links (scope_of p) placed)
      op_here meets kept points next returns =
          let typed = set_frame p.setting frame in
          let instr = set_instr p.setting placed.instr in
          let also = instr_op u.links (number_at (flat_points u.classes host.scope flat))
          (record (host_scope u.classes host.scope flat) { pool = pool_of u.classes p.setting.coded.at.class }) instr in
          let first : slice_get flat.points (start_of p k + 0) ≡ Some (point_in p.setting placed.at typed instr) =
          points 0 (point_in p.setting placed.at typed instr)
          (ap (λ (all : List FlatPoint). slice_get all 0) (kept_points p placed frame kept)) in
          let at_start : slice_get flat.points (start_of p k) ≡ Some (point_in p.setting placed.at typed instr) =
          subst (λ (n : ℕ). slice_get flat.points n ≡ Some (point_in p.setting placed.at typed instr)) (omega arith) first in
          let all = op_moved (before u) (after u) u.links p.setting.unit (number_in (instrs_of p)) (start_of p) (row_scope (scope_of p))
          (host_scope u.classes host.scope flat) placed.instr (needs_of u host e flat p placed meets placed.instr refl) in
          let moved_op = instr_op u.links (λ (to : ℕ). start_of p (number_in (instrs_of p) to))
          (record (host_scope u.classes host.scope flat) { pool = (scope_of p).class.pool }) (with_unit p.setting.unit placed.instr) in
          let op = instr_op u.links (number_in (instrs_of p)) (row_scope (scope_of p)) placed.instr in
          at_op (record {
            also = also;
            is_also = at_number standing placed.at (start_of p k) typed instr at_start;
            next = next ∙ ap (λ (n : ℕ). start_of p k + n) (kept_width p placed frame kept);
            same =
                subst (SameOp (before u) (after u) (moved p.setting.unit (start_of p) op)) (sym (set_op placed.instr))
                (kept_same (before u) (after u) u.links p.setting.unit (number_in (instrs_of p)) (start_of p) (row_scope (scope_of p))
                (host_scope u.classes host.scope flat) placed.instr op moved_op all);
            fits =
                loads_fit (before u) (after u) u.links p.setting.unit (number_in (instrs_of p)) (start_of p) (row_scope (scope_of p))
                (host_scope u.classes host.scope flat) placed.instr moved_op all (scope_of p).class.pool (scope_of p).class.major
                (scope_of p).part.max_locals (operand_fits laws u is_setup p.setting.coded.at (scope_of p) s.has.is_scope k placed there);
          }) (ends_of u host e flat p placed chain moved_op placed.instr all returns)

      -- ---- a callee's return

      return_here : (behind : ℕ) (kind : Option Kind) → p.setting.behind ≡ Some behind → placed.instr ≡ Return kind
          → StandsFrom flat.points (start_of p k) (instr_points p.setting placed frame)
          → ReturnStands u host p k placed
      return_here behind kind is_behind instr points =
          let t = p.setting in
          let typed = set_frame t frame in
          let own = own_narrowing (scope_of p) in
          let one_point : Narrowing → FlatPoint = λ n. point_in t placed.at (record typed { stack = typed.stack ++ n.above }) n.instr in
          let narrowed = map one_point own in
          let last = point_in t placed.at typed (Goto behind) ∷ [] in
          let number = number_at (flat_points u.classes host.scope flat) in
          let scope = record (host_scope u.classes host.scope flat) { pool = pool_of u.classes t.coded.at.class } in
          let all : StandsFrom flat.points (start_of p k) (narrowed ++ last) =
          subst (StandsFrom flat.points (start_of p k)) (returned_points p placed frame behind kind is_behind instr) points in
          let front = stands_left flat.points (start_of p k) narrowed last all in
          let end = stands_right flat.points (start_of p k) narrowed last all in
          let ops = narrowed_by u.links number scope (own_result p) in
          let many : length (narrowing_ops (own_result p)) ≡ length narrowed =
          ap (λ (all : List Op). length all) ops ∙ length-map own (λ (n : Narrowing). instr_op u.links number scope n.instr)
          ∙ sym (length-map own one_point) in
          let here : start_of p k + length narrowed + 0 ≡ start_of p k + length (narrowing_ops (own_result p)) = omega (arith, many) in
          let goto_there : slice_get flat.points (start_of p k + length (narrowing_ops (own_result p))) ≡ Some (point_in t placed.at typed (Goto behind)) =
          subst (λ (n : ℕ). slice_get flat.points n ≡ Some (point_in t placed.at typed (Goto behind))) here
          (end 0 (point_in t placed.at typed (Goto behind)) refl) in
          let is_end : behind ≡ start_of p (length (instrs_of p)) =
          subst (λ (o : Option ℕ). IfSome o (λ (behind : ℕ). behind ≡ start_of p (length (instrs_of p)))) is_behind s.behind in
          let stays : number behind ≡ behind =
          number_stays u.classes host.scope flat behind (omega (arith, is_end, s.ends)) in
          record {
            behind = behind;
            is_behind = is_behind;
            narrows = λ i op is_op.
                let found : slice_get (map (λ (n : Narrowing). instr_op u.links number scope n.instr) own) i ≡ Some op =
                ap (λ (all : List Op). slice_get all i) (sym ops) ∙ is_op in
                narrow_at i op (slice_get own i) refl
                (sym (slice_get-map (λ (n : Narrowing). instr_op u.links number scope n.instr) own i) ∙ found) front;
            goes =
                subst (λ (n : ℕ). OpAt u host p placed.at (start_of p k + length (narrowing_ops (own_result p))) (jump_to n)) stays
                (at_number standing placed.at (start_of p k + length (narrowing_ops (own_result p))) typed (Goto behind) goto_there);
          } where
            narrow_at : (i : ℕ) (op : Op) (n : Option Narrowing) → slice_get (own_narrowing (scope_of p)) i ≡ n
                → option_map (λ (n : Narrowing). instr_op u.links (number_at (flat_points u.classes host.scope flat))
                (record (host_scope u.classes host.scope flat) { pool = pool_of u.classes p.setting.coded.at.class }) n.instr) n ≡ Some op
                → StandsFrom flat.points (start_of p k) (map (λ (n : Narrowing). point_in p.setting placed.at
                (record (set_frame p.setting frame) { stack = (set_frame p.setting frame).stack ++ n.above }) n.instr) (own_narrowing (scope_of p)))
                → OpAt u host p placed.at (start_of p k + i) op
            narrow_at i op None e is front = absurd cc
            narrow_at i op (Some n) e is front =
                let typed = record (set_frame p.setting frame) { stack = (set_frame p.setting frame).stack ++ n.above } in
                let one_point : Narrowing → FlatPoint = λ n. point_in p.setting placed.at
                (record (set_frame p.setting frame) { stack = (set_frame p.setting frame).stack ++ n.above }) n.instr in
                let made = instr_op u.links (number_at (flat_points u.classes host.scope flat))
                (record (host_scope u.classes host.scope flat) { pool = pool_of u.classes p.setting.coded.at.class }) n.instr in
                subst (OpAt u host p placed.at (start_of p k + i)) (same_Some made op is)
                (at_number standing placed.at (start_of p k + i) typed n.instr
                (front i (point_in p.setting placed.at typed n.instr)
                (slice_get-map one_point (own_narrowing (scope_of p)) i ∙ ap (option_map one_point) e)))

      -- ---- a call that is replaced

      entry_here : (g : Coded) (inner : Expansion)
          → StandsFrom flat.points (start_of p k) (points_at p.setting (start_of p k) (block_of p k) placed frame (is_replaced g inner))
          → EntryStands u host p k placed g
      entry_here g inner points =
          let t = p.setting in
          let typed = set_frame t frame in
          let unit = block_of p k in
          let all = reverse (arguments g.scope unit) in
          let stores = store_points t placed.at typed all in
          let tests = test_points t placed.at (frame_behind_stores typed all) g.scope unit in
          let body = points_from (callee_setting t placed.at typed (start_of p k) unit g inner) (start_of p k + points_before g.scope)
          (unit + g.scope.part.max_locals) (instructions g.scope) g.frames inner in
          let entry = stands_left flat.points (start_of p k) (stores ++ tests) body points in
          let front = stands_left flat.points (start_of p k) stores tests entry in
          let behind = stands_right flat.points (start_of p k) stores tests entry in
          let many : length stores ≡ length (arguments g.scope unit) = length_stores t placed.at typed all ∙ length-reverse (arguments g.scope unit) in
          record {
            stores = λ i argument is.
                let found = stored_at p placed.at typed all i argument is in
                at_number standing placed.at (start_of p k + i) found.0 (Store argument.kind argument.unit) (front i _ found.1);
            tests = λ tested.
                let point : FlatPoint = record { instr = NullTest unit; typed = frame_behind_stores typed all; handlers = t.handlers placed.at } in
                let first : slice_get tests 0 ≡ Some point = rw (tested) refl in
                let there : start_of p k + length stores + 0 ≡ start_of p k + length (arguments g.scope unit) = omega (arith, many) in
                at_test standing placed.at (start_of p k + length (arguments g.scope unit)) unit (frame_behind_stores typed all)
                (subst (λ (n : ℕ). slice_get flat.points n ≡ Some point) there (behind 0 point first));
          }

  -- ---- methods that stand in the flat code are no class initialisers

  no_host_initialiser : is_clinit host.scope ≡ false
  no_host_initialiser = by (is_clinit host.scope) refl where
    by : (b : Bool) → is_clinit host.scope ≡ b → is_clinit host.scope ≡ false
    by false is = is
    by true is = absurd ((is_setup.expanded host.at flat is_flat).0 (is_initialiser host.scope has.is_scope (inr is)))

  no_callee_initialiser : (g : Coded) → HasFrames u.classes u.typed g.at g.scope g.frames → IsPlainMethod u g → is_clinit g.scope ≡ false
  no_callee_initialiser g own method = by (is_clinit g.scope) refl where
    same : run_method_of u.links (headers_of u.classes) g.scope.class g.scope.method ≡ method.method
    same = same_Some _ method.method (sym (own_run u.classes u.links g.at g.scope (scope_is_at u.classes g.at g.scope own.is_scope)) ∙ method.is)

    other : bytes_eq (text_or_empty (utf8_at g.scope.class.pool g.scope.method.name)) clinit ≡ false
    other = ap is_class_initialiser same ∙ method.no_initialiser

    by : (b : Bool) → is_clinit g.scope ≡ b → is_clinit g.scope ≡ false
    by false is = is
    by true is =
        let yes_also : bytes_eq (text_or_empty (utf8_at g.scope.class.pool g.scope.method.name)) clinit ≡ true =
        clinit_text (utf8_at g.scope.class.pool g.scope.method.name) is in
        let none : true ≡ false = sym yes_also ∙ other in
        absurd cc

  -- ---- what their instructions come to

  module _ {chain : List MethodAt} {p : Standing} (standing : IsStanding host e chain p) (k : ℕ) (placed : Placed)
      (there : slice_get (instrs_of p) k ≡ Some placed)
      (stores_stay : (index : ℕ) → (placed.instr ≡ PutField index) ⊎ (placed.instr ≡ PutStatic index) → becomes p.expansion k ≡ remains) where
    puts_static_here : is_clinit (scope_of p) ≡ false → (index : ℕ) (r : Reference)
        → placed.instr ≡ PutStatic index
        → reference_of (scope_of p).class.pool (constant_at (scope_of p).class.pool index) ≡ Some r
        → SameOp (before u) (after u) (put_static r (initialises (is_clinit (scope_of p)) (header_of (scope_of p).class)))
        (put_static r (initialises (is_clinit host.scope) (header_of host.scope.class)))
    puts_static_here passed index r is found =
        static_same (is_clinit (scope_of p)) (is_clinit host.scope) (header_of (scope_of p).class) (header_of host.scope.class) passed
        no_host_initialiser (bars.statics chain p standing k placed index r there (stores_stay index (inr is)) is found)

    puts_field_here : (index : ℕ) (r : Reference)
        → placed.instr ≡ PutField index
        → reference_of (scope_of p).class.pool (constant_at (scope_of p).class.pool index) ≡ Some r
        → SameOp (before u) (after u) (put_field r (initialises (is_init (scope_of p)) (header_of (scope_of p).class)))
        (put_field r (initialises (is_init host.scope) (header_of host.scope.class)))
    puts_field_here index r is found =
        same_store (bars.fields chain p standing k placed index r there (stores_stay index (inl is)) is found)

  host_meets : (k : ℕ) (placed : Placed)
      → slice_get (instructions host.scope) k ≡ Some placed
      → ((index : ℕ) → (placed.instr ≡ PutField index) ⊎ (placed.instr ≡ PutStatic index) → becomes e k ≡ remains)
      → Meets u host e flat (host_standing host e) placed
  host_meets k placed there stay = record {
    puts_static = puts_static_here host_stands k placed there stay no_host_initialiser;
    puts_field = puts_field_here host_stands k placed there stay;
    calls_special = λ opcode index count r is special found.
        same_op (λ name. initialiser_called u is_setup host.at host.scope has.is_scope k placed there opcode index count is special r found name);
    calls_dynamic = λ index is.
        same_dynamic (before u) (after u) u.links 0 (number_in (instructions host.scope)) (start_of (host_standing host e)) (row_scope host.scope)
        (host_scope u.classes host.scope flat) (row_scope host.scope) (constant_at host.scope.class.pool index);
    returns = λ kind is.
        same_return (before u) (after u) u.links 0 (number_in (instructions host.scope)) (start_of (host_standing host e)) (row_scope host.scope)
        (host_scope u.classes host.scope flat) (row_scope host.scope).result kind;
  }

  -- those of a callee
  module _ {chain : List MethodAt} {p : Standing} (standing : IsStanding host e chain p) (callee : Callee u p.setting.coded)
      (passed : is_clinit (scope_of p) ≡ false) (k : ℕ) (placed : Placed) (there : slice_get (instrs_of p) k ≡ Some placed) where
    own_is : HasFrames u.classes u.typed p.setting.coded.at (scope_of p) p.setting.coded.frames
    own_is = (stands standing).has

    callee_meets : ((index : ℕ) → (placed.instr ≡ PutField index) ⊎ (placed.instr ≡ PutStatic index) → becomes p.expansion k ≡ remains)
        → ((kind : Option Kind) → placed.instr ≡ Return kind → ⊥)
        → Meets u host e flat p placed
    callee_meets stay no_return = record {
      puts_static = puts_static_here standing k placed there stay passed;
      puts_field = puts_field_here standing k placed there stay;
      calls_special = λ opcode index count r is special found.
          let names : NamesInitialiser (scope_of p) (Invoke opcode index count) =
          subst (NamesInitialiser (scope_of p)) is
          (at_index (λ (placed : Placed). NamesInitialiser (scope_of p) placed.instr) (instrs_of p) k placed callee.may.special there) in
          let name = names special r found in
          same_initialiser name
          (initialiser_called u is_setup p.setting.coded.at (scope_of p) own_is.is_scope k placed there opcode index count is special r found name);
      calls_dynamic = λ index is.
          absurd (subst (IsPlain (scope_of p)) is
          (at_index (λ (placed : Placed). IsPlain (scope_of p) placed.instr) (instrs_of p) k placed callee.may.plain there));
      returns = λ kind is. absurd (no_return kind is);
    }

  -- ---- all instructions

  some_frame : {chain : List MethodAt} {p : Standing} → IsStanding host e chain p → (k : ℕ) (placed : Placed)
      → slice_get (instrs_of p) k ≡ Some placed
      → (frame : Frame) × (slice_get (frames_of p) k ≡ Some frame)
  some_frame {p = p} standing k placed there = by (slice_get (frames_of p) k) refl where
    by : (found : Option Frame) → slice_get (frames_of p) k ≡ found → (frame : Frame) × (slice_get (frames_of p) k ≡ Some frame)
    by (Some frame) is = (frame, is)
    by None is =
        let many = length_fits (stands standing).fits in
        let behind = none_behind (frames_of p) k is in
        let within = slice_get_within (instrs_of p) k placed there in
        absurd (omega (arith, many, behind, within))

  -- an instruction that stays, or makes the object of a site
  staying : {chain : List MethodAt} {p : Standing} (standing : IsStanding host e chain p) (k : ℕ) (placed : Placed) (frame : Frame)
      (there : slice_get (instrs_of p) k ≡ Some placed) (has_frame : slice_get (frames_of p) k ≡ Some frame)
      → ((index : ℕ) → (placed.instr ≡ PutField index) ⊎ (placed.instr ≡ PutStatic index) → becomes p.expansion k ≡ remains)
      → StandsFrom flat.points (start_of p k) (instr_points p.setting placed frame)
      → start_of p (k + 1) ≡ start_of p k + own_points (callee_of p.setting) placed.instr
      → AtPlace u host chain p k placed (own_point u.links (scope_of p) placed)
  staying host_stands k placed frame there has_frame stay points next =
      op_here host_stands k placed frame there has_frame (host_meets k placed there stay) tt points next (λ kind is. tt)
  staying (callee_stands {chain = chain} {p = p} number call typed g inner below at) k placed frame there has_frame stay points next =
      by placed.instr refl where
        q : Standing
        q = inner_standing p number call typed g inner

        standing : IsStanding host e (g.at ∷ chain) q
        standing = callee_stands number call typed g inner below at

        known : IsReplaced u.classes u.typed host.at chain p.setting.coded.at call.at g.at
            × HasFrames u.classes u.typed g.at g.scope g.frames
            × Expands u.classes u.typed host.at (g.at ∷ chain) g.at (instructions g.scope) inner
        known = as_replaced (becomes_as chain p.setting.coded.at (instrs_of p) p.expansion (stands below).expands number call at.is) at.becomes

        passed : is_clinit g.scope ≡ false
        passed = no_callee_initialiser g known.1 (plain chain p number call typed g inner below at)

        kept : ((kind : Option Kind) → placed.instr ≡ Return kind → ⊥) → IsKeptInstr q.setting.behind placed.instr
            → AtPlace u host (g.at ∷ chain) q k placed (own_point u.links (scope_of q) placed)
        kept no_return is_kept =
            op_here standing k placed frame there has_frame
            (callee_meets standing (replaced_callee u g known.1 known.0) passed k placed there stay no_return) is_kept points next
            (λ kind is. absurd (no_return kind is))

        by : (instr : Instr) → placed.instr ≡ instr → AtPlace u host (g.at ∷ chain) q k placed (own_point u.links (scope_of q) placed)
        by (Return kind) is =
            at_return kind refl is (ap (instr_op u.links (number_in (instrs_of q)) (row_scope (scope_of q))) is)
            (return_here standing k placed frame there has_frame (start_of p number + points_of_callee g inner) kind refl is points)
        by instr is = kept (λ kind e. let no_return : Return kind ≡ instr = sym e ∙ is in cc) (subst (IsKeptInstr q.setting.behind) (sym is) tt)

  -- What stands in the flat code for the instruction of a number.
  pub at_place : {chain : List MethodAt} {p : Standing} → IsStanding host e chain p
      → (k : ℕ) (point : Point)
      → point_at (before u) p.setting.coded.at k ≡ Some point
      → (placed : Placed) × (slice_get (instrs_of p) k ≡ Some placed) × AtPlace u host chain p k placed point
  at_place {chain} {p} standing k point point_is =
      (here.placed, here.there, subst (AtPlace u host chain p k here.placed) (sym here.point_is) (by (becomes p.expansion k) refl known)) where
        s : Stands u.classes u.typed host e chain p
        s = stands standing

        here : StandsHere u is_setup p.setting.coded.at (scope_of p) s.has.is_scope k point
        here = stands_here u is_setup p.setting.coded.at (scope_of p) s.has.is_scope k point point_is

        frame : (frame : Frame) × (slice_get (frames_of p) k ≡ Some frame)
        frame = some_frame standing k here.placed here.there

        known : BecomesAs u.classes u.typed host.at chain p.setting.coded.at here.placed.at (becomes p.expansion k)
        known = becomes_as chain p.setting.coded.at (instrs_of p) p.expansion s.expands k here.placed here.there

        by : (b : Becomes) → becomes p.expansion k ≡ b
            → BecomesAs u.classes u.typed host.at chain p.setting.coded.at here.placed.at b
            → AtPlace u host chain p k here.placed (own_point u.links (scope_of p) here.placed)
        by _ is (it_remains no_call no_site) =
            staying standing k here.placed frame.0 here.there frame.1 (λ index stores. is)
            (points_here standing k here.placed frame.0 here.there frame.1 remains is)
            (next_here standing k here.placed frame.0 here.there frame.1 remains is)
        by _ is (it_makes_site {class = class} site) =
            staying standing k here.placed frame.0 here.there frame.1
            (λ index stores. absurd (no_store here.placed.instr index
            (site_is_new laws (scope_of p) k here.placed class here.there (site_makes u (scope_of p) s.has.is_scope site)) stores))
            (points_here standing k here.placed frame.0 here.there frame.1 (makes_site class) is)
            (next_here standing k here.placed frame.0 here.there frame.1 (makes_site class) is)
        by _ is (it_is_replaced {g = g} {inner = inner} call has_frames within) =
            at_call frame.0 g inner (record { is = here.there; has_frame = frame.1; becomes = is }) call has_frames
            (entry_here standing k here.placed frame.0 here.there frame.1 g inner
            (points_here standing k here.placed frame.0 here.there frame.1 (is_replaced g inner) is))

  -- The handlers around an instruction of the host are those around its points.
  pub host_catches_at : (k : ℕ) (point : Point) (placed : Placed)
      → point_at (before u) host.at k ≡ Some point
      → slice_get (instructions host.scope) k ≡ Some placed
      → catches_in (host_standing host e) placed.at ≡ map (at_start (start_of (host_standing host e))) point.catches
  host_catches_at k point placed point_is there =
      let here = stands_here u is_setup host.at host.scope has.is_scope k point point_is in
      let same : here.placed ≡ placed = same_Some here.placed placed (sym here.there ∙ there) in
      host_catches host e placed.at
      ∙ ap (λ (q : Placed). map (at_start (start_of (host_standing host e))) (own_point u.links host.scope q).catches) (sym same)
      ∙ ap (λ (q : Point). map (at_start (start_of (host_standing host e))) q.catches) (sym here.point_is)
