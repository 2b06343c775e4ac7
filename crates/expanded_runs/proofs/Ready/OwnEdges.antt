-- Along the edges of a point of an instruction that stays, types of uninitialised objects of sites come from the same types.
use Rattle.std.proofs.Common.{◌≡◌, ◌≢◌, ◌+◌, ℕ, suc, Bool, true, false, List, [], ◌∷◌, length, map, bytes_eq, slice_get, Option, Some, None, option_map, if◌then◌else◌, refl, sym, ap, subst, ◌∙◌}
use Rattle.std.specs.Prelude.{◌==◌}
use Rattle.std.specs.List.{AllByRecursion}
use Rattle.std.proofs.lemmas.Bool.{eqb-true}
use Rattle.std.proofs.lemmas.Option.{none-some}
use Rattle.std.proofs.lemmas.Slice.Eq.{bytes_eq-Decides}
use Rattle.class_model.specs.Frames.{is_wide}
use Rattle.class_model.specs.Instructions.{targets}
use Rattle.class_model.specs.Names.{init}
use Rattle.class_model.specs.Pool.{constant_at}
use Rattle.class_model.specs.declared.class_file.MethodAt.{MethodAt}
use Rattle.class_model.specs.declared.descriptor.Kind.{Kind}
use Rattle.class_model.specs.declared.frame.Frame.{Frame}
use Rattle.class_model.specs.declared.frame.VType.{VType}
use Rattle.class_model.specs.declared.frame.VType.TheVariants as types
use Rattle.class_model.specs.declared.instr.Instr.{Instr}
use Rattle.class_model.specs.declared.instr.Instr.TheVariants.{Invoke, Return}
use Rattle.class_model.specs.declared.instr.Placed.{Placed}
use Rattle.class_model.specs.declared.opcodes.TheConstants.{INVOKESTATIC}
use Rattle.class_tree.specs.Headers.{Headers, headers_of}
use Rattle.class_tree.specs.Names.{object}
use Rattle.expanded_code.specs.Alone.{number_in}
use Rattle.expanded_code.specs.Expanded.{Setting, callee_of, class_of, expanded, own_points, set_frame, set_instr}
use Rattle.expanded_code.specs.Expansions.{Coded, Expansion}
use Rattle.expanded_runs.proofs.Plans.RowsGoOn.{goes_on}
use Rattle.expanded_runs.proofs.Ready.Catches.{frame_there, handlers_kept}
use Rattle.expanded_runs.proofs.Ready.Comes.{FrameThere, GoesKept, KeepsTo, edges_kept}
use Rattle.expanded_runs.proofs.Ready.OwnRows.{SameWidth, row_keeps}
use Rattle.expanded_runs.proofs.Ready.RowKeeps.{RowKeeps, goes_kept, went}
use Rattle.expanded_runs.proofs.Runs.CallLaws.{CallLaws}
use Rattle.expanded_runs.proofs.Runs.LinkedInstrs.{linked_instr}
use Rattle.expanded_runs.proofs.Runs.PositionLaws.{next_start, width}
use Rattle.expanded_runs.proofs.Runs.Positions.{Becomes, Standing, becomes, frames_of, instrs_of, scope_of, start_of}
use Rattle.expanded_runs.proofs.Runs.Setup.{IsSetup, Setup, before}
use Rattle.expanded_runs.proofs.Runs.Standings.{IsStanding, Stands}
use Rattle.expanded_runs.proofs.TypedAloneNumbers.{frame_found}
use Rattle.expanded_runs.proofs.Types.FlatParts.{IsOwn, own_remains, own_site}
use Rattle.expanded_runs.proofs.Types.FlatPlaces.{ThisIs, host_this, no_this_there, site_this}
use Rattle.expanded_runs.proofs.Types.FrameFacts.{FrameFacts, frame_fits}
use Rattle.expanded_runs.proofs.Types.OwnPoints.{TypingLaws, edges_at, falls_set, flows_to, next_at, next_is, one_frame, own_headers, own_point, row_at, scope_headers, targets_set}
use Rattle.expanded_code.specs.Laws.RowUnits.{row_keeps_units}
use Rattle.expanded_runs.proofs.Types.StandingPlaces.{start_number}
use Rattle.expanded_runs.proofs.Types.StandingRows.{row_conditions}
use Rattle.expanded_runs.proofs.Types.ThisWithin.{NoThisStanding}
use Rattle.flow_code.specs.FlatCode.{FlatCode}
use Rattle.flow_code.specs.declared.point.Point.{Point}
use Rattle.member_link.specs.Bodies.{falls_through}
use Rattle.member_link.specs.BodyTyping.{FlowsInto, GoesInto, GoesToStated, RowHolds}
use Rattle.member_link.specs.Machine.CallSteps.{is_object_init}
use Rattle.member_link.specs.Machine.Codes.{call_op, instr_op, or_meaningless}
use Rattle.member_link.specs.References.{Reference}
use Rattle.member_link.specs.RowScope.{RowScope}
use Rattle.member_link.specs.Rows.FrameAssignability.{IsFrameAssignable}
use Rattle.member_link.specs.Rows.MemberRows.{NoUninitThis}
use Rattle.member_link.specs.Rows.Operands.{is_single}
use Rattle.member_link.specs.Rows.Row.{Row, row_frame, stack_behind}
use Rattle.member_link.specs.Rows.Table.{row_of}
use Rattle.member_link.specs.Scope.{Scope, instructions, is_init, row_scope, scope_at}
use Rattle.member_link.specs.Signatures.{reference_of}
use Rattle.plan_flow.specs.Must.{row_of_point}
use Rattle.plan_flow.specs.PlanRows.{PlanRow}
use Rattle.plan_flow.specs.PlanScope.{PlanScope, pool_of, scope_of as plan_scope}
use Rattle.plan_flow.specs.PlanTable.{edges_of}
use Rattle.plan_flow.specs.ReadyForPlans.{KeepsAlong}
use Rattle.same_runs.specs.Laws.KeptFinals.{never}
use Rattle.member_link.specs.Laws.Scopes.{scope_is_at}
use Rattle.type_rules.specs.MethodBodies.{body_of, point_of}
use Rattle.typed_runs.specs.TypedPoints.{IsLinkedOp}

-- ---- widths

widths_of_this : (t : Setting) (type : VType) → ((type ≡ types.UninitThis) → SameWidth t types.UninitThis) → SameWidth t type
widths_of_this t types.UninitThis this = this refl
widths_of_this t (types.Uninit at) this = record { wide = refl; single = refl }
widths_of_this t types.Top this = record { wide = refl; single = refl }
widths_of_this t types.Int this = record { wide = refl; single = refl }
widths_of_this t types.Float this = record { wide = refl; single = refl }
widths_of_this t types.Long this = record { wide = refl; single = refl }
widths_of_this t types.Double this = record { wide = refl; single = refl }
widths_of_this t types.Null this = record { wide = refl; single = refl }
widths_of_this t (types.Object name) this = record { wide = refl; single = refl }

all_widths : (t : Setting) → SameWidth t types.UninitThis → (entries : List VType) → AllByRecursion (SameWidth t) entries
all_widths t this [] = tt
all_widths t this (entry ∷ entries) = (widths_of_this t entry (λ is. this), all_widths t this entries)

other_widths : (t : Setting) (entries : List VType) → NoUninitThis entries → AllByRecursion (SameWidth t) entries
other_widths t [] none = tt
other_widths t (entry ∷ entries) none = (widths_of_this t entry (λ is. absurd (none.0 is)), other_widths t entries none.1)

widths_known : {s : Scope} {flat : FlatCode} {t : Setting} {frame : Frame} {this : Option _} → ThisIs s flat t frame this
    → AllByRecursion (SameWidth t) frame.stack
widths_known {t = t} {frame = frame} (host_this host none) =
    all_widths t (record { wide = ap is_wide host.this; single = ap is_single host.this }) frame.stack
widths_known {t = t} {frame = frame} (site_this class is some) =
    all_widths t (record { wide = ap is_wide is.this; single = ap is_single is.this }) frame.stack
widths_known {t = t} {frame = frame} (no_this_there without none) = other_widths t frame.stack without.1

-- ---- where control goes on

goes_by : (row : Row) (f : Frame) → row.goes_on ≡ true → row_frame f row ≡ Some (record { locals = row.locals; stack = stack_behind f row })
goes_by row f on = ap (λ (b : Bool). if b then Some (record { locals = row.locals; stack = stack_behind f row }) else None) on

-- an instruction that stays has one point
one_point : (t : Setting) (placed : Placed) → (t.behind ≢ None → (kind : Option Kind) → placed.instr ≢ Return kind)
    → own_points (callee_of t) placed.instr ≡ 1
one_point t placed stays = by t.behind refl placed.instr refl where
  by : (behind : Option ℕ) → t.behind ≡ behind → (instr : Instr) → placed.instr ≡ instr → own_points (callee_of t) placed.instr ≡ 1
  by None b instr i = rw (b) refl
  by (Some behind) b (Return kind) i = absurd (stays (λ none. none-some behind (sym none ∙ b)) kind i)
  by (Some behind) b instr i = rw (b, i) refl

module _ (u : Setup) (is_setup : IsSetup u) (call_laws : CallLaws) (laws : TypingLaws) (facts : FrameFacts u.classes u.typed)
    (host : Coded) (e : Expansion)
    (stands : (chain : List MethodAt) (p : Standing) → IsStanding host e chain p → Stands u.classes u.typed host e chain p)
    (s : Scope) (is_host : scope_at u.classes host.at ≡ Some s) (no_init : is_init s ≡ false) (outside : NoThisStanding host e) where
  abbrev pub planning : PlanScope
  planning = plan_scope u.classes u.links (expanded host e)

  pub host_headers : s.headers ≡ headers_of u.classes
  host_headers = scope_headers u.classes host.at s is_host

  module _ {chain : List MethodAt} {p : Standing} (standing : IsStanding host e chain p) where
    -- the constants that plans read
    plan_pool : pool_of (plan_scope u.classes u.links (expanded host e)) (class_of p.setting) ≡ (scope_of p).class.pool
    plan_pool =
        let known = scope_is_at u.classes p.setting.coded.at (scope_of p) (stands chain p standing).has.is_scope in
        rw (known.of_folder) refl

    module _ (k : ℕ) (placed : Placed) (frame : Frame) (is : slice_get (instrs_of p) k ≡ Some placed)
        (has : slice_get (frames_of p) k ≡ Some frame) (own : IsOwn (becomes p.expansion k))
        (no_return : p.setting.behind ≢ None → (kind : Option Kind) → placed.instr ≢ Return kind) where
      abbrev S : RowScope
      S = row_scope (scope_of p)

      abbrev t : Setting
      t = p.setting

      abbrev row : Row
      row = row_of (row_scope (scope_of p)) frame placed.at placed.instr

      abbrev point : Point
      point = own_point p.setting placed frame

      abbrev plan : PlanRow
      plan = row_of_point (plan_scope u.classes u.links (expanded host e)) (start_of p k) (own_point p.setting placed frame)

      holds : RowHolds (row_scope (scope_of p)) frame (row_of (row_scope (scope_of p)) frame placed.at placed.instr)
      holds = row_at laws is_setup.types facts host e stands s host_headers standing k placed frame is has

      -- a static call names no initialiser
      static_other : (opcode index count : ℕ) → placed.instr ≡ Invoke opcode index count → (r : Reference)
          → reference_of (scope_of p).class.pool (constant_at (scope_of p).class.pool index) ≡ Some r
          → (opcode == INVOKESTATIC) ≡ true
          → is_object_init r ≡ false
      static_other opcode index count instr r names static = by (bytes_eq r.name init) refl where
        by : (b : Bool) → bytes_eq r.name init ≡ b → is_object_init r ≡ false
        by false other = rw (other) (never (bytes_eq r.class object))
        by true named =
            let scope = scope_of p in
            let known = linked_instr u is_setup p.setting.coded.at scope (stands chain p standing).has.is_scope k placed is in
            let of_instr = subst (λ (i : Instr). IsLinkedOp (before u) known.reads known.place
            (instr_op u.links (number_in (instructions scope)) (row_scope scope) i)) instr known.linked in
            let of_reference = subst (λ (o : Option Reference). IsLinkedOp (before u) known.reads known.place
            (or_meaningless (option_map (call_op u.links (row_scope scope) opcode) o))) names of_instr in
            let of_static = subst (λ (o : ℕ). IsLinkedOp (before u) known.reads known.place (call_op u.links (row_scope scope) o r))
            (eqb-true opcode INVOKESTATIC static) of_reference in
            absurd (of_static.1 ((bytes_eq-Decides r.name init).0 named))

      keeps : RowKeeps (expanded host e) p.setting (start_of p k) frame (row_of (row_scope (scope_of p)) frame placed.at placed.instr)
          (row_of_point (plan_scope u.classes u.links (expanded host e)) (start_of p k) (own_point p.setting placed frame))
      keeps =
          row_keeps (expanded host e) p.setting (start_of p k) frame (frame_fits facts host e stands standing k frame has) (row_scope (scope_of p))
          (plan_scope u.classes u.links (expanded host e)) refl placed.at plan_pool
          (widths_known
          (row_conditions u is_setup call_laws laws facts host e stands s is_host no_init outside standing k placed frame is has own no_return).this_is)
          placed.instr (λ index instr. sym (start_number laws host e stands s is_host standing k placed is)) static_other holds.local holds.operands

      -- to a frame for which what is behind the instruction may stand
      kept_to : (after to : Frame) → row_frame frame (row_of (row_scope (scope_of p)) frame placed.at placed.instr) ≡ Some after
          → IsFrameAssignable s.headers after to
          → KeepsTo (expanded host e) (start_of p k) (set_frame p.setting frame)
          (row_of_point (plan_scope u.classes u.links (expanded host e)) (start_of p k) (own_point p.setting placed frame)) (set_frame p.setting to)
      kept_to after to goes assignable =
          let parts = went row frame after goes in
          let units = row_keeps_units (row_scope (scope_of p)) frame placed.at placed.instr holds.local holds.operands in
          goes_kept (expanded host e) p.setting (start_of p k) frame (frame_fits facts host e stands standing k frame has) row plan keeps s.headers after to
          parts.0 parts.1 (ap (λ (l : List VType). length l) parts.0 ∙ units.long) assignable

      next_number : start_of p (suc k) ≡ start_of p k + 1
      next_number =
          next_start (callee_of p.setting) p.first (instrs_of p) p.expansion k placed is
          ∙ ap (λ (n : ℕ). start_of p k + n) (wide (becomes p.expansion k) own ∙ one_point p.setting placed no_return) where
            wide : (b : Becomes) → IsOwn b → width (callee_of p.setting) placed b ≡ own_points (callee_of p.setting) placed.instr
            wide _ own_remains = refl
            wide _ own_site = refl

      next_kept : falls_through (set_instr p.setting placed.instr) ≡ true
          → GoesKept (expanded host e) (start_of p k) (set_frame p.setting frame)
          (row_of_point (plan_scope u.classes u.links (expanded host e)) (start_of p k) (own_point p.setting placed frame)) (start_of p k + 1)
      next_kept falls_in_flat =
          let falls = sym (falls_set p.setting placed.instr) ∙ falls_in_flat in
          let on = goes_by row frame (goes_on (row_scope (scope_of p)) frame placed.at placed.instr falls) in
          let after : Frame = record { locals = row.locals; stack = stack_behind frame row } in
          let next = next_at laws is_setup.types facts host e stands s host_headers standing k placed frame is has in
          let flowing = subst (λ (o : Option Frame). FlowsInto (body_of (scope_of p)) (frames_of p) (placed.at + placed.len) o) on
          (subst (λ (b : Bool). FlowsInto (body_of (scope_of p)) (frames_of p) (placed.at + placed.len)
          (if b then row_frame frame (row_of (row_scope (scope_of p)) frame placed.at placed.instr) else None)) falls next) in
          let flows = flows_to laws is_setup.types facts host e stands s host_headers standing k placed frame is has (placed.at + placed.len) after flowing in
          let found = frame_found (scope_of p) (instrs_of p) (frames_of p) (placed.at + placed.len) flows.0 flows.1 in
          let there = ap (slice_get (frames_of p)) (sym (next_is laws is_setup.types facts host e stands s host_headers standing k placed frame is has))
          ∙ found in
          record {
            to = set_frame p.setting flows.0;
            there =
                subst (λ (n : ℕ). FrameThere (expanded host e) n (set_frame p.setting flows.0)) next_number
                (frame_there laws is_setup.types facts host e stands s host_headers standing (suc k) flows.0 there);
            keeps = kept_to after flows.0 on flows.2;
          }

      target_kept : (place : ℕ)
          → GoesInto (body_of (scope_of p)) (frames_of p)
          (row_frame frame (row_of (row_scope (scope_of p)) frame placed.at placed.instr)) place
          → GoesKept (expanded host e) (start_of p k) (set_frame p.setting frame)
          (row_of_point (plan_scope u.classes u.links (expanded host e)) (start_of p k) (own_point p.setting placed frame)) (p.setting.number place)
      target_kept place into =
          let found = frame_found (scope_of p) (instrs_of p) (frames_of p) place into.stated into.is_at in
          record {
            to = set_frame p.setting into.stated;
            there =
                subst (λ (n : ℕ). FrameThere (expanded host e) n (set_frame p.setting into.stated)) (sym ((stands chain p standing).numbers place))
                (frame_there laws is_setup.types facts host e stands s host_headers standing (number_in (instrs_of p) place) into.stated found);
            keeps = kept_to into.frame into.stated into.goes_is
                (subst (λ (h : Headers). IsFrameAssignable h into.frame into.stated)
                (own_headers laws is_setup.types facts host e stands s host_headers standing) into.assignable);
          }

      targets_kept : AllByRecursion (GoesKept (expanded host e) (start_of p k) (set_frame p.setting frame)
          (row_of_point (plan_scope u.classes u.links (expanded host e)) (start_of p k) (own_point p.setting placed frame)))
          (targets (set_instr p.setting placed.instr))
      targets_kept =
          subst (AllByRecursion (GoesKept (expanded host e) (start_of p k) (set_frame p.setting frame)
          (row_of_point (plan_scope u.classes u.links (expanded host e)) (start_of p k) (own_point p.setting placed frame))))
          (sym (targets_set p.setting placed.instr))
          (all (targets placed.instr)
          (subst (λ (f : Frame). AllByRecursion (GoesInto (body_of (scope_of p)) (frames_of p)
          (row_frame f (row_of (row_scope (scope_of p)) f placed.at placed.instr))) (targets placed.instr)) same edges.targets)) where
            edges : GoesToStated (body_of (scope_of p)) (frames_of p) (point_of (scope_of p) placed)
            edges = edges_at laws is_setup.types facts host e stands s host_headers standing k placed frame is has

            same : edges.frame ≡ frame
            same = one_frame laws is_setup.types facts host e stands s host_headers standing k placed frame is has edges.frame edges.is_at

            all : (places : List ℕ)
                → AllByRecursion (GoesInto (body_of (scope_of p)) (frames_of p)
                (row_frame frame (row_of (row_scope (scope_of p)) frame placed.at placed.instr))) places
                → AllByRecursion (GoesKept (expanded host e) (start_of p k) (set_frame p.setting frame)
                (row_of_point (plan_scope u.classes u.links (expanded host e)) (start_of p k) (own_point p.setting placed frame)))
                (map p.setting.number places)
            all [] none = tt
            all (place ∷ places) into = (target_kept place into.0, all places into.1)

      -- Its edges.
      pub own_edges : AllByRecursion (KeepsAlong (plan_scope u.classes u.links (expanded host e)) (start_of p k) (own_point p.setting placed frame))
          (edges_of (start_of p k) (own_point p.setting placed frame)
          (row_of_point (plan_scope u.classes u.links (expanded host e)) (start_of p k) (own_point p.setting placed frame)))
      own_edges =
          edges_kept (plan_scope u.classes u.links (expanded host e)) (start_of p k) (own_point p.setting placed frame) next_kept targets_kept
          (handlers_kept laws is_setup.types facts host e stands s host_headers standing k placed frame is has (set_frame p.setting frame).locals
          (λ n within. refl))
