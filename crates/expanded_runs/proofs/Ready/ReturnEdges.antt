-- Along the edges of the points of a return of a callee, types of uninitialised objects of sites come from the same types: what the caller has of them
-- behind its call it had before.
use Rattle.std.proofs.Common.{◌≡◌, ◌≢◌, ◌+◌, ◌-◌, ◌≤◌, ◌<◌, ◌⊎◌, ℕ, zero, suc, List, [], ◌∷◌, ◌++◌, length, map, slice_get, pos, Option, Some, option_map, IsTrue, refl, sym, ap, subst, ◌∙◌, arith, inl, inr}
use Rattle.std.specs.Prelude.{IsSome}
use Rattle.std.specs.List.{AllByRecursion}
use Rattle.std.proofs.lemmas.List.{length-append, length-map, length-take-le}
use Rattle.std.proofs.lemmas.Option.{none-some, same_Some, slice_get-map, slice_get_within}
use Rattle.class_model.specs.Instructions.{targets}
use Rattle.class_model.specs.Laws.Lists.{at_index}
use Rattle.class_model.specs.declared.class_file.MethodAt.{MethodAt}
use Rattle.class_model.specs.declared.descriptor.Kind.{Kind}
use Rattle.class_model.specs.declared.descriptor.Kind.TheVariants as kinds
use Rattle.class_model.specs.declared.frame.Frame.{Frame}
use Rattle.class_model.specs.declared.frame.VType.{VType}
use Rattle.class_model.specs.declared.frame.VType.TheVariants as types
use Rattle.class_model.specs.declared.instr.Imm.TheVariants as imms
use Rattle.class_model.specs.declared.instr.Instr.{Instr}
use Rattle.class_model.specs.declared.instr.Instr.TheVariants.{Const, Goto, Invoke, Pure, Return}
use Rattle.class_model.specs.declared.instr.Placed.{Placed}
use Rattle.class_model.specs.declared.opcodes.TheConstants.{IAND}
use Rattle.class_model.specs.Pool.{constant_at}
use Rattle.class_tree.specs.Headers.{Classes, headers_of}
use Rattle.class_tree.specs.Hierarchy.{IsHierarchy}
use Rattle.expanded_code.specs.Callees.{LeavesResult}
use Rattle.expanded_code.specs.Expanded.{Setting, arguments, expanded, point_in, points_of_callee, return_points, set_frame, set_type}
use Rattle.expanded_code.specs.Expansions.{Coded, Expansion}
use Rattle.expanded_runs.proofs.Ready.Catches.{frame_there, handlers_kept}
use Rattle.expanded_runs.proofs.Ready.Comes.{CatchKept, FrameThere, GoesKept, KeepsTo, SameSites, edges_kept, moving_to, set_site, top_no_site}
use Rattle.expanded_runs.proofs.Ready.PlainRows.{HoldsRow, call_holds, results_known}
use Rattle.expanded_runs.proofs.Ready.RowKeeps.{NotNew, local_outside, local_set, new_before, stack_back, went}
use Rattle.expanded_runs.proofs.Runs.PositionLaws.{block_least, length_arguments, part_stands, slice_left, slice_right}
use Rattle.expanded_runs.proofs.Runs.Positions.{IsReplacedAt, Standing, becomes, block_of, frames_of, inner_setting, inner_standing, instrs_of, scope_of, start_of}
use Rattle.expanded_runs.proofs.Runs.Standings.{IsStanding, Stands, callee_stands, host_stands}
use Rattle.expanded_runs.proofs.Types.CallFacts.{CallFacts, Returned, returned}
use Rattle.expanded_runs.proofs.Types.Edges.{set_unit}
use Rattle.expanded_runs.proofs.Types.FlatParts.{IsOwn, slice_either}
use Rattle.expanded_runs.proofs.Types.FrameFacts.{FrameFacts, frame_fits, own_long, tops_behind}
use Rattle.expanded_runs.proofs.Types.OwnPoints.{TypingLaws, row_at}
use Rattle.expanded_runs.proofs.Types.ReturnFrames.{BehindCall, behind_call, under_set}
use Rattle.expanded_runs.proofs.Types.ReturnPoints.{return_points_hold}
use Rattle.expanded_runs.proofs.Types.Returns.{behind_is, callee_there, return_there}
use Rattle.expanded_runs.proofs.Types.ThroughClass.{ArrayInterfaces}
use Rattle.expanded_runs.proofs.Types.Units.{get_front, get_inside, get_take, inside, le_cases, outside, where_is}
use Rattle.flow_code.specs.FlatCode.{FlatCode, point_at}
use Rattle.flow_code.specs.ReadTypes.{is_site_object}
use Rattle.flow_code.specs.TypedFrames.{FolderFrames}
use Rattle.flow_code.specs.declared.handlers.FlatHandler.{FlatHandler}
use Rattle.flow_code.specs.declared.point.Point.{Point}
use Rattle.member_link.specs.BodyTyping.{RowHolds}
use Rattle.member_link.specs.Machine.Programs.{Links}
use Rattle.member_link.specs.Rows.ArithmeticRows.{operation_in, pure_operations, Operation}
use Rattle.member_link.specs.Rows.MemberRows.{result_types, return_row}
use Rattle.member_link.specs.Rows.Operands.{IsUninitialised, under}
use Rattle.member_link.specs.Rows.Row.{stack_behind}
use Rattle.member_link.specs.Rows.Table.{row_of}
use Rattle.member_link.specs.Scope.{Scope, own_descriptor, row_scope}
use Rattle.member_link.specs.Signatures.{reference_of, result_of}
use Rattle.plan_flow.specs.Must.{row_of_point}
use Rattle.plan_flow.specs.PlanRows.{plain_value}
use Rattle.plan_flow.specs.PlanScope.{PlanScope, scope_of as plan_scope}
use Rattle.plan_flow.specs.PlanTable.{edges_of, held_from, moving, operands_of}
use Rattle.plan_flow.specs.ReadyForPlans.{KeepsAlong}
use Rattle.type_rules.specs.Verified.{TypesFolder}

int_no_site : (flat : FlatCode) (type : VType) → types.Int ≡ type → ¬ IsTrue (is_site_object flat type)
int_no_site flat type is site = let no = subst (λ (t : VType). IsTrue (is_site_object flat t)) (sym is) site in absurd cc

-- an entry of a stack whose top is an int, if it is of an object of a site
under_int : (flat : FlatCode) (below : List VType) (n : ℕ) (type : VType) → slice_get (below ++ types.Int ∷ []) n ≡ Some type
    → IsTrue (is_site_object flat type)
    → n < length below
under_int flat below n type is site = elim (slice_either below (types.Int ∷ []) n type is) [
  | inl front ↦ slice_get_within below n type front
  | inr back ↦ absurd (by back.behind back.there)
] where
  by : (m : ℕ) → slice_get (types.Int ∷ []) m ≡ Some type → ⊥
  by zero there = int_no_site flat type (same_Some types.Int type there) site
  by (suc m) there = none-some type there

module _ (laws : TypingLaws) {classes : Classes} {typed : FolderFrames} (folder : TypesFolder classes typed) (facts : FrameFacts classes typed)
    (host : Coded) (e : Expansion) (stands : (chain : List MethodAt) (p : Standing) → IsStanding host e chain p → Stands classes typed host e chain p)
    (s : Scope) (headers : s.headers ≡ headers_of classes)
    (this_known : (chain : List MethodAt) (p : Standing) → IsStanding host e chain p → IsSome p.setting.behind → p.setting.this ≢ types.UninitThis)
    (hierarchy : IsHierarchy s.headers) (arrays : ArrayInterfaces s.headers)
    (calls : (chain : List MethodAt) (p : Standing) → IsStanding host e chain p → (k : ℕ) (placed : Placed) (frame : Frame) (g : Coded) (inner : Expansion)
    → IsReplacedAt p k placed frame g inner
    → CallFacts (expanded host e) s.headers p placed frame g)
    (call_there : (chain : List MethodAt) (p : Standing) → IsStanding host e chain p → (k : ℕ) (placed : Placed) (frame : Frame) (g : Coded)
    (inner : Expansion)
    → IsReplacedAt p k placed frame g inner
    → (opcode : ℕ) × (index : ℕ) × (count : ℕ) × (placed.instr ≡ Invoke opcode index count)) (links : Links) where
  abbrev Along : ℕ → Point → Type 0
  Along number point =
      AllByRecursion (KeepsAlong (plan_scope classes links (expanded host e)) number point)
      (edges_of number point (row_of_point (plan_scope classes links (expanded host e)) number point))

  -- ---- behind a call

  module _ {chain : List MethodAt} {p : Standing} (standing : IsStanding host e chain p) (k : ℕ) (placed : Placed) (frame : Frame) (g : Coded)
      (inner : Expansion) (at : IsReplacedAt p k placed frame g inner) where
    abbrev t : Setting
    t = p.setting

    abbrev q : Setting
    q = inner_setting p k placed frame g inner

    abbrev call : CallFacts (expanded host e) s.headers p placed frame g
    call = calls chain p standing k placed frame g inner at

    own_stands : IsStanding host e (g.at ∷ chain) (inner_standing p k placed frame g inner)
    own_stands = callee_stands k placed frame g inner standing at

    frame_fit : t.unit + length frame.locals ≤ length t.below.locals
    frame_fit = frame_fits facts host e stands standing k frame at.has_frame

    -- the row of the call
    row_holds : HoldsRow (expanded host e) p.setting 0 frame frame_fit (row_scope (scope_of p))
        (row_of (row_scope (scope_of p)) frame placed.at placed.instr)
    row_holds =
        let instr = call_there chain p standing k placed frame g inner at in
        subst (λ (i : Instr). HoldsRow (expanded host e) p.setting 0 frame frame_fit (row_scope (scope_of p))
        (row_of (row_scope (scope_of p)) frame placed.at i)) (sym instr.3)
        (call_holds (expanded host e) p.setting 0 frame frame_fit (row_scope (scope_of p)) instr.0
        (reference_of (scope_of p).class.pool (constant_at (scope_of p).class.pool instr.1)))

    own_row : (call.own.locals ≡ (row_of (row_scope (scope_of p)) frame placed.at placed.instr).locals)
        × (call.own.stack ≡ stack_behind frame (row_of (row_scope (scope_of p)) frame placed.at placed.instr))
    own_row = went (row_of (row_scope (scope_of p)) frame placed.at placed.instr) frame call.own call.own_is

    local_before : (m : ℕ) (type : VType) → IsUninitialised type → slice_get call.own.locals m ≡ Some type → slice_get frame.locals m ≡ Some type
    local_before m type new is = row_holds.locals m type new (ap (λ (l : List VType). slice_get l m) (sym own_row.0) ∙ is)

    -- an entry under the arguments
    entry_before : (m : ℕ) (type : VType) → IsUninitialised type → slice_get call.own.stack m ≡ Some type
        → (m < length frame.stack - length (arguments g.scope 0)) × (slice_get frame.stack m ≡ Some type)
    entry_before m type new is =
        let there = stack_back (expanded host e) p.setting 0 frame frame_fit _ row_holds.leaves row_holds.gives m type new
        (ap (λ (l : List VType). slice_get l m) (sym own_row.1) ∙ is) in
        (less, there.1)
      where
        left : List VType
        left = under (length (arguments g.scope 0)) frame.stack

        less : m < length frame.stack - length (arguments g.scope 0)
        less = elim (slice_either (map call.becomes left) (result_types (result_of (own_descriptor g.scope))) m type
            (subst (λ (l : List VType). slice_get l m ≡ Some type) call.own_stack is)) [
              | inl front ↦
                  let within = slice_get_within (map call.becomes left) m type front in
                  omega (arith, within, length-map left call.becomes, length-take-le (length frame.stack - length (arguments g.scope 0)) frame.stack (omega arith))
              | inr back ↦
                  absurd (at_index NotNew (result_types (result_of (own_descriptor g.scope))) back.behind type (results_known (result_of (own_descriptor g.scope)))
                  back.there new)
            ]

    -- the units of callees are behind its own
    block_behind : t.unit + (scope_of p).part.max_locals ≤ block_of p k
    block_behind =
        let least = block_least p.block p.expansion k in
        let own = (stands chain p standing).own_units in
        omega (arith, least, own)

    module _ (b : BehindCall laws folder facts host e stands s headers this_known hierarchy arrays standing k placed frame g inner at call) (n : ℕ)
        (within : Frame) (has : slice_get g.frames n ≡ Some within) where
      next_fit : t.unit + length b.next.locals ≤ length t.below.locals
      next_fit = frame_fits facts host e stands standing (suc k) b.next b.there

      own_fit : q.unit + length within.locals ≤ length q.below.locals
      own_fit = frame_fits facts host e stands own_stands n within has

      long : length b.next.locals ≡ length frame.locals
      long = frame_units (suc k) b.next b.there ∙ sym (frame_units k frame at.has_frame) where
        frame_units : (j : ℕ) (f : Frame) → slice_get (frames_of p) j ≡ Some f → length f.locals ≡ (scope_of p).part.max_locals
        frame_units j f is = own_long facts host e stands standing j f is

      caller_local : (m : ℕ) (type : VType) → slice_get (set_frame p.setting b.next).locals m ≡ Some type
          → IsTrue (is_site_object (expanded host e) type)
          → slice_get (set_frame p.setting frame).locals m ≡ Some type
      caller_local m type is site = elim (where_is t.unit (length b.next.locals) m) [
        | outside out ↦
            local_outside t frame frame_fit m (subst (λ (size : ℕ). (m < t.unit) ⊎ (t.unit + size ≤ m)) long out)
            ∙ sym (local_outside t b.next next_fit m out)
            ∙ is
        | inside j place room ↦
            let inner_is = get_inside t.unit (map (set_type t) b.next.locals) t.below.locals
            (omega (arith, next_fit, length-map b.next.locals (set_type t))) j (omega (arith, room, length-map b.next.locals (set_type t))) in
            let one = set_unit (expanded host e) t b.next.locals j type
            (sym inner_is ∙ ap (slice_get (set_frame t b.next).locals) (sym place) ∙ is) in
            let new = set_site (expanded host e) t one.0 (subst (λ (x : VType). IsTrue (is_site_object (expanded host e) x)) one.2 site) in
            let own = new_before s.headers call.own.locals b.next.locals b.assignable.locals j one.0 new one.1 in
            ap (slice_get (set_frame t frame).locals) place
            ∙ local_set t frame frame_fit j one.0 (local_before j one.0 new own)
            ∙ ap Some (sym one.2)
      ]

      one_local : (m : ℕ) (type : VType) → slice_get (set_frame p.setting b.next).locals m ≡ Some type → IsTrue (is_site_object (expanded host e) type)
          → slice_get (set_frame (inner_setting p k placed frame g inner) within).locals m ≡ Some type
      one_local m type is site = elim (le_cases (block_of p k) m) [
        | inl behind ↦
            let room = slice_get_within (set_frame t b.next).locals m type is in
            let top = (tops_behind facts host e stands standing (suc k) b.next b.there).each m (omega (arith, behind, block_behind)) room in
            absurd (top_no_site (expanded host e) type (same_Some type types.Top (sym is ∙ top)) site)
        | inr before ↦ local_outside q within own_fit m (inl before) ∙ caller_local m type is site
      ]

      below_is : q.below.stack ≡ t.below.stack ++ map (set_type t) (under (length (arguments g.scope 0)) frame.stack)
      below_is =
          ap (λ (count : ℕ). under count (set_frame t frame).stack) (length_arguments g.scope (block_of p k))
          ∙ under_set t (length (arguments g.scope 0)) t.below.stack frame.stack call.enough

      one_entry : (m : ℕ) (type : VType) → slice_get (set_frame p.setting b.next).stack m ≡ Some type → IsTrue (is_site_object (expanded host e) type)
          → slice_get (set_frame (inner_setting p k placed frame g inner) within).stack m ≡ Some type
      one_entry m type is site =
          slice_left q.below.stack (map (set_type q) within.stack) m type
          (subst (λ (l : List VType). slice_get l m ≡ Some type) (sym below_is)
          (elim (slice_either t.below.stack (map (set_type t) b.next.stack) m type is) [
            | inl front ↦ slice_left t.below.stack (map (set_type t) left) m type front
            | inr back ↦
                let one = set_unit (expanded host e) t b.next.stack back.behind type back.there in
                let new = set_site (expanded host e) t one.0 (subst (λ (x : VType). IsTrue (is_site_object (expanded host e) x)) one.2 site) in
                let own = new_before s.headers call.own.stack b.next.stack b.assignable.stack back.behind one.0 new one.1 in
                let found = entry_before back.behind one.0 new own in
                let held : slice_get left back.behind ≡ Some one.0 =
                get_take (length frame.stack - length (arguments g.scope 0)) frame.stack back.behind found.0 ∙ found.1 in
                subst (λ (j : ℕ). slice_get (t.below.stack ++ map (set_type t) left) j ≡ Some type) (sym back.number_is)
                (slice_right t.below.stack (map (set_type t) left) back.behind type
                (slice_get-map (set_type t) left back.behind ∙ ap (option_map (set_type t)) held ∙ ap Some (sym one.2)))
          ]))
        where
          left : List VType
          left = under (length (arguments g.scope 0)) frame.stack

      -- what stands behind the call stood before a return
      pub behind_same : SameSites (expanded host e) (set_frame (inner_setting p k placed frame g inner) within) (set_frame p.setting b.next)
      behind_same = record { locals = one_local; stack = one_entry }

  -- ---- the points of a return

  module _ (t : Setting) (at : ℕ) (frame : Frame) (behind : ℕ)
      (goes : (to : Frame) × FrameThere (expanded host e) behind to × SameSites (expanded host e) (set_frame t frame) to)
      (handlers : AllByRecursion (λ (handler : FlatHandler). CatchKept (expanded host e) (set_frame t frame).locals handler.to) (t.handlers at)) where
    abbrev pl : PlanScope
    pl = plan_scope classes links (expanded host e)

    abbrev upon : List VType → Frame
    upon above = record (set_frame t frame) { stack = (set_frame t frame).stack ++ above }

    goto_along : (number : ℕ) → Along number (point_in t at (set_frame t frame) (Goto behind))
    goto_along number =
        edges_kept (plan_scope classes links (expanded host e)) number (point_in t at (set_frame t frame) (Goto behind)) (λ falls. absurd cc) (
          record {
            to = goes.0;
            there = goes.1;
            keeps = moving_to (expanded host e) number (set_frame t frame) (moving (set_frame t frame) 0 []) goes.0
                (length (set_frame t frame).stack - 0) [] refl refl goes.2.locals
                (λ n type is site.
                let there = goes.2.stack n type is site in
                (omega (arith, slice_get_within (set_frame t frame).stack n type there), there));
          },
          tt,
        ) handlers

    -- to the next point
    along_next : (number : ℕ) (above : List VType) (instr : Instr) (next : Point) (to : Frame)
        → point_at (expanded host e) (number + 1) ≡ Some next
        → next.typed ≡ to
        → targets instr ≡ []
        → KeepsTo (expanded host e) number (upon above) (row_of_point (plan_scope classes links (expanded host e)) number (point_in t at (upon above) instr)) to
        → Along number (point_in t at (upon above) instr)
    along_next number above instr next to is typed none keeps =
        edges_kept (plan_scope classes links (expanded host e)) number (point_in t at (upon above) instr)
        (λ falls. record { to = to; there = record { point = next; is = is; typed = typed }; keeps = keeps })
        (subst (AllByRecursion (GoesKept (expanded host e) number (upon above)
        (row_of_point (plan_scope classes links (expanded host e)) number (point_in t at (upon above) instr)))) (sym none) tt) handlers

    module _ (below : List VType) (int : (set_frame t frame).stack ≡ below ++ types.Int ∷ []) where
      stack_long : length (set_frame t frame).stack ≡ length below + 1
      stack_long = ap length int ∙ length-append below (types.Int ∷ [])

      -- an entry of an object of a site is under the int
      under_top : (n : ℕ) (type : VType) → slice_get (set_frame t frame).stack n ≡ Some type → IsTrue (is_site_object (expanded host e) type)
          → n < length below
      under_top n type is site = under_int (expanded host e) below n type (subst (λ (l : List VType). slice_get l n ≡ Some type) int is) site

      int_along : (opcode : ℕ) (opcodes : List ℕ)
          → operation_in pure_operations opcode ≡ Some (record { opcodes = opcodes; takes = kinds.Int ∷ []; gives = kinds.Int })
          → (number : ℕ) (next : Point)
          → point_at (expanded host e) (number + 1) ≡ Some next
          → next.typed ≡ set_frame t frame
          → Along number (point_in t at (upon []) (Pure opcode))
      int_along opcode opcodes found number next is typed =
          along_next number [] (Pure opcode) next (set_frame t frame) is typed refl
          (moving_to (expanded host e) number (upon []) (moving (upon []) (operands_of (operation_in pure_operations opcode)) (plain_value ∷ [])) (set_frame t frame)
          (length (upon []).stack - 1) (plain_value ∷ []) refl
          (ap (λ (o : Option Operation). held_from (length (upon []).locals) (length (upon []).stack - operands_of o) ++ plain_value ∷ []) found)
          (λ n type there site. there)
          (λ n type there site.
          let less = under_top n type there site in
          (omega (arith, less, stack_long, length-append (set_frame t frame).stack []), slice_left (set_frame t frame).stack [] n type there)))

      one_along : (number : ℕ) (next : Point)
          → point_at (expanded host e) (number + 1) ≡ Some next
          → next.typed ≡ upon (types.Int ∷ [])
          → Along number (point_in t at (upon []) (Const (imms.Int (pos 1))))
      one_along number next is typed =
          along_next number [] (Const (imms.Int (pos 1))) next (upon (types.Int ∷ [])) is typed refl
          (moving_to (expanded host e) number (upon []) (moving (upon []) 0 (plain_value ∷ [])) (upon (types.Int ∷ [])) (length (upon []).stack - 0)
          (plain_value ∷ []) refl refl (λ n type there site. there)
          (λ n type there site.
          let less = under_int (expanded host e) (set_frame t frame).stack n type there site in
          let own = sym (get_front (set_frame t frame).stack (types.Int ∷ []) n less) ∙ there in
          (omega (arith, less, length-append (set_frame t frame).stack []), slice_left (set_frame t frame).stack [] n type own)))

      and_along : (number : ℕ) (next : Point)
          → point_at (expanded host e) (number + 1) ≡ Some next
          → next.typed ≡ set_frame t frame
          → Along number (point_in t at (upon (types.Int ∷ [])) (Pure IAND))
      and_along number next is typed =
          along_next number (types.Int ∷ []) (Pure IAND) next (set_frame t frame) is typed refl
          (moving_to (expanded host e) number (upon (types.Int ∷ [])) (moving (upon (types.Int ∷ [])) 2 (plain_value ∷ [])) (set_frame t frame)
          (length (upon (types.Int ∷ [])).stack - 2) (plain_value ∷ []) refl refl (λ n type there site. there)
          (λ n type there site.
          let less = under_top n type there site in (
            omega (arith, less, stack_long, length-append (set_frame t frame).stack (types.Int ∷ [])),
            slice_left (set_frame t frame).stack (types.Int ∷ []) n type there,
          )))

  -- The edges of each.
  pub return_edges : (chain : List MethodAt) (p : Standing) → IsStanding host e chain p → (k : ℕ) (placed : Placed) (frame : Frame)
      → slice_get (instrs_of p) k ≡ Some placed
      → slice_get (frames_of p) k ≡ Some frame
      → IsOwn (becomes p.expansion k)
      → (behind : ℕ) → p.setting.behind ≡ Some behind
      → (kind : Option Kind) → placed.instr ≡ Return kind
      → (n : ℕ) (point : Point) → slice_get (return_points p.setting placed.at (set_frame p.setting frame) behind) n ≡ Some point
      → AllByRecursion (KeepsAlong (plan_scope classes links (expanded host e)) (start_of p k + n) point)
      (edges_of (start_of p k + n) point (row_of_point (plan_scope classes links (expanded host e)) (start_of p k + n) point))
  return_edges chain p host_stands k placed frame is has own behind b kind i n point there = absurd cc
  return_edges _ _ (callee_stands {chain = chain} {p = p} at_k call_placed before g inner below at) k placed frame is has own behind b kind i n point there =
      let inside_here = callee_stands at_k call_placed before g inner below at in
      let q = inner_standing p at_k call_placed before g inner in
      let st = stands (g.at ∷ chain) q inside_here in
      let known = callee_there laws folder facts host e stands s headers this_known hierarchy arrays calls below at_k call_placed before g inner at in
      let left : LeavesResult (Return kind) frame =
      subst (λ (instr : Instr). LeavesResult instr frame) i (known.may.returns k placed frame is has) in
      let row = row_at laws folder facts host e stands s headers inside_here k placed frame is has in
      let own_row_here : RowHolds (row_scope g.scope) frame (return_row (row_scope g.scope) frame kind) =
      subst (λ (instr : Instr). RowHolds (row_scope g.scope) frame (row_of (row_scope g.scope) frame placed.at instr)) i row in
      let gives : Returned g.scope.headers (result_of (own_descriptor g.scope)) frame.stack = returned g.scope frame kind left own_row_here in
      let next = behind_call laws folder facts host e stands s headers this_known hierarchy arrays below at_k call_placed before g inner at
      (calls chain p below at_k call_placed before g inner at) in
      let number : start_of p (suc at_k) ≡ behind =
      behind_is laws folder facts host e stands s headers this_known hierarchy arrays calls p at_k call_placed before g inner at
      ∙ same_Some (start_of p at_k + points_of_callee g inner) behind b in
      let to_there : FrameThere (expanded host e) behind (set_frame p.setting next.next) =
      subst (λ (m : ℕ). FrameThere (expanded host e) m (set_frame p.setting next.next)) number
      (frame_there laws folder facts host e stands s headers below (suc at_k) next.next next.there) in
      let goes : (to : Frame) × FrameThere (expanded host e) behind to × SameSites (expanded host e) (set_frame q.setting frame) to =
      (set_frame p.setting next.next, to_there, behind_same below at_k call_placed before g inner at next k frame has) in
      let handlers = handlers_kept laws folder facts host e stands s headers inside_here k placed frame is has (set_frame q.setting frame).locals
      (λ m less. refl) in
      let part = part_stands (expanded host e).points q.setting q.first q.block st.fits k placed frame is has st.points in
      return_points_hold (expanded host e) q.setting placed.at frame behind (start_of q k)
      (λ m one one_is. part m one (return_there q k placed frame behind kind b i (becomes q.expansion k) own m one one_is)) Along
      (λ m at_m. goto_along q.setting placed.at frame behind goes handlers m)
      (int_along q.setting placed.at frame behind goes handlers) (one_along q.setting placed.at frame behind goes handlers)
      (and_along q.setting placed.at frame behind goes handlers) gives n point there
