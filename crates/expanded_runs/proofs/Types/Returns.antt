-- The points of each return of a callee are typed.
use Rattle.flow_code.specs.ReadTypes.{read_frame}
use Rattle.same_runs.specs.TypedFlats.{MayGoToPoint, TypesPoint}
use Rattle.std.proofs.Common.{◌≡◌, ◌≢◌, ◌+◌, ℕ, suc, List, ◌∷◌, slice_get, Option, Some, refl, sym, ap, subst, ◌∙◌}
use Rattle.std.specs.Prelude.{IsSome}
use Rattle.std.proofs.lemmas.Option.{same_Some}
use Rattle.class_model.specs.declared.class_file.MethodAt.{MethodAt}
use Rattle.class_model.specs.declared.descriptor.Kind.{Kind}
use Rattle.class_model.specs.declared.frame.Frame.{Frame}
use Rattle.class_model.specs.declared.frame.VType.TheVariants as types
use Rattle.class_model.specs.declared.instr.Instr.{Instr}
use Rattle.class_model.specs.declared.instr.Instr.TheVariants.{Return}
use Rattle.class_model.specs.declared.instr.Placed.{Placed}
use Rattle.class_tree.specs.Headers.{Classes, Headers, headers_of}
use Rattle.class_tree.specs.Hierarchy.{IsHierarchy}
use Rattle.expanded_code.specs.Callees.{LeavesResult, ResultSaysAtMost}
use Rattle.expanded_code.specs.Expanded.{callee_of, expanded, points_of_callee, return_points, set_frame}
use Rattle.expanded_code.specs.Expansions.{Coded, Expansion}
use Rattle.expanded_runs.proofs.Runs.PositionLaws.{next_start, part_stands, points_at, width}
use Rattle.expanded_runs.proofs.Runs.Positions.{Becomes, IsReplacedAt, Standing, becomes, block_of, frames_of, inner_standing, instrs_of, scope_of, start_of}
use Rattle.expanded_runs.proofs.Runs.StandingLaws.{as_replaced, becomes_as}
use Rattle.expanded_runs.proofs.Runs.Standings.{IsStanding, Stands, callee_stands, host_stands}
use Rattle.expanded_runs.proofs.Types.CallFacts.{CallFacts, CalleeKnown, Returned, callee_known, returned}
use Rattle.expanded_runs.proofs.Types.FlatParts.{IsOwn, own_remains, own_site}
use Rattle.expanded_runs.proofs.Types.FlatTyped.{returns_some}
use Rattle.expanded_runs.proofs.Types.FrameFacts.{FrameFacts}
use Rattle.expanded_runs.proofs.Types.Handlers.{handlers_typed, same_itself}
use Rattle.expanded_runs.proofs.Types.OwnPoints.{TypingLaws, goes_to, number_is, own_headers, row_at}
use Rattle.expanded_runs.proofs.Types.ReturnFrames.{behind_call, return_assignable}
use Rattle.expanded_runs.proofs.Types.ReturnPoints.{return_points_typed}
use Rattle.expanded_runs.proofs.Types.ThroughClass.{ArrayInterfaces}
use Rattle.flow_code.specs.TypedFrames.{FolderFrames}
use Rattle.flow_code.specs.declared.point.Point.{Point}
use Rattle.member_link.specs.BodyTyping.{RowHolds}
use Rattle.member_link.specs.Rows.MemberRows.{return_row}
use Rattle.member_link.specs.Rows.Table.{row_of}
use Rattle.member_link.specs.Scope.{Scope, own_descriptor, row_scope}
use Rattle.member_link.specs.Signatures.{result_of}
use Rattle.type_rules.specs.Verified.{TypesFolder}

-- a point of a return of a callee is one of its instruction
pub return_there : (q : Standing) (k : ℕ) (placed : Placed) (frame : Frame) (behind : ℕ) (kind : Option Kind)
    → q.setting.behind ≡ Some behind
    → placed.instr ≡ Return kind
    → (x : Becomes) → IsOwn x
    → (m : ℕ) (one : Point) → slice_get (return_points q.setting placed.at (set_frame q.setting frame) behind) m ≡ Some one
    → slice_get (points_at q.setting (start_of q k) (block_of q k) placed frame x) m ≡ Some one
return_there q k placed frame behind kind is_behind i _ own_remains m one one_is =
    subst (λ (points : List Point). slice_get points m ≡ Some one) (sym (returns_some q.setting placed frame behind kind is_behind i)) one_is
return_there q k placed frame behind kind is_behind i _ own_site m one one_is =
    subst (λ (points : List Point). slice_get points m ≡ Some one) (sym (returns_some q.setting placed frame behind kind is_behind i)) one_is

module _ (laws : TypingLaws) {classes : Classes} {typed : FolderFrames} (folder : TypesFolder classes typed) (facts : FrameFacts classes typed)
    (host : Coded) (e : Expansion) (stands : (chain : List MethodAt) (p : Standing) → IsStanding host e chain p → Stands classes typed host e chain p)
    (s : Scope) (headers : s.headers ≡ headers_of classes)
    (this_known : (chain : List MethodAt) (p : Standing) → IsStanding host e chain p → IsSome p.setting.behind → p.setting.this ≢ types.UninitThis)
    (hierarchy : IsHierarchy s.headers) (arrays : ArrayInterfaces s.headers)
    (calls : (chain : List MethodAt) (p : Standing) → IsStanding host e chain p → (k : ℕ) (placed : Placed) (frame : Frame) (g : Coded) (inner : Expansion)
    → IsReplacedAt p k placed frame g inner
    → CallFacts (expanded host e) s.headers p placed frame g) where
  -- what is asked of a callee that stands there
  pub callee_there : {chain : List MethodAt} {p : Standing} → IsStanding host e chain p → (k : ℕ) (placed : Placed) (frame : Frame) (g : Coded)
      (inner : Expansion)
      → IsReplacedAt p k placed frame g inner
      → CalleeKnown classes p.setting.coded.at (scope_of p) (frames_of p) placed.at g
  callee_there {chain} {p} standing k placed frame g inner at =
      let st = stands chain p standing in
      let known = as_replaced (becomes_as chain p.setting.coded.at (instrs_of p) p.expansion st.expands k placed at.is) at.becomes in
      callee_known known.0.is_callee (scope_of p) (frames_of p) g refl st.has known.1

  -- the point behind a call that is replaced
  pub behind_is : (p : Standing) (k : ℕ) (placed : Placed) (frame : Frame) (g : Coded) (inner : Expansion) → IsReplacedAt p k placed frame g inner
      → start_of p (suc k) ≡ start_of p k + points_of_callee g inner
  behind_is p k placed frame g inner at =
      next_start (callee_of p.setting) p.first (instrs_of p) p.expansion k placed at.is
      ∙ ap (λ (b : Becomes). start_of p k + width (callee_of p.setting) placed b) at.becomes

  pub returns_typed : (chain : List MethodAt) (p : Standing) → IsStanding host e chain p → (k : ℕ) (placed : Placed) (frame : Frame)
      → slice_get (instrs_of p) k ≡ Some placed
      → slice_get (frames_of p) k ≡ Some frame
      → IsOwn (becomes p.expansion k)
      → (behind : ℕ) → p.setting.behind ≡ Some behind
      → (kind : Option Kind) → placed.instr ≡ Return kind
      → (n : ℕ) (point : Point) → slice_get (return_points p.setting placed.at (set_frame p.setting frame) behind) n ≡ Some point
      → TypesPoint classes s (expanded host e) (start_of p k + n) point
  returns_typed chain p host_stands k placed frame is has own behind b kind i n point there = absurd cc
  returns_typed _ _ (callee_stands {chain = chain} {p = p} at_k call before g inner below at) k placed frame is has own behind b kind i n point there =
      let inside = callee_stands at_k call before g inner below at in
      let q = inner_standing p at_k call before g inner in
      let st = stands (g.at ∷ chain) q inside in
      let known = callee_there below at_k call before g inner at in
      let facts_there = calls chain p below at_k call before g inner at in
      let left : LeavesResult (Return kind) frame =
      subst (λ (instr : Instr). LeavesResult instr frame) i (known.may.returns k placed frame is has) in
      let row = row_at laws folder facts host e stands s headers inside k placed frame is has in
      let own_row : RowHolds (row_scope g.scope) frame (return_row (row_scope g.scope) frame kind) =
      subst (λ (instr : Instr). RowHolds (row_scope g.scope) frame (row_of (row_scope g.scope) frame placed.at instr)) i row in
      let same_headers = own_headers laws folder facts host e stands s headers inside in
      let gives : Returned s.headers (result_of (own_descriptor g.scope)) frame.stack =
      subst (λ (h : Headers). Returned h (result_of (own_descriptor g.scope)) frame.stack) same_headers (returned g.scope frame kind left own_row) in
      let next = behind_call laws folder facts host e stands s headers this_known hierarchy arrays below at_k call before g inner at facts_there in
      let number = number_is laws folder facts host e stands s headers below at_k call before at.is at.has_frame in
      let says : ResultSaysAtMost s.headers (result_of (own_descriptor g.scope)) next.next =
      subst (λ (h : Headers). ResultSaysAtMost h (result_of (own_descriptor g.scope)) next.next) (sym headers)
      (known.result next.next (ap (λ (m : ℕ). slice_get (frames_of p) (suc m)) number ∙ next.there)) in
      let assignable = return_assignable laws folder facts host e stands s headers this_known hierarchy arrays below at_k call before g inner at
      facts_there next k frame has same_headers gives says in
      let goes : MayGoToPoint classes s (expanded host e) (Some (read_frame (expanded host e) (set_frame q.setting frame))) behind =
      subst (MayGoToPoint classes s (expanded host e) (Some (read_frame (expanded host e) (set_frame q.setting frame))))
      (behind_is p at_k call before g inner at ∙ same_Some (start_of p at_k + points_of_callee g inner) behind b)
      (goes_to laws folder facts host e stands s headers below (suc at_k) next.next next.there _ assignable) in
      let part = part_stands (expanded host e).points q.setting q.first q.block st.fits k placed frame is has st.points in
      let handlers = handlers_typed laws folder facts host e stands s headers this_known inside k placed frame is has (set_frame q.setting frame).locals
      (same_itself laws folder facts host e stands s headers this_known inside k frame has) in
      return_points_typed classes s (expanded host e) q.setting placed.at frame behind (start_of q k)
      (λ m one one_is. part m one (return_there q k placed frame behind kind b i (becomes q.expansion k) own m one one_is)) goes handlers gives n point there
