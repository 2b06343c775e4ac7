-- The stack before and behind each instruction of a method that stands in flat code is no deeper than that of some point.
use Rattle.std.proofs.Common.{◌≡◌, ◌+◌, ◌≤◌, ℕ, zero, suc, Bool, true, List, [], ◌∷◌, ◌++◌, length, map, slice_get, Option, Some, None, if◌then◌else◌, max, refl, sym, ap, subst, ◌∙◌, arith}
use Rattle.std.specs.List.{AllByRecursion}
use Rattle.std.proofs.lemmas.List.{length-append, length-map}
use Rattle.std.proofs.lemmas.Option.{none-some, same_Some}
use Rattle.class_model.specs.Instructions.{targets}
use Rattle.class_model.specs.declared.class_file.MethodAt.{MethodAt}
use Rattle.class_model.specs.declared.frame.Frame.{Frame}
use Rattle.class_model.specs.declared.instr.Instr.{Instr}
use Rattle.class_model.specs.declared.instr.Instr.TheVariants.{Goto, Lookup, Return, Table, Throw}
use Rattle.class_model.specs.declared.instr.Placed.{Placed}
use Rattle.class_tree.specs.Headers.{Classes, headers_of}
use Rattle.expanded_code.specs.Alone.{number_in}
use Rattle.expanded_code.specs.Expanded.{expanded, set_type}
use Rattle.expanded_code.specs.Expansions.{Coded, Expansion}
use Rattle.expanded_runs.proofs.Runs.Positions.{Standing, frames_of, instrs_of, scope_of, start_of}
use Rattle.expanded_runs.proofs.Runs.Standings.{IsStanding, Stands}
use Rattle.expanded_runs.proofs.TypedAloneNumbers.{frame_found}
use Rattle.expanded_runs.proofs.Types.FlatPlaces.{HasDepth}
use Rattle.expanded_runs.proofs.Types.FlatRows.{own_row}
use Rattle.expanded_runs.proofs.Types.FrameFacts.{FrameFacts}
use Rattle.expanded_runs.proofs.Types.OwnPoints.{TypingLaws, edges_at, flows_to, instr_there, next_at, one_frame}
use Rattle.expanded_runs.proofs.Types.Starts.{start_typed}
use Rattle.expanded_runs.proofs.Types.Units.{as_long}
use Rattle.flow_code.specs.FlatRoom.{deepest}
use Rattle.flow_code.specs.TypedFrames.{FolderFrames}
use Rattle.flow_code.specs.declared.point.Point.{Point}
use Rattle.member_link.specs.Bodies.{falls_through}
use Rattle.member_link.specs.BodyTyping.{FlowsInto, GoesInto, frame_at}
use Rattle.member_link.specs.Rows.Row.{row_frame}
use Rattle.member_link.specs.Rows.Table.{row_of}
use Rattle.member_link.specs.Scope.{Scope, row_scope}
use Rattle.type_rules.specs.MethodBodies.{body_of}
use Rattle.type_rules.specs.Verified.{TypesFolder}

-- ---- the deepest

max_left : (m n : ℕ) → m ≤ max m n
max_left m n = omega (arith)

max_right : (m n : ℕ) → n ≤ max m n
max_right m n = omega (arith)

pub deep_enough : (points : List Point) (n : ℕ) (point : Point) → slice_get points n ≡ Some point
    → length point.typed.stack ≤ deepest points
deep_enough [] n point is = absurd (none-some point is)
deep_enough (first ∷ points) zero point is =
    let same : length first.typed.stack ≡ length point.typed.stack =
    ap (λ (p : Point). length p.typed.stack) (same_Some first point is) in
    omega (arith, same, max_left (length first.typed.stack) (deepest points))
deep_enough (first ∷ points) (suc n) point is =
    omega (arith, deep_enough points n point is, max_right (length first.typed.stack) (deepest points))

module _ (laws : TypingLaws) {classes : Classes} {typed : FolderFrames} (folder : TypesFolder classes typed) (facts : FrameFacts classes typed)
    (host : Coded) (e : Expansion) (stands : (chain : List MethodAt) (p : Standing) → IsStanding host e chain p → Stands classes typed host e chain p)
    (s : Scope) (headers : s.headers ≡ headers_of classes) where
  module _ {chain : List MethodAt} {p : Standing} (standing : IsStanding host e chain p) where
    -- before an instruction
    pub depth_here : (k : ℕ) (frame : Frame) → slice_get (frames_of p) k ≡ Some frame
        → length p.setting.below.stack + length frame.stack ≤ deepest (expanded host e).points
    depth_here k frame has =
        let placed = instr_there laws folder facts host e stands s headers standing k frame has in
        let start = start_typed facts host e stands standing k placed.0 frame placed.1 has in
        let deep = deep_enough (expanded host e).points (start_of p k) start.0 start.1 in
        let stack : length start.0.typed.stack ≡ length (p.setting.below.stack ++ map (set_type p.setting) frame.stack) =
        ap (λ (f : Frame). length f.stack) start.2 in
        omega (
          arith,
          deep,
          stack,
          length-append p.setting.below.stack (map (set_type p.setting) frame.stack),
          length-map frame.stack (set_type p.setting),
        )

    depth_at : (place : ℕ) (to : Frame) → frame_at (body_of (scope_of p)) (frames_of p) place ≡ Some to
        → length p.setting.below.stack + length to.stack ≤ deepest (expanded host e).points
    depth_at place to is = depth_here (number_in (instrs_of p) place) to (frame_found (scope_of p) (instrs_of p) (frames_of p) place to is)

    module _ (k : ℕ) (placed : Placed) (frame : Frame) (is : slice_get (instrs_of p) k ≡ Some placed)
        (has : slice_get (frames_of p) k ≡ Some frame) where
      abbrev after : Option Frame
      after = row_frame frame (row_of (row_scope (scope_of p)) frame placed.at placed.instr)

      by_flow : (g : Frame) → FlowsInto (body_of (scope_of p)) (frames_of p) (placed.at + placed.len) (Some g)
          → length p.setting.below.stack + length g.stack ≤ deepest (expanded host e).points
      by_flow g into =
          let flows = flows_to laws folder facts host e stands s headers standing k placed frame is has (placed.at + placed.len) g into in
          let there = depth_at (placed.at + placed.len) flows.0 flows.1 in
          omega (arith, there, as_long s.headers g.stack flows.0.stack flows.2.stack)

      by_target : (g : Frame) → after ≡ Some g → (place : ℕ) → GoesInto (body_of (scope_of p)) (frames_of p) after place
          → length p.setting.below.stack + length g.stack ≤ deepest (expanded host e).points
      by_target g goes place into =
          let there = depth_at place into.stated into.is_at in
          let long = as_long (scope_of p).headers into.frame.stack into.stated.stack into.assignable.stack in
          let same : length into.frame.stack ≡ length g.stack =
          ap (λ (f : Frame). length f.stack) (same_Some into.frame g (sym into.goes_is ∙ goes)) in
          omega (arith, there, long, same)

      by_targets : (g : Frame) → after ≡ Some g → (first : ℕ) (others : List ℕ) → targets placed.instr ≡ first ∷ others
          → length p.setting.below.stack + length g.stack ≤ deepest (expanded host e).points
      by_targets g goes first others are =
          let edges = edges_at laws folder facts host e stands s headers standing k placed frame is has in
          let same = one_frame laws folder facts host e stands s headers standing k placed frame is has edges.frame edges.is_at in
          let all : AllByRecursion (GoesInto (body_of (scope_of p)) (frames_of p)
          (row_frame edges.frame (row_of (row_scope (scope_of p)) edges.frame placed.at placed.instr))) (first ∷ others) =
          subst (AllByRecursion (GoesInto (body_of (scope_of p)) (frames_of p)
          (row_frame edges.frame (row_of (row_scope (scope_of p)) edges.frame placed.at placed.instr)))) are edges.targets in
          by_target g goes first
          (subst (λ (f : Frame). GoesInto (body_of (scope_of p)) (frames_of p)
          (row_frame f (row_of (row_scope (scope_of p)) f placed.at placed.instr)) first) same all.0)

      ends : (instr : Instr) → placed.instr ≡ instr → row_frame frame (row_of (row_scope (scope_of p)) frame placed.at instr) ≡ None
          → (g : Frame) → after ≡ Some g
          → length p.setting.below.stack + length g.stack ≤ deepest (expanded host e).points
      ends instr i none g goes =
          absurd (none-some g (sym none
          ∙ sym (ap (λ (x : Instr). row_frame frame (row_of (row_scope (scope_of p)) frame placed.at x)) i) ∙ goes))

      falls : falls_through placed.instr ≡ true → (g : Frame) → after ≡ Some g
          → length p.setting.below.stack + length g.stack ≤ deepest (expanded host e).points
      falls on g goes =
          by_flow g
          (subst (FlowsInto (body_of (scope_of p)) (frames_of p) (placed.at + placed.len))
          (ap (λ (b : Bool). if b then row_frame frame (row_of (row_scope (scope_of p)) frame placed.at placed.instr) else None) on ∙ goes)
          (next_at laws folder facts host e stands s headers standing k placed frame is has))

      behind : (instr : Instr) → placed.instr ≡ instr → (g : Frame) → after ≡ Some g
          → length p.setting.below.stack + length g.stack ≤ deepest (expanded host e).points
      behind (Goto target) i g goes = by_targets g goes target [] (ap targets i)
      behind (Table low other all) i g goes = by_targets g goes other _ (ap targets i)
      behind (Lookup other pairs) i g goes = by_targets g goes other _ (ap targets i)
      behind (Return None) i g goes = ends (Return None) i refl g goes
      behind (Return (Some kind)) i g goes = ends (Return (Some kind)) i refl g goes
      behind Throw i g goes = ends Throw i refl g goes
      behind instr i g goes = falls (ap falls_through i) g goes

      -- before and behind it
      pub has_depth : HasDepth (expanded host e) p.setting frame (own_row p.setting frame placed.at placed.instr)
      has_depth = record {
        here = depth_here k frame has;
        behind = λ g goes. behind placed.instr refl g goes;
      }
