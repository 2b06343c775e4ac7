-- The points of instructions that stay: where their rows hold in their place, control goes from them to frames in their place.
use Rattle.flow_code.specs.ReadTypes.{read_frame}
use Rattle.same_runs.specs.TypedFlats.{MayGoToPoint, TypesPoint, read_at, read_row}
use Rattle.std.proofs.Common.{◌≡◌, ◌+◌, ℕ, suc, Bool, true, false, List, [], ◌∷◌, map, slice_get, Option, Some, None, option_map, if◌then◌else◌, refl, sym, ap, subst, ◌∙◌, arith}
use Rattle.std.specs.Prelude.{IfSome, option_and_then}
use Rattle.std.specs.List.{AllByRecursion}
use Rattle.std.proofs.lemmas.Option.{same_Some, slice_get-map, slice_get_within}
use Rattle.class_model.specs.Instructions.{targets}
use Rattle.class_model.specs.Laws.Lists.{at_index}
use Rattle.class_model.specs.MethodCode.{code_of}
use Rattle.class_model.specs.declared.class_file.ClassFile.{ClassFile}
use Rattle.class_model.specs.declared.class_file.CodePart.{CodePart}
use Rattle.class_model.specs.declared.class_file.Method.{Method}
use Rattle.class_model.specs.declared.class_file.MethodAt.{MethodAt}
use Rattle.class_model.specs.declared.frame.Frame.{Frame}
use Rattle.class_model.specs.declared.instr.Instr.{Instr}
use Rattle.class_model.specs.declared.instr.Instr.TheVariants.{Iinc, Load, Store}
use Rattle.class_model.specs.declared.instr.Placed.{Placed}
use Rattle.class_tree.specs.Headers.{Classes, Headers, headers_of}
use Rattle.expanded_code.specs.Alone.{number_in}
use Rattle.expanded_code.specs.Expanded.{Setting, expanded, point_in, set_frame, set_instr, with_unit}
use Rattle.expanded_code.specs.Expansions.{Coded, Expansion}
use Rattle.expanded_code.specs.Sites.{HasFrames as HasTyping}
use Rattle.expanded_runs.proofs.AloneProgram.{EachTyped}
use Rattle.row_frames.specs.Laws.RenumberedTargets.{falls_same, targets_numbered}
use Rattle.expanded_runs.proofs.Runs.PositionLaws.{length_fits}
use Rattle.expanded_runs.proofs.Runs.Positions.{Standing, frames_of, instrs_of, scope_of, start_of}
use Rattle.expanded_runs.proofs.Runs.Standings.{IsStanding, Stands}
use Rattle.expanded_runs.proofs.TypedAloneNumbers.{frame_found, number_of_next, number_of_placed}
use Rattle.expanded_runs.proofs.Types.Edges.{placed_frame}
use Rattle.expanded_runs.proofs.Types.FrameFacts.{FrameFacts}
use Rattle.expanded_runs.proofs.Types.Starts.{start_typed}
use Rattle.expanded_runs.proofs.Types.Units.{item_there, to_themselves}
use Rattle.flow_code.specs.FlatCode.{FlatCode}
use Rattle.flow_code.specs.TypedFrames.{FolderFrames, typed_frames_at}
use Rattle.flow_code.specs.declared.point.Point.{Point}
use Rattle.member_link.specs.Bodies.{Body, catch_frame, falls_through}
use Rattle.member_link.specs.BodyTyping.{AreInOrder, FlowsInto, GoesInto, GoesToStated, HasFrames, MayGoTo, PointFits, Reaches, RowHolds, frame_at}
use Rattle.member_link.specs.Rows.FrameAssignability.{IsFrameAssignable}
use Rattle.member_link.specs.Rows.Row.{row_frame}
use Rattle.member_link.specs.Rows.Table.{row_of}
use Rattle.member_link.specs.Scope.{Scope, row_scope, scope_at, scope_of as method_scope}
use Rattle.same_runs.specs.FlatBodies.{caught_class}
use Rattle.same_runs.specs.Flats.{host_scope, instr_scope}
use Rattle.type_rules.specs.MethodBodies.{body_of, point_of}
use Rattle.type_rules.specs.Typed.{TypesBody}
use Rattle.type_rules.specs.Verified.{TypesFolder, TypesMethod}

-- ---- a typed method

-- what typed folders and bodies promise
pub record TypingLaws : Type 0 where
  pub types_each : EachTyped
  pub in_order : (s : Scope) → AreInOrder (body_of s).points
  pub places : (b : Body) (frames : List Frame) → AreInOrder b.points → TypesBody b frames → HasFrames b frames
  pub edges : (s : Scope) (frames : List Frame) → TypesBody (body_of s) frames
      → AllByRecursion (GoesToStated (body_of s) frames) (body_of s).points

-- a method whose frames type it place by place
pub record IsTyped (s : Scope) (frames : List Frame) : Type 0 where
  pub order : AreInOrder (body_of s).points
  pub has : HasFrames (body_of s) frames
  pub goes : AllByRecursion (GoesToStated (body_of s) frames) (body_of s).points

pub typed_method : TypingLaws → {classes : Classes} {typed : FolderFrames} → TypesFolder classes typed → {at : MethodAt} {s : Scope} {frames : List Frame}
    → HasTyping classes typed at s frames
    → IsTyped s frames
typed_method laws {classes} {typed} types {at} {s} {frames} has =
    let typing : TypesBody (body_of s) frames =
    subst (λ (o : Option (List Frame)). TypesMethod (Some s) o) has.are_frames
    (subst (λ (o : Option Scope). TypesMethod o (typed_frames_at typed at)) has.is_scope (laws.types_each classes typed types at)) in
    record {
      order = laws.in_order s;
      has = laws.places (body_of s) frames (laws.in_order s) typing;
      goes = laws.edges s frames typing;
    }

-- a method of a folder stands among the folder's classes
module _ (classes : Classes) (at : MethodAt) (s : Scope) where
  of_part : (class : ClassFile) (method : Method) (part : Option CodePart)
      → option_map (λ (p : CodePart). record { headers = headers_of classes; class = class; method = method; part = p }) part ≡ Some s
      → s.headers ≡ headers_of classes
  of_part class method None is = absurd cc
  of_part class method (Some part) is =
      ap (λ (scope : Scope). scope.headers)
      (sym (same_Some (record { headers = headers_of classes; class = class; method = method; part = part }) s is))

  of_method : (class : ClassFile) (method : Option Method) → option_and_then (method_scope (headers_of classes) class) method ≡ Some s
      → s.headers ≡ headers_of classes
  of_method class None is = absurd cc
  of_method class (Some method) is = of_part class method (code_of method.attrs) is

  of_class : (class : Option ClassFile)
      → option_and_then
      (λ (c : ClassFile). option_and_then (method_scope (headers_of classes) c) (slice_get c.methods at.method)) class ≡ Some s
      → s.headers ≡ headers_of classes
  of_class None is = absurd cc
  of_class (Some class) is = of_method class (slice_get class.methods at.method) is

  pub scope_headers : scope_at classes at ≡ Some s → s.headers ≡ headers_of classes
  scope_headers is = of_class (slice_get classes.folder at.class) is

-- a frame may stand for itself
pub itself : (headers : Headers) (frame : Frame) → IsFrameAssignable headers frame frame
itself headers frame = record {
  locals = to_themselves headers frame.locals;
  stack = to_themselves headers frame.stack;
  keeps_this = λ has. has;
}

-- ---- an instruction in its place

abbrev pub own_point : Setting → Placed → Frame → Point
own_point t placed frame = point_in t placed.at (set_frame t frame) (set_instr t placed.instr)

-- The row of an instruction that stays holds in its place, where what is behind it may stand for each frame, in its place, for which what is
-- behind it in its own method may.
pub record PlacedRow (classes : Classes) (s : Scope) (flat : FlatCode) (t : Setting) (number : ℕ) (placed : Placed) (frame : Frame) : Type 0 where
  pub holds : RowHolds (instr_scope classes s flat (own_point t placed frame).instr) (placed_frame flat t frame)
      (read_row classes s flat number (own_point t placed frame))
  pub ends : row_frame frame (row_of (row_scope t.coded.scope) frame placed.at placed.instr) ≡ None
      → row_frame (placed_frame flat t frame) (read_row classes s flat number (own_point t placed frame)) ≡ None
  pub goes : (own to : Frame)
      → row_frame frame (row_of (row_scope t.coded.scope) frame placed.at placed.instr) ≡ Some own
      → IsFrameAssignable s.headers own to
      → (there : Frame)
      × (row_frame (placed_frame flat t frame) (read_row classes s flat number (own_point t placed frame)) ≡ Some there)
      × IsFrameAssignable s.headers there (placed_frame flat t to)

with_unit_targets : (unit : ℕ) (instr : Instr) → targets (with_unit unit instr) ≡ targets instr
with_unit_targets unit (Load kind local) = refl
with_unit_targets unit (Store kind local) = refl
with_unit_targets unit (Iinc local by) = refl
with_unit_targets unit instr = refl

with_unit_falls : (unit : ℕ) (instr : Instr) → falls_through (with_unit unit instr) ≡ falls_through instr
with_unit_falls unit (Load kind local) = refl
with_unit_falls unit (Store kind local) = refl
with_unit_falls unit (Iinc local by) = refl
with_unit_falls unit instr = refl

pub targets_set : (t : Setting) (instr : Instr) → targets (set_instr t instr) ≡ map t.number (targets instr)
targets_set t instr = targets_numbered t.number (with_unit t.unit instr) ∙ ap (map t.number) (with_unit_targets t.unit instr)

pub falls_set : (t : Setting) (instr : Instr) → falls_through (set_instr t instr) ≡ falls_through instr
falls_set t instr = falls_same t.number (with_unit t.unit instr) ∙ with_unit_falls t.unit instr

-- ---- where control goes

module _ (laws : TypingLaws) {classes : Classes} {typed : FolderFrames} (folder : TypesFolder classes typed) (facts : FrameFacts classes typed)
    (host : Coded) (e : Expansion) (stands : (chain : List MethodAt) (p : Standing) → IsStanding host e chain p → Stands classes typed host e chain p)
    (s : Scope) (headers : s.headers ≡ headers_of classes) where
  abbrev pub flat : FlatCode
  flat = expanded host e

  module _ {chain : List MethodAt} {p : Standing} (standing : IsStanding host e chain p) where
    abbrev own : Scope
    own = scope_of p

    abbrev body : Body
    body = body_of own

    pub own_typed : IsTyped (scope_of p) (frames_of p)
    own_typed = typed_method laws folder (stands chain p standing).has

    pub own_headers : (scope_of p).headers ≡ s.headers
    own_headers = scope_headers classes p.setting.coded.at (scope_of p) (stands chain p standing).has.is_scope ∙ sym headers

    -- there is an instruction for each frame
    pub instr_there : (k : ℕ) (frame : Frame) → slice_get (frames_of p) k ≡ Some frame → (placed : Placed) × (slice_get (instrs_of p) k ≡ Some placed)
    instr_there k frame is =
        item_there (instrs_of p) k (omega (arith, length_fits (stands chain p standing).fits, slice_get_within (frames_of p) k frame is))

    -- a frame that may stand for that of an instruction, in its place, goes there
    pub goes_to : (k : ℕ) (to : Frame) → slice_get (frames_of p) k ≡ Some to
        → (there : Frame) → IsFrameAssignable s.headers there (placed_frame flat p.setting to)
        → MayGoToPoint classes s flat (Some there) (start_of p k)
    goes_to k to is there assignable =
        let placed = instr_there k to is in
        let start = start_typed facts host e stands standing k placed.0 to placed.1 is in
        let read : read_at flat (start_of p k) ≡ Some (placed_frame flat p.setting to) =
        ap (option_map (λ (point : Point). read_frame flat point.typed)) start.1
        ∙ ap (λ (frame : Frame). Some (read_frame flat frame)) start.2 in
        subst (MayGoTo (host_scope classes s flat) (Some there)) (sym read) assignable

    pub goes_to_place : (place : ℕ) (to : Frame) → frame_at (body_of (scope_of p)) (frames_of p) place ≡ Some to
        → (there : Frame) → IsFrameAssignable s.headers there (placed_frame flat p.setting to)
        → MayGoToPoint classes s flat (Some there) (p.setting.number place)
    goes_to_place place to is there assignable =
        subst (MayGoToPoint classes s flat (Some there)) (sym ((stands chain p standing).numbers place))
        (goes_to (number_in (instrs_of p) place) to (frame_found (scope_of p) (instrs_of p) (frames_of p) place to is) there assignable)

    -- what is known of the instruction of a number
    module _ (k : ℕ) (placed : Placed) (frame : Frame) (is : slice_get (instrs_of p) k ≡ Some placed)
        (has : slice_get (frames_of p) k ≡ Some frame) where
      point_is : slice_get (body_of (scope_of p)).points k ≡ Some (point_of (scope_of p) placed)
      point_is = slice_get-map (point_of (scope_of p)) (instrs_of p) k ∙ ap (option_map (point_of (scope_of p))) is

      pub number_is : number_in (instrs_of p) placed.at ≡ k
      number_is = number_of_placed (scope_of p) (instrs_of p) own_typed.order k placed is

      pub next_is : number_in (instrs_of p) (placed.at + placed.len) ≡ suc k
      next_is = number_of_next (scope_of p) (instrs_of p) own_typed.order k placed is

      pub one_frame : (other : Frame) → frame_at (body_of (scope_of p)) (frames_of p) placed.at ≡ Some other → other ≡ frame
      one_frame other there =
          same_Some other frame
          (sym (frame_found (scope_of p) (instrs_of p) (frames_of p) placed.at other there)
          ∙ ap (slice_get (frames_of p)) number_is
          ∙ has)

      pub fits_at : PointFits (body_of (scope_of p)) (frames_of p) (point_of (scope_of p) placed)
      fits_at = at_index (PointFits (body_of (scope_of p)) (frames_of p)) (body_of (scope_of p)).points k (point_of (scope_of p) placed)
          own_typed.has.points point_is

      pub edges_at : GoesToStated (body_of (scope_of p)) (frames_of p) (point_of (scope_of p) placed)
      edges_at = at_index (GoesToStated (body_of (scope_of p)) (frames_of p)) (body_of (scope_of p)).points k (point_of (scope_of p) placed)
          own_typed.goes point_is

      abbrev own_behind : Option Frame
      own_behind = row_frame frame (row_of (row_scope (scope_of p)) frame placed.at placed.instr)

      pub frame_is : fits_at.frame ≡ frame
      frame_is = one_frame fits_at.frame fits_at.is_at

      pub row_at : RowHolds (row_scope (scope_of p)) frame (row_of (row_scope (scope_of p)) frame placed.at placed.instr)
      row_at =
          subst (λ (f : Frame). RowHolds (row_scope (scope_of p)) f (row_of (row_scope (scope_of p)) f placed.at placed.instr)) frame_is fits_at.row

      pub next_at : FlowsInto (body_of (scope_of p)) (frames_of p) (placed.at + placed.len)
          (if falls_through placed.instr then row_frame frame (row_of (row_scope (scope_of p)) frame placed.at placed.instr) else None)
      next_at =
          subst (λ (f : Frame). FlowsInto (body_of (scope_of p)) (frames_of p) (placed.at + placed.len)
          (if falls_through placed.instr then row_frame f (row_of (row_scope (scope_of p)) f placed.at placed.instr) else None)) frame_is fits_at.next

      targets_at : AllByRecursion (GoesInto (body_of (scope_of p)) (frames_of p)
          (row_frame frame (row_of (row_scope (scope_of p)) frame placed.at placed.instr))) (targets placed.instr)
      targets_at =
          subst (λ (f : Frame). AllByRecursion (GoesInto (body_of (scope_of p)) (frames_of p)
          (row_frame f (row_of (row_scope (scope_of p)) f placed.at placed.instr))) (targets placed.instr))
          (one_frame edges_at.frame edges_at.is_at) edges_at.targets

      -- what flows in may stand for the frame there
      pub flows_to : (place : ℕ) (from : Frame) → FlowsInto (body_of (scope_of p)) (frames_of p) place (Some from)
          → (to : Frame) × (frame_at (body_of (scope_of p)) (frames_of p) place ≡ Some to) × IsFrameAssignable s.headers from to
      flows_to place from into = (into.0, into.1, by ((body_of (scope_of p)).stated place) into.2) where
        by : (stated : Option Frame) → Reaches (body_of (scope_of p)).scope from into.0 stated → IsFrameAssignable s.headers from into.0
        by (Some stated) reaches = subst (λ (h : Headers). IsFrameAssignable h from into.0) own_headers reaches
        by None same = subst (IsFrameAssignable s.headers from) same (itself s.headers from)

      -- ---- of an instruction that stays

      module _ (row : PlacedRow classes s flat p.setting (start_of p k) placed frame)
          (one : start_of p (suc k) ≡ start_of p k + 1) where
        abbrev point : Point
        point = own_point p.setting placed frame

        abbrev behind : Option Frame
        behind = row_frame (placed_frame flat p.setting frame) (read_row classes s flat (start_of p k) (own_point p.setting placed frame))

        next_goes : IfSome
            (if falls_through (set_instr p.setting placed.instr)
            then row_frame (placed_frame flat p.setting frame) (read_row classes s flat (start_of p k) (own_point p.setting placed frame)) else None)
            (λ after. MayGoToPoint classes s flat (Some after) (start_of p k + 1))
        next_goes =
            by (falls_through placed.instr) (falls_set p.setting placed.instr) next_at
            (row_frame frame (row_of (row_scope (scope_of p)) frame placed.at placed.instr)) refl where
              by : (falls : Bool) → falls_through (set_instr p.setting placed.instr) ≡ falls
                  → FlowsInto (body_of (scope_of p)) (frames_of p) (placed.at + placed.len)
                  (if falls then row_frame frame (row_of (row_scope (scope_of p)) frame placed.at placed.instr) else None)
                  → (after : Option Frame) → row_frame frame (row_of (row_scope (scope_of p)) frame placed.at placed.instr) ≡ after
                  → IfSome
                  (if falls_through (set_instr p.setting placed.instr)
                  then row_frame (placed_frame flat p.setting frame) (read_row classes s flat (start_of p k) (own_point p.setting placed frame))
                  else None)
                  (λ after. MayGoToPoint classes s flat (Some after) (start_of p k + 1))
              by false falls into after is = rw (falls) tt
              by true falls into None is = rw (falls, row.ends is) tt
              by true falls into (Some after) is =
                  let flows = flows_to (placed.at + placed.len) after (subst (FlowsInto (body_of (scope_of p)) (frames_of p) (placed.at + placed.len)) is into) in
                  let goes = row.goes after flows.0 is flows.2 in
                  let found = frame_found (scope_of p) (instrs_of p) (frames_of p) (placed.at + placed.len) flows.0 flows.1 in
                  let there = goes_to (suc k) flows.0 (ap (slice_get (frames_of p)) (sym next_is) ∙ found) goes.0 goes.2 in
                  rw (falls, goes.1) (subst (MayGoToPoint classes s flat (Some goes.0)) one there)

        targets_go : AllByRecursion (MayGoToPoint classes s flat behind) (targets (set_instr p.setting placed.instr))
        targets_go =
            subst (AllByRecursion (MayGoToPoint classes s flat
            (row_frame (placed_frame flat p.setting frame) (read_row classes s flat (start_of p k) (own_point p.setting placed frame)))))
            (sym (targets_set p.setting placed.instr)) (all (targets placed.instr) targets_at) where
              one_goes : (place : ℕ)
                  → GoesInto (body_of (scope_of p)) (frames_of p)
                  (row_frame frame (row_of (row_scope (scope_of p)) frame placed.at placed.instr)) place
                  → MayGoToPoint classes s flat
                  (row_frame (placed_frame flat p.setting frame) (read_row classes s flat (start_of p k) (own_point p.setting placed frame)))
                  (p.setting.number place)
              one_goes place into =
                  let goes = row.goes into.frame into.stated into.goes_is
                  (subst (λ (h : Headers). IsFrameAssignable h into.frame into.stated) own_headers into.assignable) in
                  subst (λ (o : Option Frame). MayGoToPoint classes s flat o (p.setting.number place)) (sym goes.1)
                  (goes_to_place place into.stated into.is_at goes.0 goes.2)

              all : (places : List ℕ)
                  → AllByRecursion (GoesInto (body_of (scope_of p)) (frames_of p)
                  (row_frame frame (row_of (row_scope (scope_of p)) frame placed.at placed.instr))) places
                  → AllByRecursion (MayGoToPoint classes s flat
                  (row_frame (placed_frame flat p.setting frame) (read_row classes s flat (start_of p k) (own_point p.setting placed frame))))
                  (map p.setting.number places)
              all [] none = tt
              all (place ∷ places) into = (one_goes place into.0, all places into.1)

        -- It is typed, if its handlers are.
        pub own_point_typed : AllByRecursion
            (λ handler. MayGoToPoint classes s flat
            (Some (catch_frame (placed_frame flat p.setting frame) (caught_class handler.catch_class))) handler.to)
            (p.setting.handlers placed.at)
            → TypesPoint classes s flat (start_of p k) (own_point p.setting placed frame)
        own_point_typed handlers = record {
          row = row.holds;
          next = next_goes;
          targets = targets_go;
          handlers = handlers;
        }
