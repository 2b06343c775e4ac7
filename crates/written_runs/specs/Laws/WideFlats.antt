-- In a reached point of typed flat code no long or double is typed in the last local unit.
use Rattle.std.proofs.Common.{◌≡◌, ◌<◌, ◌+◌, ◌++◌, ℕ, suc, zero, Bool, true, false, List, [], ◌∷◌, length, map, slice_get, Option, Some, None, option_map, IfSome, if◌then◌else◌, refl, sym, ap, subst, ◌∙◌, arith}
use Rattle.std.specs.List.{AllByRecursion}
use Rattle.std.proofs.lemmas.Bool.{false≢true}
use Rattle.std.proofs.lemmas.List.{length-map}
use Rattle.std.proofs.lemmas.Option.{none-some, same_Some, slice_get-map}
use Rattle.class_model.specs.Code.{entry_frame, verification_type}
use Rattle.class_model.specs.Descriptors.{parameters_of}
use Rattle.class_model.specs.Frames.{is_wide}
use Rattle.class_model.specs.Laws.Lists.{at_index}
use Rattle.class_model.specs.Members.{STATIC, has, is_text}
use Rattle.class_model.specs.Methods.{home_of}
use Rattle.class_model.specs.Names.{init}
use Rattle.class_model.specs.PoolChecks.{text_or_empty, utf8_at}
use Rattle.class_model.specs.declared.descriptor.FieldType.{FieldType}
use Rattle.class_model.specs.declared.frame.Frame.{Frame}
use Rattle.class_model.specs.declared.frame.VType.{VType}
use Rattle.class_model.specs.declared.frame.VType.TheVariants.{Top, Int, Float, Long, Double, Null, UninitThis, Object, Uninit}
use Rattle.class_tree.specs.Headers.{Classes}
use Rattle.flow_code.specs.FlatCode.{FlatCode, point_at}
use Rattle.flow_code.specs.ReadTypes.{read_frame, read_type}
use Rattle.flow_code.specs.declared.handlers.FlatHandler.{FlatHandler}
use Rattle.flow_code.specs.declared.point.FlatInstr.{FlatInstr}
use Rattle.flow_code.specs.declared.point.FlatInstr.TheVariants.{NullTest, Of}
use Rattle.flow_code.specs.declared.point.Point.{Point}
use Rattle.member_link.specs.Bodies.{catch_frame, item_falls_through, item_row, item_targets}
use Rattle.member_link.specs.BodyTyping.{MayGoTo, RowHolds}
use Rattle.member_link.specs.RowScope.{RowScope}
use Rattle.member_link.specs.Rows.Readings.{Reading, reads_itself, reads_object, reads_pop, row_by}
use Rattle.member_link.specs.Rows.Row.{Row, row_frame, stack_behind}
use Rattle.member_link.specs.Scope.{Scope}
use Rattle.plan_flow.specs.Effect.{AreEdges, IsEffectIn}
use Rattle.plan_flow.specs.Laws.WrittenBlocks.{holds_of_both}
use Rattle.plan_flow.specs.Must.{open_edges, row_of_point}
use Rattle.plan_flow.specs.PlanRows.{Guard, PlanRow, RowEdge}
use Rattle.plan_flow.specs.PlanScope.{PlanScope}
use Rattle.plan_flow.specs.PlanSlots.{is_open}
use Rattle.plan_flow.specs.PlanTable.{edges_of, falls_on, handler_edges, jump_edges, next_edges, targets_at, thrown_edges}
use Rattle.plan_flow.specs.Plans.{AllLead, IsLedTo, IsValid, IsValidAt, MadeEdge, Plan, PlannedPoint, at_start, over_edge, planned, state_left}
use Rattle.plan_flow.specs.declared.edge.Edge.{Edge}
use Rattle.same_runs.specs.FlatBodies.{caught_class, flat_entry}
use Rattle.same_runs.specs.Flats.{flat_item, host_scope, instr_scope}
use Rattle.same_runs.specs.TypedFlats.{MayGoToPoint, TypesFlat, TypesPoint, read_at, reading_of}
use Rattle.virtual_state.specs.States.{State}
use Rattle.written_runs.specs.Laws.LessVirtual.{WasIn, was_in}
use Rattle.written_runs.specs.Laws.RowsGo.{read_goes}
use Rattle.written_runs.specs.Laws.WideLocals.{HasWideRoom, item_room, room_assignable, room_filled}

falls_same : (instr : FlatInstr) → falls_on instr ≡ item_falls_through (flat_item instr)
falls_same (Of class instr) = refl
falls_same (NullTest local) = refl

targets_same : (instr : FlatInstr) → targets_at instr ≡ item_targets (flat_item instr)
targets_same (Of class instr) = refl
targets_same (NullTest local) = refl

-- there is room at a point, as it is read
abbrev pub RoomAt : FlatCode → ℕ → Type 0
RoomAt flat number = (point : Point) → point_at flat number ≡ Some point → HasWideRoom (read_frame flat point.typed).locals

-- the frame that a method begins with
room_entry : (flags : ℕ) (name : List ℕ) (class : Option (List ℕ)) (params : List FieldType) (most : ℕ)
    → HasWideRoom (entry_frame flags name class params most).locals
room_entry flags name class params most = static (has flags STATIC) refl where
  rest : List VType
  rest = map verification_type params

  of_class : (of : Option (List ℕ)) → has flags STATIC ≡ false → is_text init (Some name) ≡ false
      → HasWideRoom (entry_frame flags name of params most).locals
  of_class None e none = rw (e, none) (room_filled most (Top ∷ rest))
  of_class (Some one) e none = rw (e, none) (room_filled most (Object one ∷ rest))

  named : (b : Bool) → has flags STATIC ≡ false → is_text init (Some name) ≡ b → HasWideRoom (entry_frame flags name class params most).locals
  named true e is = rw (e, is) (room_filled most (UninitThis ∷ rest))
  named false e is = of_class class e is

  static : (b : Bool) → has flags STATIC ≡ b → HasWideRoom (entry_frame flags name class params most).locals
  static true e = rw (e) (room_filled most rest)
  static false e = named (is_text init (Some name)) e refl

-- ---- along edges

module _ (classes : Classes) (s : Scope) (flat : FlatCode) (typed : TypesFlat classes s flat) where
  goes : (number : ℕ) (frame : Frame) → HasWideRoom frame.locals → MayGoToPoint classes s flat (Some frame) number → RoomAt flat number
  goes number frame room may point is =
      room_assignable (host_scope classes s flat).headers frame.locals (read_frame flat point.typed).locals assignable.locals room where
        there : read_at flat number ≡ Some (read_frame flat point.typed)
        there = rw (is) refl

        assignable : MayGoTo (host_scope classes s flat) (Some frame) (Some (read_frame flat point.typed))
        assignable = subst (MayGoTo (host_scope classes s flat) (Some frame)) there may

  pub room_first : RoomAt flat 0
  room_first =
      goes 0 (flat_entry s flat)
      (room_entry s.method.flags (text_or_empty (utf8_at s.class.pool s.method.name)) (home_of s.class).name
      (parameters_of (text_or_empty (utf8_at s.class.pool s.method.desc))) flat.locals) typed.entry

  abbrev LeadsToRoom : RowEdge → Type 0
  LeadsToRoom edge = RoomAt flat edge.to

  jumps_lead : (flows : Option Frame) → ((frame : Frame) → flows ≡ Some frame → HasWideRoom frame.locals)
      → (row : PlanRow) (number : ℕ) (targets : List ℕ)
      → AllByRecursion (MayGoToPoint classes s flat flows) targets
      → AllByRecursion LeadsToRoom (jump_edges row number targets)
  jumps_lead flows room row number [] may = tt
  jumps_lead None room row number (to ∷ targets) may = absurd may.0
  jumps_lead (Some frame) room row number (to ∷ targets) may =
      (goes to frame (room frame refl) may.0, jumps_lead (Some frame) room row (number + 1) targets may.1)

  handlers_lead : (frame : Frame) → HasWideRoom frame.locals → (guard : Guard) (number : ℕ) (handlers : List FlatHandler)
      → AllByRecursion (λ handler. MayGoToPoint classes s flat (Some (catch_frame frame (caught_class handler.catch_class))) handler.to) handlers
      → AllByRecursion LeadsToRoom (handler_edges guard number handlers)
  handlers_lead frame room guard number [] may = tt
  handlers_lead frame room guard number (handler ∷ handlers) may =
      (goes handler.to (catch_frame frame (caught_class handler.catch_class)) room may.0, handlers_lead frame room guard (number + 1) handlers may.1)

  pub room_along : (at : ℕ) (point : Point) (row : PlanRow)
      → point_at flat at ≡ Some point
      → RoomAt flat at
      → AllByRecursion LeadsToRoom (edges_of at point row)
  room_along at point row is_point room =
      holds_of_both LeadsToRoom (next_edges at row (falls_on point.instr) ++ jump_edges row 0 (targets_at point.instr))
      (thrown_edges row.throws point.handlers)
      (holds_of_both LeadsToRoom (next_edges at row (falls_on point.instr)) (jump_edges row 0 (targets_at point.instr))
      (by_next (falls_on point.instr) refl) by_jumps) (by_throws row.throws) where
        read : Frame
        read = read_frame flat point.typed

        here : HasWideRoom read.locals
        here = room point is_point

        types : TypesPoint classes s flat at point
        types = typed.points at point is_point

        scope : RowScope
        scope = instr_scope classes s flat point.instr

        done : Row
        done = row_by (reading_of classes flat at point.typed point.instr) read (item_row scope read at (flat_item point.instr))

        of_reading : (reading : Reading) → RowHolds scope read (row_by reading read (item_row scope read at (flat_item point.instr)))
            → HasWideRoom (row_by reading read (item_row scope read at (flat_item point.instr))).locals
        of_reading reads_itself holds = item_room scope read at (flat_item point.instr) holds.local holds.operands here
        of_reading (reads_object class) holds = here
        of_reading (reads_pop desc) holds = here

        behind : Frame
        behind = record { locals = done.locals; stack = stack_behind read done }

        room_behind : HasWideRoom behind.locals
        room_behind = of_reading (reading_of classes flat at point.typed point.instr) types.row

        by_next : (falls : Bool) → falls_on point.instr ≡ falls → AllByRecursion LeadsToRoom (next_edges at row falls)
        by_next false e = tt
        by_next true e = (goes (at + 1) behind room_behind flows, tt) where
          falls : item_falls_through (flat_item point.instr) ≡ true
          falls = sym (falls_same point.instr) ∙ e

          on : done.goes_on ≡ true
          on = read_goes scope read at (flat_item point.instr) (reading_of classes flat at point.typed point.instr) falls

          flows : MayGoToPoint classes s flat (Some behind) (at + 1)
          flows =
              subst (λ (found : Option Frame). IfSome found (λ frame. MayGoToPoint classes s flat (Some frame) (at + 1)))
              (ap (λ (b : Bool). if b then row_frame read done else None) falls ∙ ap (λ (b : Bool). if b then Some behind else None) on)
              types.next

        by_jumps : AllByRecursion LeadsToRoom (jump_edges row 0 (targets_at point.instr))
        by_jumps =
            jumps_lead (row_frame read done) (λ frame is. of_frame done.goes_on frame is) row 0 (targets_at point.instr)
            (subst (AllByRecursion (MayGoToPoint classes s flat (row_frame read done))) (sym (targets_same point.instr)) types.targets) where
              of_frame : (b : Bool) (frame : Frame) → (if b then Some behind else None) ≡ Some frame → HasWideRoom frame.locals
              of_frame true frame is = subst (λ (f : Frame). HasWideRoom f.locals) (same_Some behind frame is) room_behind
              of_frame false frame is = absurd (none-some frame is)

        by_throws : (throws : Option Guard) → AllByRecursion LeadsToRoom (thrown_edges throws point.handlers)
        by_throws None = tt
        by_throws (Some guard) = handlers_lead read here guard 0 point.handlers types.handlers

-- ---- along a plan

lead_at : (plan : Plan) (edges : List Edge) (mades : List MadeEdge) (number : ℕ) (made : MadeEdge)
    → AllLead plan edges mades
    → slice_get mades number ≡ Some made
    → (edge : Edge) × (slice_get edges number ≡ Some edge) × (made.to ≡ edge.to)
lead_at plan [] [] number made all is = absurd (none-some made is)
lead_at plan [] (one ∷ mades) number made all is = absurd all
lead_at plan (edge ∷ edges) [] number made all is = absurd all
lead_at plan (edge ∷ edges) (one ∷ mades) zero made all is =
    (edge, refl, ap (λ (m : MadeEdge). m.to) (sym (same_Some one made is)) ∙ all.0.same_to)
lead_at plan (edge ∷ edges) (one ∷ mades) (suc number) made all is = lead_at plan edges mades number made all.1 is

row_for : (s : PlanScope) (at : ℕ) (point : Point) (before : State) (rows : List RowEdge) (edges : List Edge) (number : ℕ) (edge : Edge)
    → AreEdges s point at before rows edges
    → slice_get edges number ≡ Some edge
    → (row : RowEdge) × (slice_get rows number ≡ Some row) × (edge.to ≡ row.to)
row_for s at point before [] [] number edge are is = absurd (none-some edge is)
row_for s at point before [] (one ∷ edges) number edge are is = absurd are
row_for s at point before (row ∷ rows) [] number edge are is = absurd are
row_for s at point before (row ∷ rows) (one ∷ edges) zero edge are is =
    (row, refl, ap (λ (e : Edge). e.to) (sym (same_Some one edge is)) ∙ are.1)
row_for s at point before (row ∷ rows) (one ∷ edges) (suc number) edge are is = row_for s at point before rows edges number edge are.3 is

module _ (s : PlanScope) (plan : Plan) (valid : IsValid s plan) (classes : Classes) (scope : Scope) (typed : TypesFlat classes scope s.flat) where
  over : (from number : ℕ) (point : PlannedPoint) (edge : MadeEdge)
      → RoomAt s.flat from
      → planned plan from ≡ Some point
      → slice_get point.edges number ≡ Some edge
      → RoomAt s.flat edge.to
  over from number point edge room is_planned is = by (point_at s.flat from) refl where
    here : IsValidAt s plan from point
    here = valid.each from point is_planned

    lead : (one : Edge) × (slice_get here.edges number ≡ Some one) × (edge.to ≡ one.to)
    lead = lead_at plan here.edges point.edges number edge here.lead is

    by : (before : Option Point) → point_at s.flat from ≡ before → RoomAt s.flat edge.to
    by None none =
        let empty : here.edges ≡ [] = subst (λ (p : Option Point). IsEffectIn s from p (state_left point) here.edges) none here.effect in
        absurd (none-some lead.0 (sym (ap (λ (edges : List Edge). slice_get edges number) empty) ∙ lead.1))
    by (Some before) some =
        let effect : AreEdges s before from (state_left point) (open_edges s from before (state_left point)) here.edges =
        subst (λ (p : Option Point). IsEffectIn s from p (state_left point) here.edges) some here.effect in
        let row = row_for s from before (state_left point) (open_edges s from before (state_left point)) here.edges number lead.0 effect lead.1 in
        let was : WasIn (λ (one : RowEdge). is_open (state_left point) one.guard) (edges_of from before (row_of_point s from before)) row.0 =
        was_in (λ (one : RowEdge). is_open (state_left point) one.guard) (edges_of from before (row_of_point s from before)) number row.0 row.1 in
        subst (RoomAt s.flat) (sym (lead.2 ∙ row.2))
        (at_index (λ (one : RowEdge). RoomAt s.flat one.to) (edges_of from before (row_of_point s from before)) was.number row.0
        (room_along classes scope s.flat typed from before (row_of_point s from before) some room) was.is_there)

  room_led : (number : ℕ) → IsLedTo plan number → RoomAt s.flat number
  room_led number at_start = room_first classes scope s.flat typed
  room_led number (over_edge from edge_number point edge led is_planned is) = over from edge_number point edge (room_led from led) is_planned is

  -- At a reached point there is room.
  pub room_reached : (at : ℕ) (point : Point) (planned_at : PlannedPoint)
      → planned plan at ≡ Some planned_at
      → point_at s.flat at ≡ Some point
      → HasWideRoom point.typed.locals
  room_reached at point planned_at is_planned is_point = record { each = each } where
    read : HasWideRoom (read_frame s.flat point.typed).locals
    read = room_led at (valid.each at planned_at is_planned).led_to point is_point

    read_wide : (type : VType) → is_wide type ≡ true → is_wide (read_type s.flat type) ≡ true
    read_wide Top wide = wide
    read_wide Int wide = wide
    read_wide Float wide = wide
    read_wide Long wide = wide
    read_wide Double wide = wide
    read_wide Null wide = wide
    read_wide UninitThis wide = wide
    read_wide (Object name) wide = wide
    read_wide (Uninit new) wide = absurd (false≢true wide)

    each : (unit : ℕ) (type : VType) → slice_get point.typed.locals unit ≡ Some type → is_wide type ≡ true → suc unit < length point.typed.locals
    each unit type is wide =
        let low = read.each unit (read_type s.flat type)
        (slice_get-map (read_type s.flat) point.typed.locals unit ∙ ap (option_map (read_type s.flat)) is) (read_wide type wide) in
        let many = length-map point.typed.locals (read_type s.flat) in
        omega (arith, low, many)
