-- What a valid plan gives at a reached point, along each edge that control may take from it.
use Rattle.std.proofs.Common.{◌≡◌, ◌<◌, ◌+◌, ℕ, zero, suc, Bool, true, false, List, [], ◌∷◌, length, map, slice_get, take, Option, Some, None, option_map, refl, sym, ap, subst, ◌∙◌, arith}
use Rattle.std.specs.List.{AllByRecursion}
use Rattle.std.specs.Option.{option_flatten}
use Rattle.std.proofs.lemmas.List.{length-append, length-map}
use Rattle.std.proofs.lemmas.Option.{none-some, same_Some, slice_get-map, slice_get_within}
use Rattle.class_model.specs.Frames.{is_top}
use Rattle.class_model.specs.declared.class_file.MethodAt.{MethodAt}
use Rattle.class_model.specs.declared.descriptor.Kind.{Kind}
use Rattle.class_model.specs.declared.frame.VType.{VType}
use Rattle.class_model.specs.declared.instr.Instr.TheVariants.{Store}
use Rattle.flow_code.specs.declared.point.FlatInstr.TheVariants.{Of}
use Rattle.machine_values.specs.Values.{blank_of_kind, is_wide_value}
use Rattle.flow_code.specs.FlatCode.{point_at}
use Rattle.flow_code.specs.declared.handlers.FlatHandler.{FlatHandler}
use Rattle.flow_code.specs.declared.point.Point.{Point}
use Rattle.plan_flow.specs.Effect.{IsEffectIn}
use Rattle.plan_flow.specs.Laws.RoutedPlans.{EdgeLeads, IsRouteOf, leads_of, route_of}
use Rattle.plan_flow.specs.Must.{IsMustIn, IsMustOf, row_of_point}
use Rattle.plan_flow.specs.PlanRows.{Guard, RowEdge, from_place}
use Rattle.plan_flow.specs.PlanScope.{PlanScope, local_types, stack_types}
use Rattle.plan_flow.specs.PlanSlots.{edge_locals, edge_stack, is_open}
use Rattle.plan_flow.specs.PlanTable.{edges_of, falls_on, targets_at}
use Rattle.plan_flow.specs.Plans.{IsValidAt, planned, state_left, unusable_places}
use Rattle.plan_flow.specs.ReadyForPlans.{KeepsAlong, place_types}
use Rattle.plan_flow.specs.Written.Blocks.{state_written}
use Rattle.plan_flow.specs.Written.Routes.{IsRoute, Route, is_kind}
use Rattle.plan_flow.specs.Written.WrittenPrograms.{WrittenMethod}
use Rattle.plan_flow.specs.declared.edge.EdgeKind.TheVariants as edges
use Rattle.virtual_state.specs.Laws.Fields.{unusable_made}
use Rattle.virtual_state.specs.Sites.{has}
use Rattle.virtual_state.specs.States.{State, is_unusable}
use Rattle.virtual_state.specs.Without.{without}
use Rattle.virtual_state.specs.declared.slot.Slot.{Slot}
use Rattle.virtual_state.specs.declared.slot.Slot.TheVariants.{Unusable}
use Rattle.written_runs.specs.Inner.PlannedFrames.{IsReached, scope_in}
use Rattle.written_runs.specs.Inner.Setup.{Setup}
use Rattle.plan_flow.specs.Laws.OpenEdges.{OpenEdge, handler_open, jump_open, next_open}
use Rattle.written_runs.specs.Laws.Carried.Slots.{got_left}
use Rattle.plan_flow.specs.Laws.OneEffect.{one_effect}
use Rattle.written_runs.specs.Laws.Settling.{SettleLaws, found_edge}
use Rattle.written_runs.specs.VirtualObjects.{local_slots}
use Rattle.written_runs.specs.WrittenRuns.{IsReadyMethod}

-- ---- what typing says of the rows of a flat code

-- Along an edge of a point the target has as many stack entries as come along it, and a unit that is usable there comes from a usable place.
pub record FitsAlong (s : PlanScope) (at : ℕ) (point : Point) (row : RowEdge) : Type 0 where
  pub entries : length (stack_types s.flat row.to) ≡ length (edge_stack (row_of_point s at point) row.by)
  pub usable : (unit place : ℕ) (type : VType)
      → slice_get (local_types s.flat row.to) unit ≡ Some type
      → is_top type ≡ false
      → slice_get (edge_locals (row_of_point s at point) (length point.typed.locals) row.by) unit ≡ Some (from_place place)
      → (before : VType) × (slice_get (place_types point.typed) place ≡ Some before) × (is_top before ≡ false)

pub record RowsFit (s : PlanScope) : Type 0 where
  pub along : (at : ℕ) (point : Point)
      → point_at s.flat at ≡ Some point
      → AllByRecursion (FitsAlong s at point) (edges_of at point (row_of_point s at point))
  -- the second unit of a long or double is Top behind its store
  pub second : (at : ℕ) (point : Point) (class : ℕ) (kind : Kind) (local : ℕ) (type : VType)
      → point_at s.flat at ≡ Some point
      → point.instr ≡ Of class (Store kind local)
      → is_wide_value (blank_of_kind kind) ≡ true
      → slice_get (local_types s.flat (at + 1)) (local + 1) ≡ Some type
      → is_top type ≡ true

-- ---- lists

pub all_at : {A : Type 0} (P : A → Type 0) (items : List A) (number : ℕ) (item : A) → AllByRecursion P items → slice_get items number ≡ Some item → P item
all_at P [] number item all is = absurd (none-some item is)
all_at P (first ∷ items) zero item all is = subst P (same_Some first item is) all.0
all_at P (first ∷ items) (suc number) item all is = all_at P items number item all.1 is

-- ---- edges

-- an edge of a row that control may take: where it leads, and what is kept along it
pub record EdgeThere (s : PlanScope) (at : ℕ) (point : Point) (route : Route) (row : RowEdge) : Type 0 where
  pub of_row : OpenEdge s point at (state_written route) route row
  pub target : Point
  pub is_target : slice_get s.flat.points row.to ≡ Some target
  pub keeps : KeepsAlong s at point row
  pub fits : FitsAlong s at point row
  pub as_many_locals : length target.typed.locals ≡ length point.typed.locals

module _ (u : Setup) (laws : SettleLaws u) (w : WrittenMethod) (host : MethodAt) (written : u.written host ≡ Some w) (rows_fit : RowsFit (scope_in u w))
    {at : ℕ} {point : Point} {route : Route} (reached : IsReached w at point route) where
  abbrev s : PlanScope
  s = scope_in u w

  ready : IsReadyMethod u.classes u.links host w
  ready = laws.is_setup.ready host w written

  there : IsRouteOf s ready.plan at at route
  there =
      let all = route_of s 0 ready.plan w.routes at route ready.routed reached.is_route in
      record { point = all.point; reached = all.reached; is = subst (λ (n : ℕ). IsRoute s n all.point route) (omega arith) all.is }

  valid : IsValidAt s ready.plan at there.point
  valid = ready.valid.each at there.point there.reached

  same_state : state_left there.point ≡ state_written route
  same_state =
      ap (λ (state : State). without state (has there.point.made)) (sym there.is.state)
      ∙ ap (λ (made : List ℕ). without route.state (has made)) (sym there.is.made)

  effect_here : IsEffectIn s at (Some point) (state_written route) there.is.effect
  effect_here =
      subst (λ (state : State). IsEffectIn s at (Some point) state there.is.effect) same_state
      (subst (λ (found : Option Point). IsEffectIn s at found (state_left there.point) there.is.effect) reached.is_point there.is.is_effect)

  -- the instruction asks for no virtual object
  pub asks_none : IsMustOf s at point (state_written route) []
  asks_none =
      subst (λ (state : State). IsMustOf s at point state []) same_state
      (subst (λ (found : Option Point). IsMustIn s at found (state_left there.point) []) reached.is_point valid.asks_none)

  -- ---- the state

  pub unusable_there : map is_unusable (state_written route).slots ≡ unusable_places s at
  unusable_there =
      unusable_made (has route.made) route.state.slots
      ∙ ap (λ (state : State). map is_unusable state.slots) there.is.state
      ∙ valid.is_planned.state.places

  pub slots_long : length (state_written route).slots ≡ length point.typed.locals + length point.typed.stack
  slots_long =
      sym (length-map (state_written route).slots is_unusable)
      ∙ ap length unusable_there
      ∙ length-append (map is_top (local_types s.flat at)) (map (λ type. false) (stack_types s.flat at))
      ∙ rw (reached.is_point) lengths where
        lengths : length (map is_top point.typed.locals) + length (map (λ (type : VType). false) point.typed.stack)
            ≡ length point.typed.locals + length point.typed.stack
        lengths =
            let one = length-map point.typed.locals is_top in
            let other = length-map point.typed.stack (λ (type : VType). false) in
            omega (arith, one, other)

  -- an unusable unit has the type Top
  pub unusable_is_top : (unit : ℕ) (type : VType)
      → slice_get (local_slots point (state_written route)) unit ≡ Some Unusable
      → slice_get point.typed.locals unit ≡ Some type
      → is_top type ≡ true
  unusable_is_top unit type is is_type = same_Some (is_top type) true (sym of_type ∙ of_slot) where
    got : (count : ℕ) (slots : List Slot) (place : ℕ) → slice_get (take count slots) place ≡ Some Unusable → slice_get slots place ≡ Some Unusable
    got zero slots place told = absurd (none-some Unusable told)
    got (suc count) [] place told = absurd (none-some Unusable told)
    got (suc count) (slot ∷ slots) zero told = told
    got (suc count) (slot ∷ slots) (suc place) told = got count slots place told

    of_slot : slice_get (map is_unusable (state_written route).slots) unit ≡ Some true
    of_slot =
        slice_get-map is_unusable (state_written route).slots unit
        ∙ ap (option_map is_unusable) (got (length point.typed.locals) (state_written route).slots unit is)

    of_type : slice_get (map is_unusable (state_written route).slots) unit ≡ Some (is_top type)
    of_type =
        ap (λ (places : List Bool). slice_get places unit) (unusable_there ∙ rw (reached.is_point) refl)
        ∙ got_left (map is_top point.typed.locals) (map (λ (one : VType). false) point.typed.stack) unit low
        ∙ slice_get-map is_top point.typed.locals unit
        ∙ ap (option_map is_top) is_type where
          low : unit < length (map is_top point.typed.locals)
          low =
              let within =
              slice_get_within point.typed.locals unit type is_type in let long = length-map point.typed.locals is_top in omega (arith, within, long)

  -- ---- edges

  edge_there : (row : RowEdge) → OpenEdge s point at (state_written route) route row → EdgeThere s at point route row
  edge_there row of_row = by (slice_get w.flat.points row.to) refl where
    number : (n : ℕ) × (slice_get route.edges n ≡ Some of_row.edge)
    number = found_edge (λ one. is_kind one.by row.by) route.edges of_row.edge of_row.found

    lead : EdgeLeads s ready.plan of_row.edge
    lead =
        leads_of s ready.plan w.routes at point route number.0 of_row.edge (one_effect (scope_in u w)) ready.valid ready.routed reached.is_point reached.is_route
        number.1

    by : (target : Option Point) → slice_get w.flat.points row.to ≡ target → EdgeThere s at point route row
    by None none = absurd (no_target (slice_get ready.plan row.to) refl) where
      is_planned : planned ready.plan row.to ≡ Some lead.target
      is_planned = ap (planned ready.plan) (sym of_row.is.to) ∙ lead.reached

      no_target : (found : _) → slice_get ready.plan row.to ≡ found → ⊥
      no_target None is = none-some lead.target (sym (ap option_flatten is) ∙ is_planned)
      no_target (Some one) is = few (slice_get_within ready.plan row.to one is) where
        few : row.to < length ready.plan → ⊥
        few low = absent w.flat.points row.to (let long = ready.valid.points in omega (arith, low, long)) none where
          absent : (points : List Point) (place : ℕ) → place < length points → slice_get points place ≡ None → ⊥
          absent [] place within is_none = absurd (omega (arith, within))
          absent (first ∷ points) zero within is_none = none-some first (sym is_none)
          absent (first ∷ points) (suc place) within is_none = absent points place (omega (arith, within)) is_none
    by (Some target) is_target = record {
      of_row = of_row;
      target = target;
      is_target = is_target;
      keeps =
          all_at (KeepsAlong s at point) (edges_of at point (row_of_point s at point)) of_row.number row
          (ready.for_plans.uninit.along at point reached.is_point) of_row.is_there;
      fits =
          all_at (FitsAlong s at point) (edges_of at point (row_of_point s at point)) of_row.number row (rows_fit.along at point reached.is_point)
          of_row.is_there;
      as_many_locals =
          all_at (λ (p : Point). length p.typed.locals ≡ w.flat.locals) w.flat.points row.to target ready.for_plans.widths is_target
          ∙ sym (all_at (λ (p : Point). length p.typed.locals ≡ w.flat.locals) w.flat.points at point ready.for_plans.widths reached.is_point);
    }

  pub next_there : falls_on point.instr ≡ true
      → is_open (state_written route) (row_of_point s at point).next ≡ true
      → EdgeThere s at point route (record { by = edges.Next; to = at + 1; guard = (row_of_point s at point).next })
  next_there falls opens =
      edge_there _ (next_open s point at (state_written route) there.is.effect there.point.edges route effect_here there.is.edges falls opens)

  pub jump_there : (target to : ℕ)
      → slice_get (targets_at point.instr) target ≡ Some to
      → is_open (state_written route) (row_of_point s at point).jump ≡ true
      → EdgeThere s at point route (record { by = edges.Jump target; to = to; guard = (row_of_point s at point).jump })
  jump_there target to is opens =
      edge_there _ (jump_open s point at (state_written route) there.is.effect there.point.edges route effect_here there.is.edges target to is opens)

  pub handler_there : (guard : Guard) (place : ℕ) (handler : FlatHandler)
      → (row_of_point s at point).throws ≡ Some guard
      → slice_get point.handlers place ≡ Some handler
      → is_open (state_written route) guard ≡ true
      → EdgeThere s at point route (record { by = edges.Handler place; to = handler.to; guard = guard })
  handler_there guard place handler throws is opens =
      edge_there _
      (handler_open s point at (state_written route) there.is.effect there.point.edges route effect_here there.is.edges guard place handler throws is opens)
