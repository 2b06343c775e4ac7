-- The item of an instruction that is written as it is leads to its targets and to its handlers.
use Rattle.std.proofs.Common.{◌≡◌, ◌≢◌, ◌+◌, ◌++◌, ℕ, suc, true, false, List, [], ◌∷◌, length, map, slice_get, Option, Some, None, refl, sym, ap, subst, ◌∙◌, arith}
use Rattle.std.specs.List.{AllByRecursion}
use Rattle.std.proofs.lemmas.List.{length-map}
use Rattle.class_model.specs.Instructions.{targets}
use Rattle.class_model.specs.declared.frame.Frame.{Frame}
use Rattle.class_model.specs.declared.frame.VType.TheVariants as types
use Rattle.class_model.specs.declared.instr.Instr.{Instr}
use Rattle.flow_code.specs.FlatCode.{point_at}
use Rattle.flow_code.specs.ReadTypes.{read_frame}
use Rattle.flow_code.specs.declared.handlers.FlatHandler.{FlatHandler}
use Rattle.flow_code.specs.declared.point.FlatInstr.TheVariants.{Of}
use Rattle.flow_code.specs.declared.point.Point.{Point}
use Rattle.making_code.specs.Items.{WCatch, WItem}
use Rattle.member_link.specs.Bodies.{BodyCatch, catch_frame, caught_type, falls_through, frame_behind}
use Rattle.plan_flow.specs.Effect.{IsEffectIn}
use Rattle.plan_flow.specs.Laws.OpenEdges.{jump_edge, next_edge}
use Rattle.plan_flow.specs.Laws.RoutedPlans.{IsRouteOf}
use Rattle.plan_flow.specs.Laws.WrittenBlocks.{first_item}
use Rattle.plan_flow.specs.PlanSlots.{slots_from}
use Rattle.plan_flow.specs.PlanTable.{held_locals, row_at}
use Rattle.plan_flow.specs.Plans.{state_left}
use Rattle.plan_flow.specs.Written.Blocks.{is_decided, state_written}
use Rattle.plan_flow.specs.Written.Finish.{end_items}
use Rattle.plan_flow.specs.Written.FramedCode.{caught_name, frame_by_item}
use Rattle.plan_flow.specs.Written.Routes.{Route, RouteEdge, edge_by}
use Rattle.plan_flow.specs.Written.Templates.{catches_at, jump_target, jump_targets, template}
use Rattle.plan_flow.specs.Written.WrittenCode.{jumping_to, short, target_number}
use Rattle.plan_flow.specs.Written.WrittenConstants.{carried_instr, catch_index}
use Rattle.plan_flow.specs.declared.edge.EdgeKind.TheVariants as edges
use Rattle.same_runs.specs.FlatBodies.{caught_class}
use Rattle.virtual_state.specs.States.{State}
use Rattle.virtual_state.specs.declared.slot.Slot.TheVariants.{Plain}
use Rattle.written_types.proofs.CarriedGuards.{opens_jump, opens_next}
use Rattle.written_types.proofs.CarriedHolds.{behind_is, carried_item, fits_jump, index, row_holds, stands}
use Rattle.written_types.proofs.CarriedWays.{jumps_on, not_decided}
use Rattle.written_types.proofs.CaughtNames.{caught_same}
use Rattle.written_types.proofs.ChangedTypes.{new_item}
use Rattle.written_types.proofs.Given.{EdgesFit, Given, TargetsStand, caught_at, frame_in_slots, written_along, written_before}
use Rattle.written_types.proofs.ItemRows.{index_targets, jumping_targets}
use Rattle.written_types.proofs.NewsApart.{ItemIn, first_of_block}
use Rattle.written_types.proofs.Placing.{leads_in}
use Rattle.written_types.proofs.PointFrames.{agrees_caught}
use Rattle.written_types.proofs.ReadyPoints.{FindsOne}
use Rattle.written_types.proofs.RouteEdges.{planned_route, written_is}
use Rattle.written_types.proofs.RowTable.{IsGoing}
use Rattle.written_types.proofs.WrittenPool.{PoolLaws}
use Rattle.written_types.specs.FitsTypes.{is_reached}
use Rattle.written_types.specs.Inner.CarriedFrames.{Agrees, ItemHolds, LeadsIn}
use Rattle.written_types.specs.Writing.{Writing, point_in}
use Rattle.written_types.proofs.CarriedHolds.{next_frame, own, own_access, own_items}
use Rattle.written_types.proofs.CarriedItems.{caught_steady, handlers_lead, targets_many}

module _ (w : Writing) (given : Given w) (laws : PoolLaws) (one : FindsOne) (fit : EdgesFit w given) (stand : TargetsStand w given) (at : ℕ) (base : Point)
    (route : Route) (class : ℕ) (instr : Instr) (there : point_at w.s.flat at ≡ Some (record base { instr = Of class instr }))
    (is_route : slice_get given.setting.routes at ≡ Some (Some route))
    (none : template w.s at base.typed (state_written route) route class instr ≡ None) (number : ℕ) (frame : Frame)
    (agree : Agrees frame (frame_by_item w.form w.blocks (written_before w (record base { instr = Of class instr }) (state_written route))))
    (here : new_item w at ≡ number) (fresh : AllByRecursion (λ type. type ≢ types.Uninit number) frame.stack) where
  abbrev point : Point
  point = record base { instr = Of class instr }

  abbrev before : State
  before = state_written route

  abbrev item : WItem
  item = carried_item at point route class instr

  abbrev pub next : Frame
  next = next_frame w given laws one at base route class instr there is_route none number frame agree here fresh

  -- ---- the edges of its route

  planned : IsRouteOf w.s given.setting.plan at at route
  planned = planned_route w given at route is_route

  effect : IsEffectIn w.s at (Some point) before planned.is.effect
  effect =
      subst (λ (state : State). IsEffectIn w.s at (Some point) state planned.is.effect) (written_is w given at planned.point route planned.is)
      (subst (λ (found : Option Point). IsEffectIn w.s at found (state_left planned.point) planned.is.effect) there planned.is.is_effect)

  pub next_found : falls_through instr ≡ true → (edge : RouteEdge) × (edge_by route edges.Next ≡ Some edge)
  next_found falls =
      let found = next_edge w.s point at before planned.is.effect planned.point.edges route effect planned.is.edges falls
      (opens_next w.s at base.typed before route class instr none) in
      (found.0, found.1)

  undecided : is_decided point route ≡ false
  undecided = not_decided w.s at point route class instr refl none

  -- ---- targets

  -- what is behind it leads to each target, whichever item jumps there
  pub jumps_lead : (goes : IsGoing instr) (n from : ℕ) (all : List ℕ) → ((k : ℕ) → slice_get all k ≡ slice_get (targets instr) (from + k))
      → AllByRecursion (LeadsIn w (Some next)) (map (target_number w.form w.blocks n) (jump_targets at route from all))
  jumps_lead goes n from [] part = tt
  jumps_lead goes n from (to ∷ others) part = (leads, jumps_lead goes n (suc from) others later) where
    target : slice_get (targets instr) from ≡ Some to
    target = let first : from ≡ from + 0 = omega arith in ap (slice_get (targets instr)) first ∙ sym (part 0)

    later : (k : ℕ) → slice_get others k ≡ slice_get (targets instr) (suc from + k)
    later k = let behind : from + suc k ≡ suc from + k = omega arith in part (suc k) ∙ ap (slice_get (targets instr)) behind

    found : (edge : RouteEdge) × (edge_by route (edges.Jump from) ≡ Some edge)
    found =
        let open_one = jump_edge w.s point at before planned.is.effect planned.point.edges route effect planned.is.edges from to target
        (opens_jump w.s at base.typed before route class instr none from to target) in
        (open_one.0, open_one.1)

    leads : LeadsIn w (Some next) (target_number w.form w.blocks n (jump_target at route from to))
    leads =
        leads_in w next (target_number w.form w.blocks n (jump_target at route from to)) found.0.to found.0.state
        (fits_jump w given laws one at base route class instr there is_route none number frame agree here fresh fit goes from found.0 found.1)
        (stand.jump at point route found.0 from to there is_route undecided found.1 n)

  abbrev numbers : List ℕ
  numbers = map (target_number w.form w.blocks number) item.targets

  targets_are : targets (jumping_to numbers (carried_instr w.s w.pool class instr)) ≡ numbers
  targets_are =
      let found = index w given laws one at base route class instr there is_route none number frame agree here fresh in
      jumping_targets numbers (carried_instr w.s w.pool class instr)
      (ap length (ap targets found.is ∙ index_targets found.new instr)
      ∙ sym (length-map (jump_targets at route 0 (targets instr)) (target_number w.form w.blocks number) ∙ targets_many at route 0 (targets instr)))

  targets_lead : AllByRecursion (LeadsIn w (frame_behind (point_in w number item) frame)) numbers
  targets_lead = by (targets instr) refl where
    from_start : (all : List ℕ) → targets instr ≡ all → (k : ℕ) → slice_get all k ≡ slice_get (targets instr) (0 + k)
    from_start all is k = let same : k ≡ 0 + k = omega arith in ap (λ (xs : List ℕ). slice_get xs k) (sym is) ∙ ap (slice_get (targets instr)) same

    by : (all : List ℕ) → targets instr ≡ all
        → AllByRecursion (LeadsIn w (frame_behind (point_in w number item) frame)) (map (target_number w.form w.blocks number) (jump_targets at route 0 all))
    by [] is = tt
    by (to ∷ others) is =
        let goes = jumps_on instr 0 to (ap (λ (all : List ℕ). slice_get all 0) is) in
        subst (λ (found : Option Frame). AllByRecursion (LeadsIn w found) (map (target_number w.form w.blocks number) (jump_targets at route 0 (to ∷ others))))
        (sym (behind_is w given laws one at base route class instr there is_route none number frame agree here fresh goes))
        (jumps_lead goes number 0 (to ∷ others) (from_start (to ∷ others) is))

  -- ---- handlers

  caught : (from : ℕ) (handler : FlatHandler) → slice_get point.handlers from ≡ Some handler
      → Agrees (record { locals = frame.locals; stack = caught_type (caught_class handler.catch_class) ∷ [] })
      (frame_by_item w.form w.blocks (written_along w at point before (edges.Handler from)))
  caught from handler is =
      subst (λ (found : Option FlatHandler). Agrees (record { locals = frame.locals; stack = caught_type (caught_class handler.catch_class) ∷ [] })
      (frame_by_item w.form w.blocks
      (frame_in_slots w.s.flat (record { locals = (read_frame w.s.flat base.typed).locals; stack = caught_at found })
      (slots_from w.s before (row_at w.s at base.typed (Of class instr)).change (held_locals base.typed)) (Plain ∷ []) before.objects))) (sym is)
      (agrees_caught w (is_reached given.setting.routes) base.typed before before.objects frame (row_at w.s at base.typed (Of class instr))
      (caught_type (caught_class handler.catch_class)) (stands w given laws one at base route class instr there is_route none number frame agree here fresh)
      (caught_steady (caught_class handler.catch_class)))

  names : AllByRecursion (λ (catch : WCatch). caught_name w.pool (catch_index w.pool catch.class) ≡ caught_class catch.class) (catches_at at point route)
  names =
      let block = own w given laws one at base route class instr there is_route none number frame agree here fresh in
      let at_item : ItemIn w short item (first_item short w.blocks block.number) =
      first_of_block w short block.number block.one item (end_items block.one.end) block.is
      (ap (λ (items : List WItem). items ++ end_items block.one.end)
      (own_items w given laws one at base route class instr there is_route none number frame agree here fresh)) in
      caught_same w given laws at_item.left at_item.right item at_item.is

  pub handlers_here : AllByRecursion (λ (catch : BodyCatch). LeadsIn w (Some (catch_frame frame catch.class)) catch.to) (point_in w number item).catches
  handlers_here =
      handlers_lead w given fit stand at point route there is_route number frame caught 0 point.handlers
      (λ n. let same : n ≡ 0 + n = omega arith in ap (slice_get point.handlers) same) names

  -- The item holds of the frame before it.
  pub item_holds : ItemHolds w number item frame
  item_holds = record {
    row = row_holds w given laws one at base route class instr there is_route none number frame agree here fresh;
    targets = subst (AllByRecursion (LeadsIn w (frame_behind (point_in w number item) frame))) (sym targets_are) targets_lead;
    handlers = handlers_here;
    access = own_access w given laws one at base route class instr there is_route none number frame agree here fresh;
  }
