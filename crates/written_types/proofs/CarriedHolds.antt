-- The item of an instruction that is written as it is holds of the frame before it, and what is behind it agrees with what comes along its edges.
use Rattle.std.proofs.Common.{◌≡◌, ◌≢◌, ◌++◌, ℕ, Bool, true, false, List, [], ◌∷◌, map, slice_get, Some, None, is_some, if◌then◌else◌, refl, sym, ap, subst, ◌∙◌, inl}
use Rattle.std.specs.List.{AllByRecursion}
use Rattle.std.proofs.lemmas.Option.{same_Some}
use Rattle.class_model.specs.Instructions.{targets}
use Rattle.class_model.specs.declared.frame.Frame.{Frame}
use Rattle.class_model.specs.declared.frame.VType.TheVariants as types
use Rattle.class_model.specs.declared.instr.Instr.{Instr}
use Rattle.class_model.specs.declared.instr.Instr.TheVariants.{New}
use Rattle.class_tree.specs.Headers.{headers_of}
use Rattle.expanded_code.specs.ExpandAnswers.{is_initialiser}
use Rattle.expanded_runs.specs.UsableNames.{IsUsableCode}
use Rattle.flow_code.specs.FlatCode.{point_at}
use Rattle.flow_code.specs.ReadTypes.{read_frame}
use Rattle.flow_code.specs.declared.point.FlatInstr.TheVariants.{Of}
use Rattle.flow_code.specs.declared.point.Point.{Point}
use Rattle.making_code.specs.Items.{WItem, carried}
use Rattle.member_link.specs.Bodies.{falls_through, flows_on, frame_behind, point_row}
use Rattle.member_link.specs.Rows.Row.{Row, access_aside, row_frame}
use Rattle.member_link.specs.Rows.Table.{row_of}
use Rattle.member_link.specs.Scope.{is_init}
use Rattle.plan_flow.specs.PlanSlots.{slots_from}
use Rattle.plan_flow.specs.PlanTable.{row_at}
use Rattle.plan_flow.specs.Plans.{planned}
use Rattle.plan_flow.specs.Written.Blocks.{Block, state_written}
use Rattle.plan_flow.specs.Written.FramedCode.{frame_by_item}
use Rattle.plan_flow.specs.Written.Routes.{Route, RouteEdge, edge_by}
use Rattle.plan_flow.specs.Written.Templates.{catches_at, jump_targets, template}
use Rattle.plan_flow.specs.Written.WrittenCode.{target_number}
use Rattle.plan_flow.specs.Written.WrittenConstants.{carried_instr, with_index}
use Rattle.plan_flow.specs.declared.edge.EdgeKind.TheVariants as edges
use Rattle.virtual_state.specs.States.{State}
use Rattle.virtual_state.specs.declared.slot.VObject.{VObject}
use Rattle.written_types.proofs.Arrivals.{FitsPoint, begins, fits_point}
use Rattle.written_types.proofs.CarriedWays.{found_at}
use Rattle.written_types.proofs.Edges.{PointKnown}
use Rattle.written_types.proofs.Given.{EdgesFit, FitsState, Given, frame_in_slots, written_along, written_before}
use Rattle.written_types.proofs.IndexedPoints.{Indexed}
use Rattle.written_types.proofs.ItemRows.{index_falls, jumping_falls, jumping_row}
use Rattle.written_types.proofs.KeptTable.{StandsNew, flat_row, instr_kept}
use Rattle.written_types.proofs.NewItems.{OwnBlock, own_block}
use Rattle.written_types.proofs.NewsApart.{indexed_at, news_stand, ready_at}
use Rattle.written_types.proofs.ChangedTypes.{new_item}
use Rattle.written_types.proofs.PointFrames.{agrees_behind, rest_of, stands_there}
use Rattle.written_types.proofs.ReadyPoints.{FindsOne}
use Rattle.written_types.proofs.RouteEdges.{planned_route, written_is}
use Rattle.written_types.proofs.RowTable.{IsGoing, instr_leaves}
use Rattle.written_types.proofs.SiteFields.{SitesKnown}
use Rattle.written_types.proofs.StandingFrames.{RowFollows, Stands, left_by_row}
use Rattle.written_types.proofs.UsedMembers.{instr_access}
use Rattle.written_types.proofs.Ways.{headers_are, point_known, same_reached, sites}
use Rattle.written_types.proofs.WrittenPool.{PoolLaws}
use Rattle.written_types.specs.FitsTypes.{FitsTypes, IsReachedNew, is_reached}
use Rattle.written_types.specs.HeldRows.{RowFits}
use Rattle.written_types.specs.Inner.CarriedFrames.{Agrees, instr_in}
use Rattle.written_types.specs.Writing.{Writing, point_in, scope_in}

-- ---- what is known of each point

module _ (w : Writing) (given : Given w) where
  abbrev reached : ℕ → Bool
  reached = is_reached given.setting.routes

  pub site_facts : SitesKnown w.s
  site_facts =
      sites w.s.classes w.s.links w.host w.s.flat given.setting.plan given.hierarchy given.setting.tree.holds given.setting.links given.setting.ready
      given.setting.sites given.setting.valid

  pub same_headers : w.host.headers ≡ headers_of w.s.classes
  same_headers =
      headers_are w.s.classes w.s.links w.host w.s.flat given.setting.plan given.hierarchy given.setting.tree.holds given.setting.links given.setting.ready
      given.setting.sites given.setting.valid

  pub no_init : (scope_in w).is_init ≡ false
  no_init = by (is_init w.host) refl where
    by : (b : Bool) → is_init w.host ≡ b → is_init w.host ≡ false
    by true is = absurd (given.setting.sites.host (is_initialiser w.host given.setting.ready.host (inl is)))
    by false is = is

  tests : (λ (n : ℕ). is_some (planned given.setting.plan n)) ≡ is_reached given.setting.routes
  tests = λ i n. same_reached w.s 0 given.setting.plan given.setting.routes given.setting.routed n i

  pub known_at : (at : ℕ) (point : Point) (route : Route) → point_at w.s.flat at ≡ Some point
      → slice_get given.setting.routes at ≡ Some (Some route)
      → PointKnown w.s (is_reached given.setting.routes) w.host at point (state_written route)
  known_at at point route there is_route =
      let found = planned_route w given at route is_route in
      subst (λ (test : ℕ → Bool). PointKnown w.s test w.host at point (state_written route)) tests
      (subst (PointKnown w.s (λ (n : ℕ). is_some (planned given.setting.plan n)) w.host at point) (written_is w given at found.point route found.is)
      (point_known w.s.classes w.s.links w.host w.s.flat given.setting.plan given.hierarchy given.setting.tree.holds given.setting.links given.setting.ready
      given.setting.sites given.setting.valid at found.point found.reached point there))

  pub fits_at : (at : ℕ) (point : Point) (route : Route) → point_at w.s.flat at ≡ Some point
      → slice_get given.setting.routes at ≡ Some (Some route)
      → FitsPoint w.s (is_reached given.setting.routes) at point (state_written route)
  fits_at at point route there is_route =
      let fits : FitsTypes w.s (is_reached given.setting.routes) at (state_written route) = given.fits.written at route is_route in
      subst (λ (x : Point). FitsPoint w.s (is_reached given.setting.routes) at x (state_written route))
      (same_Some fits.point point (sym fits.there ∙ there)) (fits_point fits)

-- ---- an instruction that is written as it is

stands_new : (w : Writing) (reached : ℕ → Bool) (at number : ℕ) (frame : Frame) (class : ℕ) (instr : Instr)
    → ((of index : ℕ) → Of class instr ≡ Of of (New index) → IsReachedNew w.s reached at)
    → new_item w at ≡ number
    → AllByRecursion (λ type. type ≢ types.Uninit number) frame.stack
    → StandsNew w reached at number frame instr
stands_new w reached at number frame class (New index) known here fresh =
    record { is_reached = known class index refl; here = here; fresh = fresh }
stands_new w reached at number frame class instr known here fresh = tt

-- its item
abbrev pub carried_item : ℕ → Point → Route → ℕ → Instr → WItem
carried_item at point route class instr =
    record { instr = carried class instr; targets = jump_targets at route 0 (targets instr); catches = catches_at at point route }

module _ (w : Writing) (given : Given w) (laws : PoolLaws) (one : FindsOne) (at : ℕ) (base : Point) (route : Route) (class : ℕ) (instr : Instr)
    (there : point_at w.s.flat at ≡ Some (record base { instr = Of class instr }))
    (is_route : slice_get given.setting.routes at ≡ Some (Some route))
    (none : template w.s at base.typed (state_written route) route class instr ≡ None) (number : ℕ) (frame : Frame)
    (agree : Agrees frame (frame_by_item w.form w.blocks (written_before w (record base { instr = Of class instr }) (state_written route))))
    (here : new_item w at ≡ number) (fresh : AllByRecursion (λ type. type ≢ types.Uninit number) frame.stack) where
  abbrev pub point : Point
  point = record base { instr = Of class instr }

  abbrev pub before : State
  before = state_written route

  abbrev pub own_item : WItem
  own_item = carried_item at point route class instr

  pub own : OwnBlock w at point route
  own = own_block w given at point route there is_route

  pub own_items : own.one.block.items ≡ own_item ∷ []
  own_items = ap (λ (block : Block). block.items) own.is_block ∙ rw none refl

  pub index : Indexed w class instr
  index = indexed_at w given laws at point route class instr own own_item there refl own_items refl

  known : PointKnown w.s (is_reached given.setting.routes) w.host at point before
  known = known_at w given at point route there is_route

  pub stands : Stands w (is_reached given.setting.routes) base.typed before (rest_of w.s.flat before.objects) frame
  stands = stands_there w (is_reached given.setting.routes) at point before (fits_at w given at point route there is_route) frame agree

  -- its rows, in the flat code and as it is written
  abbrev pub flat_own : Row
  flat_own =
      flat_row w (is_reached given.setting.routes) base.typed before (rest_of w.s.flat before.objects) frame stands (site_facts w given)
      (news_stand w given laws) (no_init w given) at number route class index.new instr

  abbrev pub written_own : Row
  written_own = row_of (scope_in w) frame number (with_index index.new instr)

  pub kept : RowFollows w before (rest_of w.s.flat before.objects) base.typed frame (row_at w.s at base.typed (Of class instr)) flat_own written_own
  kept =
      instr_kept w (is_reached given.setting.routes) base.typed before (rest_of w.s.flat before.objects) frame stands (site_facts w given)
      (news_stand w given laws) (no_init w given) at number route class index.new instr none known.asks index.meant
      (found_at w.s w.s.flat.locals class given.setting.tree given.setting.links one instr (ready_at w given laws at point class instr there refl) known.inits)
      (stands_new w (is_reached given.setting.routes) at number frame class instr known.here here fresh) known.typed.row

  -- ---- the item

  abbrev numbers : List ℕ
  numbers = map (target_number w.form w.blocks number) own_item.targets

  pub own_row : row_of (scope_in w) frame number (instr_in w number own_item) ≡ written_own
  own_row =
      jumping_row (scope_in w) frame number numbers (carried_instr w.s w.pool class instr) ∙ ap (row_of (scope_in w) frame number) index.is

  pub row_is : point_row (point_in w number own_item) frame ≡ access_aside written_own
  row_is = ap access_aside own_row

  pub row_holds : RowFits (scope_in w) frame (point_row (point_in w number own_item) frame)
  row_holds = subst (RowFits (scope_in w) frame) (sym row_is) kept.fits

  -- it may use the member that it names
  pub own_access : IsUsableCode w.s.classes w.host w.s.flat → (row_of (scope_in w) frame number (instr_in w number own_item)).access
  own_access usable =
      subst (λ (row : Row). row.access) (sym own_row)
      (instr_access w given laws (is_reached given.setting.routes) point before (rest_of w.s.flat before.objects) frame stands (site_facts w given) at number
      route class index.new instr none index.meant kept.operands known.typed.row.operands (usable at point class instr there refl))

  abbrev pub next_frame : Frame
  next_frame = left_by_row frame written_own

  going : IsGoing instr → flat_own.goes_on ≡ true
  going goes =
      (instr_leaves w.s (is_reached given.setting.routes) base.typed before (begins (fits_at w given at point route there is_route)) w.host
      (site_facts w given) (same_headers w given) at (Of class instr) goes known.here known.inits known.asks known.typed.row).goes

  pub behind_is : IsGoing instr → frame_behind (point_in w number own_item) frame ≡ Some next_frame
  behind_is goes =
      ap (row_frame frame) row_is ∙ ap (λ (b : Bool). if b then Some next_frame else None) (kept.goes ∙ going goes)

  pub falls_as : (b : Bool) → falls_through instr ≡ b
      → flows_on (point_in w number own_item) frame ≡ (if b then frame_behind (point_in w number own_item) frame else None)
  falls_as b is =
      ap (λ (falls : Bool). if falls then frame_behind (point_in w number own_item) frame else None)
      (jumping_falls numbers (carried_instr w.s w.pool class instr) ∙ ap falls_through index.is ∙ index_falls index.new instr ∙ is)

  -- ---- behind it

  agrees_next : IsGoing instr → Agrees next_frame (frame_by_item w.form w.blocks (written_along w at point before edges.Next))
  agrees_next goes =
      subst (λ (added : List VObject). Agrees next_frame (frame_by_item w.form w.blocks
      (frame_in_slots w.s.flat (left_by_row (read_frame w.s.flat base.typed) flat_own)
      (slots_from w.s before (row_at w.s at base.typed (Of class instr)).change (row_at w.s at base.typed (Of class instr)).locals)
      (slots_from w.s before (row_at w.s at base.typed (Of class instr)).change (row_at w.s at base.typed (Of class instr)).stack)
      (added ++ before.objects)))) (sym kept.unchanged)
      (agrees_behind w before before.objects (row_at w.s at base.typed (Of class instr)) (left_by_row (read_frame w.s.flat base.typed) flat_own) next_frame
      (kept.follows (going goes)))

  -- along the edge to the next point, or to a target
  pub fits_next : EdgesFit w given → IsGoing instr → (edge : RouteEdge) → edge_by route edges.Next ≡ Some edge
      → FitsState w next_frame edge.to edge.state
  fits_next fit goes edge found = fit.along at point route edges.Next edge next_frame there is_route found (agrees_next goes)

  pub fits_jump : EdgesFit w given → IsGoing instr → (target : ℕ) (edge : RouteEdge) → edge_by route (edges.Jump target) ≡ Some edge
      → FitsState w next_frame edge.to edge.state
  fits_jump fit goes target edge found = fit.along at point route (edges.Jump target) edge next_frame there is_route found (agrees_next goes)
