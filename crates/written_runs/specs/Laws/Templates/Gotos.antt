-- Gotos, and comparisons with null that a virtual object decides.
use Rattle.std.proofs.Common.{◌≡◌, ◌≤◌, ◌<◌, ◌==◌, ◌&&◌, ◌+◌, ◌-◌, ◌++◌, nat_le, ℕ, zero, suc, not, Bool, true, false, List, [], ◌∷◌, filter, length, map, reverse, slice_get, take, Some, None, Option, option_map, if◌then◌else◌, refl, sym, ap, subst, ◌∙◌, arith}
use Rattle.std.specs.List.{AllByRecursion, find}
use Rattle.std.proofs.lemmas.Bool.{eq-eqb, false≢true, ne_eqb}
use Rattle.std.proofs.lemmas.Option.{none-some, slice_get_within}
use Rattle.class_model.specs.Instructions.{targets}
use Rattle.class_model.specs.declared.instr.Instr.{Instr}
use Rattle.class_model.specs.declared.instr.Instr.TheVariants.{Goto, IfNull}
use Rattle.class_model.specs.declared.opcodes.TheConstants.{IFNONNULL, IFNULL}
use Rattle.class_tree.specs.Headers.{Classes}
use Rattle.flow_code.specs.FlatCode.{FlatCode}
use Rattle.flow_code.specs.declared.handlers.FlatHandler.{FlatHandler}
use Rattle.flow_code.specs.declared.point.FlatInstr.TheVariants.{Of}
use Rattle.flow_code.specs.declared.point.Point.{Point}
use Rattle.machine_values.specs.Frames.{MethodState}
use Rattle.machine_values.specs.declared.value.Value.{Value}
use Rattle.making_code.specs.Items.{WInstr}
use Rattle.making_code.specs.Units.{field_unit, unit_number}
use Rattle.flow_code.specs.WrittenUnits.{written_units}
use Rattle.member_link.specs.Bodies.{falls_through}
use Rattle.member_link.specs.Machine.Codes.{CodePoint, number_at}
use Rattle.member_link.specs.Machine.Locals.{jump_of_null}
use Rattle.member_link.specs.Machine.Ops.{jump_by_null, meaningless}
use Rattle.member_link.specs.Machine.Programs.{number_of_first}
use Rattle.member_link.specs.Machine.Replaced.{map_numbered}
use Rattle.member_link.specs.Machine.Runs.{Run}
use Rattle.member_link.specs.Machine.Stepping.{jump_step, op_step, with_top}
use Rattle.member_link.specs.Scope.{Scope}
use Rattle.plan_flow.specs.Effect.{AreEdges}
use Rattle.plan_flow.specs.Must.{open_edges, row_of_point}
use Rattle.plan_flow.specs.PlanRows.{Change, Guard, PlanRow, RowEdge, no_change}
use Rattle.plan_flow.specs.PlanScope.{PlanScope}
use Rattle.plan_flow.specs.PlanSlots.{changed, edge_objects, held, is_open}
use Rattle.plan_flow.specs.PlanTable.{edges_of, falls_on, handler_edges, held_from, held_locals, jump_edges, next_edges, operand, targets_at, thrown_edges}
use Rattle.plan_flow.specs.Plans.{MadeEdge}
use Rattle.plan_flow.specs.Written.Blocks.{is_decided, leaves_to, state_written}
use Rattle.plan_flow.specs.Written.Routes.{AreEdgeRoutes, RouteEdge, edge_by, is_kind}
use Rattle.plan_flow.specs.Written.Templates.{made_on_jump, null_template}
use Rattle.plan_flow.specs.declared.edge.Edge.{Edge}
use Rattle.plan_flow.specs.declared.edge.EdgeKind.{EdgeKind}
use Rattle.plan_flow.specs.declared.edge.EdgeKind.TheVariants as edges
use Rattle.same_runs.specs.Flats.{flat_point, flat_points}
use Rattle.same_runs.specs.Laws.BothBegin.{counted}
use Rattle.same_runs.specs.Renamings.{no_values}
use Rattle.virtual_state.specs.States.{IsState, State, object_of}
use Rattle.virtual_state.specs.declared.slot.Slot.{Slot}
use Rattle.virtual_state.specs.declared.slot.Slot.TheVariants.{Plain, Virt, Unusable}
use Rattle.virtual_state.specs.declared.slot.VObject.{VObject}
use Rattle.written_runs.specs.Inner.PlannedFrames.{KeepStack, scope_in}
use Rattle.written_runs.specs.Inner.Setup.{Setup, first}
use Rattle.plan_flow.specs.Laws.OpenEdges.{IsOfRow, jump_edge}
use Rattle.written_runs.specs.Laws.Carried.Standing.{AtOwn}
use Rattle.written_runs.specs.Laws.MadeItems.{AreOwn}
use Rattle.written_runs.specs.Laws.PlannedTurns.{AtPlanned, written_at}
use Rattle.written_runs.specs.Laws.Simulation.{KeepsTurn}
use Rattle.written_runs.specs.Laws.Templates.Arriving.{target_point}
use Rattle.written_runs.specs.Laws.Templates.Instrs.{first_is, here_not_stuck, items_are, op_here, row_here, row_is}
use Rattle.written_runs.specs.Laws.Templates.Items.{IsStraight, all_moved}
use Rattle.written_runs.specs.Laws.Templates.Jumps.{jump_goes, op_in}
use Rattle.written_runs.specs.Laws.Templates.Known.{TemplateLaws, entries, flat_number, keeps, keeps_whole, many_both, many_stack, of_plan, operand_refers, reached, ready, tells, written}
use Rattle.written_runs.specs.Laws.Templates.Moving.{MovesOver, locals_stay}
use Rattle.written_runs.specs.Laws.Templates.Operands.{virtual_gone}
use Rattle.written_runs.specs.Laws.Templates.Still.{still_goes_next}
use Rattle.written_runs.specs.Laws.Templates.Turns.{effect_here, still_turn}

-- ---- numbers of points

numbered_first : (classes : Classes) (host : Scope) (flat : FlatCode) (from number : ℕ) (points : List Point) → number < length points
    → number_of_first (λ (point : CodePoint). point.place == from + number) (map_numbered (flat_point classes host flat) from points) ≡ Some number
numbered_first classes host flat from number [] low = absurd (omega (arith, low))
numbered_first classes host flat from zero (point ∷ points) low = rw (eq-eqb from (from + 0) (omega arith)) refl
numbered_first classes host flat from (suc number) (point ∷ points) low =
    let next : from + suc number ≡ suc from + number = omega arith in
    rw (ne_eqb from (from + suc number) (λ same. absurd (omega (arith, same))))
    (ap (λ (n : ℕ). option_map suc (number_of_first (λ (one_point : CodePoint). one_point.place == n)
    (map_numbered (flat_point classes host flat) (suc from) points))) next
    ∙ ap (option_map suc) (numbered_first classes host flat (suc from) number points (omega (arith, low))))

-- the number of a point is its own
pub number_itself : (classes : Classes) (host : Scope) (flat : FlatCode) (number : ℕ) (point : Point) → slice_get flat.points number ≡ Some point
    → number_at (flat_points classes host flat) number ≡ number
number_itself classes host flat number point is = rw (there) refl where
  there : number_of_first (λ (one_point : CodePoint). one_point.place == number) (flat_points classes host flat) ≡ Some number
  there =
      let zeroth : number ≡ 0 + number = omega arith in
      ap (λ (n : ℕ). number_of_first (λ (one_point : CodePoint). one_point.place == n) (flat_points classes host flat)) zeroth
      ∙ numbered_first classes host flat 0 number flat.points (slice_get_within flat.points number point is)

-- ---- edges that control does not take

abbrev NotOf : EdgeKind → EdgeKind → Type 0
NotOf kind by = is_kind by kind ≡ false

effect_not : (s : PlanScope) (at : ℕ) (point : Point) (before : State) (kind : EdgeKind) (rows : List RowEdge) (effect : List Edge)
    → AreEdges s point at before rows effect
    → AllByRecursion (λ (row : RowEdge). NotOf kind row.by) rows
    → AllByRecursion (λ (edge : Edge). NotOf kind edge.by) effect
effect_not s at point before kind [] [] are all = tt
effect_not s at point before kind [] (edge ∷ effect) are all = absurd are
effect_not s at point before kind (row ∷ rows) [] are all = absurd are
effect_not s at point before kind (row ∷ rows) (edge ∷ effect) are all =
    (ap (λ (by : EdgeKind). is_kind by kind) are.0 ∙ all.0, effect_not s at point before kind rows effect are.3 all.1)

routes_not : (kind : EdgeKind) (effect : List Edge) (plans : List MadeEdge) (routes : List RouteEdge)
    → AreEdgeRoutes effect plans routes
    → AllByRecursion (λ (edge : Edge). NotOf kind edge.by) effect
    → find (λ (one_edge : RouteEdge). is_kind one_edge.by kind) routes ≡ None
routes_not kind [] [] [] are all = refl
routes_not kind [] [] (route ∷ routes) are all = absurd are
routes_not kind [] (plan ∷ plans) routes are all = absurd are
routes_not kind (edge ∷ effect) [] routes are all = absurd are
routes_not kind (edge ∷ effect) (plan ∷ plans) [] are all = absurd are
routes_not kind (edge ∷ effect) (plan ∷ plans) (route ∷ routes) are all =
    rw (ap (λ (by : EdgeKind). is_kind by kind) are.0.by ∙ all.0) (routes_not kind effect plans routes are.1 all.1)

-- of edges whose guards are not open none is taken
module _ (before : State) (kind : EdgeKind) where
  abbrev Closed : RowEdge → Type 0
  Closed row = is_open before row.guard ≡ true → NotOf kind row.by

  closed_filtered : (rows : List RowEdge) → AllByRecursion Closed rows
      → AllByRecursion (λ (row : RowEdge). NotOf kind row.by) (filter (λ (row : RowEdge). is_open before row.guard) rows)
  closed_filtered [] all = tt
  closed_filtered (row ∷ rows) all = by (is_open before row.guard) refl (closed_filtered rows all.1) where
    by : (opens : Bool) → is_open before row.guard ≡ opens
        → AllByRecursion (λ (one_row : RowEdge). NotOf kind one_row.by) (filter (λ (one_row : RowEdge). is_open before one_row.guard) rows)
        → AllByRecursion (λ (one_row : RowEdge). NotOf kind one_row.by) (filter (λ (one_row : RowEdge). is_open before one_row.guard) (row ∷ rows))
    by true told rest = rw (told) (all.0 told, rest)
    by false told rest = rw (told) rest

  closed_both : (left right : List RowEdge) → AllByRecursion Closed left → AllByRecursion Closed right → AllByRecursion Closed (left ++ right)
  closed_both [] right all rest = rest
  closed_both (row ∷ left) right all rest = (all.0, closed_both left right all.1 rest)

closed_jumps : (before : State) (number : ℕ) (row : PlanRow) (from : ℕ) (to : List ℕ) → is_open before row.jump ≡ false
    → AllByRecursion (Closed before (edges.Jump number)) (jump_edges row from to)
closed_jumps before number row from [] closed = tt
closed_jumps before number row from (one_to ∷ to) closed =
    (λ opens. absurd (false≢true (sym closed ∙ opens)), closed_jumps before number row (from + 1) to closed)

closed_handlers : (before : State) (number : ℕ) (guard : Guard) (from : ℕ) (handlers : List FlatHandler)
    → AllByRecursion (Closed before (edges.Jump number)) (handler_edges guard from handlers)
closed_handlers before number guard from [] = tt
closed_handlers before number guard from (handler ∷ handlers) = (λ opens. refl, closed_handlers before number guard (from + 1) handlers)

module _ (u : Setup) (laws : TemplateLaws u) {measure : ℕ} {one other : Run} (a : AtPlanned u measure one other) where
  -- where the jump may not be taken there is no edge of it
  pub no_jump : is_open (state_written a.settled.route) (row_of_point (scope_in u a.in_planned.one) a.f.place a.settled.point).jump ≡ false
      → edge_by a.settled.route (edges.Jump 0) ≡ None
  no_jump closed =
      routes_not (edges.Jump 0) (of_plan u laws a).is.effect (of_plan u laws a).point.edges a.settled.route.edges (of_plan u laws a).is.edges
      (effect_not (scope_in u a.in_planned.one) a.f.place a.settled.point (state_written a.settled.route) (edges.Jump 0)
      (open_edges (scope_in u a.in_planned.one) a.f.place a.settled.point (state_written a.settled.route)) (of_plan u laws a).is.effect
      (effect_here u laws a)
      (closed_filtered (state_written a.settled.route) (edges.Jump 0)
      (edges_of a.f.place a.settled.point (row_of_point (scope_in u a.in_planned.one) a.f.place a.settled.point))
      (closed_both (state_written a.settled.route) (edges.Jump 0)
      (next_edges a.f.place (row_of_point (scope_in u a.in_planned.one) a.f.place a.settled.point) (falls_on a.settled.point.instr)
      ++ jump_edges (row_of_point (scope_in u a.in_planned.one) a.f.place a.settled.point) 0 (targets_at a.settled.point.instr))
      (thrown_edges (row_of_point (scope_in u a.in_planned.one) a.f.place a.settled.point).throws a.settled.point.handlers)
      (closed_both (state_written a.settled.route) (edges.Jump 0)
      (next_edges a.f.place (row_of_point (scope_in u a.in_planned.one) a.f.place a.settled.point) (falls_on a.settled.point.instr))
      (jump_edges (row_of_point (scope_in u a.in_planned.one) a.f.place a.settled.point) 0 (targets_at a.settled.point.instr))
      (nexts (falls_on a.settled.point.instr))
      (closed_jumps (state_written a.settled.route) 0 (row_of_point (scope_in u a.in_planned.one) a.f.place a.settled.point) 0
      (targets_at a.settled.point.instr) closed))
      (throws (row_of_point (scope_in u a.in_planned.one) a.f.place a.settled.point).throws)))) where
        nexts : (falls : Bool)
            → AllByRecursion (Closed (state_written a.settled.route) (edges.Jump 0))
            (next_edges a.f.place (row_of_point (scope_in u a.in_planned.one) a.f.place a.settled.point) falls)
        nexts true = (λ opens. refl, tt)
        nexts false = tt

        throws : (guard : Option Guard)
            → AllByRecursion (Closed (state_written a.settled.route) (edges.Jump 0)) (thrown_edges guard a.settled.point.handlers)
        throws None = tt
        throws (Some guard) = closed_handlers (state_written a.settled.route) 0 guard 0 a.settled.point.handlers

  -- the target of a jump that may be taken is a point
  pub lands : (to : ℕ)
      → slice_get (targets_at a.settled.point.instr) 0 ≡ Some to
      → is_open (state_written a.settled.route) (row_of_point (scope_in u a.in_planned.one) a.f.place a.settled.point).jump ≡ true
      → flat_number u laws a to ≡ to
  lands to is_target opens =
      number_itself u.classes (ready u laws a).scope a.in_planned.one.flat to target.0
      (ap (slice_get a.in_planned.one.flat.points) (sym edge.2.to) ∙ target.1) where
        edge : (found : RouteEdge)
            × (edge_by a.settled.route (edges.Jump 0) ≡ Some found)
            × IsOfRow (scope_in u a.in_planned.one) a.settled.point a.f.place (state_written a.settled.route)
            (record { by = edges.Jump 0; to = to; guard = (row_of_point (scope_in u a.in_planned.one) a.f.place a.settled.point).jump }) found
        edge =
            jump_edge (scope_in u a.in_planned.one) a.settled.point a.f.place (state_written a.settled.route) (of_plan u laws a).is.effect
            (of_plan u laws a).point.edges a.settled.route (effect_here u laws a) (of_plan u laws a).is.edges 0 to is_target opens

        target : (next : Point) × (slice_get a.in_planned.one.flat.points edge.0.to ≡ Some next) × IsState edge.0.state
        target =
            target_point u laws.settle a.f a.in_planned.one a.f.place a.settled.point a.settled.route (edges.Jump 0) edge.0 (written u laws a)
            (reached u laws a) edge.1

-- ---- jumps that take stack entries

jump_edge_there : (at : ℕ) (point : Point) (row : PlanRow) (falls : Bool) (to : ℕ)
    → falls_on point.instr ≡ falls
    → targets_at point.instr ≡ to ∷ []
    → slice_get (edges_of at point row) (if falls then 1 else 0) ≡ Some (record { by = edges.Jump 0; to = to; guard = row.jump })
jump_edge_there at point row falls to is_falls is_targets =
    ap (λ (b : Bool). slice_get ((next_edges at row b ++ jump_edges row 0 (targets_at point.instr)) ++ thrown_edges row.throws point.handlers)
    (if falls then 1 else 0)) is_falls
    ∙ ap (λ (some : List ℕ). slice_get ((next_edges at row falls ++ jump_edges row 0 some) ++ thrown_edges row.throws point.handlers)
    (if falls then 1 else 0)) is_targets
    ∙ by falls where
      by : (b : Bool)
          → slice_get ((next_edges at row b ++ jump_edges row 0 (to ∷ [])) ++ thrown_edges row.throws point.handlers) (if b then 1 else 0)
          ≡ Some (record { by = edges.Jump 0; to = to; guard = row.jump })
      by true = refl
      by false = refl

module _ (u : Setup) (laws : TemplateLaws u) {measure : ℕ} {one other : Run} (a : AtPlanned u measure one other) (class : ℕ) (instr : Instr) where
  -- An instruction that takes stack entries and always jumps.
  pub record StillJump (to : ℕ) : Type 0 where
    pub is : a.settled.point.instr ≡ Of class instr
    pub is_targets : targets instr ≡ to ∷ []
    pub falls : Bool
    pub is_falls : falls_through instr ≡ falls
    pub opens : is_open (state_written a.settled.route) (row_here u laws a class instr).jump ≡ true
    pub row_locals : (row_here u laws a class instr).locals ≡ held_locals a.settled.point.typed
    pub takes : ℕ
    pub row_stack : (row_here u laws a class instr).stack
        ≡ held_from (length a.settled.point.typed.locals) (length a.settled.point.typed.stack - takes) ++ []
    pub row_change : (row_here u laws a class instr).change ≡ no_change
    pub decided : is_decided a.settled.point a.settled.route ≡ true
    pub pops : List WInstr
    pub own_pops : AreOwn pops
    pub told : written_at a class instr ≡ Some (pops ++ made_on_jump (scope_in u a.in_planned.one) a.settled.route)
    -- the first
    pub top : List Value
    pub below : List Value
    pub is_stack : a.f.stack ≡ top ++ below
    pub many_top : length top ≡ takes
    pub turned : op_step (first u) (counted one) a.f a.ones (op_here u laws a class instr)
        ≡ with_top (counted one) a.ones (record a.f { place = flat_number u laws a to; stack = below })
    -- the second
    pub middle : MethodState
    pub straight : (there : AtOwn u a.in_planned.one a.f.place a.settled.point a.settled.route a.g)
        → AllByRecursion IsStraight (map (op_in u laws a there) pops)
    pub moved : (there : AtOwn u a.in_planned.one a.f.place a.settled.point a.settled.route a.g)
        → all_moved (map (op_in u laws a there) pops) a.g ≡ Some middle
    pub units : middle.locals ≡ a.g.locals
    pub keep_below : KeepStack a.t.along.names (take (length below) (entries u laws a)) (reverse below) (reverse middle.stack)

  module _ {to : ℕ} (n : StillJump to) where
    row_is_here : row_of_point (scope_in u a.in_planned.one) a.f.place a.settled.point ≡ row_here u laws a class instr
    row_is_here = row_is u laws a class instr n.is

    targets_are : targets_at a.settled.point.instr ≡ to ∷ []
    targets_are = ap targets_at n.is ∙ n.is_targets

    is_target : slice_get (targets_at a.settled.point.instr) 0 ≡ Some to
    is_target = ap (λ (all : List ℕ). slice_get all 0) targets_are

    opens_here : is_open (state_written a.settled.route) (row_of_point (scope_in u a.in_planned.one) a.f.place a.settled.point).jump ≡ true
    opens_here = ap (λ (r : PlanRow). is_open (state_written a.settled.route) r.jump) row_is_here ∙ n.opens

    change_is : (row_of_point (scope_in u a.in_planned.one) a.f.place a.settled.point).change ≡ no_change
    change_is = ap (λ (r : PlanRow). r.change) row_is_here ∙ n.row_change

    objects_are : edge_objects (scope_in u a.in_planned.one) (state_written a.settled.route)
        (row_of_point (scope_in u a.in_planned.one) a.f.place a.settled.point) (edges.Jump 0)
        ≡ (state_written a.settled.route).objects
    objects_are =
        ap (λ (change : Change). changed (scope_in u a.in_planned.one) (state_written a.settled.route) change
        ++ (state_written a.settled.route).objects) change_is

    is_edge : slice_get (edges_of a.f.place a.settled.point (row_of_point (scope_in u a.in_planned.one) a.f.place a.settled.point))
        (if n.falls then 1 else 0)
        ≡ Some (record { by = edges.Jump 0; to = to; guard = (row_of_point (scope_in u a.in_planned.one) a.f.place a.settled.point).jump })
    is_edge =
        jump_edge_there a.f.place a.settled.point (row_of_point (scope_in u a.in_planned.one) a.f.place a.settled.point) n.falls to
        (ap falls_on n.is ∙ n.is_falls) targets_are

    many_below : length n.below ≡ length a.settled.point.typed.stack - n.takes
    many_below =
        let all = sym (many_stack u laws a) ∙ ap length n.is_stack ∙ many_both n.top n.below in
        let top = n.many_top in
        omega (arith, all, top)

    over : (next : Point)
        → slice_get a.in_planned.one.flat.points to ≡ Some next
        → length n.below ≡ length next.typed.stack
        → MovesOver u laws a
        (record { by = edges.Jump 0; to = to; guard = (row_of_point (scope_in u a.in_planned.one) a.f.place a.settled.point).jump }) next
        a.t.along.virtuals [] (record a.f { place = flat_number u laws a to; stack = n.below }) n.middle
    over next is_next many = record {
      number = if n.falls then 1 else 0;
      is_edge = is_edge;
      is_next = is_next;
      top = n.top;
      below = n.below;
      is_stack = n.is_stack;
      given = [];
      many_given = refl;
      then_stack = refl;
      many_then = many;
      below_also = n.middle.stack;
      given_also = [];
      then_also = refl;
      keep_below = n.keep_below;
      keep_given = no_values;
      row_stack =
          ap (λ (r : PlanRow). r.stack) row_is_here ∙ n.row_stack
          ∙ ap (λ (count : ℕ). held_from (length a.settled.point.typed.locals) count ++ []) (sym many_below);
      refers = λ site value refers. refers;
      given_refers = λ place site value slot there. absurd (none-some value there);
      given_uninit = λ place source type value from there kept site_object. absurd (none-some value there);
      objects = λ site told is_told.
          (tells u laws a).objects site told (ap (λ (objects : List VObject). object_of objects site) (sym objects_are) ∙ is_told);
      fields = λ site number told virtual value is_told there plain is_value.
          let kept = (keeps u laws a).fields site number told virtual value
          (ap (λ (objects : List VObject). object_of objects site) (sym objects_are) ∙ is_told) there plain is_value in
          record {
            also = kept.also;
            is =
                ap (λ (units : List (Option Value)). slice_get units (unit_number a.in_planned.one.flat (field_unit site number))) n.units ∙ kept.is;
            same = kept.same;
          };
      locals =
          locals_stay u laws a (record {
            number = if n.falls then 1 else 0;
            is_edge = is_edge;
            is_next = is_next;
            row_locals = ap (λ (r : PlanRow). r.locals) row_is_here ∙ n.row_locals;
            row_stays = ap (λ (r : PlanRow). r.locals) row_is_here ∙ n.row_locals;
            refers = λ site value refers. refers;
            locals = refl;
            own_units = λ unit value plain there.
                let kept = (keeps u laws a).locals unit value plain there in
                record { also = kept.also; is = ap (λ (units : List (Option Value)). slice_get units unit) n.units ∙ kept.is; same = kept.same };
          });
      room = subst (λ (units : List (Option Value)). written_units a.in_planned.one.flat ≤ length units) (sym n.units) (keeps u laws a).room;
    }

    pub still_jumps : KeepsTurn u measure one other
    still_jumps =
        jump_goes u laws a
        (still_turn u laws a (record a.f { place = flat_number u laws a to; stack = n.below })
        (ap (op_step (first u) (counted one) a.f a.ones) (first_is u laws a class instr n.is) ∙ n.turned) refl refl) to (record {
          is_target = is_target;
          opens = opens_here;
          place = lands u laws a to is_target opens_here;
          decided = n.decided;
          pops = n.pops;
          own_pops = n.own_pops;
          items =
              items_are u laws a class instr (n.pops ++ made_on_jump (scope_in u a.in_planned.one) a.settled.route) n.is n.told;
          middle = n.middle;
          straight = n.straight;
          moved = n.moved;
          gives = [];
          over = over;
        })

-- ---- goto

module _ (u : Setup) (laws : TemplateLaws u) {measure : ℕ} {one other : Run} (a : AtPlanned u measure one other) (class : ℕ) where
  pub goto_turns : (to : ℕ) → a.settled.point.instr ≡ Of class (Goto to) → (instrs : List WInstr) → written_at a class (Goto to) ≡ Some instrs
      → KeepsTurn u measure one other
  goto_turns to is instrs told =
      still_jumps u laws a class (Goto to) (record {
        is = is;
        is_targets = refl;
        falls = false;
        is_falls = refl;
        opens = refl;
        row_locals = refl;
        takes = 0;
        row_stack = refl;
        row_change = refl;
        decided = rw (is) refl;
        pops = [];
        own_pops = tt;
        told = refl;
        top = [];
        below = a.f.stack;
        is_stack = refl;
        many_top = refl;
        turned = refl;
        middle = a.g;
        straight = λ there. tt;
        moved = λ there. refl;
        units = refl;
        keep_below = keeps_whole u laws a;
      })

  -- ---- comparisons with null

  module _ (opcode to : ℕ) (is : a.settled.point.instr ≡ Of class (IfNull opcode to)) (site : ℕ)
      (virtual : held (state_written a.settled.route) (operand a.settled.point.typed 0) ≡ Virt site)
      (fits : (nat_le IFNULL opcode && nat_le opcode IFNONNULL) ≡ true) (value : Value) (below : List Value) (stack : a.f.stack ≡ value ∷ below) where
    goes_on_by : (taken : Bool) → not (opcode == IFNULL) ≡ taken
        → op_step (first u) (counted one) a.f a.ones (op_here u laws a class (IfNull opcode to))
        ≡ with_top (counted one) a.ones (record a.f { place = if taken then flat_number u laws a to else a.f.place + 1; stack = below })
    goes_on_by taken is_taken =
        ap (λ (b : Bool). op_step (first u) (counted one) a.f a.ones (if b then jump_by_null opcode (flat_number u laws a to) else meaningless)) fits
        ∙ ap (λ (some_stack : List Value). jump_step (counted one) a.f a.ones (flat_number u laws a to) (jump_of_null opcode some_stack))
        (stack ∙ ap (λ (v : Value). v ∷ below) (operand_refers u laws a [] below value site stack virtual).is)
        ∙ ap (λ (b : Bool). with_top (counted one) a.ones (record a.f { place = if b then flat_number u laws a to else a.f.place + 1; stack = below }))
        is_taken

    falls_on_null : (opcode == IFNULL) ≡ true → KeepsTurn u measure one other
    falls_on_null test =
        still_goes_next u laws a class (IfNull opcode to) (record {
          is = is;
          instrs = [];
          told = ap (null_template (scope_in u a.in_planned.one) a.settled.route) virtual ∙ ap Some nothing;
          own = tt;
          gives = [];
          row_locals = rw (test) refl;
          takes = 1;
          row_stack = rw (test) refl;
          row_change = rw (test) refl;
          opens = rw (test) refl;
          falls = refl;
          leaves = leaves_none (is_decided a.settled.point a.settled.route) refl;
          top = value ∷ [];
          below = below;
          is_stack = stack;
          many_top = refl;
          given = [];
          many_given = refl;
          turned = goes_on_by false (ap not test);
          given_refers = λ place other_site now slot there. absurd (none-some now there);
          given_uninit = λ place source type now from there kept site_object. absurd (none-some now there);
          middle = a.g;
          straight = λ there. tt;
          moved = λ there. refl;
          units = refl;
          below_also = a.g.stack;
          given_also = [];
          then_also = refl;
          keep_below = virtual_gone u laws a value below site stack virtual;
          keep_given = no_values;
        }) where
          none : edge_by a.settled.route (edges.Jump 0) ≡ None
          none =
              no_jump u laws a
              (ap (λ (r : PlanRow). is_open (state_written a.settled.route) r.jump) (row_is u laws a class (IfNull opcode to) is)
              ∙ rw (test, virtual) refl)

          nothing : made_on_jump (scope_in u a.in_planned.one) a.settled.route ≡ []
          nothing = rw (none) refl

          leaves_none : (decided : Bool) → is_decided a.settled.point a.settled.route ≡ decided
              → leaves_to a.settled.point a.settled.route ≡ None
          leaves_none true told = rw (told, none) refl
          leaves_none false told = rw (told) refl

    jumps_on_object : (opcode == IFNULL) ≡ false → KeepsTurn u measure one other
    jumps_on_object test =
        still_jumps u laws a class (IfNull opcode to) (record {
          is = is;
          is_targets = refl;
          falls = true;
          is_falls = refl;
          opens = rw (test) refl;
          row_locals = rw (test) refl;
          takes = 1;
          row_stack = rw (test) refl;
          row_change = rw (test) refl;
          decided = rw (is, virtual) refl;
          pops = [];
          own_pops = tt;
          told = ap (null_template (scope_in u a.in_planned.one) a.settled.route) virtual;
          top = value ∷ [];
          below = below;
          is_stack = stack;
          many_top = refl;
          turned = goes_on_by true (ap not test);
          middle = a.g;
          straight = λ there. tt;
          moved = λ there. refl;
          units = refl;
          keep_below = virtual_gone u laws a value below site stack virtual;
        })

  pub null_turns : (opcode to : ℕ) → a.settled.point.instr ≡ Of class (IfNull opcode to) → (instrs : List WInstr)
      → written_at a class (IfNull opcode to) ≡ Some instrs
      → KeepsTurn u measure one other
  null_turns opcode to is instrs told = by (held (state_written a.settled.route) (operand a.settled.point.typed 0)) refl told where
    by_test : (site : ℕ)
        → held (state_written a.settled.route) (operand a.settled.point.typed 0) ≡ Virt site
        → (nat_le IFNULL opcode && nat_le opcode IFNONNULL) ≡ true
        → (value : Value) (below : List Value)
        → a.f.stack ≡ value ∷ below
        → (test : Bool)
        → (opcode == IFNULL) ≡ test
        → KeepsTurn u measure one other
    by_test site virtual fits value below stack true test = falls_on_null opcode to is site virtual fits value below stack test
    by_test site virtual fits value below stack false test = jumps_on_object opcode to is site virtual fits value below stack test

    by_stack : (site : ℕ)
        → held (state_written a.settled.route) (operand a.settled.point.typed 0) ≡ Virt site
        → (nat_le IFNULL opcode && nat_le opcode IFNONNULL) ≡ true
        → (stack : List Value)
        → a.f.stack ≡ stack
        → KeepsTurn u measure one other
    by_stack site virtual fits [] empty =
        absurd (here_not_stuck u laws a class (IfNull opcode to) is
        (ap (λ (b : Bool). (op_step (first u) (counted one) a.f a.ones
        (if b then jump_by_null opcode (flat_number u laws a to) else meaningless)).halt) fits
        ∙ ap (λ (stack : List Value). (jump_step (counted one) a.f a.ones (flat_number u laws a to) (jump_of_null opcode stack)).halt) empty))
    by_stack site virtual fits (value ∷ below) stack = by_test site virtual fits value below stack (opcode == IFNULL) refl

    by_form : (site : ℕ)
        → held (state_written a.settled.route) (operand a.settled.point.typed 0) ≡ Virt site
        → (fits : Bool)
        → (nat_le IFNULL opcode && nat_le opcode IFNONNULL) ≡ fits
        → KeepsTurn u measure one other
    by_form site virtual false other_form =
        absurd (here_not_stuck u laws a class (IfNull opcode to) is
        (ap (λ (b : Bool). (op_step (first u) (counted one) a.f a.ones
        (if b then jump_by_null opcode (flat_number u laws a to) else meaningless)).halt) other_form))
    by_form site virtual true fits = by_stack site virtual fits a.f.stack refl

    by : (slot : Slot)
        → held (state_written a.settled.route) (operand a.settled.point.typed 0) ≡ slot
        → null_template (scope_in u a.in_planned.one) a.settled.route slot ≡ Some instrs
        → KeepsTurn u measure one other
    by Plain is_slot written_it = absurd (none-some instrs written_it)
    by Unusable is_slot written_it = absurd (none-some instrs written_it)
    by (Virt site) is_slot written_it = by_form site is_slot (nat_le IFNULL opcode && nat_le opcode IFNONNULL) refl
