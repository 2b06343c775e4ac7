-- A jump that is always taken: objects are made before it, quietly, and the goto is the turn of both; or it is not written, and the target comes later.
use Rattle.std.proofs.Common.{◌≡◌, ◌≢◌, ◌<◌, ◌+◌, ◌++◌, ℕ, suc, true, List, [], ◌∷◌, drop, length, map, slice_get, Some, None, Option, option_and_then, option_map, refl, sym, ap, subst, ◌∙◌, arith}
use Rattle.std.specs.List.{AllByRecursion}
use Rattle.std.proofs.lemmas.List.{length-append}
use Rattle.std.proofs.lemmas.Option.{none-some, same_Some, slice_get-map, slice_get_within}
use Rattle.class_model.specs.declared.instr.Instr.TheVariants.{Goto, Nop}
use Rattle.flow_code.specs.declared.point.Point.{Point}
use Rattle.machine_values.specs.Frames.{MethodState}
use Rattle.machine_values.specs.declared.frame.RunFrame.TheVariants.{Method}
use Rattle.making_code.specs.Items.{WInstr, WItem, item, plain, to_point}
use Rattle.making_code.specs.MakeCode.{make_code}
use Rattle.member_link.specs.Machine.Ops.{Op}
use Rattle.member_link.specs.Machine.Programs.{Code, Point as RunPoint, code_at}
use Rattle.member_link.specs.Machine.Runs.{Run, turn}
use Rattle.member_link.specs.Machine.Stepping.{next_with}
use Rattle.member_link.specs.Scope.{scope_at}
use Rattle.plan_flow.specs.Laws.WrittenBlocks.{block_finished, blocks_left, first_begins, first_block, first_item, first_of, holds_of_both, next_starts, own_number, own_of, starts_at}
use Rattle.plan_flow.specs.Laws.WrittenPads.{none_finished}
use Rattle.plan_flow.specs.Must.{row_of_point}
use Rattle.plan_flow.specs.PlanRows.{RowEdge, Source}
use Rattle.plan_flow.specs.PlanScope.{PlanScope}
use Rattle.plan_flow.specs.PlanSlots.{is_open}
use Rattle.plan_flow.specs.PlanTable.{targets_at}
use Rattle.plan_flow.specs.Written.Blocks.{Block, blocks_of, instruction_block, is_decided, leaves_to, state_written}
use Rattle.plan_flow.specs.Written.Finish.{End, begins_point, comes_to, end_items, end_of, finish, goto_end, no_end, nop_end}
use Rattle.plan_flow.specs.Written.Routes.{RouteEdge, edge_by}
use Rattle.plan_flow.specs.Written.Templates.{items_at, made_on_jump}
use Rattle.plan_flow.specs.Written.WrittenCode.{block_items, start_of, written_code, written_items, written_op, written_point}
use Rattle.plan_flow.specs.Written.WrittenPrograms.{WrittenMethod}
use Rattle.plan_flow.specs.declared.edge.EdgeKind.TheVariants as edges
use Rattle.same_runs.specs.Laws.QuietBeginnings.{quietly_then, standing}
use Rattle.same_runs.specs.Laws.QuietCalls.{quiet_keeps}
use Rattle.same_runs.specs.Laws.QuietMoves.{moves_in_method, moves_quietly}
use Rattle.same_runs.specs.QuietMoves.{moves}
use Rattle.same_runs.specs.Simulations.{Quietly}
use Rattle.virtual_state.specs.Laws.Removals.{without_none}
use Rattle.virtual_state.specs.Sites.{has}
use Rattle.virtual_state.specs.Without.{without}
use Rattle.written_runs.specs.Laws.WrittenCodes.{written_code_at}
use Rattle.written_runs.specs.Inner.MadeObjects.{StandAt}
use Rattle.written_runs.specs.Inner.PlannedFrames.{blocks_in, of_first, scope_in}
use Rattle.written_runs.specs.Inner.Setup.{Setup, first, second}
use Rattle.plan_flow.specs.Laws.OpenEdges.{IsOfRow, jump_edge}
use Rattle.written_runs.specs.Laws.Carried.Standing.{AtOwn, item_there, own_finished}
use Rattle.written_runs.specs.Laws.Halfway.{GoesOn, Halfway, makes_on}
use Rattle.written_runs.specs.Laws.MadeItems.{AreOwn, IsOwn, items_of_block, own_make_code}
use Rattle.written_runs.specs.Laws.PlannedTurns.{AtPlanned}
use Rattle.written_runs.specs.Laws.Settling.{Onwards, onwards}
use Rattle.written_runs.specs.Laws.Simulation.{KeepsTurn}
use Rattle.written_runs.specs.Laws.Templates.Items.{IsStraight, OpsThere, all_moved, moves_all, whole}
use Rattle.written_runs.specs.Laws.Templates.Known.{TemplateLaws, of_plan, reached}
use Rattle.written_runs.specs.Laws.Templates.Moving.{MovesOver}
use Rattle.written_runs.specs.Laws.Templates.Onward.{ComesOn, comes_on, goto_leads, no_goto_comes}
use Rattle.written_runs.specs.Laws.Templates.Stacks.{get_left, get_right}
use Rattle.written_runs.specs.Laws.Templates.Turns.{FirstTurn, TakesEdge, along_there, effect_here, falls_below, halfway_behind, left_over, place_then, stands_own, target, written_then}
use Rattle.written_runs.specs.Laws.Uncovered.{can_be_saved}
use Rattle.written_runs.specs.Laws.WrittenCodes.{written_code_at}
use Rattle.written_runs.specs.Laws.Turned.{turns_by_moves}
use Rattle.written_runs.specs.Laws.TypedKept.{can_be_kept}

module _ (u : Setup) (laws : TemplateLaws u) {measure : ℕ} {one other : Run} (a : AtPlanned u measure one other) where
  -- what the operations of instructions without targets are
  abbrev pub op_in : AtOwn u a.in_planned.one a.f.place a.settled.point a.settled.route a.g → WInstr → Op
  op_in there instr = written_op (scope_in u a.in_planned.one) there.host u.constructor [] instr

  -- The first frame goes on to the instruction's target; the second moves values, makes the objects of the edge, and goes there too.
  pub record TakesJump (t : FirstTurn u laws a) (to : ℕ) : Type 0 where
    pub is_target : slice_get (targets_at a.settled.point.instr) 0 ≡ Some to
    pub opens : is_open (state_written a.settled.route) (row_of_point (scope_in u a.in_planned.one) a.f.place a.settled.point).jump ≡ true
    pub place : t.later.place ≡ to
    pub decided : is_decided a.settled.point a.settled.route ≡ true
    pub pops : List WInstr
    pub own_pops : AreOwn pops
    pub items : items_at (scope_in u a.in_planned.one) a.f.place a.settled.point (state_written a.settled.route) a.settled.route
        ≡ map item (pops ++ made_on_jump (scope_in u a.in_planned.one) a.settled.route)
    pub middle : MethodState
    pub straight : (there : AtOwn u a.in_planned.one a.f.place a.settled.point a.settled.route a.g)
        → AllByRecursion IsStraight (map (op_in there) pops)
    pub moved : (there : AtOwn u a.in_planned.one a.f.place a.settled.point a.settled.route a.g)
        → all_moved (map (op_in there) pops) a.g ≡ Some middle
    pub gives : List Source
    pub over : (next : Point)
        → slice_get a.in_planned.one.flat.points to ≡ Some next
        → length t.later.stack ≡ length next.typed.stack
        → MovesOver u laws a
        (record { by = edges.Jump 0; to = to; guard = (row_of_point (scope_in u a.in_planned.one) a.f.place a.settled.point).jump }) next t.virtuals
        gives t.later middle

  module _ (t : FirstTurn u laws a) (to : ℕ) (j : TakesJump t to) where
    abbrev s : PlanScope
    s = scope_in u a.in_planned.one

    abbrev w : WrittenMethod
    w = a.in_planned.one

    abbrev row_edge : RowEdge
    row_edge = record { by = edges.Jump 0; to = to; guard = (row_of_point (scope_in u a.in_planned.one) a.f.place a.settled.point).jump }

    has_jump : (edge : RouteEdge)
        × (edge_by a.settled.route (edges.Jump 0) ≡ Some edge)
        × IsOfRow (scope_in u a.in_planned.one) a.settled.point a.f.place (state_written a.settled.route) row_edge edge
    has_jump =
        jump_edge (scope_in u a.in_planned.one) a.settled.point a.f.place (state_written a.settled.route) (of_plan u laws a).is.effect
        (of_plan u laws a).point.edges a.settled.route (effect_here u laws a) (of_plan u laws a).is.edges 0 to j.is_target j.opens

    abbrev edge : RouteEdge
    edge = has_jump.0

    takes : TakesEdge u laws a t row_edge edge j.middle
    takes = record { found = has_jump.1; of_row = has_jump.2; place = j.place; gives = j.gives; over = j.over }

    abbrev code : List WInstr
    code = make_code w.flat edge.to edge.state edge.made edge.order

    jump_code : made_on_jump s a.settled.route ≡ code
    jump_code = rw (has_jump.1) refl

    leaves : leaves_to a.settled.point a.settled.route ≡ Some edge.to
    leaves = rw (j.decided, has_jump.1) refl

    there : AtOwn u w a.f.place a.settled.point a.settled.route a.g
    there = stands_own u laws a

    abbrev whole_code : Code
    whole_code = written_code s there.host u.constructor w.form (blocks_in u w)

    abbrev end : End
    end = (own_finished u w a.f.place a.settled.point a.settled.route).end

    -- ---- the items

    all_items : block_items w.form (own_finished u w a.f.place a.settled.point a.settled.route) ≡ map item (j.pops ++ code) ++ end_items end
    all_items =
        whole there (reached u laws a) (j.pops ++ code)
        (j.items ∙ ap (λ (instrs : List WInstr). map item (j.pops ++ instrs)) jump_code)
        (holds_of_both IsOwn j.pops code j.own_pops (own_make_code w.flat edge.to edge.state edge.made edge.order))

    point_of : (more : ℕ) (one_item : WItem) → slice_get (map item (j.pops ++ code) ++ end_items end) more ≡ Some one_item
        → slice_get whole_code.points (a.g.place + more)
        ≡ Some (written_point s there.host u.constructor w.form (blocks_in u w) (0 + (a.g.place + more)) one_item)
    point_of more one_item is =
        sym (ap (option_and_then (λ (c : Code). slice_get c.points (a.g.place + more))) there.is_code)
        ∙ item_there there (reached u laws a) more one_item (ap (λ (all : List WItem). slice_get all more) all_items ∙ is)

    many_items : length (map item (j.pops ++ code)) ≡ length j.pops + length code
    many_items = counted_items (j.pops ++ code) ∙ length-append j.pops code where
      counted_items : (instrs : List WInstr) → length (map item instrs) ≡ length instrs
      counted_items [] = refl
      counted_items (instr ∷ instrs) = ap suc (counted_items instrs)

    -- an instruction of the front
    item_of : (more : ℕ) (instr : WInstr) → slice_get (j.pops ++ code) more ≡ Some instr
        → slice_get (map item (j.pops ++ code) ++ end_items end) more ≡ Some (item instr)
    item_of more instr is =
        get_left (map item (j.pops ++ code)) (end_items end) more
        (let within = slice_get_within (j.pops ++ code) more instr is in
        let both = length-append j.pops code in
        let many = many_items in
        omega (arith, within, both, many))
        ∙ slice_get-map item (j.pops ++ code) more ∙ ap (option_map item) is

    -- ---- the pops

    pops_there : OpsThere whole_code a.g.place (map (op_in there) j.pops)
    pops_there = record {
      each = λ more op is. by more op (slice_get j.pops more) refl (sym (slice_get-map (op_in there) j.pops more) ∙ is);
    } where
      by : (more : ℕ) (op : Op) (instr : Option WInstr)
          → slice_get j.pops more ≡ instr
          → option_map (op_in there) (slice_get j.pops more) ≡ Some op
          → (point : RunPoint) × (slice_get whole_code.points (a.g.place + more) ≡ Some point) × (point.op ≡ op)
      by more op None none is = absurd (none-some op (sym (ap (option_map (op_in there)) none) ∙ is))
      by more op (Some instr) some is = (
        written_point s there.host u.constructor w.form (blocks_in u w) (0 + (a.g.place + more)) (item instr),
        point_of more (item instr)
            (item_of more instr
            (get_left j.pops code more (slice_get_within j.pops more instr some) ∙ some)),
        same_Some (op_in there instr) op (sym (ap (option_map (op_in there)) some) ∙ is),
      )

    many_pops : length (map (op_in there) j.pops) ≡ length j.pops
    many_pops = counted_pops j.pops where
      counted_pops : (instrs : List WInstr) → length (map (op_in there) instrs) ≡ length instrs
      counted_pops [] = refl
      counted_pops (instr ∷ instrs) = ap suc (counted_pops instrs)

    popped : (moves whole_code (length (map (op_in there) j.pops)) a.g ≡ Some j.middle)
        × (j.middle.place ≡ a.g.place + length (map (op_in there) j.pops))
    popped = moves_all whole_code (map (op_in there) j.pops) a.g j.middle pops_there (j.straight there) (j.moved there)

    in_method : (j.middle.at ≡ a.g.at) × (j.middle.held ≡ a.g.held)
    in_method = moves_in_method (second u) whole_code (length (map (op_in there) j.pops)) a.g j.middle popped.0

    same : standing other (Method a.g ∷ a.others) other.world.memory other.world.steps ≡ other
    same = λ i. record other { world = record other.world { frames = sym (a.t.along.stands_also ∙ a.stands_also) i } }

    pops_quietly : (later : ℕ) × Quietly (second u) (standing other (Method a.g ∷ a.others) other.world.memory other.world.steps)
        (standing other (Method j.middle ∷ a.others) other.world.memory later)
    pops_quietly =
        moves_quietly other whole_code (length (map (op_in there) j.pops)) a.g j.middle other.world.memory other.world.steps a.t.along.goes_also
        there.is_code popped.0

    h : Halfway u (turn (first u) one) (standing other (Method j.middle ∷ a.others) other.world.memory pops_quietly.0) t.later a.ones w
        a.t.along.known (target u laws a t takes).0 edge.state j.middle.place
    h = halfway_behind u laws a t takes j.middle in_method.0 in_method.1 refl refl pops_quietly.0

    -- ---- the objects

    on_to : Onwards w t.later.place (target u laws a t takes).0 edge
    on_to =
        onwards u laws.settle t.later w (target u laws a t takes).0 a.f.place a.settled.point a.settled.route (edges.Jump 0) edge
        (written_then u laws a t takes) (reached u laws a) has_jump.1 (sym (place_then u laws a t takes)) here_point where
          here_point : slice_get w.flat.points t.later.place ≡ Some (target u laws a t takes).0
          here_point = ap (slice_get w.flat.points) (place_then u laws a t takes) ∙ (target u laws a t takes).1

    here_point : slice_get w.flat.points t.later.place ≡ Some (target u laws a t takes).0
    here_point = ap (slice_get w.flat.points) (place_then u laws a t takes) ∙ (target u laws a t takes).1

    same_code : make_code w.flat t.later.place edge.state edge.made edge.order ≡ code
    same_code = ap (λ (n : ℕ). make_code w.flat n edge.state edge.made edge.order) (place_then u laws a t takes)

    items_stand : StandAt u w j.middle.place (make_code w.flat t.later.place edge.state edge.made edge.order)
    items_stand = subst (StandAt u w j.middle.place) (sym same_code) (record { each = each }) where
      is_finished : slice_get (blocks_in u w) (own_number s w.routes a.f.place a.settled.route)
          ≡ Some (own_finished u w a.f.place a.settled.point a.settled.route)
      is_finished =
          block_finished w.flat (blocks_of s w.routes) (own_number s w.routes a.f.place a.settled.route)
          (instruction_block s a.f.place a.settled.point a.settled.route)
          (own_of s w.routes a.f.place a.settled.point a.settled.route (reached u laws a).is_point (reached u laws a).is_route)

      each : (more : ℕ) → more < length code
          → slice_get (written_items w.form (blocks_in u w)) (j.middle.place + more) ≡ option_map item (slice_get code more)
      each more low =
          ap (slice_get (written_items w.form (blocks_in u w))) at_place
          ∙ items_of_block w.form (blocks_in u w) (own_number s w.routes a.f.place a.settled.route) (length j.pops + more)
          (own_finished u w a.f.place a.settled.point a.settled.route) is_finished within
          ∙ ap (λ (all : List WItem). slice_get all (length j.pops + more)) all_items
          ∙ get_left (map item (j.pops ++ code)) (end_items end) (length j.pops + more) (let many = many_items in omega (arith, many, low))
          ∙ slice_get-map item (j.pops ++ code) (length j.pops + more)
          ∙ ap (option_map item) (get_right j.pops code more) where
            at_place : j.middle.place + more
                ≡ first_item w.form (blocks_in u w) (own_number s w.routes a.f.place a.settled.route) + (length j.pops + more)
            at_place =
                let popped_place = popped.1 in
                let many = many_pops in
                let own_place = there.place in
                omega (arith, popped_place, many, own_place)

            within : length j.pops + more < length (block_items w.form (own_finished u w a.f.place a.settled.point a.settled.route))
            within =
                let all = ap length all_items ∙ length-append (map item (j.pops ++ code)) (end_items end) in
                let many = many_items in
                omega (arith, all, many, low)

    on : GoesOn u (turn (first u) one) (standing other (Method j.middle ∷ a.others) other.world.memory pops_quietly.0) t.later a.ones w
        a.t.along.known (target u laws a t takes).0 (without edge.state (has edge.made))
        (j.middle.place + length (make_code w.flat t.later.place edge.state edge.made edge.order))
    on =
        makes_on laws.settle.making edge.made edge.order h (record {
          is_point = here_point;
          is_state = on_to.can_edge.is_state;
          is_made = on_to.can_edge.is_made;
          is_order = on_to.can_edge.is_order;
          items = items_stand;
          savable =
              can_be_saved w t.later.place (target u laws a t takes).0 edge.state edge.made t.later here_point on_to.can_edge.uncovered
              (laws.settle.types.stacks (turn (first u) one).world t.later a.ones w (target u laws a t takes).0 h.typed h.stands
              (written_then u laws a t takes) here_point)
              (laws.settle.types.kinds (turn (first u) one).world t.later a.ones w (target u laws a t takes).0 h.typed h.stands
              (written_then u laws a t takes) here_point);
        }) (can_be_kept laws.settle.is_setup laws.settle.types h here_point on_to.can_edge.places on_to.can_edge.room)

    -- ---- the end

    abbrev target_block : ℕ
    target_block = length (blocks_left s w.routes t.later.place)

    abbrev block : Block
    block = first_block s t.later.place (target u laws a t takes).0 on_to.route on_to.route.made

    block_state : block.state ≡ without edge.state (has edge.made)
    block_state = of_made on_to.route.made refl ∙ sym on_to.left where
      of_made : (made : List ℕ) → on_to.route.made ≡ made
          → (first_block s t.later.place (target u laws a t takes).0 on_to.route made).state ≡ on_to.route.state
      of_made [] none = without_none on_to.route.state (has on_to.route.made) (λ site. ap (λ (made : List ℕ). has made site) none)
      of_made (site ∷ sites) some = refl

    block_at : block.at ≡ t.later.place
    block_at = of_made on_to.route.made where
      of_made : (made : List ℕ) → (first_block s t.later.place (target u laws a t takes).0 on_to.route made).at ≡ t.later.place
      of_made [] = refl
      of_made (site ∷ sites) = refl

    code_there : code_at (second u) on.there.g.at ≡ Some whole_code
    code_there =
        written_code_at u laws.settle.is_setup on.there.g.at w there.host on.there.is_written
        (ap (scope_at u.classes) (sym on.there.at ∙ t.at ∙ a.in_planned.at) ∙ there.is_host)

    -- the second arrives at the first block of the target
    arrives_by : (count : ℕ) (after : MethodState)
        → moves whole_code count on.there.g ≡ Some after
        → after.at ≡ on.there.g.at
        → after.held ≡ on.there.g.held
        → after.locals ≡ on.there.g.locals
        → after.stack ≡ on.there.g.stack
        → after.place ≡ first_item w.form (blocks_in u w) target_block
        → (count ≡ 0 → a.f.place < t.later.place)
        → KeepsTurn u measure one other
    arrives_by count after moved at held locals stack place later =
        quiet_keeps (quietly_then quiet_pops on.quietly)
        (turns_by_moves u laws.settle measure one on.later (record {
          g = on.there.g;
          rest_also = on.there.rest_also;
          stands_also = on.there.stands_also;
          goes_also = on.there.goes_also;
          code = whole_code;
          is_code = code_there;
          count = count;
          after = after;
          moved = moved;
          along = λ steps.
              along_there on.there after at held locals stack block target_block (of_first t.later.place (target u laws a t takes).0 on_to.route
              on_to.reached) tt block_state (sym block_at) place (ap (slice_get w.flat.points) block_at ∙ here_point) steps;
          none_now = λ steps. refl;
          measure_then = left_over u laws a t takes;
          low = λ steps. omega arith;
          falls = λ none. falls_below u laws a t takes (later none);
        })) where
          quiet_pops : Quietly (second u) other (standing other (Method j.middle ∷ a.others) other.world.memory pops_quietly.0)
          quiet_pops =
              subst (λ (r : Run). Quietly (second u) r (standing other (Method j.middle ∷ a.others) other.world.memory pops_quietly.0)) same
              pops_quietly.1

    -- where it stands behind the objects
    made_place : on.there.g.place ≡ a.g.place + (length j.pops + length code)
    made_place =
        let on_place = on.there.place_also in
        let popped_place = popped.1 in
        let many = many_pops in
        let many_code = ap length same_code in
        omega (arith, on_place, popped_place, many, many_code)

    last_item : (one_item : WItem) (more : List WItem) → end_items end ≡ one_item ∷ more
        → slice_get whole_code.points on.there.g.place
        ≡ Some (written_point s there.host u.constructor w.form (blocks_in u w) (0 + (a.g.place + (length j.pops + length code))) one_item)
    last_item one_item more is =
        ap (slice_get whole_code.points) made_place
        ∙ point_of (length j.pops + length code) one_item
        (ap (slice_get (map item (j.pops ++ code) ++ end_items end)) at_end
        ∙ get_right (map item (j.pops ++ code)) (end_items end) 0 ∙ ap (λ (all : List WItem). slice_get all 0) is) where
          at_end : length j.pops + length code ≡ length (map item (j.pops ++ code)) + 0
          at_end = let many = many_items in omega (arith, many)

    -- the first block of the target is where a goto leads
    is_target_block : start_of w.form (blocks_in u w) (begins_point t.later.place) ≡ first_item w.form (blocks_in u w) target_block
    is_target_block =
        let first_here = first_of s w.routes t.later.place (target u laws a t takes).0 on_to.route here_point on_to.reached.is_route in
        let block_there = block_finished w.flat (blocks_of s w.routes) target_block
        (first_block s t.later.place (target u laws a t takes).0 on_to.route on_to.route.made) first_here.is_there in
        let zeroth : 0 + first_item w.form (blocks_in u w) target_block ≡ first_item w.form (blocks_in u w) target_block = omega arith in
        starts_at w.form (begins_point t.later.place) (blocks_in u w) 0 target_block _ block_there
        (first_begins s t.later.place (target u laws a t takes).0 on_to.route on_to.route.made)
        (none_finished w.flat (begins_point t.later.place) (blocks_of s w.routes) target_block first_here.none_before)
        ∙ zeroth

    comes : end_of w.flat (instruction_block s a.f.place a.settled.point a.settled.route)
        (finish w.flat (drop (suc (own_number s w.routes a.f.place a.settled.route)) (blocks_of s w.routes))) ≢ goto_end edge.to
        → ComesOn s w.routes w.form a.f.place a.settled.route t.later.place
    comes other_end =
        comes_on s w.routes w.form a.f.place a.settled.point a.settled.route t.later.place (target u laws a t takes).0 on_to.route
        (reached u laws a).is_point (reached u laws a).is_route here_point on_to.reached.is_route
        (ap (λ (n : ℕ). comes_to n (finish w.flat (drop (suc (own_number s w.routes a.f.place a.settled.route)) (blocks_of s w.routes))))
        (place_then u laws a t takes)
        ∙ no_goto_comes w.flat (instruction_block s a.f.place a.settled.point a.settled.route)
        (finish w.flat (drop (suc (own_number s w.routes a.f.place a.settled.route)) (blocks_of s w.routes))) edge.to leaves other_end)

    -- where the next block begins
    next_place : first_item w.form (blocks_in u w) (suc (own_number s w.routes a.f.place a.settled.route))
        ≡ a.g.place + (length j.pops + length code + length (end_items end))
    next_place =
        let starts = next_starts w.form (blocks_in u w) (own_number s w.routes a.f.place a.settled.route)
        (own_finished u w a.f.place a.settled.point a.settled.route)
        (block_finished w.flat (blocks_of s w.routes) (own_number s w.routes a.f.place a.settled.route)
        (instruction_block s a.f.place a.settled.point a.settled.route)
        (own_of s w.routes a.f.place a.settled.point a.settled.route (reached u laws a).is_point (reached u laws a).is_route)) in
        let all = ap length all_items ∙ length-append (map item (j.pops ++ code)) (end_items end) in
        let many = many_items in
        let own_place = there.place in
        omega (arith, starts, all, many, own_place)

    pub jump_goes : KeepsTurn u measure one other
    jump_goes = by end refl where
      by : (found : End) → end ≡ found → KeepsTurn u measure one other
      by (goto_end leads) is =
          let leads_to : leads ≡ edge.to =
          goto_leads w.flat (instruction_block s a.f.place a.settled.point a.settled.route) _ edge.to leads leaves is in
          let at_item = last_item (record { instr = plain (Goto 0); targets = to_point leads ∷ []; catches = [] }) [] (ap end_items is) in
          arrives_by 1 (record on.there.g { place = start_of w.form (blocks_in u w) (begins_point leads) }) (rw (at_item) refl) refl refl refl refl
          (ap (λ (n : ℕ). start_of w.form (blocks_in u w) (begins_point n)) (leads_to ∙ sym (place_then u laws a t takes)) ∙ is_target_block)
          (λ none. absurd (omega (arith, none)))
      by no_end is =
          let onward = comes (λ same. absurd (cc (sym is ∙ same))) in
          let next = next_place in
          let at_made = made_place in
          let none = ap (λ (e : End). length (end_items e)) is in
          arrives_by 0 on.there.g refl refl refl refl refl
          (let here : on.there.g.place ≡ first_item w.form (blocks_in u w) (suc (own_number s w.routes a.f.place a.settled.route)) =
          omega (arith, next, at_made, none) in here ∙ onward.same_place)
          (λ zeroth. onward.later)
      by nop_end is =
          let onward = comes (λ same. absurd (cc (sym is ∙ same))) in
          let next = next_place in
          let at_made = made_place in
          let none = ap (λ (e : End). length (end_items e)) is in
          let at_item = last_item (item (plain Nop)) [] (ap end_items is) in
          arrives_by 1 (next_with on.there.g on.there.g.stack) (rw (at_item) refl) refl refl refl refl
          (let here : on.there.g.place + 1 ≡ first_item w.form (blocks_in u w) (suc (own_number s w.routes a.f.place a.settled.route)) =
          omega (arith, next, at_made, none) in here ∙ onward.same_place)
          (λ zeroth. absurd (omega (arith, zeroth)))
