-- A turn at an instruction that the second run does by quiet turns, which change its frame alone, and by moves behind them.
use Rattle.std.proofs.Common.{◌≡◌, ◌+◌, ◌++◌, ℕ, suc, true, List, ◌∷◌, length, map, slice_get, Some, None, refl, sym, ap, subst, ◌∙◌, arith}
use Rattle.std.specs.List.{AllByRecursion}
use Rattle.flow_code.specs.declared.point.Point.{Point}
use Rattle.machine_values.specs.Frames.{MethodState}
use Rattle.machine_values.specs.declared.frame.RunFrame.TheVariants.{Method}
use Rattle.making_code.specs.Items.{WInstr, item}
use Rattle.member_link.specs.Machine.Programs.{code_at}
use Rattle.member_link.specs.Machine.Runs.{Run}
use Rattle.plan_flow.specs.Laws.WrittenBlocks.{first_item, own_number}
use Rattle.plan_flow.specs.Must.{row_of_point}
use Rattle.plan_flow.specs.PlanRows.{RowEdge, Source}
use Rattle.plan_flow.specs.PlanSlots.{is_open}
use Rattle.plan_flow.specs.PlanTable.{falls_on}
use Rattle.plan_flow.specs.Written.Blocks.{leaves_to, state_written}
use Rattle.plan_flow.specs.Written.Routes.{RouteEdge, edge_by}
use Rattle.plan_flow.specs.Written.Templates.{items_at}
use Rattle.plan_flow.specs.Written.WrittenCode.{written_code}
use Rattle.plan_flow.specs.declared.edge.EdgeKind.TheVariants as edges
use Rattle.same_runs.specs.Laws.QuietBeginnings.{standing}
use Rattle.written_runs.specs.Inner.PlannedFrames.{blocks_in, scope_in}
use Rattle.written_runs.specs.Inner.Setup.{Setup, second}
use Rattle.plan_flow.specs.Laws.OpenEdges.{IsOfRow, next_edge}
use Rattle.written_runs.specs.Laws.Carried.Standing.{AtOwn}
use Rattle.written_runs.specs.Laws.MadeItems.{AreOwn}
use Rattle.written_runs.specs.Laws.PlannedTurns.{AtPlanned}
use Rattle.written_runs.specs.Laws.Simulation.{KeepsTurn}
use Rattle.written_runs.specs.Laws.Templates.Arriving.{ArrivesAt, arrives_next}
use Rattle.written_runs.specs.Laws.Templates.Items.{IsStraight, OwnMoves, all_moved, op_of}
use Rattle.written_runs.specs.Laws.Templates.Known.{TemplateLaws, of_plan, reached}
use Rattle.written_runs.specs.Laws.Templates.Moving.{MovesOver}
use Rattle.written_runs.specs.Laws.Turned.{turns_by_moves}
use Rattle.same_runs.specs.Laws.QuietBeginnings.{standing}
use Rattle.same_runs.specs.Laws.QuietCalls.{quiet_keeps}
use Rattle.same_runs.specs.Simulations.{Quietly}
use Rattle.written_runs.specs.Inner.Setup.{second}
use Rattle.written_runs.specs.Laws.Templates.Items.{OpsThere, done_there, own_items_behind}
use Rattle.written_runs.specs.Laws.Templates.Turns.{FirstTurn, TakesEdge, along_there, effect_here, falls_below, halfway_behind, left_over, place_then, stands_own, target, written_then}

module _ (u : Setup) (laws : TemplateLaws u) {measure : ℕ} {one other : Run} (a : AtPlanned u measure one other) where
  -- The quiet turns, and the moves behind them.
  pub record IsQuietly (instrs : List WInstr)
      (items : items_at (scope_in u a.in_planned.one) a.f.place a.settled.point (state_written a.settled.route) a.settled.route ≡ map item instrs)
      (own : AreOwn instrs) (done rest : List WInstr) (middle : MethodState)
      : Type 0 where
    pub begins : MethodState
    pub place : begins.place ≡ a.g.place + length done
    pub at : begins.at ≡ a.g.at
    pub held : begins.held ≡ a.g.held
    pub quietly : (there : AtOwn u a.in_planned.one a.f.place a.settled.point a.settled.route a.g)
        → OpsThere (written_code (scope_in u a.in_planned.one) there.host u.constructor a.in_planned.one.form (blocks_in u a.in_planned.one)) a.g.place
        (map (op_of there (reached u laws a) instrs items own) done)
        → (later : ℕ)
        × Quietly (second u) (standing other (Method a.g ∷ a.others) other.world.memory other.world.steps)
        (standing other (Method begins ∷ a.others) other.world.memory later)
    pub straight : (there : AtOwn u a.in_planned.one a.f.place a.settled.point a.settled.route a.g)
        → AllByRecursion IsStraight (map (op_of there (reached u laws a) instrs items own) rest)
    pub moved : (there : AtOwn u a.in_planned.one a.f.place a.settled.point a.settled.route a.g)
        → all_moved (map (op_of there (reached u laws a) instrs items own) rest) begins ≡ Some middle

  -- the first frame goes on to the next point, and the second's items are done
  pub record GoesQuietly (t : FirstTurn u laws a) : Type 0 where
    pub falls : falls_on a.settled.point.instr ≡ true
    pub opens : is_open (state_written a.settled.route) (row_of_point (scope_in u a.in_planned.one) a.f.place a.settled.point).next ≡ true
    pub place : t.later.place ≡ a.f.place + 1
    pub leaves : leaves_to a.settled.point a.settled.route ≡ None
    pub instrs : List WInstr
    pub items : items_at (scope_in u a.in_planned.one) a.f.place a.settled.point (state_written a.settled.route) a.settled.route ≡ map item instrs
    pub own : AreOwn instrs
    pub middle : MethodState
    pub done : List WInstr
    pub rest : List WInstr
    pub parts : instrs ≡ done ++ rest
    pub quietly : IsQuietly instrs items own done rest middle
    pub gives : List Source
    pub over : (next : Point)
        → slice_get a.in_planned.one.flat.points (a.f.place + 1) ≡ Some next
        → length t.later.stack ≡ length next.typed.stack
        → MovesOver u laws a
        (record {
          by = edges.Next;
          to = a.f.place + 1;
          guard = (row_of_point (scope_in u a.in_planned.one) a.f.place a.settled.point).next;
        }) next t.virtuals gives t.later middle

  module _ (t : FirstTurn u laws a) (goes : GoesQuietly t) where
    abbrev next_row_here : RowEdge
    next_row_here = record { by = edges.Next; to = a.f.place + 1; guard = (row_of_point (scope_in u a.in_planned.one) a.f.place a.settled.point).next }

    has_next : (edge : RouteEdge)
        × (edge_by a.settled.route edges.Next ≡ Some edge)
        × IsOfRow (scope_in u a.in_planned.one) a.settled.point a.f.place (state_written a.settled.route) next_row_here edge
    has_next =
        next_edge (scope_in u a.in_planned.one) a.settled.point a.f.place (state_written a.settled.route) (of_plan u laws a).is.effect
        (of_plan u laws a).point.edges a.settled.route (effect_here u laws a) (of_plan u laws a).is.edges goes.falls goes.opens

    takes : TakesEdge u laws a t next_row_here has_next.0 goes.middle
    takes = record { found = has_next.1; of_row = has_next.2; place = goes.place; gives = goes.gives; over = goes.over }

    abbrev there : AtOwn u a.in_planned.one a.f.place a.settled.point a.settled.route a.g
    there = stands_own u laws a

    moves_made : OwnMoves u a.in_planned.one a.f.place a.settled.route
        (written_code (scope_in u a.in_planned.one) (stands_own u laws a).host u.constructor a.in_planned.one.form (blocks_in u a.in_planned.one))
        goes.quietly.begins goes.middle
    moves_made =
        own_items_behind (stands_own u laws a) (reached u laws a) goes.instrs goes.items goes.own goes.leaves goes.done goes.rest goes.parts
        goes.quietly.begins goes.middle goes.quietly.place (goes.quietly.straight (stands_own u laws a)) (goes.quietly.moved (stands_own u laws a))

    arrives_there : ArrivesAt u a.in_planned.one has_next.0
        (first_item a.in_planned.one.form (blocks_in u a.in_planned.one)
        (suc (own_number (scope_in u a.in_planned.one) a.in_planned.one.routes a.f.place a.settled.route)))
    arrives_there =
        arrives_next u laws.settle t.later a.in_planned.one a.f.place a.settled.point (target u laws a t takes).0 a.settled.route has_next.0
        (written_then u laws a t takes) (reached u laws a) has_next.1 has_next.2.by (place_then u laws a t takes) (target u laws a t takes).1

    first_quiet : (later : ℕ)
        × Quietly (second u) (standing other (Method a.g ∷ a.others) other.world.memory other.world.steps)
        (standing other (Method goes.quietly.begins ∷ a.others) other.world.memory later)
    first_quiet =
        goes.quietly.quietly (stands_own u laws a)
        (done_there (stands_own u laws a) (reached u laws a) goes.instrs goes.items goes.own goes.done goes.rest goes.parts)

    same : standing other (Method a.g ∷ a.others) other.world.memory other.world.steps ≡ other
    same = λ i. record other { world = record other.world { frames = sym (a.t.along.stands_also ∙ a.stands_also) i } }

    pub goes_quietly : KeepsTurn u measure one other
    goes_quietly =
        quiet_keeps
        (subst (λ (r : Run). Quietly (second u) r (standing other (Method goes.quietly.begins ∷ a.others) other.world.memory first_quiet.0)) same
        first_quiet.1)
        (turns_by_moves u laws.settle measure one
        (standing other (Method goes.quietly.begins ∷ a.others) other.world.memory first_quiet.0) (record {
          g = goes.quietly.begins;
          rest_also = a.others;
          stands_also = refl;
          goes_also = a.t.along.goes_also;
          code =
              written_code (scope_in u a.in_planned.one) (stands_own u laws a).host u.constructor a.in_planned.one.form
              (blocks_in u a.in_planned.one);
          is_code = ap (code_at (second u)) goes.quietly.at ∙ (stands_own u laws a).is_code;
          count = moves_made.count;
          after = moves_made.after;
          moved = moves_made.moved;
          along = λ steps.
              along_there (halfway_behind u laws a t takes moves_made.after (moves_made.method ∙ goes.quietly.at)
              (moves_made.held ∙ goes.quietly.held) moves_made.locals moves_made.stack steps) moves_made.after refl refl refl refl
              arrives_there.block arrives_there.number arrives_there.is_block arrives_there.is_told arrives_there.state
              (place_then u laws a t takes ∙ sym arrives_there.at) (moves_made.place ∙ arrives_there.begins)
              (ap (slice_get a.in_planned.one.flat.points) arrives_there.at ∙ (target u laws a t takes).1) steps;
          none_now = λ steps. refl;
          measure_then = left_over u laws a t takes;
          low = λ steps. omega arith;
          falls = λ none. falls_below u laws a t takes (let place = goes.place in omega (arith, place));
        }))
