-- A jump of a planned frame, by one edge: both frames arrive at the edge's target, less the operands of the jump.
use Rattle.std.proofs.Common.{◌≡◌, ◌≤◌, ◌+◌, ◌-◌, ℕ, suc, List, [], ◌∷◌, drop, length, reverse, take, Some, refl, sym, ap, subst, ◌∙◌, arith}
use Rattle.std.proofs.lemmas.List.{append-nil, length-drop, length-map, length-reverse, length-take-le}
use Rattle.std.proofs.lemmas.Option.{none-some}
use Rattle.flow_code.specs.ReadTypes.{read_type}
use Rattle.flow_code.specs.declared.point.Point.{Point}
use Rattle.machine_values.specs.Frames.{MethodState}
use Rattle.machine_values.specs.declared.frame.RunFrame.{RunFrame}
use Rattle.machine_values.specs.declared.frame.RunFrame.TheVariants.{Method}
use Rattle.member_link.specs.Machine.Codes.{number_at, run_point}
use Rattle.member_link.specs.Machine.Programs.{Code, Point as RunPoint, Program, point_at}
use Rattle.member_link.specs.Machine.Runs.{Run, turn}
use Rattle.member_link.specs.Machine.Stepping.{op_step, with_top}
use Rattle.member_link.specs.Machine.Worlds.{World, stuck}
use Rattle.member_link.specs.Scope.{scope_at}
use Rattle.plan_flow.specs.Laws.WrittenBlocks.{first_item}
use Rattle.plan_flow.specs.PlanRows.{RowEdge}
use Rattle.plan_flow.specs.PlanScope.{PlanScope}
use Rattle.plan_flow.specs.Written.Blocks.{state_written}
use Rattle.plan_flow.specs.Written.WrittenCode.{written_code}
use Rattle.plan_flow.specs.Written.WrittenPrograms.{WrittenMethod}
use Rattle.same_runs.specs.Flats.{flat_point, flat_points}
use Rattle.same_runs.specs.Laws.BothBegin.{counted}
use Rattle.same_runs.specs.Laws.Names.{names_themselves}
use Rattle.same_runs.specs.QuietMoves.{moves}
use Rattle.same_runs.specs.Renamings.{no_values}
use Rattle.virtual_state.specs.States.{State}
use Rattle.written_runs.specs.Inner.PlannedFrames.{KeepStack, Known, blocks_in, scope_in}
use Rattle.written_runs.specs.Inner.Setup.{Setup, first}
use Rattle.written_runs.specs.Inner.Waiting.{LeavesLocals}
use Rattle.written_runs.specs.Laws.Carried.Behind.{MovesAlong}
use Rattle.written_runs.specs.Laws.Carried.EdgeBlocks.{EdgeBlock}
use Rattle.written_runs.specs.Laws.Carried.Knowing.{CarriedLaws, facts_of}
use Rattle.written_runs.specs.Laws.Carried.Landing.{own_there, planned_along, usable_along}
use Rattle.written_runs.specs.Laws.Carried.MovesOn.{moves_on}
use Rattle.written_runs.specs.Laws.Carried.Operands.{AreReal, HaveOperands, have_operands}
use Rattle.written_runs.specs.Laws.Carried.PlannedEdges.{EdgeThere, slots_long}
use Rattle.written_runs.specs.Laws.Carried.Points.{first_point_is}
use Rattle.written_runs.specs.Laws.Carried.Slots.{lowest_left}
use Rattle.written_runs.specs.Laws.Carried.Standing.{AtOwn}
use Rattle.written_runs.specs.Laws.Carried.Turns.{all_owned, not_stuck_here, turned_here}
use Rattle.written_runs.specs.Laws.Carried.Waiting.{AtCarried, instruction_of}
use Rattle.written_runs.specs.Laws.Carried.Works.{values_conform}
use Rattle.written_runs.specs.Laws.FewerVirtuals.{AllOwned}
use Rattle.written_runs.specs.Laws.Halfway.{Halfway}
use Rattle.written_runs.specs.Laws.Settling.{SettleLaws}
use Rattle.written_runs.specs.Laws.Simulation.{KeepsTurn}
use Rattle.written_runs.specs.Laws.Turned.{turns_by_moves}
use Rattle.written_runs.specs.VirtualObjects.{stack_slots}

module _ (u : Setup) (laws : CarriedLaws u) (measure : ℕ) {one other : Run} {f : MethodState} {rest : List RunFrame} {w : WrittenMethod} {known : Known}
    {at_point : Point} {state : State} {place : ℕ} (h : Halfway u one other f rest w known at_point state place)
    (c : AtCarried u h.virtuals known h.names (length rest) f h.g) where
  abbrev P : Program
  P = first u

  abbrev s : PlanScope
  s = scope_in u c.w

  abbrev settle : SettleLaws u
  settle = laws.turns.settle

  abbrev before : State
  before = state_written c.route

  owned_here : AllOwned u h.virtuals (Method f ∷ rest)
  owned_here = all_owned u laws.turns measure h

  pub own_here : AtOwn u c.w f.place c.point c.route h.g
  own_here = own_there u (facts_of laws) (instruction_of c) owned_here h.below

  abbrev pub code_here : Code
  code_here = written_code s own_here.host u.constructor c.w.form (blocks_in u c.w)

  -- ---- the operation of the first

  abbrev pub number_here : ℕ → ℕ
  number_here = number_at (flat_points u.classes own_here.host c.w.flat)

  abbrev pub point_here : RunPoint
  point_here = run_point u.links number_here (flat_point u.classes own_here.host c.w.flat (0 + f.place) c.point)

  point_is : point_at P f.at f.place ≡ Some point_here
  point_is =
      first_point_is u c.w own_here.host f c.point
      (laws.flat_code f.at c.w own_here.host (ap u.written c.at ∙ c.is_written) (ap (scope_at u.classes) c.at ∙ own_here.is_host))
      c.of_instruction.reached.is_point

  pub turned_so : (then : MethodState)
      → op_step P (counted one) f rest point_here.op ≡ with_top (counted one) rest then
      → turn P one ≡ record one { world = with_top (counted one) rest then }
  turned_so then is = turned_here u laws.turns measure h point_here point_is ∙ ap (λ (world : World). record one { world = world }) is

  pub not_stuck_so : (now : World) → op_step P (counted one) f rest point_here.op ≡ now → now.halt ≡ stuck → ⊥
  not_stuck_so now steps is_stuck =
      not_stuck_here u laws.turns measure h (op_step P (counted one) f rest point_here.op)
      (turned_here u laws.turns measure h point_here point_is) (ap (λ (world : World). world.halt) steps ∙ is_stuck)

  -- ---- operands

  pub many_here : length f.stack ≡ length c.point.typed.stack
  many_here =
      let conforms = laws.conforms one.world f rest c.w c.point h.typed h.stands (ap u.written c.at ∙ c.is_written) c.of_instruction.reached.is_point in
      sym (length-reverse f.stack) ∙ values_conform conforms.stack ∙ length-map c.point.typed.stack (read_type c.w.flat)

  pub all_slots : length before.slots ≡ length c.point.typed.locals + length c.point.typed.stack
  all_slots = slots_long u settle c.w h.g.at c.is_written (laws.rows_fit h.g.at c.w c.is_written) c.of_instruction.reached

  many_entries : length (stack_slots c.point before) ≡ length f.stack
  many_entries =
      let all = all_slots in
      let cut = length-drop (length c.point.typed.locals) before.slots in
      let many = many_here in
      omega (arith, all, cut, many)

  module _ (taken : ℕ) (enough : taken ≤ length f.stack) (real : AreReal (drop (length f.stack - taken) (stack_slots c.point before))) where
    pub have_here : HaveOperands h.names (stack_slots c.point before) taken f.stack h.g.stack
    have_here = have_operands h.names (stack_slots c.point before) taken f.stack h.g.stack many_entries enough real c.keeps.stack

    -- ---- an edge

    abbrev pub then_at : ℕ → MethodState
    then_at to = record f { place = to; stack = drop taken f.stack }

    abbrev pub also_at : ℕ → MethodState
    also_at to = record h.g { place = to; stack = drop taken h.g.stack }

    module _ {row : RowEdge} (edge : EdgeThere s f.place c.point c.route row) (leaves : LeavesLocals s f.place c.point before row taken []) (to_item : ℕ) where
      along : MovesAlong s f.place c.point edge.target before row h.names taken [] f h.g (then_at row.to) (also_at to_item)
      along = record {
        long =
            let all = many_here in
            let back = length-reverse f.stack in
            length-take-le (length c.point.typed.stack - taken) (reverse f.stack) (omega (arith, all, back));
        locals = refl;
        locals_also = refl;
        ones = [];
        others = [];
        lower = reverse (drop taken h.g.stack);
        same = no_values;
        stack =
            lowest_left taken f.stack enough
            ∙ ap (λ (n : ℕ). take (n - taken) (reverse f.stack)) many_here
            ∙ sym (append-nil (take (length c.point.typed.stack - taken) (reverse f.stack)));
        stack_also = sym (append-nil (reverse (drop taken h.g.stack)));
        usable = usable_along u (facts_of laws) (instruction_of c) owned_here h.below edge leaves.locals;
        uninit = edge.keeps;
        uninit_given = λ count type source value told kept site got. absurd (none-some source told);
      }

      -- behind so many moves of the second
      pub moves_edge : (block : EdgeBlock u c.w row.to edge.of_row.edge)
          → to_item ≡ first_item c.w.form (blocks_in u c.w) block.number
          → op_step P (counted one) f rest point_here.op ≡ with_top (counted one) rest (then_at row.to)
          → (count : ℕ)
          → moves code_here (suc count) h.g ≡ Some (also_at to_item)
          → KeepsTurn u measure one other
      unfolding along
      moves_edge block at_block steps count moved =
          turns_by_moves u settle measure one other
          (moves_on u laws.turns measure h (then_at row.to) (also_at to_item) edge.of_row.edge.state
          (planned_along u (facts_of laws) {known = known} (instruction_of c) owned_here h.below edge taken [] leaves (then_at row.to) (also_at to_item) along
          refl refl refl refl refl block at_block (names_themselves h.names)
          (subst (λ (n : ℕ). KeepStack h.names (take (n - taken) (stack_slots c.point before)) (take (n - taken) (reverse f.stack))
          (reverse (drop taken h.g.stack))) many_here have_here.lower)) refl refl
          (turned_so (then_at row.to) steps) code_here (suc count) own_here.is_code moved (λ none. absurd (omega (arith, none))))
