-- Moves on plain operands, in a planned frame: both frames go on at the next point, the second by the same operation.
use Rattle.std.proofs.Common.{◌≡◌, ◌≤◌, ◌+◌, ◌-◌, ◌++◌, ℕ, suc, List, drop, length, reverse, slice_get, take, Option, Some, IsTrue, option_and_then, refl, sym, ap, subst, ◌∙◌, arith}
use Rattle.std.proofs.lemmas.List.{length-reverse, length-take-le, reverse-append, reverse-reverse}
use Rattle.class_model.specs.declared.frame.VType.{VType}
use Rattle.flow_code.specs.ReadTypes.{is_site_object}
use Rattle.flow_code.specs.declared.point.Point.{Point}
use Rattle.machine_values.specs.Frames.{MethodState}
use Rattle.machine_values.specs.declared.frame.RunFrame.{RunFrame}
use Rattle.machine_values.specs.declared.value.Value.{Value}
use Rattle.machine_values.specs.declared.value.Value.TheVariants.{Ref}
use Rattle.member_link.specs.Machine.Performing.{resumed}
use Rattle.member_link.specs.Machine.Programs.{Code, Point as RunPoint, Program}
use Rattle.member_link.specs.Machine.Runs.{Run, turn}
use Rattle.member_link.specs.Machine.Stepping.{op_step, with_top}
use Rattle.member_link.specs.Machine.Worlds.{World}
use Rattle.plan_flow.specs.Laws.WrittenBlocks.{first_item, own_number}
use Rattle.plan_flow.specs.Must.{row_of_point}
use Rattle.plan_flow.specs.PlanRows.{PlanRow, RowEdge, Source}
use Rattle.plan_flow.specs.PlanScope.{PlanScope}
use Rattle.plan_flow.specs.PlanSlots.{is_open}
use Rattle.plan_flow.specs.ReadyForPlans.{KeepsType, place_types}
use Rattle.plan_flow.specs.Written.Blocks.{state_written}
use Rattle.plan_flow.specs.Written.WrittenCode.{written_code}
use Rattle.plan_flow.specs.Written.WrittenPrograms.{WrittenMethod}
use Rattle.plan_flow.specs.declared.edge.EdgeKind.TheVariants as edges
use Rattle.same_runs.specs.Laws.BothBegin.{counted}
use Rattle.same_runs.specs.Laws.CaughtUp.{less}
use Rattle.same_runs.specs.Laws.Names.{names_themselves}
use Rattle.same_runs.specs.QuietMoves.{moved_at, moved_by, moves}
use Rattle.same_runs.specs.Renamings.{SameValues}
use Rattle.virtual_state.specs.States.{State}
use Rattle.written_runs.specs.Inner.PlannedFrames.{KeepStack, Known, blocks_in, scope_in}
use Rattle.written_runs.specs.Inner.Setup.{Setup, first, second}
use Rattle.written_runs.specs.Inner.Waiting.{IsNoJump, LeavesLocals}
use Rattle.written_runs.specs.Laws.Carried.Behind.{MovesAlong}
use Rattle.written_runs.specs.Laws.Carried.EdgeBlocks.{EdgeBlock, next_block_at}
use Rattle.written_runs.specs.Laws.Carried.Knowing.{CarriedLaws, facts_of}
use Rattle.written_runs.specs.Laws.Carried.Landing.{planned_along, usable_along}
use Rattle.written_runs.specs.Laws.Carried.MovesOn.{moves_on}
use Rattle.written_runs.specs.Laws.Carried.Operands.{AreReal, HaveOperands, have_operands}
use Rattle.written_runs.specs.Laws.Carried.PlannedEdges.{EdgeThere, next_there}
use Rattle.written_runs.specs.Laws.Carried.Points.{next_place}
use Rattle.written_runs.specs.Laws.Carried.Rows.{PlainRow, leaves_of}
use Rattle.written_runs.specs.Laws.Carried.Slots.{lowest_left}
use Rattle.written_runs.specs.Laws.Carried.Turns.{turned_here}
use Rattle.written_runs.specs.Laws.Carried.Waiting.{AtCarried, instruction_of}
use Rattle.written_runs.specs.Laws.Carried.Works.{at_first, at_first_is, at_second, at_second_is, many_slots, many_stack, op, own, owned}
use Rattle.written_runs.specs.Laws.Halfway.{Halfway}
use Rattle.written_runs.specs.Laws.Settling.{SettleLaws}
use Rattle.written_runs.specs.Laws.Simulation.{KeepsTurn}
use Rattle.written_runs.specs.Laws.Turned.{turns_by_moves}
use Rattle.written_runs.specs.VirtualObjects.{stack_slots}

module _ (u : Setup) (laws : CarriedLaws u) (measure : ℕ) {one other : Run} {f : MethodState} {rest : List RunFrame} {w : WrittenMethod} {known : Known}
    {at_point : Point} {state : State} {place : ℕ} (h : Halfway u one other f rest w known at_point state place)
    (c : AtCarried u h.virtuals known h.names (length rest) f h.g) (no_jump : IsNoJump c.carried.instr) where
  abbrev P : Program
  P = first u

  abbrev Q : Program
  Q = second u

  abbrev s : PlanScope
  s = scope_in u c.w

  abbrev settle : SettleLaws u
  settle = laws.turns.settle

  abbrev before : State
  before = state_written c.route

  abbrev code : Code
  code = written_code s (own u laws measure h c no_jump).host u.constructor c.w.form (blocks_in u c.w)

  many : length f.stack ≡ length c.point.typed.stack
  many = many_stack u laws measure h c no_jump

  -- the turn of the first, by what its operation does
  pub turned_to : (then : MethodState)
      → op_step P (counted one) f rest (op u laws measure h c no_jump) ≡ with_top (counted one) rest then
      → turn P one ≡ record one { world = with_top (counted one) rest then }
  turned_to then is =
      turned_here u laws.turns measure h (at_first u laws measure h c no_jump) (at_first_is u laws measure h c no_jump)
      ∙ ap (λ (world : World). record one { world = world }) is

  -- the move of the second
  pub moved_to : (also : MethodState) → moved_by h.g (op u laws measure h c no_jump) ≡ Some also → moves code 1 h.g ≡ Some also
  moved_to also is =
      ap (λ (found : Option RunPoint). option_and_then (moves code 0) (moved_at h.g found)) there
      ∙ ap (option_and_then (moves code 0)) is where
        there : slice_get code.points h.g.place ≡ Some (at_second u laws measure h c no_jump)
        there =
            sym (ap (λ (found : Option Code). option_and_then (λ (one_code : Code). slice_get one_code.points h.g.place) found)
            (own u laws measure h c no_jump).is_code)
            ∙ at_second_is u laws measure h c no_jump

  module _ (taken : ℕ) (given : List Source) (row : PlainRow s f.place c.point before taken given) (ones others : List Value)
      (enough : taken ≤ length f.stack) (real : AreReal (drop (length f.stack - taken) (stack_slots c.point before)))
      (same : SameValues h.names ones others)
      (uninit : (number : ℕ) (type : VType) (source : Source) (value : Value)
      → slice_get given number ≡ Some source
      → KeepsType f.place (place_types c.point.typed) type source
      → IsTrue (is_site_object s.flat type)
      → slice_get ones number ≡ Some value
      → (reference : ℕ) × (value ≡ Ref reference))
      (steps : op_step P (counted one) f rest (op u laws measure h c no_jump) ≡ with_top (counted one) rest (resumed (less taken f) ones))
      (moved : moved_by h.g (op u laws measure h c no_jump) ≡ Some (resumed (less taken h.g) others)) where
    have : HaveOperands h.names (stack_slots c.point before) taken f.stack h.g.stack
    have = have_operands h.names (stack_slots c.point before) taken f.stack h.g.stack (many_slots u laws measure h c no_jump) enough real c.keeps.stack

    abbrev edge_row : RowEdge
    edge_row = record { by = edges.Next; to = f.place + 1; guard = (row_of_point s f.place c.point).next }

    edge : EdgeThere s f.place c.point c.route edge_row
    edge =
        next_there u settle c.w h.g.at c.is_written (laws.rows_fit h.g.at c.w c.is_written) c.of_instruction.reached row.falls
        (ap (λ (r : PlanRow). is_open before r.next) row.is_row ∙ row.opens)

    leaves : LeavesLocals s f.place c.point before edge_row taken given
    leaves = leaves_of row (let all = many in let few = enough in omega (arith, all, few))

    along : MovesAlong s f.place c.point edge.target before edge_row h.names taken given f h.g (resumed (less taken f) ones) (resumed (less taken h.g) others)
    along = record {
      long =
          let all = many in
          let back = length-reverse f.stack in
          length-take-le (length c.point.typed.stack - taken) (reverse f.stack) (omega (arith, all, back));
      locals = refl;
      locals_also = refl;
      ones = ones;
      others = others;
      lower = reverse (drop taken h.g.stack);
      same = same;
      stack =
          reverse-append (reverse ones) (drop taken f.stack)
          ∙ ap (λ (values : List Value). reverse (drop taken f.stack) ++ values) (reverse-reverse ones)
          ∙ ap (λ (values : List Value). values ++ ones) (lowest_left taken f.stack enough)
          ∙ ap (λ (n : ℕ). take (n - taken) (reverse f.stack) ++ ones) many;
      stack_also =
          reverse-append (reverse others) (drop taken h.g.stack)
          ∙ ap (λ (values : List Value). reverse (drop taken h.g.stack) ++ values) (reverse-reverse others);
      usable = usable_along u (facts_of laws) (instruction_of c) (owned u laws measure h c no_jump) h.below edge leaves.locals;
      uninit = edge.keeps;
      uninit_given = uninit;
    }

    block : (block : EdgeBlock u c.w (f.place + 1) edge.of_row.edge)
        × (first_item c.w.form (blocks_in u c.w) (suc (own_number s c.w.routes f.place c.route)) ≡ first_item c.w.form (blocks_in u c.w) block.number)
    block =
        next_block_at u settle (resumed (less taken f) ones) (ap u.written c.at ∙ c.is_written) edges.Next c.of_instruction.reached edge.of_row.found
        edge.of_row.is.to edge.is_target refl edge.of_row.is.by

    -- behind one move of both
    pub moves_next : KeepsTurn u measure one other
    unfolding along
    moves_next =
        turns_by_moves u settle measure one other
        (moves_on u laws.turns measure h (resumed (less taken f) ones) (resumed (less taken h.g) others) edge.of_row.edge.state
        (planned_along u (facts_of laws) {known = known} (instruction_of c) (owned u laws measure h c no_jump) h.below edge taken given leaves
        (resumed (less taken f) ones) (resumed (less taken h.g) others) along refl refl refl refl refl block.0
        (ap (λ (n : ℕ). n + 1) (own u laws measure h c no_jump).place
        ∙ sym (next_place u c.w f.place c.point c.route c.of_instruction.reached c.carried no_jump) ∙ block.1)
        (names_themselves h.names)
        (subst (λ (n : ℕ). KeepStack h.names (take (n - taken) (stack_slots c.point before)) (take (n - taken) (reverse f.stack))
        (reverse (drop taken h.g.stack))) many have.lower)) refl refl
        (turned_to (resumed (less taken f) ones) steps) code 1 (own u laws measure h c no_jump).is_code
        (moved_to (resumed (less taken h.g) others) moved) (λ none. absurd (omega (arith, none))))
