-- nop: both frames go on.
use Rattle.std.proofs.Common.{◌≡◌, ◌-◌, ℕ, [], length, refl, ap, arith}
use Rattle.std.proofs.lemmas.Option.{none-some}
use Rattle.class_model.specs.declared.instr.Instr.TheVariants.{Nop}
use Rattle.flow_code.specs.declared.point.FlatInstr.{FlatInstr}
use Rattle.flow_code.specs.declared.point.FlatInstr.TheVariants.{Of}
use Rattle.flow_code.specs.declared.point.Point.{Point}
use Rattle.member_link.specs.Machine.Programs.{Program}
use Rattle.member_link.specs.Machine.Runs.{Run}
use Rattle.member_link.specs.Machine.Stepping.{op_step}
use Rattle.plan_flow.specs.PlanScope.{PlanScope}
use Rattle.plan_flow.specs.PlanTable.{falls_on, moving, row_at}
use Rattle.plan_flow.specs.Written.Blocks.{state_written}
use Rattle.same_runs.specs.Laws.BothBegin.{counted}
use Rattle.same_runs.specs.QuietMoves.{moved_by}
use Rattle.same_runs.specs.Renamings.{no_values}
use Rattle.virtual_state.specs.States.{State}
use Rattle.written_runs.specs.Inner.PlannedFrames.{scope_in}
use Rattle.written_runs.specs.Inner.Setup.{Setup, first}
use Rattle.written_runs.specs.Laws.Carried.Knowing.{CarriedLaws}
use Rattle.written_runs.specs.Laws.Carried.MoveTurns.{moves_next}
use Rattle.written_runs.specs.Laws.Carried.Planned.{carried_here, known_here, knowing_here, own_start}
use Rattle.written_runs.specs.Laws.Carried.Rows.{PlainRow}
use Rattle.written_runs.specs.Laws.Carried.Waiting.{AtCarried}
use Rattle.written_runs.specs.Laws.Carried.Works.{many_slots}
use Rattle.written_runs.specs.Laws.Halfway.{Halfway}
use Rattle.written_runs.specs.Laws.PlannedTurns.{AtPlanned}
use Rattle.written_runs.specs.Laws.Settling.{SettleLaws}
use Rattle.written_runs.specs.Laws.Simulation.{KeepsTurn}
use Rattle.written_runs.specs.VirtualObjects.{stack_slots}
use Rattle.written_runs.specs.Laws.Carried.CarriedOps.{OpOf, no_real}

module _ (u : Setup) (laws : CarriedLaws u) {measure : ℕ} {one other : Run} (a : AtPlanned u measure one other) (class : ℕ)
    (is : a.settled.point.instr ≡ Of class Nop) where
  abbrev P : Program
  P = first u

  abbrev settle : SettleLaws u
  settle = laws.turns.settle

  abbrev s : PlanScope
  s = scope_in u a.in_planned.one

  abbrev point : Point
  point = a.settled.point

  abbrev before : State
  before = state_written a.settled.route

  abbrev h : Halfway u one other a.f a.ones a.in_planned.one (known_here u settle a) point before (own_start u a.in_planned.one a.f.place a.settled.route)
  h = knowing_here u settle a

  abbrev c : AtCarried u h.virtuals (known_here u settle a) h.names (length a.ones) a.f h.g
  c = carried_here u settle a class Nop is refl

  row : PlainRow s a.f.place point before 0 []
  row = record {
    row = moving point.typed 0 [];
    is_row = ap (row_at s a.f.place point.typed) is;
    locals = refl;
    stack = refl;
    plain = refl;
    unchanged = refl;
    opens = refl;
    falls = ap falls_on is;
  }

  pub nop_turn : KeepsTurn u measure one other
  nop_turn =
      moves_next u laws measure h c tt 0 [] row [] [] (omega arith)
      (no_real (stack_slots point before) (length a.f.stack - 0) (let all = many_slots u laws measure h c tt in omega (arith, all)))
      no_values (λ number type source value there kept is_site got. absurd (none-some source there))
      (ap (λ (i : FlatInstr). op_step P (counted one) a.f a.ones (OpOf u laws a class Nop is refl tt i)) is)
      (ap (λ (i : FlatInstr). moved_by h.g (OpOf u laws a class Nop is refl tt i)) is)
