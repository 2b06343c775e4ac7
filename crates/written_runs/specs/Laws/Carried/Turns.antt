-- A turn of both where a planned frame is on top: the two runs are related behind it.
use Rattle.std.proofs.Common.{◌≡◌, ◌≢◌, ℕ, false, List, ◌∷◌, Some, Option, refl, sym, ap, subst, ◌∙◌}
use Rattle.machine_values.specs.Frames.{MethodState}
use Rattle.machine_values.specs.declared.frame.RunFrame.{RunFrame}
use Rattle.machine_values.specs.declared.frame.RunFrame.TheVariants.{Method}
use Rattle.member_link.specs.Machine.Programs.{Point as RunPoint, Program, point_at}
use Rattle.member_link.specs.Machine.Runs.{Run, turn}
use Rattle.member_link.specs.Machine.Stepping.{is_library_turn, op_step, point_step, step}
use Rattle.member_link.specs.Machine.Worlds.{World, stuck}
use Rattle.flow_code.specs.declared.point.Point.{Point}
use Rattle.plan_flow.specs.Written.WrittenPrograms.{WrittenMethod}
use Rattle.same_runs.specs.Laws.BothBegin.{counted}
use Rattle.same_runs.specs.Laws.CaughtUp.{BothTurn, turn_keeps, turned_going}
use Rattle.same_runs.specs.Laws.Compared.{seen_as}
use Rattle.same_runs.specs.SameWorlds.{Compares, SameSeen}
use Rattle.typed_runs.specs.TypedFrames.{FramesConform, nothing_awaited}
use Rattle.typed_runs.specs.TypedWorlds.{StaysTyped, TypedWorld}
use Rattle.virtual_state.specs.States.{State}
use Rattle.written_runs.specs.Inner.PlannedFrames.{Known}
use Rattle.written_runs.specs.Inner.Setup.{Setup, first, second}
use Rattle.same_runs.specs.Laws.Turns.{turn_steps}
use Rattle.written_runs.specs.Laws.BothTurns.{compared}
use Rattle.written_runs.specs.Laws.FewerVirtuals.{AllOwned, OwnedBelow, over_turn, over_turn_compares}
use Rattle.written_runs.specs.Laws.Halfway.{Halfway}
use Rattle.written_runs.specs.Laws.OwnTurns.{StillThere, TurnLaws, after_turn}
use Rattle.written_runs.specs.Inner.Standing.{comparison}
use Rattle.written_runs.specs.Laws.Simulation.{KeepsTurn}
use Rattle.written_runs.specs.Laws.StillThere.{known_still}

module _ (u : Setup) (laws : TurnLaws u) (measure : ℕ) {one other : Run} {f : MethodState} {rest : List RunFrame} {w : WrittenMethod} {known : Known}
    {point : Point} {state : State} {place : ℕ} (h : Halfway u one other f rest w known point state place) where
  abbrev P : Program
  P = first u

  abbrev Q : Program
  Q = second u

  pub compares_here : Compares (over_turn u h.virtuals known)
  compares_here = over_turn_compares u (compared u) h.virtuals known

  pub seen_here : SameSeen (over_turn u h.virtuals known) h.names one.world other.world
  seen_here =
      seen_as {c = comparison u h.virtuals known} {d = over_turn u h.virtuals known}
      (record { allocated = λ n m low. low; entered = λ n m low. low }) h.seen

  pub all_owned : AllOwned u h.virtuals (Method f ∷ rest)
  all_owned = record {
    owner = λ number virtual is.
        let was = h.owned.owner number virtual is in record { f = was.0; one = was.1; is_there = was.2; is_written = was.3 };
  }

  pub top_owned : OwnedBelow u h.virtuals (Method f ∷ rest)
  top_owned = record { owner = λ number virtual is low. all_owned.owner number virtual is }

  pub typed_here : FramesConform P u.typings one.world.memory.heap nothing_awaited (Method f ∷ rest)
  typed_here = subst (FramesConform P u.typings one.world.memory.heap nothing_awaited) h.stands h.typed.frames

  no_turn : is_library_turn one.world.frames ≡ false
  no_turn = ap is_library_turn h.stands

  stepped : (world : World) → turn P one ≡ record one { world = world } → step P one.world ≡ world
  stepped world led = ap (λ (r : Run). r.world) (sym (turn_steps P one h.goes no_turn) ∙ led)

  stays : StaysTyped P u.typings one.world (step P one.world)
  stays = laws.steps_typed one.world h.typed

  -- the turn of the first's operation
  pub turned_here : (at_point : RunPoint) → point_at P f.at f.place ≡ Some at_point
      → turn P one ≡ record one { world = op_step P (counted one) f rest at_point.op }
  turned_here at_point is =
      turned_going P one (Method f ∷ rest) h.goes h.stands refl
      ∙ ap (λ (found : Option RunPoint). record one { world = point_step P (counted one) f rest found }) is

  pub turned_also : (at_point : RunPoint) → point_at Q h.g.at h.g.place ≡ Some at_point
      → turn Q other ≡ record other { world = op_step Q (counted other) h.g h.rest_also at_point.op }
  turned_also at_point is =
      turned_going Q other (Method h.g ∷ h.rest_also) h.goes_also h.stands_also refl
      ∙ ap (λ (found : Option RunPoint). record other { world = point_step Q (counted other) h.g h.rest_also found }) is

  pub not_stuck_here : (world : World) → turn P one ≡ record one { world = world } → world.halt ≢ stuck
  not_stuck_here world led is_stuck =
      stays.not_stuck (λ is_stuck_before. absurd (cc (sym h.goes ∙ is_stuck_before)))
      (ap (λ (found : World). found.halt) (stepped world led) ∙ is_stuck)

  pub typed_then : (world : World) → turn P one ≡ record one { world = world } → TypedWorld P u.typings world
  typed_then world led = subst (TypedWorld P u.typings) (stepped world led) stays.typed

  still_there : StillThere h.virtuals known (step P one.world)
  still_there =
      let kept = laws.keeps one.world h.typed h.goes no_turn in
      record {
        are_apart = h.are_apart;
        are_known = known_still kept.shapes h.are_known;
        begun = λ number class virtual there shape. kept.begun class (h.owned.begun number class virtual there shape);
      }

  -- A turn of both keeps the runs related.
  pub keeps_both : BothTurn P Q (over_turn u h.virtuals known) h.names one other → KeepsTurn u measure one other
  keeps_both both =
      let led = stepped both.first both.turned in
      let then = after_turn u laws (record one { world = both.first }) (record other { world = both.second })
      (subst (StillThere h.virtuals known) led still_there) both.after (subst (TypedWorld P u.typings) led stays.typed) h.actions h.used in
      turn_keeps measure then.0 both then.1
