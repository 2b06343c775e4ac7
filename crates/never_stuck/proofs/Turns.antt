use Rattle.std.specs.Prelude.{◌≡◌, ◌≢◌, ◌+◌, refl, ℕ, zero, suc, Bool, true, false, List, [], ◌∷◌, if◌then◌else◌}
use Rattle.machine_values.specs.declared.action.Action.{Action}
use Rattle.machine_values.specs.declared.event.End.TheVariants as ends
use Rattle.member_link.specs.Machine.Acting.{act, is_fault}
use Rattle.member_link.specs.Machine.Programs.{Program}
use Rattle.member_link.specs.Machine.Runs.{Run, begins_with, behind_action, at_library_turn, end_of, end_of_going, going_turn, shown_after, turn, turn_by, turns}
use Rattle.member_link.specs.Machine.Stepping.{is_library_turn, step}
use Rattle.member_link.specs.Machine.Worlds.{World, Halt, start, going, stopped, faulted, init_threw, array_too_long, stuck}

-- ---- how a run ends

going_not_stuck : (r : Run) → end_of_going r ≢ ends.Stuck
going_not_stuck r = by (is_library_turn r.world.frames) refl where
  of_actions : (actions : List Action) → is_library_turn r.world.frames ≡ true → r.actions ≡ actions → end_of_going r ≢ ends.Stuck
  of_actions [] turn e = λ is. let no : ends.Waits ≡ ends.Stuck = rw e at (rw turn at is) in absurd cc
  of_actions (action ∷ actions) turn e = λ is. let no : ends.Running ≡ ends.Stuck = rw e at (rw turn at is) in absurd cc

  by : (b : Bool) → is_library_turn r.world.frames ≡ b → end_of_going r ≢ ends.Stuck
  by true turn = of_actions r.actions turn refl
  by false turn = λ is. let no : ends.Running ≡ ends.Stuck = rw turn at is in absurd cc

end_not_stuck : (r : Run) → r.world.halt ≢ stuck → end_of r ≢ ends.Stuck
end_not_stuck r not_stuck = by r.world.halt refl where
  by : (h : Halt) → r.world.halt ≡ h → end_of r ≢ ends.Stuck
  by going e = λ is. going_not_stuck r (rw e at is)
  by stopped e = λ is. let no : ends.Stopped ≡ ends.Stuck = rw e at is in absurd cc
  by faulted e = λ is. let no : ends.LibraryFault r.used ≡ ends.Stuck = rw e at is in absurd cc
  by init_threw e = λ is. let no : ends.InitThrew ≡ ends.Stuck = rw e at is in absurd cc
  by array_too_long e = λ is. let no : ends.ArrayTooLong ≡ ends.Stuck = rw e at is in absurd cc
  by stuck e = absurd (not_stuck e)

-- ---- what each turn keeps

module _ (P : Program) (Good : World → Type 0) (steps : (w : World) → Good w → Good (step P w))
    (acts : (w : World) (action : Action) → Good w → is_library_turn w.frames ≡ true → Good (act P action w)) where
  behind_well : (r : Run) (actions : List Action) (w : World) → Good w → Good (behind_action r actions w).world
  behind_well r actions w good = by (is_fault w.halt) where
    by : (b : Bool) → Good (if b then record r { world = w } else record { world = w; actions = actions; used = r.used + 1 }).world
    by true = good
    by false = good

  library_well : (r : Run) (actions : List Action) → Good r.world → is_library_turn r.world.frames ≡ true
      → Good (at_library_turn P r actions).world
  library_well r [] good turn = good
  library_well r (action ∷ actions) good turn =
      behind_well r actions (act P action r.world) (acts r.world action good turn)

  going_well : (r : Run) → Good r.world → Good (going_turn P r).world
  going_well r good = by (is_library_turn r.world.frames) refl where
    by : (b : Bool) → is_library_turn r.world.frames ≡ b
        → Good (if b then at_library_turn P r r.actions else record r { world = step P r.world }).world
    by true turn = library_well r r.actions good turn
    by false turn = steps r.world good

  turn_well : (r : Run) → Good r.world → Good (turn P r).world
  turn_well r good = by r.world.halt where
    by : (h : Halt) → Good (turn_by P r h).world
    by going = going_well r good
    by stopped = good
    by faulted = good
    by init_threw = good
    by array_too_long = good
    by stuck = good

  turns_well : (count : ℕ) (r : Run) → Good r.world → Good (turns P count r).world
  turns_well zero r good = good
  turns_well (suc count) r good = turns_well count (turn P r) (turn_well r good)

  -- where no good world is stuck, no run is that starts with one
  pub run_not_stuck : ((w : World) → Good w → w.halt ≢ stuck) → Good start → (actions : List Action) (count : ℕ)
      → (shown_after P actions count).end ≢ ends.Stuck
  run_not_stuck not_stuck good actions count =
      let r = turns P count (begins_with actions) in
      end_not_stuck r (not_stuck r.world (turns_well count (begins_with actions) good))
