-- Behind a step of both or an action: where the second still has to begin a class that the first has begun before, its beginning goes by in
-- quiet turns, and worlds are the same then.
use Rattle.std.proofs.Common.{◌≡◌, ◌≢◌, ℕ, List, [], ◌∷◌, Option, refl, sym, subst}
use Rattle.machine_values.specs.declared.action.Action.{Action}
use Rattle.machine_values.specs.declared.frame.RunFrame.{RunFrame}
use Rattle.machine_values.specs.declared.frame.RunFrame.TheVariants.{Library}
use Rattle.member_link.specs.Machine.Acting.{act}
use Rattle.member_link.specs.Machine.Programs.{Program}
use Rattle.member_link.specs.Machine.Runs.{Run}
use Rattle.member_link.specs.Machine.Worlds.{World, going}
use Rattle.same_runs.specs.Renamings.{Names, NamesMore}
use Rattle.same_runs.specs.SameMemories.{SameMemories}
use Rattle.same_runs.specs.SamePrograms.{SamePrograms}
use Rattle.same_runs.specs.SameWorlds.{AtLibrary, Comparison, Compares, SameAfter, SameSeen, both_go, both_landed, both_over, second_begins}
use Rattle.same_runs.specs.Simulations.{Quietly, at_once}
use Rattle.same_runs.specs.Laws.Acted.{act_same}
use Rattle.same_runs.specs.Laws.Names.{more_and_more}
use Rattle.same_runs.specs.Laws.QuietBeginnings.{BeginAlike, CaughtUp, second_catches_up, standing}

-- The same worlds, where the second has nothing to catch up with.
pub data SameSettled (P : Program) (c : Comparison) (names : Names) (one other : World) : Type 0 where
  settled_going : (more : Names)
      → NamesMore names more
      → c.frames more one.frames other.frames
      → SameMemories P c.allocated c.entered c.apart more [] one.memory other.memory
      → SameSeen c more one other
      → one.halt ≡ going
      → other.halt ≡ going
      → SameSettled P c names one other
  settled_landed : (more : Names)
      → NamesMore names more
      → c.lands more one.frames other.frames
      → SameMemories P c.allocated c.entered c.apart more [] one.memory other.memory
      → SameSeen c more one other
      → one.halt ≡ going
      → other.halt ≡ going
      → SameSettled P c names one other
  settled_over : (more : Names)
      → SameSeen c more one other
      → one.halt ≢ going
      → other.halt ≡ one.halt
      → SameSettled P c names one other

-- The second goes on quietly to a run whose world is the same as the first's. No action is taken on the way.
pub record SettlesTo (P Q : Program) (c : Comparison) (names : Names) (one : World) (other : Run) : Type 0 where
  pub waits : Run
  pub quietly : Quietly Q other waits
  pub same : SameSettled P c names one waits.world
  pub actions : waits.actions ≡ other.actions
  pub used : waits.used ≡ other.used

-- Where worlds are the same after a step or an action, the second settles.
pub settles :
    {P Q : Program} {c : Comparison} {names : Names} {one : World} {other : Run}
    → SamePrograms P Q
    → BeginAlike P Q
    → Compares c
    → SameAfter P c names one other.world
    → SettlesTo P Q c names one other
settles {other = other} same alike compares (both_go more grows frames memories seen goes goes_also) = record {
  waits = other;
  quietly = at_once;
  same = settled_going more grows frames memories seen goes goes_also;
  actions = refl;
  used = refl;
}
settles {other = other} same alike compares (both_landed more grows lands memories seen goes goes_also) = record {
  waits = other;
  quietly = at_once;
  same = settled_landed more grows lands memories seen goes goes_also;
  actions = refl;
  used = refl;
}
settles {other = other} same alike compares (both_over more seen over halts) = record {
  waits = other;
  quietly = at_once;
  same = settled_over more seen over halts;
  actions = refl;
  used = refl;
}
settles {P = P} {Q = Q} {c = c} {one = one} {other = other} same alike compares
    (second_begins more class rest grows is no_turn quiet frames memories seen goes goes_also) = record {
      waits = standing other rest caught.by.after caught.by.steps;
      quietly = caught.by.quietly;
      same = settled_going caught.by.more (more_and_more grows caught.by.grows) caught.frames caught.by.memories caught.seen goes
          goes_also;
      actions = refl;
      used = refl;
    } where
      caught : CaughtUp P Q c more one other rest
      caught = second_catches_up class rest same alike compares goes_also is no_turn quiet frames memories seen

-- So behind an action of the library, which may need a class in the second that only the first has begun.
pub act_settles :
    {P Q : Program} {c : Comparison} {names : Names} {first second : World} {made made_also : Option ℕ} {rest rest_also : List RunFrame}
    → SamePrograms P Q
    → BeginAlike P Q
    → Compares c
    → SameMemories P c.allocated c.entered c.apart names [] first.memory second.memory
    → SameSeen c names first second
    → first.halt ≡ going
    → second.halt ≡ going
    → first.frames ≡ Library made ∷ rest
    → second.frames ≡ Library made_also ∷ rest_also
    → AtLibrary P Q c names made made_also rest rest_also
    → (action : Action) (other : Run)
    → other.world ≡ act Q action second
    → SettlesTo P Q c names (act P action first) other
act_settles {P = P} {c = c} {names = names} {first = first} same alike compares memories seen goes goes_also is is_also at action other acted =
    settles same alike compares
    (subst (SameAfter P c names (act P action first)) (sym acted)
    (act_same same compares memories seen goes goes_also is is_also at action))
