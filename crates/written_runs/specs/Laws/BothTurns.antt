-- How runs that go together do behind a turn of both: the second goes on quietly to where they go together again, or both are over.
use Rattle.std.proofs.Common.{◌≡◌, ◌≤◌, ◌+◌, ℕ, Bool, false, List, [], Some, IsTrue, refl, subst, ◌∙◌, arith, inr}
use Rattle.class_model.specs.declared.class_file.MethodAt.{MethodAt}
use Rattle.machine_values.specs.Frames.{MethodState}
use Rattle.machine_values.specs.declared.frame.RunFrame.{RunFrame}
use Rattle.member_link.specs.Machine.Beginnings.{initialiser_of}
use Rattle.member_link.specs.Machine.Performing.{is_initialiser}
use Rattle.member_link.specs.Machine.Programs.{Program, RunMethod, run_method}
use Rattle.member_link.specs.Machine.Runs.{Run, turn}
use Rattle.member_link.specs.Machine.Stepping.{is_library_turn, step}
use Rattle.member_link.specs.Machine.Worlds.{World, going}
use Rattle.same_runs.specs.Laws.BothTurns.{BehindBoth, behind_both, both_are_over, both_go_on}
use Rattle.same_runs.specs.Laws.CaughtUp.{BothTurn, turn_keeps}
use Rattle.same_runs.specs.Laws.Names.{held_more, units_more}
use Rattle.same_runs.specs.Laws.QuietBeginnings.{BeginAlike}
use Rattle.same_runs.specs.Laws.Turns.{turn_is_step}
use Rattle.same_runs.specs.Renamings.{Names, NamesMore}
use Rattle.same_runs.specs.SameMemories.{SameMemories}
use Rattle.same_runs.specs.SamePrograms.{SamePrograms}
use Rattle.same_runs.specs.SameWorlds.{Compares, SameAfter, SameSeen}
use Rattle.typed_runs.specs.TypedWorlds.{StaysTyped, TypedWorld}
use Rattle.written_runs.specs.Inner.PlannedFrames.{Known}
use Rattle.written_runs.specs.Laws.Settling.{SettleLaws, settles as planned_settles}
use Rattle.written_runs.specs.Inner.Setup.{Setup, first, second}
use Rattle.written_runs.specs.Laws.MethodsBegin.{RunsOwnCodes}
use Rattle.written_runs.specs.Laws.Simulation.{KeepsTurn, quietly_related}
use Rattle.written_runs.specs.Inner.Standing.{IsFresh, SameTop, Stands, apart, begins_class, begins_fresh, comparison, stands}
use Rattle.written_runs.specs.Laws.StandingMore.{stands_more}
use Rattle.written_runs.specs.Inner.Together.{Along, AreKnown, AreOwned, Related, points_left, weight}
use Rattle.written_runs.specs.VirtualObjects.{AreApart, Virtuals}

-- what other parts of the proof give
pub record Basis (u : Setup) : Type 0 where
  pub settle : SettleLaws u
  pub same : SamePrograms (first u) (second u)
  pub alike : BeginAlike (first u) (second u)
  pub steps_typed : (w : World) → TypedWorld (first u) u.typings w → StaysTyped (first u) u.typings w (step (first u) w)
  pub codes : RunsOwnCodes u
  -- what a class begins with is a class initialiser
  pub initialisers : (class : ℕ) (at : MethodAt) (method : RunMethod)
      → initialiser_of (first u) class ≡ Some at
      → run_method (first u) at ≡ Some method
      → IsTrue (is_initialiser method)
  -- frames of rewritten methods that begin stand at their first points
  pub fresh_stands : (virtuals : Virtuals) (known : Known) (names : Names) (w : World) (others : List RunFrame)
      → TypedWorld (first u) u.typings w
      → SameTop u virtuals known names w.frames others
      → Stands u virtuals known false names w.frames others

-- ---- how runs are compared

-- frames that go together do so under more names
pub names_more : {u : Setup} {virtuals : Virtuals} {known : Known} {names more : Names} {ones others : List RunFrame} {waiting : Bool}
    → NamesMore names more
    → Stands u virtuals known waiting names ones others
    → Stands u virtuals known waiting more ones others
names_more grows below =
    stands_more (λ frame low. record { forth = λ site virtual has. has; back = λ site virtual has. has })
    (record { keeps = λ reference class is. is }) grows below

fresh_more : {u : Setup} {names more : Names} {f g : MethodState} → NamesMore names more → IsFresh u names f g → IsFresh u more f g
fresh_more grows fresh = record {
  at = fresh.at;
  one = fresh.one;
  is_written = fresh.is_written;
  units = fresh.units;
  units_also = fresh.units_also;
  same = units_more grows fresh.same;
  held = held_more grows fresh.held;
  is = fresh.is;
  is_also = fresh.is_also;
}

top_more : {u : Setup} {virtuals : Virtuals} {known : Known} {names more : Names} {ones others : List RunFrame}
    → NamesMore names more
    → SameTop u virtuals known names ones others
    → SameTop u virtuals known more ones others
top_more grows (stands below) = stands (names_more grows below)
top_more grows (begins_fresh fresh none below) = begins_fresh (fresh_more grows fresh) none (names_more grows below)
top_more grows (begins_class top) = begins_class (top_more grows top)

rises : (one other more count : ℕ) → other + count ≤ one → (other + more) + count ≤ one + more
rises one other more count less = omega (arith, less)

is_less : (one other count : ℕ) → other + count ≤ one → other ≤ one
is_less one other count less = omega (arith, less)

pub compared : (u : Setup) (virtuals : Virtuals) (known : Known) → Compares (comparison u virtuals known)
compared u virtuals known = record {
  allocated = λ one other more less. rises one other more _ less;
  entered = λ one other more less. rises one other more _ less;
  shows_allocated = λ one other less. is_less one other _ less;
  shows_entered = λ one other less. is_less one other _ less;
  frames = λ names more ones others grows top. top_more grows top;
}

-- ---- behind a turn

-- in a world of the first, the known objects are there still, and each virtual object is of the frame that it was of
pub record StillHas (u : Setup) (virtuals : Virtuals) (known : Known) (w : World) : Type 0 where
  pub are_known : AreKnown w.memory.heap known
  pub owned : AreOwned u virtuals w.memory w.frames

module _ (u : Setup) (basis : Basis u) where
  abbrev P : Program
  P = first u

  abbrev Q : Program
  Q = second u

  -- what a turn leads to is typed
  pub turn_typed : {one : Run} {w : World}
      → one.world.halt ≡ going
      → is_library_turn one.world.frames ≡ false
      → TypedWorld P u.typings one.world
      → turn P one ≡ record one { world = w }
      → TypedWorld P u.typings w
  turn_typed {one = one} {w = w} goes no_turn typed turned =
      subst (TypedWorld P u.typings) (turn_is_step P one w goes no_turn turned) (basis.steps_typed one.world typed).typed

  -- runs whose frames and memories go together are related
  goes_together : {virtuals : Virtuals} {known : Known} {names : Names} (one other : Run)
      → AreApart virtuals
      → StillHas u virtuals known one.world
      → SameTop u virtuals known names one.world.frames other.world.frames
      → SameMemories P (comparison u virtuals known).allocated (comparison u virtuals known).entered (apart virtuals) names [] one.world.memory
      other.world.memory
      → SameSeen (comparison u virtuals known) names one.world other.world
      → one.world.halt ≡ going
      → other.world.halt ≡ going
      → other.actions ≡ one.actions
      → other.used ≡ one.used
      → TypedWorld P u.typings one.world
      → (later : ℕ) × Related u later one other
  goes_together {virtuals = virtuals} {known = known} {names = names} one other are_apart has top memories seen goes goes_also actions used typed = (
    weight P one.world.memory [] (points_left frames),
    planned_settles u basis.settle (weight P one.world.memory [] (points_left frames)) one other along refl (omega arith),
  ) where
    frames : Stands u virtuals known false names one.world.frames other.world.frames
    frames = basis.fresh_stands virtuals known names one.world other.world.frames typed top

    along : Along u one other
    along = record {
      virtuals = virtuals;
      are_apart = are_apart;
      known = known;
      are_known = has.are_known;
      names = names;
      now = [];
      ones = one.world.frames;
      stands = refl;
      others = other.world.frames;
      stands_also = refl;
      frames = frames;
      owned = has.owned;
      alone = tt;
      no_turn = tt;
      memories = memories;
      seen = seen;
      goes = goes;
      goes_also = goes_also;
      actions = actions;
      used = used;
      typed = typed;
    }

  -- runs whose worlds are the same behind a turn of both are related
  pub after_both : {virtuals : Virtuals} {known : Known} {names : Names} (one other : Run)
      → AreApart virtuals
      → StillHas u virtuals known one.world
      → SameAfter P (comparison u virtuals known) names one.world other.world
      → TypedWorld P u.typings one.world
      → other.actions ≡ one.actions
      → other.used ≡ one.used
      → (later : ℕ) × Related u later one other
  after_both {virtuals = virtuals} {known = known} one other are_apart has then typed actions used =
      by (behind_both basis.same basis.alike (compared u virtuals known) (λ more ones others is. is) then) where
        by : BehindBoth P Q (comparison u virtuals known) one.world other → (later : ℕ) × Related u later one other
        by (both_go_on waits more quietly left taken frames memories seen goes goes_also) =
            quietly_related quietly
            (goes_together one waits are_apart has frames memories seen goes goes_also (left ∙ actions) (taken ∙ used) typed)
        by (both_are_over waits more quietly left taken seen over same) = (
          0,
          record {
            later = waits;
            quietly = quietly;
            state = inr (record {
              virtuals = virtuals;
              known = known;
              names = more;
              seen = seen;
              over = over;
              same = same;
              actions = left ∙ actions;
              used = taken ∙ used;
            });
          },
        )

  -- a turn of both keeps runs related
  pub both_keep : {virtuals : Virtuals} {known : Known} {names : Names} {measure : ℕ} {one other : Run}
      → AreApart virtuals
      → one.world.halt ≡ going
      → is_library_turn one.world.frames ≡ false
      → TypedWorld P u.typings one.world
      → other.actions ≡ one.actions
      → other.used ≡ one.used
      → (both : BothTurn P Q (comparison u virtuals known) names one other)
      → StillHas u virtuals known both.first
      → KeepsTurn u measure one other
  both_keep {measure = measure} {one = one} {other = other} are_apart goes no_turn typed actions used both has =
      let then = after_both (record one { world = both.first }) (record other { world = both.second }) are_apart has both.after
      (turn_typed goes no_turn typed both.turned) actions used in
      turn_keeps measure then.0 both then.1
