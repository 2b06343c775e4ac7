-- Runs of both programs that go together, and how they do behind a turn of both, or of the first alone.
use Rattle.std.proofs.Common.{◌≡◌, ◌≢◌, ◌⊎◌, ◌<◌, ◌≤◌, ◌+◌, ◌-◌, ◌*◌, ℕ, Bool, false, List, [], ◌∷◌, ◌++◌, length, map, refl, sym, ap, subst, ◌∙◌, arith, inl, inr}
use Rattle.std.specs.List.{AllByRecursion}
use Rattle.expanded_runs.proofs.Runs.SameStanding.{SameStanding, SameTop, comparison, beginnings_stand, flat_stands, libraries_stand, none_stand, own_stand}
use Rattle.expanded_runs.proofs.Runs.Setup.{Setup, after, before}
use Rattle.machine_values.specs.declared.frame.RunFrame.{RunFrame}
use Rattle.machine_values.specs.declared.frame.RunFrame.TheVariants.{Beginning}
use Rattle.member_link.specs.Machine.Programs.{Program}
use Rattle.member_link.specs.Machine.Runs.{Run, turn}
use Rattle.member_link.specs.Machine.Stepping.{is_library_turn, step}
use Rattle.member_link.specs.Machine.Worlds.{Memory, World, going, stuck}
use Rattle.same_runs.specs.Laws.AloneRuns.{AloneGoesOn, AloneOnTop, BeginsAlone, NoTurnBelow, alone_goes_on, seen_still}
use Rattle.same_runs.specs.Laws.AloneTurn.{unbegun_in}
use Rattle.same_runs.specs.Laws.BothTurns.{BehindBoth, behind_both, both_are_over, both_go_on}
use Rattle.same_runs.specs.Laws.CaughtUp.{BothTurn, turn_keeps}
use Rattle.same_runs.specs.Laws.QuietBeginnings.{BeginAlike}
use Rattle.same_runs.specs.Laws.Turns.{over_stays, turn_is_step, turns_keep}
use Rattle.same_runs.specs.Renamings.{Names}
use Rattle.same_runs.specs.SameMemories.{SameMemories}
use Rattle.same_runs.specs.SamePrograms.{SamePrograms}
use Rattle.same_runs.specs.SameWorlds.{Compares, SameAfter, SameSeen}
use Rattle.same_runs.specs.Simulations.{Keeps, Quietly, at_once}
use Rattle.typed_runs.specs.TypedWorlds.{StaysTyped, TypedWorld}

-- ---- what goes together

-- how many callees an innermost frame stands in
abbrev pub depth : {u : Setup} {waits : Bool} {names : Names} {ones others : List RunFrame} → SameStanding u waits names ones others → ℕ
depth none_stand = 0
depth (libraries_stand held rest) = 0
depth (beginnings_stand rest) = 0
depth (own_stand in_own rest) = 0
depth (flat_stands in_flat waits rest) = length in_flat.chain

-- What falls where the first takes a turn alone: it begins a class, goes on with a beginning, or enters a callee.
abbrev pub weight : Program → Memory → List ℕ → ℕ → ℕ
weight P memory now deep = 2 * unbegun_in P memory + length now + (7 - deep)

pub record Together (u : Setup) (measure : ℕ) (one other : Run) : Type 0 where
  pub names : Names
  pub now : List ℕ
  pub ones : List RunFrame
  pub stands : one.world.frames ≡ map Beginning now ++ ones
  pub others : List RunFrame
  pub stands_also : other.world.frames ≡ others
  pub frames : SameStanding u false names ones others
  pub alone : AllByRecursion (BeginsAlone (before u)) now
  pub no_turn : NoTurnBelow now ones
  pub memories : SameMemories (before u) (λ n m. n ≡ m) (λ n m. n ≡ m) [] names now one.world.memory other.world.memory
  pub seen : SameSeen (comparison u) names one.world other.world
  pub goes : one.world.halt ≡ going
  pub goes_also : other.world.halt ≡ going
  pub actions : other.actions ≡ one.actions
  pub used : other.used ≡ one.used
  pub typed : TypedWorld (before u) u.typings one.world
  pub low : weight (before u) one.world.memory now (depth frames) ≤ measure

-- both are over
pub record Over (u : Setup) (one other : Run) : Type 0 where
  pub names : Names
  pub seen : SameSeen (comparison u) names one.world other.world
  pub over : one.world.halt ≢ going
  pub same : other.world.halt ≡ one.world.halt
  pub actions : other.actions ≡ one.actions
  pub used : other.used ≡ one.used

-- the second goes on quietly to a run that goes together with the first
pub record Related (u : Setup) (measure : ℕ) (one other : Run) : Type 0 where
  pub waits : Run
  pub quietly : Quietly (after u) other waits
  pub state : Together u measure one waits ⊎ Over u one waits

-- ---- what other parts of the proof give

pub record Basis (u : Setup) : Type 0 where
  pub same : SamePrograms (before u) (after u)
  pub alike : BeginAlike (before u) (after u)
  pub compares : Compares (comparison u)
  pub settles : (names : Names) (w : World) (others : List RunFrame)
      → TypedWorld (before u) u.typings w
      → SameTop u names w.frames others
      → SameStanding u false names w.frames others
  pub steps_typed : (w : World) → TypedWorld (before u) u.typings w → StaysTyped (before u) u.typings w (step (before u) w)

module _ (u : Setup) (basis : Basis u) where
  abbrev P : Program
  P = before u

  abbrev Q : Program
  Q = after u

  -- ---- turns

  -- what a turn leads to is typed, and not stuck
  pub turn_typed : {one : Run} {w : World}
      → one.world.halt ≡ going
      → is_library_turn one.world.frames ≡ false
      → TypedWorld P u.typings one.world
      → turn P one ≡ record one { world = w }
      → TypedWorld P u.typings w × (w.halt ≢ stuck)
  turn_typed {one = one} {w = w} goes no_turn typed turned =
      (subst (TypedWorld P u.typings) led stays.typed, λ is. stays.not_stuck going_on (ap (λ (v : World). v.halt) led ∙ is)) where
        led : step P one.world ≡ w
        led = turn_is_step P one w goes no_turn turned

        stays : StaysTyped P u.typings one.world (step P one.world)
        stays = basis.steps_typed one.world typed

        going_on : one.world.halt ≢ stuck
        going_on is = absurd (cc (sym goes ∙ is))

  -- ---- behind a turn of both

  together : (names : Names) (one other : Run) (frames : SameStanding u false names one.world.frames other.world.frames)
      → SameMemories P (λ n m. n ≡ m) (λ n m. n ≡ m) [] names [] one.world.memory other.world.memory
      → SameSeen (comparison u) names one.world other.world
      → one.world.halt ≡ going
      → other.world.halt ≡ going
      → other.actions ≡ one.actions
      → other.used ≡ one.used
      → TypedWorld P u.typings one.world
      → (later : ℕ) × Together u later one other
  together names one other frames memories seen goes goes_also actions used typed = (
    weight P one.world.memory [] (depth frames),
    record {
      names = names;
      now = [];
      ones = one.world.frames;
      stands = refl;
      others = other.world.frames;
      stands_also = refl;
      frames = frames;
      alone = tt;
      no_turn = tt;
      memories = memories;
      seen = seen;
      goes = goes;
      goes_also = goes_also;
      actions = actions;
      used = used;
      typed = typed;
      low = omega arith;
    },
  )

  -- runs whose worlds are the same behind a turn of both are related
  pub after_both : {names : Names} (one other : Run)
      → SameAfter P (comparison u) names one.world other.world
      → TypedWorld P u.typings one.world
      → other.actions ≡ one.actions
      → other.used ≡ one.used
      → (later : ℕ) × Related u later one other
  after_both one other then typed actions used =
      by (behind_both basis.same basis.alike basis.compares (λ more ones others is. is) then) where
        by : BehindBoth P Q (comparison u) one.world other → (later : ℕ) × Related u later one other
        by (both_go_on waits more quietly left taken frames memories seen goes goes_also) =
            let now = together more one waits (basis.settles more one.world waits.world.frames typed frames) memories seen goes goes_also
            (left ∙ actions) (taken ∙ used) typed in
            (now.0, record { waits = waits; quietly = quietly; state = inl now.1 })
        by (both_are_over waits more quietly left taken seen over same) = (
          0,
          record {
            waits = waits;
            quietly = quietly;
            state =
                inr (record { names = more; seen = seen; over = over; same = same; actions = left ∙ actions; used = taken ∙ used });
          },
        )

  -- a turn of both keeps runs related
  pub both_keep : {names : Names} {measure : ℕ} {one other : Run}
      → one.world.halt ≡ going
      → is_library_turn one.world.frames ≡ false
      → TypedWorld P u.typings one.world
      → other.actions ≡ one.actions
      → other.used ≡ one.used
      → BothTurn P Q (comparison u) names one other
      → Keeps P Q (Related u) measure one other
  both_keep {measure = measure} {one = one} {other = other} goes no_turn typed actions used both =
      let then = after_both (record one { world = both.first }) (record other { world = both.second }) both.after
      (turn_typed goes no_turn typed both.turned).0 actions used in
      turn_keeps measure then.0 both then.1

  -- runs that are over
  pub over_keeps : (measure : ℕ) (one other : Run) → Over u one other → Keeps P Q (Related u) measure one other
  over_keeps measure one other over =
      turns_keep measure measure (over_stays P one over.over) (over_stays Q other (λ is. over.over (sym over.same ∙ is)))
      (record { waits = other; quietly = at_once; state = inr over })

  -- ---- turns of the first alone

  -- the first takes a turn, and is related to where the second goes on quietly to
  pub alone_keeps : {measure later : ℕ} {one other waits : Run} {w : World}
      → Quietly Q other waits
      → turn P one ≡ record one { world = w }
      → later < measure
      → Together u later (record one { world = w }) waits
      → Keeps P Q (Related u) measure one other
  alone_keeps {later = later} {waits = waits} quietly turned less then = record {
    waits = waits;
    quietly = quietly;
    measure_then = later;
    goes_on = inl (
      less,
      subst (λ (r : Run). Related u later r waits) (sym turned)
          (record { waits = waits; quietly = at_once; state = inl then }),
    );
  }

  -- a turn of a beginning that stands on top of the first alone
  pub beginning_keeps : {measure : ℕ} {one other : Run} (t : Together u measure one other) (class : ℕ) (now : List ℕ)
      → t.now ≡ class ∷ now
      → Keeps P Q (Related u) measure one other
  beginning_keeps {measure = measure} {one = one} {other = other} t class now is =
      alone_keeps {later = weight P on.world.memory on.later (depth t.frames)} at_once on.turned
      (let falls = on.falls in
      let low = subst (λ (classes : List ℕ). weight P one.world.memory classes (depth t.frames) ≤ measure) is t.low in omega (arith, falls, low))
      (record {
        names = t.names;
        now = on.later;
        ones = t.ones;
        stands = on.top.stands;
        others = t.others;
        stands_also = t.stands_also;
        frames = t.frames;
        alone = on.top.alone;
        no_turn = on.top.no_turn;
        memories = on.top.memories;
        seen = seen_still on.known on.events t.seen;
        goes = on.goes;
        goes_also = t.goes_also;
        actions = t.actions;
        used = t.used;
        typed = (turn_typed t.goes (ap is_library_turn top.stands) t.typed on.turned).0;
        low = omega arith;
      }) where
        top : AloneOnTop P (λ n m. n ≡ m) (λ n m. n ≡ m) [] t.names (class ∷ now) t.ones one.world other.world.memory
        top =
            subst (λ (classes : List ℕ). AloneOnTop P (λ n m. n ≡ m) (λ n m. n ≡ m) [] t.names classes t.ones one.world other.world.memory) is
            (record { stands = t.stands; alone = t.alone; no_turn = t.no_turn; memories = t.memories })

        on : AloneGoesOn P (λ n m. n ≡ m) (λ n m. n ≡ m) [] t.names (class ∷ now) t.ones one other.world.memory
        on = alone_goes_on class now basis.alike t.goes top
