-- Each turn of the program with flat codes keeps runs related: so the program with written codes runs the same.
use Rattle.std.proofs.Common.{◌≡◌, ◌⊎◌, ◌≤◌, ◌<◌, ◌-◌, ◌++◌, ℕ, zero, suc, Bool, true, false, List, [], ◌∷◌, length, map, Option, refl, sym, ap, subst, ◌∙◌, arith, inl, inr}
use Rattle.std.proofs.lemmas.Option.{none-some}
use Rattle.machine_values.specs.Frames.{MethodState}
use Rattle.machine_values.specs.declared.action.Action.{Action}
use Rattle.machine_values.specs.declared.frame.RunFrame.{RunFrame}
use Rattle.machine_values.specs.declared.frame.RunFrame.TheVariants.{Beginning, Library, Method}
use Rattle.member_link.specs.Machine.Programs.{Program}
use Rattle.member_link.specs.Machine.Runs.{Run, begins_with, end_of, shown, turn, turns}
use Rattle.member_link.specs.Machine.SameRuns.{IsSameShown, SameRuns}
use Rattle.member_link.specs.Machine.Stepping.{is_library_turn}
use Rattle.member_link.specs.Machine.Worlds.{start}
use Rattle.same_runs.specs.Laws.AloneRuns.{same_turn_below}
use Rattle.same_runs.specs.Laws.QuietBeginnings.{quietly_then}
use Rattle.same_runs.specs.Laws.QuietCalls.{quiet_keeps}
use Rattle.same_runs.specs.Laws.Turns.{quietly_shows}
use Rattle.same_runs.specs.Laws.Simulated.{ends_over_same, ends_same, events_no_more, memories_at_start, none_named, simulated}
use Rattle.same_runs.specs.Renamings.{Names, SameHeld, no_references, none_held}
use Rattle.same_runs.specs.SameWorlds.{SameSeen, no_events}
use Rattle.same_runs.specs.Simulations.{Keeps, Quietly, at_once}
use Rattle.typed_runs.specs.TypedFrames.{FramesConform, nothing_awaited}
use Rattle.typed_runs.specs.TypedWorlds.{TypedWorld}
use Rattle.written_runs.specs.Inner.PlannedFrames.{InPlanned, Known}
use Rattle.written_runs.specs.Inner.Setup.{Setup, first, second}
use Rattle.written_runs.specs.Inner.Standing.{InOwn, Stands, beginnings_stand, comparison, libraries_stand, none_stand, own_stand, planned_stand, is_awaited}
use Rattle.written_runs.specs.Inner.Together.{IsSettled, Over, Related, Together, TopIsSettled, points_left, weight}
use Rattle.written_runs.specs.VirtualObjects.{Virtuals}

-- a turn of the first, where both go together
abbrev pub KeepsTurn : (u : Setup) → ℕ → Run → Run → Type 0
KeepsTurn u measure one other = Keeps (first u) (second u) (Related u) measure one other

-- where the second goes on quietly to a run that is related, it is so itself
pub quietly_related : {u : Setup} {one other waits : Run} → Quietly (second u) other waits → ((later : ℕ) × Related u later one waits)
    → (later : ℕ) × Related u later one other
quietly_related quietly related = (
  related.0,
  record {
    later = related.1.later;
    quietly = quietly_then quietly related.1.quietly;
    state = related.1.state;
  },
)

-- what the parts of the proof give together: a turn of the first by what stands on top
pub record Parts (u : Setup) : Type 0 where
  -- a beginning of a class that the first has begun alone
  pub alone : (measure : ℕ) (one other : Run) (t : Together u measure one other) (class : ℕ) (now : List ℕ)
      → t.along.now ≡ class ∷ now
      → KeepsTurn u measure one other
  -- the library's turn
  pub library : (measure : ℕ) (one other : Run) (t : Together u measure one other)
      → t.along.now ≡ []
      → (made made_also : Option ℕ) (ones others : List RunFrame)
      → t.along.ones ≡ Library made ∷ ones
      → t.along.others ≡ Library made_also ∷ others
      → SameHeld t.along.names made made_also
      → Stands u t.along.virtuals t.along.known true t.along.names ones others
      → KeepsTurn u measure one other
  -- a beginning in both
  pub beginning : (measure : ℕ) (one other : Run) (t : Together u measure one other)
      → t.along.now ≡ []
      → (class : ℕ) (ones others : List RunFrame)
      → t.along.ones ≡ Beginning class ∷ ones
      → t.along.others ≡ Beginning class ∷ others
      → Stands u t.along.virtuals t.along.known false t.along.names ones others
      → KeepsTurn u measure one other
  -- a method that runs its own code in both
  pub own : (measure : ℕ) (one other : Run) (t : Together u measure one other)
      → t.along.now ≡ []
      → (f g : MethodState) (ones others : List RunFrame)
      → t.along.ones ≡ Method f ∷ ones
      → t.along.others ≡ Method g ∷ others
      → InOwn u t.along.names f g
      → Stands u t.along.virtuals t.along.known (is_awaited u g.at) t.along.names ones others
      → KeepsTurn u measure one other
  -- a method that is rewritten
  pub planned : (measure : ℕ) (one other : Run) (t : Together u measure one other)
      → t.along.now ≡ []
      → (f g : MethodState) (ones others : List RunFrame)
      → t.along.ones ≡ Method f ∷ ones
      → t.along.others ≡ Method g ∷ others
      → (in_planned : InPlanned u t.along.virtuals t.along.known t.along.names (length ones) f g)
      → IsSettled u one.world.memory in_planned.one f g in_planned.block
      → Stands u t.along.virtuals t.along.known (is_awaited u g.at) t.along.names ones others
      → weight (first u) one.world.memory [] (length in_planned.one.flat.points - f.place) ≤ measure
      → KeepsTurn u measure one other
  -- both are over
  pub over : (measure : ℕ) (one other : Run) → Over u one other → KeepsTurn u measure one other
  pub starts : TypedWorld (first u) u.typings start

module _ (u : Setup) (parts : Parts u) where
  abbrev P : Program
  P = first u

  abbrev Q : Program
  Q = second u

  -- ---- one turn

  module _ (measure : ℕ) (one other : Run) (t : Together u measure one other) (none : t.along.now ≡ []) where
    stands : one.world.frames ≡ t.along.ones
    stands = t.along.stands ∙ ap (λ (now : List ℕ). map Beginning now ++ t.along.ones) none

    -- frames that stand in the first
    some_frames : t.along.ones ≡ [] → ⊥
    some_frames is =
        no_frames (subst (FramesConform P u.typings one.world.memory.heap nothing_awaited) (stands ∙ is) t.along.typed.frames) where
          no_frames : FramesConform P u.typings one.world.memory.heap nothing_awaited [] → ⊥
          no_frames impossible = elim impossible [ ]

    by_top : (ones others : List RunFrame) (frames : Stands u t.along.virtuals t.along.known false t.along.names ones others)
        → t.along.ones ≡ ones
        → t.along.others ≡ others
        → TopIsSettled one.world.memory frames
        → weight P one.world.memory [] (points_left frames) ≤ measure
        → KeepsTurn u measure one other
    by_top ones others none_stand is is_also settled low = absurd (some_frames is)
    by_top ones others (libraries_stand {made = made} {made_also = made_also} {ones = rest} {others = rest_also} held below) is is_also settled low =
        parts.library measure one other t none made made_also rest rest_also is is_also held below
    by_top ones others (beginnings_stand {class = class} {ones = rest} {others = rest_also} below) is is_also settled low =
        parts.beginning measure one other t none class rest rest_also is is_also below
    by_top ones others (own_stand {f = f} {g = g} {ones = rest} {others = rest_also} in_own below) is is_also settled low =
        parts.own measure one other t none f g rest rest_also is is_also in_own below
    by_top ones others (planned_stand {f = f} {g = g} {ones = rest} {others = rest_also} in_planned waiting below) is is_also settled low =
        parts.planned measure one other t none f g rest rest_also is is_also in_planned settled below low

  together_keeps : (measure : ℕ) (one other : Run) → Together u measure one other → KeepsTurn u measure one other
  together_keeps measure one other t = by t.along.now refl where
    by : (now : List ℕ) → t.along.now ≡ now → KeepsTurn u measure one other
    by [] none =
        by_top measure one other t none t.along.ones t.along.others t.along.frames refl refl t.settled
        (subst (λ (now : List ℕ). weight P one.world.memory now (points_left t.along.frames) ≤ measure) none t.low)
    by (class ∷ now) some = parts.alone measure one other t class now some

  keeps : (measure : ℕ) (one other : Run) → Related u measure one other → Keeps P Q (Related u) measure one other
  keeps measure one other related = by related.state where
    by : Together u measure one related.later ⊎ Over u one related.later → Keeps P Q (Related u) measure one other
    by (inl t) = quiet_keeps related.quietly (together_keeps measure one related.later t)
    by (inr over) = quiet_keeps related.quietly (parts.over measure one related.later over)

  -- ---- what is shown

  -- it is the library's turn in both or in none
  same_turn : {virtuals : Virtuals} {known : Known} {waiting : Bool} {names : Names} {ones others : List RunFrame}
      → Stands u virtuals known waiting names ones others
      → is_library_turn others ≡ is_library_turn ones
  same_turn none_stand = refl
  same_turn (libraries_stand held below) = refl
  same_turn (beginnings_stand below) = refl
  same_turn (own_stand in_own below) = refl
  same_turn (planned_stand in_planned waiting below) = refl

  -- with equal ends, and events whose counts are not more
  same_shown : {virtuals : Virtuals} {known : Known} {names : Names} (one other : Run)
      → SameSeen (comparison u virtuals known) names one.world other.world
      → end_of other ≡ end_of one
      → IsSameShown (shown one) (shown other)
  same_shown one other seen end =
      record { events = events_no_more (λ n m less. less) (λ n m less. less) seen.events; end = end }

  together_shows : (measure : ℕ) (one other : Run) → Together u measure one other → IsSameShown (shown one) (shown other)
  together_shows measure one other t =
      same_shown one other t.along.seen (ends_same one other (t.along.goes_also ∙ sym t.along.goes)
      (same_turn_below t.along.now t.along.ones t.along.others one.world other.world t.along.stands t.along.stands_also t.along.no_turn
      (same_turn t.along.frames)) t.along.actions t.along.used)

  shows : (measure : ℕ) (one other : Run) → Related u measure one other → IsSameShown (shown one) (shown other)
  shows measure one other related =
      subst (IsSameShown (shown one)) (quietly_shows related.quietly) (by related.state) where
        by : Together u measure one related.later ⊎ Over u one related.later → IsSameShown (shown one) (shown related.later)
        by (inl t) = together_shows measure one related.later t
        by (inr over) = same_shown one related.later over.seen (ends_over_same one related.later over.over over.same over.used)

  -- ---- both runs from the start

  starts_together : (actions : List Action) → (measure : ℕ) × Related u measure (begins_with actions) (begins_with actions)
  starts_together actions = (
    weight P start.memory [] 0,
    record {
      later = begins_with actions;
      quietly = at_once;
      state = inl (record {
        along = record {
          virtuals = [];
          are_apart = tt;
          known = [];
          are_known = record { each = λ reference class is. absurd (none-some (reference, class) is.is_there) };
          names = none_named;
          now = [];
          ones = start.frames;
          stands = refl;
          others = start.frames;
          stands_also = refl;
          frames = libraries_stand none_held none_stand;
          owned = record {
            owner = λ number virtual is. absurd (none-some virtual is);
            begun = λ number class virtual is. absurd (none-some virtual is);
          };
          alone = tt;
          no_turn = tt;
          memories = memories_at_start P (omega arith) (omega arith);
          seen = record { known = no_references; events = no_events };
          goes = refl;
          goes_also = refl;
          actions = refl;
          used = refl;
          typed = parts.starts;
        };
        settled = tt;
        low = omega arith;
      });
    },
  )

  -- The program with written codes runs the same.
  pub runs_the_same : SameRuns P Q
  runs_the_same = simulated (record { shows = shows; keeps = keeps }) starts_together

  -- After any number of turns of the first some run of the second is related to it.
  related_after : (count measure : ℕ) (one other : Run) → Related u measure one other
      → (then : ℕ) × (also : Run) × Related u then (turns P count one) also
  related_after zero measure one other related = (measure, other, related)
  related_after (suc count) measure one other related =
      by (keeps measure one other related) (λ then also is. related_after count then (turn P one) also is) where
        by : Keeps P Q (Related u) measure one other
            → ((then : ℕ) (also : Run) → Related u then (turn P one) also → (last : ℕ) × (later : Run) × Related u last (turns P count (turn P one)) later)
            → (last : ℕ) × (later : Run) × Related u last (turns P count (turn P one)) later
        by kept rest = on kept.goes_on where
          on : ((kept.measure_then < measure) × Related u kept.measure_then (turn P one) kept.waits)
              ⊎ Related u kept.measure_then (turn P one) (turn Q kept.waits)
              → (last : ℕ) × (later : Run) × Related u last (turns P count (turn P one)) later
          on (inl stays) = rest kept.measure_then kept.waits stays.1
          on (inr moves) = rest kept.measure_then (turn Q kept.waits) moves

  pub stays_related : (actions : List Action) (count : ℕ)
      → (measure : ℕ) × (other : Run) × Related u measure (turns P count (begins_with actions)) other
  stays_related actions count =
      let begins = starts_together actions in
      related_after count begins.0 (begins_with actions) (begins_with actions) begins.1
