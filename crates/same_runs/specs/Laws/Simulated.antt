-- Programs whose runs a simulation relates from the start run the same, or equally.
use Rattle.std.proofs.Common.{◌≡◌, ◌≤◌, ℕ, List, [], ◌∷◌, None, refl, sym, ap, ◌∙◌}
use Rattle.std.proofs.lemmas.Bool.{false≢true}
use Rattle.std.proofs.lemmas.Option.{none-some}
use Rattle.machine_values.specs.declared.action.Action.{Action}
use Rattle.machine_values.specs.declared.event.End.{End}
use Rattle.machine_values.specs.declared.event.Event.{Event}
use Rattle.member_link.specs.Machine.Programs.{Program}
use Rattle.member_link.specs.Machine.Runs.{Run, begins_with, end_of, shown}
use Rattle.member_link.specs.Machine.SameRuns.{AreSameEvents, IsSameShown, SameRuns}
use Rattle.member_link.specs.Machine.Stepping.{is_library_turn}
use Rattle.member_link.specs.Machine.Worlds.{Halt, going, start, stopped, faulted, init_threw, array_too_long, stuck}
use Rattle.same_runs.specs.EqualRuns.{EqualRuns}
use Rattle.same_runs.specs.Renamings.{Names}
use Rattle.same_runs.specs.SameMemories.{HasOwnConstants, SameMemories}
use Rattle.same_runs.specs.SameWorlds.{Comparison, SameEvents, no_events, and_event}
use Rattle.same_runs.specs.Simulations.{IsSimulation, ShowBothWays}
use Rattle.same_runs.specs.Laws.BothWays.{both_ways}

-- ---- runs from the start

-- a relation of runs holds where both begin, with any actions
abbrev pub RelatesStarts : (ℕ → Run → Run → Type 0) → Type 0
RelatesStarts Relates = (actions : List Action) → (measure : ℕ) × Relates measure (begins_with actions) (begins_with actions)

-- what shows the same both ways from the start runs the same
pub runs_same : {P Q : Program}
    → ((actions : List Action) → ShowBothWays P Q IsSameShown (begins_with actions) (begins_with actions))
    → SameRuns P Q
runs_same ways = λ actions. record { forth = (ways actions).forth; back = (ways actions).back }

-- what shows equal events and ends both ways from the start runs equally
pub runs_equally : {P Q : Program}
    → ((actions : List Action) → ShowBothWays P Q (λ one other. one ≡ other) (begins_with actions) (begins_with actions))
    → EqualRuns P Q
runs_equally ways = λ actions. record { forth = (ways actions).forth; back = (ways actions).back }

-- a simulation that relates the starts
pub simulated : {P Q : Program} {Relates : ℕ → Run → Run → Type 0}
    → IsSimulation P Q IsSameShown Relates
    → RelatesStarts Relates
    → SameRuns P Q
simulated {P = P} {Q = Q} {Relates = Relates} sim starts =
    runs_same (λ actions.
    let start = starts actions in
    both_ways P Q IsSameShown Relates sim start.0 (begins_with actions) (begins_with actions) start.1)

-- and one whose runs show equal events and ends
pub simulated_equally : {P Q : Program} {Relates : ℕ → Run → Run → Type 0}
    → IsSimulation P Q (λ one other. one ≡ other) Relates
    → RelatesStarts Relates
    → EqualRuns P Q
simulated_equally {P = P} {Q = Q} {Relates = Relates} sim starts =
    runs_equally (λ actions.
    let start = starts actions in
    both_ways P Q (λ one other. one ≡ other) Relates sim start.0 (begins_with actions) (begins_with actions) start.1)

-- ---- what related runs show

-- events of a comparison that never shows more are the same
pub events_no_more : {c : Comparison} {ones others : List Event}
    → ((one other : ℕ) → c.shows_allocated one other → other ≤ one)
    → ((one other : ℕ) → c.shows_entered one other → other ≤ one)
    → SameEvents c ones others
    → AreSameEvents ones others
events_no_more allocated entered no_events = tt
events_no_more allocated entered (and_event {one = one} {other = other} here rest) = (
  record {
    kind = here.kind;
    monitors = here.monitors;
    allocations = allocated one.allocations other.allocations here.allocations;
    entries = entered one.entries other.entries here.entries;
  },
  events_no_more allocated entered rest,
)

same_event : (one other : Event) → other.kind ≡ one.kind → other.monitors ≡ one.monitors → one.allocations ≡ other.allocations
    → one.entries ≡ other.entries → one ≡ other
same_event one other kind monitors allocations entries = rw (kind, monitors, sym allocations, sym entries) refl

-- events of a comparison of equal counts are equal
pub events_equal : {c : Comparison} {ones others : List Event}
    → ((one other : ℕ) → c.shows_allocated one other → one ≡ other)
    → ((one other : ℕ) → c.shows_entered one other → one ≡ other)
    → SameEvents c ones others
    → ones ≡ others
events_equal allocated entered no_events = refl
events_equal allocated entered (and_event {one = one} {other = other} {ones = ones} {others = others} here rest) =
    ap (λ (event : Event). event ∷ ones)
    (same_event one other here.kind here.monitors (allocated one.allocations other.allocations here.allocations)
    (entered one.entries other.entries here.entries))
    ∙ ap (λ (events : List Event). other ∷ events) (events_equal allocated entered rest)

-- Runs end the same where it is the library's turn in both or in none, with the same actions left.
pub ends_same : (one other : Run)
    → other.world.halt ≡ one.world.halt
    → is_library_turn other.world.frames ≡ is_library_turn one.world.frames
    → other.actions ≡ one.actions
    → other.used ≡ one.used
    → end_of other ≡ end_of one
ends_same one other halt turn actions used = by one.world.halt refl where
  by : (h : Halt) → one.world.halt ≡ h → end_of other ≡ end_of one
  by going is = rw (halt, is, turn, actions) refl
  by stopped is = rw (halt, is) refl
  by faulted is = rw (halt, is, used) refl
  by init_threw is = rw (halt, is) refl
  by array_too_long is = rw (halt, is) refl
  by stuck is = rw (halt, is) refl

-- runs that are over end the same, whatever frames stand
pub ends_over_same : (one other : Run)
    → (one.world.halt ≡ going → ⊥)
    → other.world.halt ≡ one.world.halt
    → other.used ≡ one.used
    → end_of other ≡ end_of one
ends_over_same one other over halt used = by one.world.halt refl where
  by : (h : Halt) → one.world.halt ≡ h → end_of other ≡ end_of one
  by going is = absurd (over is)
  by stopped is = rw (halt, is) refl
  by faulted is = rw (halt, is, used) refl
  by init_threw is = rw (halt, is) refl
  by array_too_long is = rw (halt, is) refl
  by stuck is = rw (halt, is) refl

-- runs with equal events that end the same show the same
pub shows_equal : (one other : Run) → one.world.events ≡ other.world.events → end_of other ≡ end_of one → shown one ≡ shown other
shows_equal one other events end =
    ap (λ (events : List Event). record { events = events; end = end_of one }) events
    ∙ ap (λ (end : End). record { events = other.world.events; end = end }) (sym end)

-- ---- memories at the start

-- no object has a name yet
abbrev pub none_named : Names
none_named reference = None

pub memories_at_start : (P : Program) {Allocated Entered : ℕ → ℕ → Type 0} → Allocated 0 0 → Entered 0 0
    → SameMemories P Allocated Entered [] none_named [] start.memory start.memory
memories_at_start P allocations entries = record {
  heaps = record {
    renaming = record { once = λ first second reference is also. absurd (none-some reference is) };
    objects = λ reference named is. absurd (none-some named is);
    own = no_constants;
    own_also = no_constants;
    kept = λ constant named is. absurd (none-some named is);
    named = λ constant reference named kept is. absurd (none-some named is);
    fresh = λ constant reference kept none. absurd (none-some reference kept);
    stays = tt;
  };
  statics = record {
    begun = λ class is. is;
    values = λ class field begun. absurd (false≢true begun);
    alone = λ class begun none. absurd (false≢true begun);
    unwritten = λ class field none. refl;
    unwritten_also = λ class field none. refl;
  };
  allocations = allocations;
  entries = entries;
} where
  no_constants : HasOwnConstants start.memory.heap
  no_constants = record {
    there = λ constant reference kept. absurd (none-some reference kept);
    is_of = λ constant reference kept. absurd (none-some reference kept);
    has = λ constant reference kept. absurd (none-some constant kept);
  }
