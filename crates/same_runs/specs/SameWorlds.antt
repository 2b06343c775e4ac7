-- Worlds of two runs that are the same but for the numbers of references. What goes together beyond that a theorem says itself: how counts
-- compare, which frames go together, and those in which an object has landed in a handler.
use Rattle.std.specs.Prelude.{◌≡◌, ◌≢◌, ◌+◌, ℕ, List, [], ◌∷◌, Option, Some, None, IsTrue, IsFalse, false}
use Rattle.class_model.specs.declared.class_file.MethodAt.{MethodAt}
use Rattle.machine_values.specs.Frames.{MethodState}
use Rattle.machine_values.specs.Values.{units_of_values}
use Rattle.machine_values.specs.declared.event.Event.{Event}
use Rattle.machine_values.specs.declared.frame.RunFrame.{RunFrame}
use Rattle.machine_values.specs.declared.frame.RunFrame.TheVariants.{Library, Beginning, Method}
use Rattle.machine_values.specs.declared.value.Value.{Value}
use Rattle.member_link.specs.Machine.Acting.{Waiting, waiting_in}
use Rattle.member_link.specs.Machine.Beginnings.{frame_with}
use Rattle.member_link.specs.Machine.Completions.{Completion, asks, calls, gives, raises, throws}
use Rattle.member_link.specs.Machine.Performing.{is_initialiser, resumed}
use Rattle.member_link.specs.Machine.Programs.{Program, RunMethod, run_method}
use Rattle.member_link.specs.Machine.Stepping.{is_library_turn}
use Rattle.member_link.specs.Machine.Worlds.{Memory, World, going}
use Rattle.same_runs.specs.Renamings.{Names, NamesMore, SameHeld, SameReferences, SameValues}
use Rattle.same_runs.specs.SameFrames.{EndSame, Unwinds}
use Rattle.same_runs.specs.SameMemories.{Apart, BeginsQuietly, SameMemories}

-- how a theorem compares runs
pub record Comparison : Type 1 where
  -- the counts while a run goes on, and where an event shows them
  pub allocated : ℕ → ℕ → Type 0
  pub entered : ℕ → ℕ → Type 0
  pub shows_allocated : ℕ → ℕ → Type 0
  pub shows_entered : ℕ → ℕ → Type 0
  -- objects of the first run alone, of which frames speak
  pub apart : Apart
  -- frames, under names
  pub frames : Names → List RunFrame → List RunFrame → Type 0
  pub lands : Names → List RunFrame → List RunFrame → Type 0

-- counts may rise together, and compare as events show them
pub record Compares (c : Comparison) : Type 0 where
  pub allocated : (one other more : ℕ) → c.allocated one other → c.allocated (one + more) (other + more)
  pub entered : (one other more : ℕ) → c.entered one other → c.entered (one + more) (other + more)
  pub shows_allocated : (one other : ℕ) → c.allocated one other → c.shows_allocated one other
  pub shows_entered : (one other : ℕ) → c.entered one other → c.shows_entered one other
  -- frames that go together do so under more names
  pub frames : (names more : Names) (ones others : List RunFrame)
      → NamesMore names more
      → c.frames names ones others
      → c.frames more ones others

-- ---- what was seen

pub record SameEvent (c : Comparison) (one other : Event) : Type 0 where
  pub kind : other.kind ≡ one.kind
  pub monitors : other.monitors ≡ one.monitors
  pub allocations : c.shows_allocated one.allocations other.allocations
  pub entries : c.shows_entered one.entries other.entries

pub data SameEvents (c : Comparison) : List Event → List Event → Type 0 where
  no_events : SameEvents c [] []
  and_event : {one other : Event} {ones others : List Event}
      → SameEvent c one other
      → SameEvents c ones others
      → SameEvents c (one ∷ ones) (other ∷ others)

pub record SameSeen (c : Comparison) (names : Names) (one other : World) : Type 0 where
  pub known : SameReferences names one.known other.known
  pub events : SameEvents c one.events other.events

-- ---- worlds

-- The same worlds, after a step of both or an action: both go on, or both are over. The second may have to go on with the beginning of a
-- class that the first has begun before.
pub data SameAfter (P : Program) (c : Comparison) (names : Names) (one other : World) : Type 0 where
  both_go : (more : Names)
      → NamesMore names more
      → c.frames more one.frames other.frames
      → SameMemories P c.allocated c.entered c.apart more [] one.memory other.memory
      → SameSeen c more one other
      → one.halt ≡ going
      → other.halt ≡ going
      → SameAfter P c names one other
  both_landed : (more : Names)
      → NamesMore names more
      → c.lands more one.frames other.frames
      → SameMemories P c.allocated c.entered c.apart more [] one.memory other.memory
      → SameSeen c more one other
      → one.halt ≡ going
      → other.halt ≡ going
      → SameAfter P c names one other
  second_begins : (more : Names) (class : ℕ) (rest : List RunFrame)
      → NamesMore names more
      → other.frames ≡ Beginning class ∷ rest
      → is_library_turn rest ≡ false
      → BeginsQuietly P one.memory class
      → c.frames more one.frames rest
      → SameMemories P c.allocated c.entered c.apart more [] one.memory other.memory
      → SameSeen c more one other
      → one.halt ≡ going
      → other.halt ≡ going
      → SameAfter P c names one other
  both_over : (more : Names)
      → SameSeen c more one other
      → one.halt ≢ going
      → other.halt ≡ one.halt
      → SameAfter P c names one other

-- ---- what a theorem says of the frames of an operation that is in both

-- an operation comes to an object that is thrown
abbrev pub IsThrowing : Completion → Type 0
IsThrowing (raises class) = Unit {0}
IsThrowing (throws reference) = Unit {0}
IsThrowing w = ⊥

-- an operation calls a method of the folder, or asks the library
abbrev pub IsAwaiting : Completion → Type 0
IsAwaiting (calls at values) = Unit {0}
IsAwaiting (asks asked) = Unit {0}
IsAwaiting w = ⊥

-- The frames before an operation, and the same less its operands: what goes together behind each way that it may end. By `w`, what the
-- operation comes to in the first run, frames go on only behind values that it gives, wait only where it calls or asks, and objects are
-- thrown only where it throws one.
pub record Goes (P Q : Program) (c : Comparison) (names : Names) (w : Completion)
    (before taken also taken_also : MethodState) (rest rest_also : List RunFrame)
    : Type 0 where
  pub given : (more : Names) (memory : Memory) (ones others : List Value)
      → w ≡ gives memory ones
      → NamesMore names more
      → SameValues more ones others
      → c.frames more (Method (resumed taken ones) ∷ rest) (Method (resumed taken_also others) ∷ rest_also)
  pub begins : (more : Names) (class : ℕ)
      → NamesMore names more
      → c.frames more (Beginning class ∷ Method before ∷ rest) (Beginning class ∷ Method also ∷ rest_also)
  pub asks : (more : Names)
      → IsAwaiting w
      → NamesMore names more
      → c.frames more (Library None ∷ Method taken ∷ rest) (Library None ∷ Method taken_also ∷ rest_also)
  pub called : (more : Names) (at : MethodAt) (method : RunMethod) (ones others : List Value) (held held_also : Option ℕ)
      → IsAwaiting w
      → NamesMore names more
      → run_method P at ≡ Some method
      → SameValues more ones others
      → SameHeld more held held_also
      → c.frames more (Method (frame_with P at (units_of_values ones) held) ∷ Method taken ∷ rest)
      (Method (frame_with Q at (units_of_values others) held_also) ∷ Method taken_also ∷ rest_also)
  pub unwinds : (more : Names)
      → IsThrowing w
      → NamesMore names more
      → Unwinds P Q c.frames c.lands more (Method taken ∷ rest) (Method taken_also ∷ rest_also)

-- ---- what a theorem says of frames with the library's on top

-- Frames of methods that wait for the library, below its own: they wait for the same, or none does. Objects are thrown only where the
-- library may throw one.
pub data SameWaiting (P Q : Program) (c : Comparison) (names : Names)
    : Option Waiting → Option Waiting → Type 0 where
  none_waits : SameWaiting P Q c names None None
  both_wait : {one other : Waiting}
      → other.pending ≡ one.pending
      → ((more : Names) (ones others : List Value)
      → NamesMore names more
      → SameValues more ones others
      → c.frames more (Method (resumed one.frame ones) ∷ one.rest) (Method (resumed other.frame others) ∷ other.rest))
      → ((more : Names)
      → IsTrue one.pending.may_throw
      → NamesMore names more
      → Unwinds P Q c.frames c.lands more (Method one.frame ∷ one.rest) (Method other.frame ∷ other.rest))
      → SameWaiting P Q c names (Some one) (Some other)

-- What goes together behind each way in which an action of the library may end.
pub record AtLibrary (P Q : Program) (c : Comparison) (names : Names) (made made_also : Option ℕ)
    (rest rest_also : List RunFrame)
    : Type 0 where
  pub stays : (more : Names)
      → NamesMore names more
      → c.frames more (Library made ∷ rest) (Library made_also ∷ rest_also)
  pub called : (more : Names) (at : MethodAt) (method : RunMethod) (ones others : List Value)
      (held held_also : Option ℕ)
      → run_method P at ≡ Some method
      → NamesMore names more
      → SameValues more ones others
      → SameHeld more held held_also
      → c.frames more (Method (frame_with P at (units_of_values ones) held) ∷ Library made ∷ rest)
      (Method (frame_with Q at (units_of_values others) held_also) ∷ Library made_also ∷ rest_also)
  pub constructs : (more : Names) (at : MethodAt) (method : RunMethod) (ones others : List Value)
      (held held_also : Option ℕ) (reference named : ℕ)
      → run_method P at ≡ Some method
      → NamesMore names more
      → more reference ≡ Some named
      → SameValues more ones others
      → SameHeld more held held_also
      → c.frames more (Method (frame_with P at (units_of_values ones) held) ∷ Library (Some reference) ∷ rest)
      (Method (frame_with Q at (units_of_values others) held_also) ∷ Library (Some named) ∷ rest_also)
  pub begins : (more : Names) (class : ℕ) (ones others : List RunFrame)
      → c.frames more ones others
      → c.frames more (Beginning class ∷ ones) (Beginning class ∷ others)
  pub unwinds : (more : Names)
      → NamesMore names more
      → Unwinds P Q c.frames c.lands more (Library made ∷ rest) (Library made_also ∷ rest_also)
  pub waits : SameWaiting P Q c names (waiting_in P (Library made ∷ rest)) (waiting_in Q (Library made_also ∷ rest_also))

-- ---- what a theorem says of frames whose methods end in both

-- Frames below methods that end: where the library or methods waited for them, what goes together behind their results.
pub data SameBelow (P Q : Program) (c : Comparison) (names : Names)
    : List RunFrame → List RunFrame → Type 0 where
  none_below : SameBelow P Q c names [] []
  beginnings_below : {class also : ℕ} {ones others : List RunFrame}
      → SameBelow P Q c names (Beginning class ∷ ones) (Beginning also ∷ others)
  library_below : {made made_also : Option ℕ} {ones others : List RunFrame}
      → SameHeld names made made_also
      → c.frames names (Library None ∷ ones) (Library None ∷ others)
      → SameBelow P Q c names (Library made ∷ ones) (Library made_also ∷ others)
  methods_below : {waiting also : MethodState} {ones others : List RunFrame}
      → ((values values_also : List Value)
      → SameValues names values values_also
      → c.frames names (Method (resumed waiting values) ∷ ones) (Method (resumed also values_also) ∷ others))
      → SameBelow P Q c names (Method waiting ∷ ones) (Method also ∷ others)

-- What goes together behind the end of a method in both: a class initialiser leaves the frames below as they are.
pub record Returns (P Q : Program) (c : Comparison) (names : Names) (f g : MethodState)
    (rest rest_also : List RunFrame)
    : Type 0 where
  pub ends : EndSame P Q f g
  pub held : SameHeld names f.held g.held
  pub initialised : IsTrue (is_initialiser ends.method) → c.frames names rest rest_also
  pub below : IsFalse (is_initialiser ends.method) → SameBelow P Q c names rest rest_also
