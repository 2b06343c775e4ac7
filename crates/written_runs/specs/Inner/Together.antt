-- Runs of the two programs that go together, and the relation that the simulation keeps.
use Rattle.std.specs.Prelude.{◌≡◌, ◌≢◌, ◌⊎◌, ◌≤◌, ◌+◌, ◌-◌, ◌*◌, ◌++◌, ℕ, Bool, false, List, length, map, reverse, slice_get, Some, IsTrue}
use Rattle.std.specs.List.{AllByRecursion}
use Rattle.flow_code.specs.declared.point.Point.{Point}
use Rattle.machine_values.specs.Frames.{MethodState}
use Rattle.machine_values.specs.declared.frame.RunFrame.{RunFrame}
use Rattle.machine_values.specs.declared.frame.RunFrame.TheVariants.{Beginning, Method}
use Rattle.machine_values.specs.Heaps.{Heap, object_at}
use Rattle.machine_values.specs.declared.object.Object.{Object}
use Rattle.machine_values.specs.declared.object.Shape.TheVariants.{Folder}
use Rattle.member_link.specs.Machine.Programs.{Program}
use Rattle.member_link.specs.Machine.Runs.{Run}
use Rattle.member_link.specs.Machine.Worlds.{Memory, going, is_begun}
use Rattle.plan_flow.specs.MetPlans.{MeetsState}
use Rattle.plan_flow.specs.Written.Blocks.{Block}
use Rattle.plan_flow.specs.Written.Routes.{Route}
use Rattle.plan_flow.specs.Written.WrittenPrograms.{WrittenMethod, plan_scope}
use Rattle.same_runs.specs.Laws.AloneRuns.{BeginsAlone, NoTurnBelow}
use Rattle.same_runs.specs.Laws.AloneTurn.{unbegun_in}
use Rattle.same_runs.specs.Renamings.{Names}
use Rattle.same_runs.specs.SameMemories.{SameMemories}
use Rattle.same_runs.specs.SameWorlds.{SameSeen}
use Rattle.same_runs.specs.Simulations.{Quietly}
use Rattle.typed_runs.specs.TypedWorlds.{TypedWorld}
use Rattle.written_runs.specs.Inner.PlannedFrames.{AtBlock, IsInstructionOf, IsKnown, Known}
use Rattle.written_runs.specs.Inner.Setup.{Setup, first, second}
use Rattle.written_runs.specs.Inner.Standing.{Stands, apart, beginnings_stand, comparison, libraries_stand, none_stand, own_stand, planned_stand}
use Rattle.written_runs.specs.VirtualObjects.{AreApart, Virtual, Virtuals}

-- ---- virtual objects

-- each is of a frame whose method is rewritten, and its class is begun
pub record AreOwned (u : Setup) (virtuals : Virtuals) (memory : Memory) (ones : List RunFrame) : Type 0 where
  pub owner : (number : ℕ) (virtual : Virtual)
      → slice_get virtuals number ≡ Some virtual
      → (f : MethodState) × (one : WrittenMethod)
      × (slice_get (reverse ones) virtual.frame ≡ Some (Method f))
      × (u.written f.at ≡ Some one)
  pub begun : (number class : ℕ) (virtual : Virtual)
      → slice_get virtuals number ≡ Some virtual
      → virtual.object.shape ≡ Folder class
      → IsTrue (is_begun memory class)

-- ---- known classes

-- the objects of these references are there, and of these classes of the folder
pub record AreKnown (heap : Heap) (known : Known) : Type 0 where
  pub each : (reference class : ℕ)
      → IsKnown known reference class
      → (object : Object) × (object_at heap reference ≡ Some object) × (object.shape ≡ Folder class)

-- ---- the topmost frame

-- The instruction of the point at which a planned frame stands is next in both, and where the state before the point's objects are made has a
-- virtual object there is an object of its class.
pub record IsSettled (u : Setup) (memory : Memory) (one : WrittenMethod) (f g : MethodState) (block : Block) : Type 0 where
  pub point : Point
  pub route : Route
  pub here : AtBlock u one f g block
  pub of_instruction : IsInstructionOf u one f.place point route block
  pub met : MeetsState (first u) (plan_scope u.classes u.links one) point route.state memory.heap f

abbrev pub TopIsSettled : {u : Setup} {virtuals : Virtuals} {known : Known} {waiting : Bool} {names : Names} {ones others : List RunFrame}
    → Memory
    → Stands u virtuals known waiting names ones others
    → Type 0
TopIsSettled memory none_stand = Unit {0}
TopIsSettled memory (libraries_stand held below) = Unit {0}
TopIsSettled memory (beginnings_stand below) = Unit {0}
TopIsSettled memory (own_stand in_own below) = Unit {0}
TopIsSettled {u = u} memory (planned_stand {f = f} {g = g} in_planned waiting below) =
    IsSettled u memory in_planned.one f g in_planned.block

-- how many points stand behind that of the topmost frame
abbrev pub points_left : {u : Setup} {virtuals : Virtuals} {known : Known} {waiting : Bool} {names : Names} {ones others : List RunFrame}
    → Stands u virtuals known waiting names ones others
    → ℕ
points_left none_stand = 0
points_left (libraries_stand held below) = 0
points_left (beginnings_stand below) = 0
points_left (own_stand in_own below) = 0
points_left (planned_stand {f = f} in_planned waiting below) = length in_planned.one.flat.points - f.place

-- ---- what goes together

-- What falls where the first takes a turn alone: it begins a class, goes on with a beginning, or goes on to a later point over what is written as
-- nothing.
abbrev pub weight : Program → Memory → List ℕ → ℕ → ℕ
weight P memory now left = 2 * unbegun_in P memory + length now + left

-- Runs that go together: their frames, memories and what was seen; on top of the first may stand beginnings that it has begun alone.
pub record Along (u : Setup) (one other : Run) : Type 0 where
  pub virtuals : Virtuals
  pub are_apart : AreApart virtuals
  pub known : Known
  pub are_known : AreKnown one.world.memory.heap known
  pub names : Names
  pub now : List ℕ
  pub ones : List RunFrame
  pub stands : one.world.frames ≡ map Beginning now ++ ones
  pub others : List RunFrame
  pub stands_also : other.world.frames ≡ others
  pub frames : Stands u virtuals known false names ones others
  pub owned : AreOwned u virtuals one.world.memory ones
  pub alone : AllByRecursion (BeginsAlone (first u)) now
  pub no_turn : NoTurnBelow now ones
  pub memories : SameMemories (first u) (comparison u virtuals known).allocated (comparison u virtuals known).entered (apart virtuals)
      names now one.world.memory other.world.memory
  pub seen : SameSeen (comparison u virtuals known) names one.world other.world
  pub goes : one.world.halt ≡ going
  pub goes_also : other.world.halt ≡ going
  pub actions : other.actions ≡ one.actions
  pub used : other.used ≡ one.used
  pub typed : TypedWorld (first u) u.typings one.world

-- the same, where the instruction of the topmost planned frame is next in both
pub record Together (u : Setup) (measure : ℕ) (one other : Run) : Type 0 where
  pub along : Along u one other
  pub settled : TopIsSettled one.world.memory along.frames
  pub low : weight (first u) one.world.memory along.now (points_left along.frames) ≤ measure

-- both are over
pub record Over (u : Setup) (one other : Run) : Type 0 where
  pub virtuals : Virtuals
  pub known : Known
  pub names : Names
  pub seen : SameSeen (comparison u virtuals known) names one.world other.world
  pub over : one.world.halt ≢ going
  pub same : other.world.halt ≡ one.world.halt
  pub actions : other.actions ≡ one.actions
  pub used : other.used ≡ one.used

-- the second goes on quietly to a run that goes together with the first
pub record Related (u : Setup) (measure : ℕ) (one other : Run) : Type 0 where
  pub later : Run
  pub quietly : Quietly (second u) other later
  pub state : Together u measure one later ⊎ Over u one later
