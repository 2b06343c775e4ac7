-- All frames of the two runs that go together, and how runs are compared while the first has objects that the second has not.
use Rattle.std.specs.Prelude.{◌≡◌, ◌≤◌, ◌+◌, ℕ, Bool, true, false, List, [], ◌∷◌, length, map, slice_get, Option, Some, None, IsTrue}
use Rattle.class_model.specs.declared.class_file.MethodAt.{MethodAt}
use Rattle.machine_values.specs.Frames.{MethodState}
use Rattle.machine_values.specs.declared.frame.RunFrame.{RunFrame}
use Rattle.machine_values.specs.declared.frame.RunFrame.TheVariants.{Beginning, Library, Method}
use Rattle.machine_values.specs.declared.value.Value.{Value}
use Rattle.member_link.specs.Machine.Beginnings.{frame_with}
use Rattle.plan_flow.specs.Written.Blocks.{Block}
use Rattle.plan_flow.specs.Written.WrittenPrograms.{WrittenMethod}
use Rattle.same_runs.specs.Laws.MethodPoints.{is_awaited_in}
use Rattle.same_runs.specs.Renamings.{Names, SameHeld, SameUnits, SameValues}
use Rattle.same_runs.specs.SameMemories.{Apart}
use Rattle.same_runs.specs.SameWorlds.{Comparison}
use Rattle.written_runs.specs.Inner.PlannedFrames.{InPlanned, Known, Moment, arrives, stays, waits}
use Rattle.written_runs.specs.Inner.Setup.{Setup, first, second}
use Rattle.written_runs.specs.VirtualObjects.{Virtual, Virtuals}

-- ---- frames

-- A frame of a method that runs its own code in both.
pub record InOwn (u : Setup) (names : Names) (f g : MethodState) : Type 0 where
  pub not_written : u.written f.at ≡ None
  pub at : g.at ≡ f.at
  pub place : g.place ≡ f.place
  pub locals : SameUnits names f.locals g.locals
  pub stack : SameValues names f.stack g.stack
  pub held : SameHeld names f.held g.held

-- the frame below a method's waits for it, where the method is no class initialiser
abbrev pub is_awaited : Setup → MethodAt → Bool
is_awaited u at = is_awaited_in (first u) at

-- a frame waits at an instruction that is written as it is
abbrev pub IsWaiting : {u : Setup} {known : Known} {one : WrittenMethod} {f g : MethodState} {block : Block}
    → Moment u known one f g block
    → Type 0
IsWaiting (arrives here told) = ⊥
IsWaiting (stays point route here of_instruction met) = ⊥
IsWaiting (waits point route here of_instruction met carried awaits) = Unit {0}

-- Frames one by one. A frame below that of a called method or of the library waits; of one that is on top, or that stands below the beginning of a
-- class or its initialiser, nothing is asked.
pub data Stands (u : Setup) (virtuals : Virtuals) (known : Known) : Bool → Names → List RunFrame → List RunFrame → Type 0 where
  none_stand : {waiting : Bool} {names : Names} → Stands u virtuals known waiting names [] []
  libraries_stand : {waiting : Bool} {names : Names} {made made_also : Option ℕ} {ones others : List RunFrame}
      → SameHeld names made made_also
      → Stands u virtuals known true names ones others
      → Stands u virtuals known waiting names (Library made ∷ ones) (Library made_also ∷ others)
  beginnings_stand : {waiting : Bool} {names : Names} {class : ℕ} {ones others : List RunFrame}
      → Stands u virtuals known false names ones others
      → Stands u virtuals known waiting names (Beginning class ∷ ones) (Beginning class ∷ others)
  own_stand : {waiting : Bool} {names : Names} {f g : MethodState} {ones others : List RunFrame}
      → InOwn u names f g
      → Stands u virtuals known (is_awaited u g.at) names ones others
      → Stands u virtuals known waiting names (Method f ∷ ones) (Method g ∷ others)
  planned_stand : {waiting : Bool} {names : Names} {f g : MethodState} {ones others : List RunFrame}
      (in_planned : InPlanned u virtuals known names (length ones) f g)
      → (IsTrue waiting → IsWaiting in_planned.moment)
      → Stands u virtuals known (is_awaited u g.at) names ones others
      → Stands u virtuals known waiting names (Method f ∷ ones) (Method g ∷ others)

-- A frame with which a method begins that is rewritten: how many units there are is not known yet.
pub record IsFresh (u : Setup) (names : Names) (f g : MethodState) : Type 0 where
  pub at : MethodAt
  pub one : WrittenMethod
  pub is_written : u.written at ≡ Some one
  pub units : List (Option Value)
  pub units_also : List (Option Value)
  pub same : SameUnits names units units_also
  pub held : SameHeld names f.held g.held
  pub is : f ≡ frame_with (first u) at units f.held
  pub is_also : g ≡ frame_with (second u) at units_also g.held

-- no virtual object is of the frame with so many frames below it
pub record HasNone (virtuals : Virtuals) (frame : ℕ) : Type 0 where
  pub none : (number : ℕ) (virtual : Virtual)
      → slice_get virtuals number ≡ Some virtual
      → virtual.frame ≡ frame
      → ⊥

-- What goes together behind a turn of both.
pub data SameTop (u : Setup) (virtuals : Virtuals) (known : Known) (names : Names) : List RunFrame → List RunFrame → Type 0 where
  stands : {ones others : List RunFrame}
      → Stands u virtuals known false names ones others
      → SameTop u virtuals known names ones others
  begins_fresh : {f g : MethodState} {ones others : List RunFrame}
      → IsFresh u names f g
      → HasNone virtuals (length ones)
      → Stands u virtuals known (is_awaited u g.at) names ones others
      → SameTop u virtuals known names (Method f ∷ ones) (Method g ∷ others)
  begins_class : {class : ℕ} {ones others : List RunFrame}
      → SameTop u virtuals known names ones others
      → SameTop u virtuals known names (Beginning class ∷ ones) (Beginning class ∷ others)

-- ---- how runs are compared

abbrev pub apart : Virtuals → Apart
apart virtuals = map (λ virtual. (virtual.reference, virtual.object)) virtuals

-- how often the monitors of virtual objects are entered
abbrev pub entered : Virtuals → ℕ
entered [] = 0
entered (virtual ∷ virtuals) = virtual.object.monitor + entered virtuals

-- The second has made fewer objects by those that are virtual, and entered fewer monitors by their locks; more than the first it never has.
abbrev pub comparison : Setup → Virtuals → Known → Comparison
comparison u virtuals known = record {
  allocated = λ one other. other + length virtuals ≤ one;
  entered = λ one other. other + entered virtuals ≤ one;
  shows_allocated = λ one other. other ≤ one;
  shows_entered = λ one other. other ≤ one;
  apart = apart virtuals;
  frames = SameTop u virtuals known;
  lands = SameTop u virtuals known;
}
