-- Frames of two runs as an object that is thrown goes through them. Which frames go together a theorem says itself, by two relations: of frames
-- that stand in both, and of those in which an object has landed in a handler.
use Rattle.std.specs.Prelude.{◌≡◌, ℕ, false, List, [], ◌∷◌, Option, Some, None, IsFalse}
use Rattle.class_tree.specs.Headers.{Name}
use Rattle.machine_values.specs.Frames.{MethodState}
use Rattle.machine_values.specs.declared.frame.RunFrame.{RunFrame}
use Rattle.machine_values.specs.declared.frame.RunFrame.TheVariants.{Library, Beginning, Method}
use Rattle.machine_values.specs.declared.value.Value.TheVariants.{Ref}
use Rattle.member_link.specs.Machine.Performing.{Landing, is_initialiser, lands_in, lands_in_library, leaves_initialiser, lands_nowhere}
use Rattle.member_link.specs.Machine.Programs.{Catch, Point, Program, RunMethod, point_at, run_method}
use Rattle.member_link.specs.Machine.Worlds.{Memory}
use Rattle.same_runs.specs.Renamings.{Names, NamesMore, SameHeld}
use Rattle.same_runs.specs.SameMemories.{Apart, SameMemories}

-- ---- handlers

-- the handlers around the point at which a frame stands
abbrev pub catches_at : Program → MethodState → List Catch
catches_at P f = of_point (point_at P f.at f.place) where
  of_point : Option Point → List Catch
  of_point None = []
  of_point (Some point) = point.catches

-- a frame whose method goes on in a handler with an object
abbrev pub caught : MethodState → ℕ → ℕ → MethodState
caught f to reference = record f { place = to; stack = Ref reference ∷ [] }

-- handlers one by one: they catch the same, and an object lands in both
pub data SameCatches (Lands : Names → List RunFrame → List RunFrame → Type 0) (names : Names)
    (f g : MethodState) (ones others : List RunFrame)
    : List Catch → List Catch → Type 0 where
  no_catches : SameCatches Lands names f g ones others [] []
  and_catch : {class : Option Name} {to to_also : ℕ} {catches also : List Catch}
      → ((more : Names) (reference named : ℕ)
      → NamesMore names more
      → more reference ≡ Some named
      → Lands more (Method (caught f to reference) ∷ ones) (Method (caught g to_also named) ∷ others))
      → SameCatches Lands names f g ones others catches also
      → SameCatches Lands names f g ones others (record { to = to; class = class } ∷ catches)
      (record { to = to_also; class = class } ∷ also)

-- ---- frames that an object is thrown through

-- the methods of two frames are class initialisers, or neither is
pub record EndSame (P Q : Program) (f g : MethodState) : Type 0 where
  pub method : RunMethod
  pub also : RunMethod
  pub is : run_method P f.at ≡ Some method
  pub is_also : run_method Q g.at ≡ Some also
  pub same : is_initialiser also ≡ is_initialiser method

-- a frame of the first alone: a method without handlers that holds no monitor
pub record PassesOn (P : Program) (f : MethodState) : Type 0 where
  pub method : RunMethod
  pub is : run_method P f.at ≡ Some method
  pub no_initialiser : is_initialiser method ≡ false
  pub holds_none : f.held ≡ None
  pub catches_none : catches_at P f ≡ []

-- An object that is thrown passes frames one by one, up to the library's. Out of a class initialiser no object goes further: the run is over,
-- and of the frames below that of one nothing is asked.
pub data Unwinds (P Q : Program) (SameFrames Lands : Names → List RunFrame → List RunFrame → Type 0)
    (names : Names)
    : List RunFrame → List RunFrame → Type 0 where
  in_library : {made made_also : Option ℕ} {ones others : List RunFrame}
      → SameFrames names (Library None ∷ ones) (Library None ∷ others)
      → Unwinds P Q SameFrames Lands names (Library made ∷ ones) (Library made_also ∷ others)
  in_both : {f g : MethodState} {ones others : List RunFrame}
      (ends : EndSame P Q f g)
      → SameHeld names f.held g.held
      → SameCatches Lands names f g ones others (catches_at P f) (catches_at Q g)
      → SameFrames names ones others
      → (IsFalse (is_initialiser ends.method) → Unwinds P Q SameFrames Lands names ones others)
      → Unwinds P Q SameFrames Lands names (Method f ∷ ones) (Method g ∷ others)
  in_first : {f : MethodState} {ones others : List RunFrame}
      → PassesOn P f
      → Unwinds P Q SameFrames Lands names ones others
      → Unwinds P Q SameFrames Lands names (Method f ∷ ones) others
  in_beginnings : {class also : ℕ} {ones others : List RunFrame}
      → Unwinds P Q SameFrames Lands names (Beginning class ∷ ones) (Beginning also ∷ others)
  in_none : Unwinds P Q SameFrames Lands names [] []

-- ---- where an object ends

pub data SameLanding (P : Program) (Allocated Entered : ℕ → ℕ → Type 0) (apart : Apart)
    (SameFrames Lands : Names → List RunFrame → List RunFrame → Type 0) (names : Names)
    : Landing → Landing → Type 0 where
  both_catch : {memory also : Memory} {ones others : List RunFrame}
      → SameMemories P Allocated Entered apart names [] memory also
      → Lands names ones others
      → SameLanding P Allocated Entered apart SameFrames Lands names (lands_in memory ones) (lands_in also others)
  both_reach_library : {memory also : Memory} {ones others : List RunFrame}
      → SameMemories P Allocated Entered apart names [] memory also
      → SameFrames names (Library None ∷ ones) (Library None ∷ others)
      → SameLanding P Allocated Entered apart SameFrames Lands names
      (lands_in_library memory (Library None ∷ ones)) (lands_in_library also (Library None ∷ others))
  both_leave : {memory also : Memory} {ones others : List RunFrame}
      → SameMemories P Allocated Entered apart names [] memory also
      → SameLanding P Allocated Entered apart SameFrames Lands names (leaves_initialiser memory ones)
      (leaves_initialiser also others)
  both_nowhere : SameLanding P Allocated Entered apart SameFrames Lands names lands_nowhere lands_nowhere
