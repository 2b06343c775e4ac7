-- Frames of a folder's program, and those of the program whose hosts run flat code, that go together.
use Rattle.std.specs.Prelude.{◌≡◌, ◌≤◌, ◌++◌, ℕ, Bool, true, false, List, [], ◌∷◌, length, map, Option, Some, None, IsTrue}
use Rattle.class_model.specs.declared.class_file.MethodAt.{MethodAt}
use Rattle.class_model.specs.declared.frame.Frame.{Frame}
use Rattle.class_model.specs.declared.instr.Placed.{Placed}
use Rattle.expanded_code.specs.ExpandAnswers.{IsExpanded}
use Rattle.expanded_code.specs.Expansions.{Coded, Expansion}
use Rattle.expanded_runs.proofs.Runs.FlatOps.{OpStands}
use Rattle.expanded_runs.proofs.Runs.Positions.{IsReplacedAt, Standing, host_standing, inner_standing, scope_of, start_of}
use Rattle.expanded_runs.proofs.Runs.Setup.{Setup, after, before}
use Rattle.flow_code.specs.FlatCode.{FlatCode}
use Rattle.machine_values.specs.Frames.{MethodState}
use Rattle.machine_values.specs.declared.frame.RunFrame.{RunFrame}
use Rattle.machine_values.specs.declared.frame.RunFrame.TheVariants.{Beginning, Library, Method}
use Rattle.machine_values.specs.declared.value.Value.{Value}
use Rattle.member_link.specs.Machine.Beginnings.{frame_with}
use Rattle.member_link.specs.Machine.Programs.{Point, point_at}
use Rattle.same_runs.specs.Laws.MethodPoints.{is_awaited_in}
use Rattle.same_runs.specs.Renamings.{Names, SameHeld, SameUnits, SameValues}
use Rattle.same_runs.specs.SameMoves.{ShiftedUnits}
use Rattle.same_runs.specs.SameWorlds.{Comparison}

-- ---- one method of a flat code

-- the host holds what the flat code's frame holds, and a callee holds none
abbrev pub Holds : Names → List MethodAt → Option ℕ → Option ℕ → Type 0
Holds names [] held held_also = SameHeld names held held_also
Holds names (callee ∷ chain) held held_also = held ≡ None

-- A frame of a method that stands in flat code: its units are some of the flat code's, and its stack stands in the flat code's frame.
pub record InPlace (names : Names) (chain : List MethodAt) (p : Standing) (f : MethodState)
    (held_also : Option ℕ) (locals : List (Option Value)) (top : List Value)
    : Type 0 where
  pub at : f.at ≡ p.setting.coded.at
  pub units : ShiftedUnits names p.setting.unit (scope_of p).part.max_locals f.locals locals
  pub same : SameValues names f.stack top
  pub held : Holds names chain f.held held_also

-- ---- callees within callees

-- The frames below that of a method in flat code, the innermost first: each waits at the call that the one above replaces. With the values
-- that the flat code's frame has below those of the method.
pub data Inside (names : Names) (host : Coded) (expansion : Expansion) (held_also : Option ℕ)
    (locals : List (Option Value))
    : List MethodAt → Standing → List MethodState → List Value → Type 0 where
  in_host : Inside names host expansion held_also locals [] (host_standing host expansion) [] []
  in_callee : {chain : List MethodAt} {p : Standing} {waiting : List MethodState} {below : List Value}
      (f : MethodState) (top : List Value) (placed : Placed) (frame : Frame) (g : Coded) (inner : Expansion)
      → Inside names host expansion held_also locals chain p waiting below
      → InPlace names chain p f held_also locals top
      → IsReplacedAt p f.place placed frame g inner
      → Inside names host expansion held_also locals (g.at ∷ chain) (inner_standing p f.place placed frame g inner)
      (f ∷ waiting) (top ++ below)

-- A frame of the first with those that wait below it, and the one frame of its flat code.
pub record InFlat (u : Setup) (names : Names) (f : MethodState) (waiting : List MethodState)
    (g : MethodState)
    : Type 0 where
  pub flat : FlatCode
  pub is_flat : u.flats g.at ≡ Some flat
  pub expanded : IsExpanded u.classes u.typed g.at flat
  pub chain : List MethodAt
  pub p : Standing
  pub below : List Value
  pub inside : Inside names expanded.host expanded.expansion g.held g.locals chain p waiting below
  pub top : List Value
  pub in_place : InPlace names chain p f g.held g.locals top
  pub place : g.place ≡ start_of p f.place
  pub stack : g.stack ≡ top ++ below
  pub room : flat.locals ≤ length g.locals

-- A frame of a method that runs its own code in both.
pub record InOwn (u : Setup) (names : Names) (f g : MethodState) : Type 0 where
  pub no_flat : u.flats f.at ≡ None
  pub at : g.at ≡ f.at
  pub place : g.place ≡ f.place
  pub locals : SameUnits names f.locals g.locals
  pub stack : SameValues names f.stack g.stack
  pub held : SameHeld names f.held g.held

-- ---- all frames

-- A frame of flat code waits at an instruction that stays as it is.
pub record WaitsInFlat (u : Setup) (host : Coded) (p : Standing) (at : MethodAt) (place : ℕ) : Type 0 where
  pub placed : Placed
  pub point : Point
  pub is_point : point_at (before u) at place ≡ Some point
  pub stands : OpStands u host p place placed point

-- the frame below a method's waits for it, where the method is no class initialiser
abbrev pub is_awaited : Setup → MethodAt → Bool
is_awaited u at = is_awaited_in (before u) at

-- Frames one by one. A frame below that of a called method or of the library waits; of one that is on top, or that stands below the
-- beginning of a class or its initialiser, nothing is asked.
pub data SameStanding (u : Setup) : Bool → Names → List RunFrame → List RunFrame → Type 0 where
  none_stand : {waits : Bool} {names : Names} → SameStanding u waits names [] []
  libraries_stand : {waits : Bool} {names : Names} {made made_also : Option ℕ} {ones others : List RunFrame}
      → SameHeld names made made_also
      → SameStanding u true names ones others
      → SameStanding u waits names (Library made ∷ ones) (Library made_also ∷ others)
  beginnings_stand : {waits : Bool} {names : Names} {class : ℕ} {ones others : List RunFrame}
      → SameStanding u false names ones others
      → SameStanding u waits names (Beginning class ∷ ones) (Beginning class ∷ others)
  own_stand : {waits : Bool} {names : Names} {f g : MethodState} {ones others : List RunFrame}
      → InOwn u names f g
      → SameStanding u (is_awaited u g.at) names ones others
      → SameStanding u waits names (Method f ∷ ones) (Method g ∷ others)
  flat_stands : {waits : Bool} {names : Names} {f g : MethodState} {waiting : List MethodState} {ones others : List RunFrame}
      (in_flat : InFlat u names f waiting g)
      → (IsTrue waits → WaitsInFlat u in_flat.expanded.host in_flat.p f.at f.place)
      → SameStanding u (is_awaited u g.at) names ones others
      → SameStanding u waits names (Method f ∷ map Method waiting ++ ones) (Method g ∷ others)

-- A frame with which a method begins that has a flat code: how many units there are is not known yet.
pub record IsFresh (u : Setup) (names : Names) (f g : MethodState) : Type 0 where
  pub at : MethodAt
  pub flat : FlatCode
  pub is_flat : u.flats at ≡ Some flat
  pub units : List (Option Value)
  pub units_also : List (Option Value)
  pub same : SameUnits names units units_also
  pub held : SameHeld names f.held g.held
  pub is : f ≡ frame_with (before u) at units f.held
  pub is_also : g ≡ frame_with (after u) at units_also g.held

-- What goes together behind a turn of both.
pub data SameTop (u : Setup) (names : Names) : List RunFrame → List RunFrame → Type 0 where
  settled : {ones others : List RunFrame}
      → SameStanding u false names ones others
      → SameTop u names ones others
  begins_fresh : {f g : MethodState} {ones others : List RunFrame}
      → IsFresh u names f g
      → SameStanding u (is_awaited u g.at) names ones others
      → SameTop u names (Method f ∷ ones) (Method g ∷ others)
  begins_class : {class : ℕ} {ones others : List RunFrame}
      → SameTop u names ones others
      → SameTop u names (Beginning class ∷ ones) (Beginning class ∷ others)

-- how runs are compared: counts are equal, and no object is apart
abbrev pub comparison : Setup → Comparison
comparison u = record {
  allocated = λ one other. one ≡ other;
  entered = λ one other. one ≡ other;
  shows_allocated = λ one other. one ≡ other;
  shows_entered = λ one other. one ≡ other;
  apart = [];
  frames = SameTop u;
  lands = SameTop u;
}
