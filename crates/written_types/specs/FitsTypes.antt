-- What types have where a plan leads: at each point that it reaches, and behind each edge. It is this project's profile.
use Rattle.std.specs.Prelude.{◌≡◌, ℕ, Bool, List, [], ◌∷◌, map, slice_get, is_some, Some, IsTrue}
use Rattle.std.specs.List.{AllByRecursion}
use Rattle.std.specs.Option.{option_flatten}
use Rattle.class_model.specs.Code.{verification_type}
use Rattle.class_model.specs.Frames.{is_wide}
use Rattle.class_model.specs.declared.frame.VType.{VType}
use Rattle.class_model.specs.declared.frame.VType.TheVariants.{Object, Top, Uninit, UninitThis}
use Rattle.class_model.specs.declared.instr.Instr.TheVariants.{New}
use Rattle.class_tree.specs.Headers.{headers_of}
use Rattle.flow_code.specs.FlatCode.{point_at}
use Rattle.flow_code.specs.ReadTypes.{read_type}
use Rattle.flow_code.specs.declared.point.FlatInstr.TheVariants.{Of}
use Rattle.flow_code.specs.declared.point.Point.{Point}
use Rattle.flow_code.specs.declared.point.Site.{Site}
use Rattle.member_link.specs.Assignability.{IsAssignable}
use Rattle.plan_flow.specs.PlanScope.{PlanScope}
use Rattle.plan_flow.specs.Plans.{unusable_places}
use Rattle.plan_flow.specs.ReadyForPlans.{place_types}
use Rattle.plan_flow.specs.Written.Blocks.{state_written}
use Rattle.plan_flow.specs.Written.Routes.{Route, RouteEdge, Routes}
use Rattle.making_code.specs.StateFrames.{local_types_from}
use Rattle.virtual_state.specs.States.{State, is_unusable, object_of}
use Rattle.virtual_state.specs.declared.slot.Slot.{Slot}
use Rattle.virtual_state.specs.declared.slot.Slot.TheVariants.{Plain, Virt, Unusable}
use Rattle.virtual_state.specs.declared.slot.VObject.{VObject}

-- ---- virtual objects

-- An object of a site's class may stand for a type.
pub record IsOfType (s : PlanScope) (number : ℕ) (type : VType) : Type 0 where
  pub site : Site
  pub there : slice_get s.flat.sites number ≡ Some site
  pub assignable : IsAssignable (headers_of s.classes) (Object site.class) type

-- where a slot holds a virtual object
abbrev pub HasType : PlanScope → VType → Slot → Type 0
HasType s type Plain = Unit {0}
HasType s type (Virt site) = IsOfType s site type
HasType s type Unusable = Unit {0}

-- slots, one for each type
abbrev pub HaveTypes : PlanScope → List VType → List Slot → Type 0
HaveTypes s [] [] = Unit {0}
HaveTypes s (type ∷ types) (slot ∷ slots) = HasType s type slot × HaveTypes s types slots
HaveTypes s types slots = ⊥

-- An object of a site has a slot for each field, and what it holds may stand for the field's declared type.
pub record HasFieldTypes (s : PlanScope) (number : ℕ) (object : VObject) : Type 0 where
  pub site : Site
  pub there : slice_get s.flat.sites number ≡ Some site
  pub fields : HaveTypes s (map verification_type site.fields) object.fields

-- ---- uninitialised objects

-- a new stands at a point that is reached
pub record IsReachedNew (s : PlanScope) (reached : ℕ → Bool) (at : ℕ) : Type 0 where
  pub point : Point
  pub there : point_at s.flat at ≡ Some point
  pub class : ℕ
  pub index : ℕ
  pub is_new : point.instr ≡ Of class (New index)
  pub is_reached : IsTrue (reached at)

-- A type that is read: an uninitialised object is that of such a new, and there is no uninitialised this.
abbrev pub HasItsNew : PlanScope → (ℕ → Bool) → VType → Type 0
HasItsNew s reached (Uninit at) = IsReachedNew s reached at
HasItsNew s reached UninitThis = ⊥
HasItsNew s reached type = Unit {0}

-- ---- longs and doubles

abbrev pub BeginsWithTop : List VType → Type 0
BeginsWithTop [] = ⊥
BeginsWithTop (type ∷ types) = type ≡ Top

-- behind each long or double is a unit whose type is Top
abbrev pub HavePairs : List VType → Type 0
HavePairs [] = Unit {0}
HavePairs (type ∷ types) = (IsTrue (is_wide type) → BeginsWithTop types) × HavePairs types

-- the slot of a long or double is plain
abbrev pub HoldPairs : List VType → List Slot → Type 0
HoldPairs (type ∷ types) (slot ∷ slots) =
    (IsTrue (is_wide type) → slot ≡ Plain) × HoldPairs types slots
HoldPairs types slots = Unit {0}

-- ---- states

-- A state at the typed point of a number, where a test tells which points are reached: each place and field has a type that its
-- virtual object may stand for, a unit is unusable exactly where its type is Top, each uninitialised object has its new, and longs and doubles
-- have two units, also as they are written.
pub record FitsTypes (s : PlanScope) (reached : ℕ → Bool) (at : ℕ) (state : State) : Type 0 where
  pub point : Point
  pub there : point_at s.flat at ≡ Some point
  pub slots : HaveTypes s (map (read_type s.flat) (place_types point.typed)) state.slots
  pub unusable : map is_unusable state.slots ≡ unusable_places s at
  pub objects : (number : ℕ) (object : VObject)
      → object_of state.objects number ≡ Some object
      → HasFieldTypes s number object
  pub locals :
      AllByRecursion (HasItsNew s reached) (map (read_type s.flat) point.typed.locals)
  pub stack : AllByRecursion (HasItsNew s reached) (map (read_type s.flat) point.typed.stack)
  pub pairs : HavePairs point.typed.locals
  pub plain_pairs : HoldPairs point.typed.locals state.slots
  pub written_pairs : HavePairs (local_types_from s.flat point.typed.locals state.slots)

-- ---- routes

abbrev pub is_reached : Routes → ℕ → Bool
is_reached routes at = is_some (option_flatten (slice_get routes at))

-- The routes of a plan: the states before and after objects are made at a point, and behind each edge.
pub record FitsRoutes (s : PlanScope) (routes : Routes) : Type 0 where
  pub before : (at : ℕ) (route : Route)
      → slice_get routes at ≡ Some (Some route)
      → FitsTypes s (is_reached routes) at route.state
  pub written : (at : ℕ) (route : Route)
      → slice_get routes at ≡ Some (Some route)
      → FitsTypes s (is_reached routes) at (state_written route)
  pub edges : (at number : ℕ) (route : Route) (edge : RouteEdge)
      → slice_get routes at ≡ Some (Some route)
      → slice_get route.edges number ≡ Some edge
      → FitsTypes s (is_reached routes) edge.to edge.state
