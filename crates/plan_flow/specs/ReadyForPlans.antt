-- What is asked of a flat code so that each valid plan of it can be written. It is this project's profile.
use Rattle.std.specs.Prelude.{◌≡◌, ℕ, List, length, ◌++◌, Some, IsTrue, IsFalse}
use Rattle.std.specs.List.{AllByRecursion, slice_get}
use Rattle.class_model.specs.declared.frame.Frame.{Frame}
use Rattle.class_model.specs.declared.frame.VType.{VType}
use Rattle.class_model.specs.declared.frame.VType.TheVariants.{Uninit}
use Rattle.flow_code.specs.FlatCode.{FlatCode, point_at}
use Rattle.flow_code.specs.ReadTypes.{is_site_object}
use Rattle.flow_code.specs.declared.point.Point.{Point}
use Rattle.plan_flow.specs.Must.{row_of_point}
use Rattle.plan_flow.specs.Narrow.{IsNarrow}
use Rattle.plan_flow.specs.PlanRows.{RowEdge, Source, from_new, from_place}
use Rattle.plan_flow.specs.PlanScope.{PlanScope, local_types, stack_types}
use Rattle.plan_flow.specs.PlanSlots.{edge_locals, edge_stack}
use Rattle.plan_flow.specs.PlanTable.{edges_of}
use Rattle.plan_flow.specs.Plans.{FlowsInside}

-- ---- uninitialised objects of candidate sites

-- the types of the places before a point
abbrev pub place_types : Frame → List VType
place_types f = f.locals ++ f.stack

-- A value behind a point of a number comes from a place of the same type, or it is the object that the point makes.
pub data KeepsType (at : ℕ) (before : List VType) (type : VType) : Source → Type 0 where
  from_its_type : (place : ℕ)
      → slice_get before place ≡ Some type
      → KeepsType at before type (from_place place)
  from_its_new : type ≡ Uninit at → KeepsType at before type from_new

-- each of these types that is that of an uninitialised object of a site is kept by its source
abbrev pub KeepsTypes : PlanScope → ℕ → List VType → List Source → List VType → Type 0
KeepsTypes s at before sources types =
    (number : ℕ) (type : VType)
    → slice_get types number ≡ Some type
    → IsTrue (is_site_object s.flat type)
    → (source : Source) × (slice_get sources number ≡ Some source) × KeepsType at before type source

-- along an edge of a point, the local units and the stack
pub record KeepsAlong (s : PlanScope) (at : ℕ) (point : Point) (edge : RowEdge) : Type 0 where
  pub locals : KeepsTypes s at (place_types point.typed)
      (edge_locals (row_of_point s at point) (length point.typed.locals) edge.by)
      (local_types s.flat edge.to)
  pub stack : KeepsTypes s at (place_types point.typed)
      (edge_stack (row_of_point s at point) edge.by) (stack_types s.flat edge.to)

-- The type of an uninitialised object of a candidate site is at no place of the first point, and comes along an edge only from the same type
-- or from its new. Otherwise null could be where the object is taken to be: null is assignable to the class as which the type is read.
pub record KeepsUninit (s : PlanScope) : Type 0 where
  pub start : (number : ℕ) (type : VType)
      → slice_get (local_types s.flat 0 ++ stack_types s.flat 0) number ≡ Some type
      → IsFalse (is_site_object s.flat type)
  pub along : (at : ℕ) (point : Point)
      → point_at s.flat at ≡ Some point
      → AllByRecursion (KeepsAlong s at point) (edges_of at point (row_of_point s at point))

-- ---- the whole

-- control stays inside, numbers fit their types, each point has the local units of the flat code, and uninitialised objects are kept apart
pub record IsReadyForPlans (s : PlanScope) : Type 0 where
  pub flows : FlowsInside s.flat
  pub narrow : IsNarrow s.flat
  pub widths : AllByRecursion (λ point. length point.typed.locals ≡ s.flat.locals) s.flat.points
  pub uninit : KeepsUninit s
