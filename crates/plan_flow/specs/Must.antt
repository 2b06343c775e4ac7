-- Which virtual objects an instruction asks to be made. It is this project's profile.
use Rattle.std.specs.Prelude.{◌≡◌, ◌⊎◌, ℕ, Bool, List, [], slice_get, Option, Some, None, IsTrue, IsFalse}
use Rattle.std.specs.List.{filter}
use Rattle.flow_code.specs.FlatCode.{point_at}
use Rattle.flow_code.specs.declared.point.Point.{Point}
use Rattle.plan_flow.specs.PlanRows.{Position, any_object, object_put_into, object_not_below, object_at_depth, object_of_site, PlanRow, RowEdge}
use Rattle.plan_flow.specs.PlanScope.{PlanScope, is_site_below, stack_types}
use Rattle.plan_flow.specs.PlanSlots.{held, is_open, stack_slots, beneath_top}
use Rattle.plan_flow.specs.PlanTable.{row_at, edges_of, positions}
use Rattle.virtual_state.specs.Depths.{depth_of}
use Rattle.virtual_state.specs.Sites.{has}
use Rattle.virtual_state.specs.States.{State, IsIncreasing, IsPath, is_present, names}
use Rattle.virtual_state.specs.Without.{IsClosed}
use Rattle.virtual_state.specs.declared.slot.Slot.{Slot}
use Rattle.virtual_state.specs.declared.slot.Slot.TheVariants.{Plain, Virt, Unusable}

-- ---- rows and edges of points

abbrev pub row_of_point : PlanScope → ℕ → Point → PlanRow
row_of_point s at point = row_at s at point.typed point.instr

-- the edges that control may take in a state, in order
abbrev pub open_edges : PlanScope → ℕ → Point → State → List RowEdge
open_edges s at point state =
    filter (λ edge. is_open state edge.guard) (edges_of at point (row_of_point s at point))

-- ---- what is asked

-- An object that is put into what a slot holds must be made: that was made, or it is the object itself or reaches it over fields.
abbrev pub CannotBePut : State → ℕ → Slot → Type 0
CannotBePut state site Plain = Unit {0}
CannotBePut state site (Virt into) = (site ≡ into) ⊎ IsPath state.objects site into
CannotBePut state site Unusable = Unit {0}

-- a position asks for the object of a site
abbrev pub AsksFor : PlanScope → State → Position → ℕ → Type 0
AsksFor s state (any_object place) site = held state place ≡ Virt site
AsksFor s state (object_put_into value object) site =
    (held state value ≡ Virt site) × CannotBePut state site (held state object)
AsksFor s state (object_not_below place name) site =
    (held state place ≡ Virt site) × IsFalse (is_site_below s site name)
AsksFor s state (object_at_depth place depth) site =
    (held state place ≡ Virt site) × (depth_of state site ≡ Some depth)
AsksFor s state (object_of_site one) site =
    (one ≡ site) × IsTrue (is_present state.objects site)

-- The object of a site that is present is asked for: by a position of the instruction, or by an edge on whose stack it comes to lie
-- at or below an entry whose type is Top, since no instruction takes such an entry away.
pub data IsAsked (s : PlanScope) (at : ℕ) (point : Point) (state : State) : ℕ → Type 0 where
  by_position : (number : ℕ) (position : Position) (site : ℕ)
      → slice_get (positions (row_of_point s at point)) number ≡ Some position
      → AsksFor s state position site
      → IsAsked s at point state site
  beneath : (number : ℕ) (edge : RowEdge) (site : ℕ)
      → slice_get (open_edges s at point state) number ≡ Some edge
      → IsTrue (names (beneath_top (stack_types s.flat edge.to)
      (stack_slots s state (row_of_point s at point) edge)) site)
      → IsTrue (is_present state.objects site)
      → IsAsked s at point state site

-- The sites of a point in a state: the least closed set that has each site that is asked for.
pub record IsMustOf (s : PlanScope) (at : ℕ) (point : Point) (state : State) (sites : List ℕ)
    : Type 0 where
  pub order : IsIncreasing sites
  pub asked : (site : ℕ) → IsAsked s at point state site → IsTrue (has sites site)
  pub closed : IsClosed (has sites) state.objects
  pub least : (other : ℕ → Bool)
      → ((site : ℕ) → IsAsked s at point state site → IsTrue (other site))
      → IsClosed other state.objects
      → (site : ℕ)
      → IsTrue (has sites site)
      → IsTrue (other site)

-- the same of a point, if there is one
abbrev pub IsMustIn : PlanScope → ℕ → Option Point → State → List ℕ → Type 0
IsMustIn s at None state sites = sites ≡ []
IsMustIn s at (Some point) state sites = IsMustOf s at point state sites

-- the same of the point of a number
abbrev pub IsMust : PlanScope → ℕ → State → List ℕ → Type 0
IsMust s at state sites = IsMustIn s at (point_at s.flat at) state sites
