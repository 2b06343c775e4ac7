-- Sites that are added one by one, and what positions ask for.
use Rattle.std.specs.Prelude.{◌≡◌, ◌⊎◌, ℕ, Bool, List, [], ◌∷◌, Some, IsTrue}
use Rattle.class_model.specs.declared.frame.VType.{VType}
use Rattle.flow_code.specs.declared.point.Point.{Point}
use Rattle.plan_flow.specs.Must.{AsksFor, IsAsked}
use Rattle.plan_flow.specs.PlanRows.{Position, PlanRow, RowEdge}
use Rattle.plan_flow.specs.PlanScope.{PlanScope, stack_types}
use Rattle.plan_flow.specs.PlanSlots.{beneath_top, held, stack_slots}
use Rattle.virtual_state.specs.Depths.{depth_of}
use Rattle.virtual_state.specs.Sites.{has}
use Rattle.virtual_state.specs.States.{State, is_present, names}
use Rattle.virtual_state.specs.declared.slot.Slot.{Slot}
use Rattle.virtual_state.specs.declared.slot.Slot.TheVariants.{Virt}

-- The same sites, and those that are asked for.
pub record HasAdded (before after : List ℕ) (Asked : ℕ → Type 0) : Type 0 where
  pub kept : (site : ℕ) → IsTrue (has before site) → IsTrue (has after site)
  pub asked : (site : ℕ) → Asked site → IsTrue (has after site)
  pub only : (site : ℕ) → IsTrue (has after site) → IsTrue (has before site) ⊎ Asked site

-- a slot holds the object of a site, and a test is passed
abbrev pub IsTested : Slot → Bool → ℕ → Type 0
IsTested slot test site = (slot ≡ Virt site) × IsTrue test

-- a place holds the object of a site whose monitor is entered so often
abbrev pub IsAtDepth : State → ℕ → ℕ → ℕ → Type 0
IsAtDepth state place depth site =
    (held state place ≡ Virt site) × (depth_of state site ≡ Some depth)

-- one of these positions asks for the object of a site
abbrev pub IsAskedIn : PlanScope → State → List Position → ℕ → Type 0
IsAskedIn s state [] site = ⊥
IsAskedIn s state (position ∷ positions) site =
    AsksFor s state position site ⊎ IsAskedIn s state positions site

-- a site that is present lies at or below a stack entry whose type is Top
abbrev pub IsBeneath : State → List VType → List Slot → ℕ → Type 0
IsBeneath state types slots site =
    IsTrue (names (beneath_top types slots) site) × IsTrue (is_present state.objects site)

-- so it does on the stack behind one of these edges
abbrev pub IsBeneathAny : PlanScope → State → PlanRow → List RowEdge → ℕ → Type 0
IsBeneathAny s state row [] site = ⊥
IsBeneathAny s state row (edge ∷ edges) site =
    IsBeneath state (stack_types s.flat edge.to) (stack_slots s state row edge) site
    ⊎ IsBeneathAny s state row edges site

-- The sites that are asked for at a point.
pub record AreAsked (s : PlanScope) (at : ℕ) (point : Point) (state : State) (sites : List ℕ)
    : Type 0 where
  pub all : (site : ℕ) → IsAsked s at point state site → IsTrue (has sites site)
  pub only : (site : ℕ) → IsTrue (has sites site) → IsAsked s at point state site
