-- The sites that are asked for at a point.
use Rattle.std.proofs.Common.{◌≡◌, ℕ, zero, suc, List, [], ◌∷◌, slice_get, Option, Some, None, option_map, IsTrue, refl, sym, subst, inl, inr}
use Rattle.std.proofs.lemmas.Bool.{false≢true}
use Rattle.std.proofs.lemmas.Option.{none-some, same_Some}
use Rattle.flow_code.specs.declared.point.Point.{Point}
use Rattle.plan_flow.specs.Inner.Asking.{AreAsked, HasAdded, IsAskedIn, IsBeneath, IsBeneathAny}
use Rattle.plan_flow.specs.Must.{AsksFor, IsAsked, by_position, beneath, IsMustOf, open_edges, row_of_point}
use Rattle.plan_flow.specs.PlanRows.{Position, PlanRow, RowEdge}
use Rattle.plan_flow.specs.PlanScope.{PlanScope, stack_types}
use Rattle.plan_flow.specs.PlanSlots.{stack_slots}
use Rattle.plan_flow.specs.PlanTable.{positions}
use Rattle.virtual_state.specs.Sites.{has, IsClosure}
use Rattle.virtual_state.specs.States.{State, IsIncreasing}

-- ---- a list of positions, and a position by its number

asked_at : (s : PlanScope) (state : State) (list : List Position) (number : ℕ) (position : Position) (site : ℕ) → slice_get list number ≡ Some position → AsksFor s state position site → IsAskedIn s state list site
asked_at s state [] number position site is asks = absurd (none-some position is)
asked_at s state (first ∷ list) zero position site is asks = inl (subst (λ (one : Position). AsksFor s state one site) (sym (same_Some first position is)) asks)
asked_at s state (first ∷ list) (suc number) position site is asks = inr (asked_at s state list number position site is asks)

record AskedBy (s : PlanScope) (state : State) (list : List Position) (site : ℕ) : Type 0 where
  number : ℕ
  position : Position
  is : slice_get list number ≡ Some position
  asks : AsksFor s state position site

asked_by : (s : PlanScope) (state : State) (list : List Position) (site : ℕ) → IsAskedIn s state list site → AskedBy s state list site
asked_by s state [] site asked = absurd asked
asked_by s state (first ∷ list) site (inl here) = record { number = 0; position = first; is = refl; asks = here }
asked_by s state (first ∷ list) site (inr later) =
    let rest = asked_by s state list site later in
    record { number = suc rest.number; position = rest.position; is = rest.is; asks = rest.asks }

-- ---- the same of edges

beneath_at : (s : PlanScope) (state : State) (row : PlanRow) (list : List RowEdge) (number : ℕ) (edge : RowEdge) (site : ℕ) → slice_get list number ≡ Some edge → IsBeneath state (stack_types s.flat edge.to) (stack_slots s state row edge) site → IsBeneathAny s state row list site
beneath_at s state row [] number edge site is lies = absurd (none-some edge is)
beneath_at s state row (first ∷ list) zero edge site is lies = inl (subst (λ (one : RowEdge). IsBeneath state (stack_types s.flat one.to) (stack_slots s state row one) site) (sym (same_Some first edge is)) lies)
beneath_at s state row (first ∷ list) (suc number) edge site is lies = inr (beneath_at s state row list number edge site is lies)

record BeneathBy (s : PlanScope) (state : State) (row : PlanRow) (list : List RowEdge) (site : ℕ) : Type 0 where
  number : ℕ
  edge : RowEdge
  is : slice_get list number ≡ Some edge
  lies : IsBeneath state (stack_types s.flat edge.to) (stack_slots s state row edge) site

beneath_by : (s : PlanScope) (state : State) (row : PlanRow) (list : List RowEdge) (site : ℕ) → IsBeneathAny s state row list site → BeneathBy s state row list site
beneath_by s state row [] site lies = absurd lies
beneath_by s state row (first ∷ list) site (inl here) = record { number = 0; edge = first; is = refl; lies = here }
beneath_by s state row (first ∷ list) site (inr later) =
    let rest = beneath_by s state row list site later in
    record { number = suc rest.number; edge = rest.edge; is = rest.is; lies = rest.lies }

-- ---- all that is asked for

module _ (s : PlanScope) (at : ℕ) (point : Point) (state : State) where
  all_asked :
      {middle last : List ℕ}
      → HasAdded [] middle (IsAskedIn s state (positions (row_of_point s at point)))
      → HasAdded middle last (IsBeneathAny s state (row_of_point s at point) (open_edges s at point state))
      → AreAsked s at point state last
  all_asked {middle} {last} one other = record {
    all = λ site asked. all asked;
    only = λ site there. elim (other.only site there) [
      | inr lies ↦
          let by = beneath_by s state (row_of_point s at point) (open_edges s at point state) site lies in
          beneath by.number by.edge site by.is by.lies.0 by.lies.1
      | inl before ↦ elim (one.only site before) [
        | inl none ↦ absurd (false≢true none)
        | inr asked ↦
            let by = asked_by s state (positions (row_of_point s at point)) site asked in
            by_position by.number by.position site by.is by.asks
      ]
    ];
  } where
    all : {site : ℕ} → IsAsked s at point state site → IsTrue (has last site)
    all (by_position number position site is asks) = other.kept site (one.asked site (asked_at s state (positions (row_of_point s at point)) number position site is asks))
    all (beneath number edge site is named present) = other.asked site (beneath_at s state (row_of_point s at point) (open_edges s at point state) number edge site is (named, present))

  pub are_asked :
      {middle last : List ℕ} (row : PlanRow) (edges : List RowEdge)
      → row ≡ row_of_point s at point
      → edges ≡ open_edges s at point state
      → HasAdded [] middle (IsAskedIn s state (positions row))
      → HasAdded middle last (IsBeneathAny s state row edges)
      → AreAsked s at point state last
  are_asked {middle} {last} row edges same_row same_edges one other =
      all_asked (subst (λ (r : PlanRow). HasAdded [] middle (IsAskedIn s state (positions r))) same_row one)
      (subst (λ (list : List RowEdge). HasAdded middle last (IsBeneathAny s state (row_of_point s at point) list)) same_edges
      (subst (λ (r : PlanRow). HasAdded middle last (IsBeneathAny s state r edges)) same_row other))

  pub must_is : (asked sites : List ℕ) → AreAsked s at point state asked → IsIncreasing sites → IsClosure asked state.objects sites → IsMustOf s at point state sites
  must_is asked sites are order closure = record {
    order = order;
    asked = λ site one. closure.starts site (are.all site one);
    closed = closure.closed;
    least = λ other all closed site there. closure.least other (λ one in_. all one (are.only one in_)) closed site there;
  }

-- ---- a point that is there

pub found_point : {A : Type 0} (part : Point → A) (point : Option Point) (one : A) → option_map part point ≡ Some one → (found : Point) × (point ≡ Some found) × (part found ≡ one)
found_point part None one is = absurd (none-some one is)
found_point part (Some found) one is = (found, refl, same_Some (part found) one is)

pub no_point : {A : Type 0} (part : Point → A) (point : Option Point) → option_map part point ≡ None → point ≡ None
no_point part None is = refl
no_point part (Some found) is = absurd (none-some (part found) (sym is))
