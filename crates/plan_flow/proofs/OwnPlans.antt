-- The plans of the edges of a point, one after the other.
use Rattle.std.proofs.Common.{◌≡◌, ℕ, ◌+◌, ◌≤◌, ◌==◌, Bool, true, false, cond, List, [], ◌∷◌, ◌++◌, drop, length, slice_get, Option, Some, None, refl, sym, ap, ◌∙◌, append_assoc, arith}
use Rattle.std.specs.BTreeMap.{BTreeMap, get, is_at}
use Rattle.std.specs.Ordering.{nat_cmp}
use Rattle.std.proofs.lemmas.Bool.{eqb-true}
use Rattle.std.proofs.lemmas.List.{append-nil}
use Rattle.std.proofs.lemmas.Option.{none-some, same_Some}
use Rattle.flow_code.specs.declared.handlers.FlatHandler.{FlatHandler}
use Rattle.plan_flow.specs.Inner.Gaining.{is_normal}
use Rattle.plan_flow.specs.Inner.Planning.{made_edge, made_edges, made_on}
use Rattle.plan_flow.specs.Inner.Reaching.{Reached}
use Rattle.plan_flow.specs.Inner.Sharing.{caught_made, caught_part, caught_plans, last_set, made_in, normal_one, or_no_site, own_part, put_set}
use Rattle.plan_flow.specs.Plans.{MadeEdge}
use Rattle.plan_flow.specs.declared.edge.Edge.{Edge}
use Rattle.plan_flow.proofs.Opening.{dropped, dropped_all}
use mathlib.Core.Path.{fun_ext}

-- ---- the first edges

pub record IsOwnEdge (edge : Option Edge) (own : Edge) : Type 0 where
  pub is : edge ≡ Some own
  pub normal : is_normal own.by ≡ true

pub own_is : (edge : Option Edge) (own : Edge) → normal_one edge ≡ Some own → IsOwnEdge edge own
own_is None own is = absurd (none-some own is)
own_is (Some edge) own is = by (is_normal edge.by) refl is where
  by : (b : Bool) → is_normal edge.by ≡ b → cond b (Some edge) None ≡ Some own → IsOwnEdge (Some edge) own
  by false told is = absurd (none-some own is)
  by true told is = record { is = is; normal = ap (λ (one : Edge). is_normal one.by) (sym (same_Some edge own is)) ∙ told }

-- the plans that are made, and those of the edges that are left
pub record OwnLeft (states : Reached) (edges : List Edge) (number : ℕ) (plans : List MadeEdge) : Type 0 where
  pub same : made_edges states (own_part edges) ≡ plans ++ made_edges states (own_part (drop number edges))

pub own_start : (states : Reached) (edges : List Edge) → OwnLeft states edges 0 []
own_start states edges = record { same = refl }

pub own_next :
    (states : Reached) (edges : List Edge) (number : ℕ) (plans more : List MadeEdge) (edge : Edge) (made : MadeEdge)
    → OwnLeft states edges number plans
    → normal_one (slice_get edges number) ≡ Some edge
    → made ≡ made_edge states edge
    → more ≡ plans ++ made ∷ []
    → OwnLeft states edges (number + 1) more
own_next states edges number plans more edge made left found is_made is_more =
    let own = own_is (slice_get edges number) edge found in
    let rest = own_part (drop (number + 1) edges) in
    let first : own_part (drop number edges) ≡ edge ∷ rest =
    ap own_part (dropped edges number edge own.is) ∙ ap (λ (b : Bool). cond b (edge ∷ rest) []) own.normal in
    record {
      same =
          left.same
          ∙ ap (λ (list : List Edge). plans ++ made_edges states list) first
          ∙ (λ i. plans ++ sym is_made i ∷ made_edges states rest)
          ∙ sym (append_assoc plans (made ∷ []) (made_edges states rest))
          ∙ ap (λ (list : List MadeEdge). list ++ made_edges states rest) (sym is_more);
    }

none_is : (edges : List Edge) (number : ℕ) (edge : Option Edge) → slice_get edges number ≡ edge → normal_one edge ≡ None → own_part (drop number edges) ≡ []
none_is edges number None is none = ap own_part (dropped_all edges number is)
none_is edges number (Some edge) is none = ap own_part (dropped edges number edge is) ∙ by (is_normal edge.by) none where
  by : (b : Bool) → cond b (Some edge) None ≡ None → cond b (edge ∷ own_part (drop (number + 1) edges)) [] ≡ []
  by true none = absurd (none-some edge (sym none))
  by false none = refl

pub own_end :
    (states : Reached) (edges : List Edge) (number : ℕ) (plans : List MadeEdge)
    → OwnLeft states edges number plans
    → normal_one (slice_get edges number) ≡ None
    → plans ≡ made_edges states (own_part edges)
own_end states edges number plans left none =
    sym (left.same ∙ ap (λ (list : List Edge). plans ++ made_edges states list) (none_is edges number (slice_get edges number) refl none) ∙ append-nil plans)

pub own_inside : (edges : List Edge) (number : ℕ) (edge : Edge) → normal_one (slice_get edges number) ≡ Some edge → slice_get edges number ≡ Some edge
own_inside edges number edge found = (own_is (slice_get edges number) edge found).is

-- ---- the edges behind them

pub made_length : (states : Reached) (edges : List Edge) → length (made_edges states edges) ≡ length edges
made_length states [] = refl
made_length states (edge ∷ edges) = let rest = made_length states edges in omega (arith, rest)

pub own_few : (edges : List Edge) → length (own_part edges) ≤ length edges
own_few [] = omega arith
own_few (edge ∷ edges) = by (is_normal edge.by) (own_few edges) where
  by : (b : Bool) → length (own_part edges) ≤ length edges → length (cond b (edge ∷ own_part edges) []) ≤ length (edge ∷ edges)
  by true few = omega (arith, few)
  by false few = omega arith

pub behind_own : (edges : List Edge) → drop (length (own_part edges)) edges ≡ caught_part edges
behind_own [] = refl
behind_own (edge ∷ edges) = by (is_normal edge.by) (behind_own edges) where
  by : (b : Bool) → drop (length (own_part edges)) edges ≡ caught_part edges → drop (length (cond b (edge ∷ own_part edges) [])) (edge ∷ edges) ≡ cond b (caught_part edges) (edge ∷ edges)
  by true rest = rest
  by false rest = refl

-- ---- sets by target

pub record SetsLeft (states : Reached) (edges : List Edge) (number : ℕ) (made : BTreeMap ℕ (List ℕ)) : Type 0 where
  pub each : (to : ℕ) → last_set states edges to None ≡ last_set states (drop number edges) to (get nat_cmp made to)

pub sets_start : (states : Reached) (edges : List Edge) (made : BTreeMap ℕ (List ℕ)) → made.entries ≡ [] → SetsLeft states edges 0 made
sets_start states edges made none = record {
  each = λ to. ap (λ (set : Option (List ℕ)). last_set states edges to set) (sym (none_there to));
} where
  none_there : (to : ℕ) → get nat_cmp made to ≡ None
  none_there to = rw none refl

pub sets_next :
    (states : Reached) (edges : List Edge) (number : ℕ) (made more : BTreeMap ℕ (List ℕ)) (edge : Edge) (sites : List ℕ)
    → SetsLeft states edges number made
    → slice_get edges number ≡ Some edge
    → sites ≡ made_on edge.state (states edge.to)
    → ((at : ℕ) → get nat_cmp more at ≡ put_set edge.to sites at (get nat_cmp made at))
    → SetsLeft states edges (number + 1) more
sets_next states edges number made more edge sites left is same put = record {
  each = λ to.
      let rest = drop (number + 1) edges in
      left.each to
      ∙ ap (λ (list : List Edge). last_set states list to (get nat_cmp made to)) (dropped edges number edge is)
      ∙ ap (λ (set : List ℕ). last_set states rest to (put_set edge.to set to (get nat_cmp made to))) (sym same)
      ∙ ap (λ (set : Option (List ℕ)). last_set states rest to set) (sym (put to));
}

pub sets_end :
    (states : Reached) (edges : List Edge) (number : ℕ) (made : BTreeMap ℕ (List ℕ))
    → SetsLeft states edges number made
    → slice_get edges number ≡ None
    → (to : ℕ) → get nat_cmp made to ≡ last_set states edges to None
sets_end states edges number made left none to =
    sym (left.each to ∙ ap (λ (list : List Edge). last_set states list to (get nat_cmp made to)) (dropped_all edges number none))

-- a set is put, unless it is empty
pub put_empty : (to at : ℕ) (sites : List ℕ) (set : Option (List ℕ)) → (length sites == 0) ≡ true → set ≡ put_set to sites at set
put_empty to at [] set is = by (is_at (nat_cmp to) at) where
  by : (b : Bool) → set ≡ cond b set set
  by true = refl
  by false = refl
put_empty to at (site ∷ sites) set is = let none : length (site ∷ sites) ≡ 0 = eqb-true (length (site ∷ sites)) 0 is in absurd (omega (arith, none))

pub put_some : (to at : ℕ) (sites : List ℕ) (set : Option (List ℕ)) → (length sites == 0) ≡ false → cond (is_at (nat_cmp to) at) (Some sites) set ≡ put_set to sites at set
put_some to at [] set is = absurd cc
put_some to at (site ∷ sites) set is = refl

-- ---- the edges to handlers

pub plans_empty : (states : Reached) (handlers : List FlatHandler) (edges : List Edge) → (length edges == 0) ≡ true → [] ≡ caught_plans states handlers edges
plans_empty states handlers [] is = refl
plans_empty states handlers (edge ∷ edges) is = let none : length (edge ∷ edges) ≡ 0 = eqb-true (length (edge ∷ edges)) 0 is in absurd (omega (arith, none))

pub plans_some :
    (states : Reached) (handlers : List FlatHandler) (edges : List Edge) (made : BTreeMap ℕ (List ℕ))
    → (length edges == 0) ≡ false
    → ((to : ℕ) → get nat_cmp made to ≡ last_set states edges to None)
    → caught_made (made_in made) 0 handlers ≡ caught_plans states handlers edges
plans_some states handlers [] made is same = absurd cc
plans_some states handlers (edge ∷ edges) made is same =
    ap (λ (sets : ℕ → List ℕ). caught_made sets 0 handlers) (fun_ext (λ to. ap (λ (set : Option (List ℕ)). or_no_site set) (same to)))
