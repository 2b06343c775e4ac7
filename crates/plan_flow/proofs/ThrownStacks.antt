-- A handler begins with nothing but what was thrown on the stack, so no object comes to lie beneath an entry whose type is Top there.
use Rattle.std.proofs.Common.{◌≡◌, ◌⊎◌, ℕ, ◌+◌, Bool, true, false, cond, List, [], ◌∷◌, ◌++◌, Option, Some, None, refl, sym, subst, inl, inr}
use Rattle.std.specs.List.{filter}
use Rattle.std.proofs.lemmas.Bool.{false≢true}
use Rattle.std.proofs.lemmas.List.Elements.{filter-append}
use Rattle.flow_code.specs.declared.handlers.FlatHandler.{FlatHandler}
use Rattle.flow_code.specs.declared.point.Point.{Point}
use Rattle.plan_flow.specs.Inner.Asking.{HasAdded, IsBeneathAny}
use Rattle.plan_flow.specs.Inner.Sharing.{edges_by, thrown_to}
use Rattle.plan_flow.specs.PlanRows.{Guard, PlanRow, RowEdge}
use Rattle.plan_flow.specs.PlanScope.{PlanScope, stack_types}
use Rattle.plan_flow.specs.PlanSlots.{fit_stack, is_open, stack_slots}
use Rattle.plan_flow.specs.PlanTable.{edges_of, falls_on, handler_edges, jump_edges, next_edges, targets_at, thrown_edges}
use Rattle.virtual_state.specs.States.{State}
use Rattle.virtual_state.specs.declared.slot.Slot.TheVariants.{Plain}
use Rattle.plan_flow.proofs.Behind.{named_stack}
use Rattle.plan_flow.proofs.Settled.{beneath_named}

module _ (s : PlanScope) (state : State) (row : PlanRow) (site : ℕ) where
  any_front : (one two : List RowEdge) → IsBeneathAny s state row one site → IsBeneathAny s state row (one ++ two) site
  any_front [] two lies = absurd lies
  any_front (edge ∷ one) two (inl here) = inl here
  any_front (edge ∷ one) two (inr later) = inr (any_front one two later)

  any_either : (one two : List RowEdge) → IsBeneathAny s state row (one ++ two) site → IsBeneathAny s state row one site ⊎ IsBeneathAny s state row two site
  any_either [] two lies = inr lies
  any_either (edge ∷ one) two (inl here) = inl (inl here)
  any_either (edge ∷ one) two (inr later) = elim (any_either one two later) [
    | inl front ↦ inl (inr front)
    | inr back ↦ inr back
  ]

  any_first : (edge : RowEdge) (edges : List RowEdge) (passes : Bool) → IsBeneathAny s state row (cond passes (edge ∷ edges) edges) site → IsBeneathAny s state row (edge ∷ edges) site
  any_first edge edges true lies = lies
  any_first edge edges false lies = inr lies

  filtered_any : (test : RowEdge → Bool) (edges : List RowEdge) → IsBeneathAny s state row (filter test edges) site → IsBeneathAny s state row edges site
  filtered_any test [] lies = lies
  filtered_any test (edge ∷ edges) lies = elim (any_first edge (filter test edges) (test edge) lies) [
    | inl here ↦ inl here
    | inr later ↦ inr (filtered_any test edges later)
  ]

  handlers_none : (guard : Guard) (number : ℕ) (handlers : List FlatHandler) → IsBeneathAny s state row (handler_edges guard number handlers) site → ⊥
  handlers_none guard number [] lies = lies
  handlers_none guard number (handler ∷ handlers) (inl here) =
      let types = stack_types s.flat handler.to in
      false≢true (named_stack types (Plain ∷ []) site (beneath_named types (fit_stack types (Plain ∷ [])) site here.0))
  handlers_none guard number (handler ∷ handlers) (inr later) = handlers_none guard (number + 1) handlers later

  thrown_none : (throws : Option Guard) (handlers : List FlatHandler) → IsBeneathAny s state row (thrown_edges throws handlers) site → ⊥
  thrown_none None handlers lies = lies
  thrown_none (Some guard) handlers lies = handlers_none guard 0 handlers lies

  shared_none : (throws : Option Guard) → IsBeneathAny s state row (thrown_to throws []) site → ⊥
  shared_none None lies = lies
  shared_none (Some guard) lies = lies

  -- nothing lies beneath the edges behind the others
  only_own :
      (own caught others : List RowEdge)
      → (IsBeneathAny s state row caught site → ⊥)
      → IsBeneathAny s state row (filter (λ (edge : RowEdge). is_open state edge.guard) (own ++ caught)) site
      → IsBeneathAny s state row (filter (λ (edge : RowEdge). is_open state edge.guard) (own ++ others)) site
  only_own own caught others none lies =
      let test : RowEdge → Bool = λ edge. is_open state edge.guard in
      elim (any_either (filter test own) (filter test caught) (subst (λ (list : List RowEdge). IsBeneathAny s state row list site) (filter-append test own caught) lies)) [
        | inl front ↦ subst (λ (list : List RowEdge). IsBeneathAny s state row list site) (sym (filter-append test own others)) (any_front (filter test own) (filter test others) front)
        | inr back ↦ absurd (none (filtered_any test caught back))
      ]

pub beneath_all :
    {middle last : List ℕ} (s : PlanScope) (at : ℕ) (point : Point) (state : State) (row : PlanRow)
    → HasAdded middle last (IsBeneathAny s state row (filter (λ (edge : RowEdge). is_open state edge.guard) (edges_by (Some []) at point row)))
    → HasAdded middle last (IsBeneathAny s state row (filter (λ (edge : RowEdge). is_open state edge.guard) (edges_of at point row)))
beneath_all s at point state row added =
    let own = next_edges at row (falls_on point.instr) ++ jump_edges row 0 (targets_at point.instr) in
    record {
      kept = added.kept;
      asked = λ site lies.
          added.asked site (only_own s state row site own (thrown_edges row.throws point.handlers) (thrown_to row.throws []) (thrown_none s state row site row.throws point.handlers) lies);
      only = λ site there. elim (added.only site there) [
        | inl before ↦ inl before
        | inr lies ↦ inr (only_own s state row site own (thrown_to row.throws []) (thrown_edges row.throws point.handlers) (shared_none s state row site row.throws) lies)
      ];
    }
