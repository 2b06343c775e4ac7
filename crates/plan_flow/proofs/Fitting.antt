-- Slots that are appended one by one.
use Rattle.std.proofs.Common.{◌≡◌, ℕ, ◌+◌, ◌<◌, zero, suc, List, [], ◌∷◌, ◌++◌, length, take, slice_get, Some, None, refl, sym, ap, ◌∙◌, arith, append_assoc}
use Rattle.class_model.specs.declared.frame.VType.{VType}
use Rattle.plan_flow.specs.Inner.Fitting.{or_plain, local_of}
use Rattle.plan_flow.specs.PlanRows.{Change}
use Rattle.plan_flow.specs.PlanScope.{PlanScope}
use Rattle.plan_flow.specs.PlanSlots.{held, slots_from, fit_locals, fit_stack}
use Rattle.plan_flow.specs.PlanTable.{held_from}
use Rattle.virtual_state.specs.States.{State}
use Rattle.virtual_state.specs.declared.slot.Slot.{Slot}
use Rattle.virtual_state.specs.declared.slot.Slot.TheVariants.{Plain}

-- what so many places hold, and the next one
pub held_more :
    (s : PlanScope) (state : State) (by : Change) (first count : ℕ)
    → slots_from s state by (held_from first (suc count))
    ≡ slots_from s state by (held_from first count) ++ held state (first + count) ∷ []
held_more s state by first zero = λ i. held state (same i) ∷ [] where
  same : first ≡ first + 0
  same = omega arith
held_more s state by first (suc count) =
    λ i. held state first ∷ ((held_more s state by (first + 1) count ∙ ap (λ (at : ℕ). slots_from s state by (held_from (first + 1) count) ++ held state at ∷ []) same) i) where
      same : first + 1 + count ≡ first + suc count
      same = omega arith

pub record HasHeld (before after : List Slot) (state : State) (first count : ℕ) : Type 0 where
  pub each : (s : PlanScope) (by : Change) → after ≡ before ++ slots_from s state by (held_from first count)

pub held_none : (before : List Slot) (state : State) (first : ℕ) → HasHeld before before state first 0
held_none before state first = record { each = λ s by. sym (no_more before) } where
  no_more : (list : List Slot) → list ++ [] ≡ list
  no_more [] = refl
  no_more (slot ∷ list) = λ i. slot ∷ no_more list i

pub held_next :
    (before after more : List Slot) (state : State) (first count at : ℕ)
    → HasHeld before after state first count
    → at ≡ suc count
    → more ≡ after ++ held state (first + count) ∷ []
    → HasHeld before more state first at
held_next before after more state first count at has is pushed = record {
  each = λ s by.
      pushed
      ∙ ap (λ (list : List Slot). list ++ held state (first + count) ∷ []) (has.each s by)
      ∙ append_assoc before (slots_from s state by (held_from first count)) (held state (first + count) ∷ [])
      ∙ ap (λ (list : List Slot). before ++ list) (sym (held_more s state by first count))
      ∙ ap (λ (number : ℕ). before ++ slots_from s state by (held_from first number)) (sym is);
}

-- ---- the places of a point

pub locals_more :
    (types : List VType) (slots : List Slot) (at : ℕ)
    → at < length types
    → fit_locals (take (suc at) types) slots ≡ fit_locals (take at types) slots ++ local_of (slice_get types at) (slice_get slots at) ∷ []
locals_more [] slots at low = absurd (omega (arith, low))
locals_more (type ∷ types) [] zero low = refl
locals_more (type ∷ types) (slot ∷ slots) zero low = refl
locals_more (type ∷ types) [] (suc at) low = λ i. local_of (Some type) None ∷ locals_more types [] at (omega (arith, low)) i
locals_more (type ∷ types) (slot ∷ slots) (suc at) low = λ i. local_of (Some type) (Some slot) ∷ locals_more types slots at (omega (arith, low)) i

stack_more :
    (types : List VType) (slots : List Slot) (at : ℕ)
    → at < length types
    → fit_stack (take (suc at) types) slots ≡ fit_stack (take at types) slots ++ or_plain (slice_get slots at) ∷ []
stack_more [] slots at low = absurd (omega (arith, low))
stack_more (type ∷ types) [] zero low = refl
stack_more (type ∷ types) (slot ∷ slots) zero low = refl
stack_more (type ∷ types) [] (suc at) low = λ i. Plain ∷ stack_more types [] at (omega (arith, low)) i
stack_more (type ∷ types) (slot ∷ slots) (suc at) low = λ i. slot ∷ stack_more types slots at (omega (arith, low)) i

pub locals_next :
    (before after more : List Slot) (types : List VType) (slots : List Slot) (at next : ℕ)
    → after ≡ before ++ fit_locals (take at types) slots
    → at < length types
    → next ≡ suc at
    → more ≡ after ++ local_of (slice_get types at) (slice_get slots at) ∷ []
    → more ≡ before ++ fit_locals (take next types) slots
locals_next before after more types slots at next has low is pushed =
    pushed
    ∙ ap (λ (list : List Slot). list ++ local_of (slice_get types at) (slice_get slots at) ∷ []) has
    ∙ append_assoc before (fit_locals (take at types) slots) (local_of (slice_get types at) (slice_get slots at) ∷ [])
    ∙ ap (λ (list : List Slot). before ++ list) (sym (locals_more types slots at low))
    ∙ ap (λ (number : ℕ). before ++ fit_locals (take number types) slots) (sym is)

pub stack_next :
    (before after more : List Slot) (types : List VType) (slots : List Slot) (at next : ℕ)
    → after ≡ before ++ fit_stack (take at types) slots
    → at < length types
    → next ≡ suc at
    → more ≡ after ++ or_plain (slice_get slots at) ∷ []
    → more ≡ before ++ fit_stack (take next types) slots
stack_next before after more types slots at next has low is pushed =
    pushed
    ∙ ap (λ (list : List Slot). list ++ or_plain (slice_get slots at) ∷ []) has
    ∙ append_assoc before (fit_stack (take at types) slots) (or_plain (slice_get slots at) ∷ [])
    ∙ ap (λ (list : List Slot). before ++ list) (sym (stack_more types slots at low))
    ∙ ap (λ (number : ℕ). before ++ fit_stack (take number types) slots) (sym is)
