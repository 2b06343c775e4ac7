-- The slots of a state behind an edge: where each comes from.
use Rattle.std.proofs.Common.{◌≡◌, ◌++◌, ℕ, zero, suc, Bool, true, false, List, [], ◌∷◌, drop, length, slice_get, take, Some, None, refl, sym, ap, ◌∙◌, arith}
use Rattle.std.proofs.lemmas.Option.{none-some, same_Some}
use Rattle.class_model.specs.Frames.{is_top}
use Rattle.class_model.specs.declared.frame.VType.{VType}
use Rattle.flow_code.specs.FlatCode.{point_at}
use Rattle.flow_code.specs.declared.point.Point.{Point}
use Rattle.plan_flow.specs.Effect.{IsStateBehind}
use Rattle.plan_flow.specs.Must.{row_of_point}
use Rattle.plan_flow.specs.PlanRows.{PlanRow, RowEdge}
use Rattle.plan_flow.specs.PlanScope.{PlanScope, local_types, stack_types}
use Rattle.plan_flow.specs.PlanSlots.{edge_locals, edge_objects, edge_stack, fit_locals, fit_stack, slots_from}
use Rattle.virtual_state.specs.States.{State, object_of}
use Rattle.virtual_state.specs.declared.slot.Slot.{Slot}
use Rattle.virtual_state.specs.declared.slot.Slot.TheVariants.{Plain, Virt, Unusable}
use Rattle.virtual_state.specs.declared.slot.VObject.{VObject}
use Rattle.written_runs.specs.VirtualObjects.{local_slots, stack_slots}

-- ---- slots that fit types

pub fit_length : (types : List VType) (slots : List Slot) → length (fit_locals types slots) ≡ length types
fit_length [] slots = refl
fit_length (type ∷ types) [] = ap suc (fit_length types [])
fit_length (type ∷ types) (slot ∷ slots) = ap suc (fit_length types slots)

-- a unit that holds a virtual object does so before it is fitted
pub fit_virtual : (types : List VType) (slots : List Slot) (unit site : ℕ)
    → slice_get (fit_locals types slots) unit ≡ Some (Virt site)
    → slice_get slots unit ≡ Some (Virt site)
fit_virtual [] slots unit site is = absurd (none-some (Virt site) is)
fit_virtual (type ∷ types) [] zero site is = by (is_top type) refl where
  by : (top : Bool) → is_top type ≡ top → None ≡ Some (Virt site)
  by true told = absurd (apart (same_Some Unusable (Virt site) (sym (rw (told) refl) ∙ is))) where
    apart : Unusable ≡ Virt site → ⊥
    apart same = absurd cc
  by false told = absurd (apart (same_Some Plain (Virt site) (sym (rw (told) refl) ∙ is))) where
    apart : Plain ≡ Virt site → ⊥
    apart same = absurd cc
fit_virtual (type ∷ types) [] (suc unit) site is = absurd (none-some (Virt site) (fit_virtual types [] unit site is))
fit_virtual (type ∷ types) (slot ∷ slots) zero site is = by (is_top type) refl where
  by : (top : Bool) → is_top type ≡ top → Some slot ≡ Some (Virt site)
  by true told = absurd (apart (same_Some Unusable (Virt site) (sym (rw (told) refl) ∙ is))) where
    apart : Unusable ≡ Virt site → ⊥
    apart same = absurd cc
  by false told = sym (rw (told) refl) ∙ is
fit_virtual (type ∷ types) (slot ∷ slots) (suc unit) site is = fit_virtual types slots unit site is

-- a unit that holds a plain value does so before it is fitted, and is not Top
pub fit_plain : (types : List VType) (slots : List Slot) (unit : ℕ)
    → length slots ≡ length types
    → slice_get (fit_locals types slots) unit ≡ Some Plain
    → (type : VType) × (slice_get types unit ≡ Some type) × (is_top type ≡ false) × (slice_get slots unit ≡ Some Plain)
fit_plain [] slots unit many is = absurd (none-some Plain is)
fit_plain (type ∷ types) [] unit many is = absurd (omega (arith, many))
fit_plain (type ∷ types) (slot ∷ slots) zero many is = (type, refl, (by (is_top type) refl).0, (by (is_top type) refl).1) where
  by : (top : Bool) → is_top type ≡ top → (is_top type ≡ false) × (Some slot ≡ Some Plain)
  by true told = absurd (apart (same_Some Unusable Plain (sym (rw (told) refl) ∙ is))) where
    apart : Unusable ≡ Plain → ⊥
    apart same = absurd cc
  by false told = (told, sym (rw (told) refl) ∙ is)
fit_plain (type ∷ types) (slot ∷ slots) (suc unit) many is = fit_plain types slots unit (omega (arith, many)) is

-- of as many stack entries nothing changes
pub fit_stack_same : (types : List VType) (slots : List Slot) → length slots ≡ length types → fit_stack types slots ≡ slots
fit_stack_same [] [] many = refl
fit_stack_same [] (slot ∷ slots) many = absurd (omega (arith, many))
fit_stack_same (type ∷ types) [] many = absurd (omega (arith, many))
fit_stack_same (type ∷ types) (slot ∷ slots) many = ap (λ (ss : List Slot). slot ∷ ss) (fit_stack_same types slots (omega (arith, many)))

take_front : (xs ys : List Slot) → take (length xs) (xs ++ ys) ≡ xs
take_front [] ys = refl
take_front (x ∷ xs) ys = ap (λ (zs : List Slot). x ∷ zs) (take_front xs ys)

drop_front : (xs ys : List Slot) → drop (length xs) (xs ++ ys) ≡ ys
drop_front [] ys = refl
drop_front (x ∷ xs) ys = drop_front xs ys

-- ---- behind an edge

module _ {s : PlanScope} {point : Point} {at : ℕ} {before : State} {edge : RowEdge} {state : State} (b : IsStateBehind s point at before edge state)
    (next : Point) (is_next : point_at s.flat edge.to ≡ Some next) where
  abbrev row : PlanRow
  row = row_of_point s at point

  abbrev local_sources : List Slot
  local_sources = slots_from s before row.change (edge_locals row (length point.typed.locals) edge.by)

  abbrev stack_sources : List Slot
  stack_sources = slots_from s before row.change (edge_stack row edge.by)

  locals_there : local_types s.flat edge.to ≡ next.typed.locals
  locals_there = rw (is_next) refl

  stack_there : stack_types s.flat edge.to ≡ next.typed.stack
  stack_there = rw (is_next) refl

  whole : state.slots ≡ fit_locals next.typed.locals local_sources ++ fit_stack next.typed.stack stack_sources
  whole =
      b.is.same_slots
      ∙ ap (λ (types : List VType). fit_locals types local_sources ++ fit_stack (stack_types s.flat edge.to) stack_sources) locals_there
      ∙ ap (λ (types : List VType). fit_locals next.typed.locals local_sources ++ fit_stack types stack_sources) stack_there

  many : length next.typed.locals ≡ length (fit_locals next.typed.locals local_sources)
  many = sym (fit_length next.typed.locals local_sources)

  pub locals_behind : local_slots next state ≡ fit_locals next.typed.locals local_sources
  locals_behind =
      ap (take (length next.typed.locals)) whole
      ∙ ap (λ (n : ℕ). take n (fit_locals next.typed.locals local_sources ++ fit_stack next.typed.stack stack_sources)) many
      ∙ take_front (fit_locals next.typed.locals local_sources) (fit_stack next.typed.stack stack_sources)

  pub stack_behind : length stack_sources ≡ length next.typed.stack → stack_slots next state ≡ stack_sources
  stack_behind as_many =
      ap (drop (length next.typed.locals)) whole
      ∙ ap (λ (n : ℕ). drop n (fit_locals next.typed.locals local_sources ++ fit_stack next.typed.stack stack_sources)) many
      ∙ drop_front (fit_locals next.typed.locals local_sources) (fit_stack next.typed.stack stack_sources)
      ∙ fit_stack_same next.typed.stack stack_sources as_many

  -- an object of the state is as the instruction left it
  pub object_behind_edge : (site : ℕ) (told : VObject)
      → object_of state.objects site ≡ Some told
      → object_of (edge_objects s before row edge.by) site ≡ Some told
  object_behind_edge site told is =
      sym (b.is.kept site (b.is.reached site (rw (is) refl))) ∙ is
