-- What places hold where the objects of a closed set are made: making commutes with moving.
use Rattle.std.proofs.Common.{◌≡◌, ℕ, ◌==◌, zero, suc, Bool, true, false, cond, List, [], ◌∷◌, slice_get, Option, Some, None, IsTrue, IsFalse, refl, sym, ap, subst, ◌∙◌, inl, inr}
use Rattle.std.specs.Option.{option_map}
use Rattle.std.proofs.lemmas.Bool.{cases_Bool, eq-eqb, eqb-true, or_left, or_right, false≢true}
use Rattle.std.proofs.lemmas.Option.{slice_get-map}
use Rattle.class_model.specs.Frames.{is_top}
use Rattle.class_model.specs.declared.frame.VType.{VType}
use Rattle.member_link.specs.References.{Reference}
use Rattle.plan_flow.specs.PlanRows.{Source, plain_value, from_place, from_field, from_new, Change, no_change, new_object, put_field, enter_monitor, leave_monitor, Guard, in_each_state, where_plain, where_may_be_same, where_may_differ}
use Rattle.plan_flow.specs.PlanScope.{PlanScope, field_number}
use Rattle.plan_flow.specs.PlanSlots.{readable, held, field_in, field_of_slot, slot_of_new, slot_from, slots_from, is_plain, may_be_same, may_differ, is_open, fit_locals, fit_stack}
use Rattle.virtual_state.specs.States.{State, IsEdge, object_of, is_virtual, names}
use Rattle.virtual_state.specs.Without.{IsClosed, made_plain, object_without, without}
use Rattle.virtual_state.specs.declared.slot.Slot.{Slot}
use Rattle.virtual_state.specs.declared.slot.Slot.TheVariants.{Plain, Virt, Unusable}
use Rattle.virtual_state.specs.declared.slot.VObject.{VObject}
use Rattle.virtual_state.specs.Laws.Fields.{made, plain_slot, kept_slot}
use Rattle.virtual_state.specs.Laws.Objects.{some_or_none}
use Rattle.virtual_state.specs.Laws.Removals.{stays}

-- ---- slots

pub plain≢virt : {site : ℕ} → Plain ≡ Virt site → ⊥
plain≢virt same = cc

pub same_site : {one other : ℕ} → Virt one ≡ Virt other → one ≡ other
same_site same = cc

pub virtual_itself : (site : ℕ) → IsTrue (is_virtual site (Virt site))
virtual_itself site = eq-eqb site site refl

readable_made :
    (away : ℕ → Bool) (slot : Option Slot)
    → readable (option_map (made_plain away) slot) ≡ made_plain away (readable slot)
readable_made away None = refl
readable_made away (Some Plain) = refl
readable_made away (Some Unusable) = refl
readable_made away (Some (Virt site)) =
    elim (away site) as (λ b. readable (Some (cond b Plain (Virt site))) ≡ cond b Plain (Virt site)) [ true ↦ refl | false ↦ refl ]

pub held_made :
    (away : ℕ → Bool) (state : State) (place : ℕ)
    → held (without state away) place ≡ made_plain away (held state place)
held_made away state place = ap readable (slice_get-map (made_plain away) state.slots place) ∙ readable_made away (slice_get state.slots place)

-- a slot that can be read is named
pub names_at :
    (slots : List Slot) (number site : ℕ)
    → readable (slice_get slots number) ≡ Virt site
    → IsTrue (names slots site)
names_at [] number site is = absurd (plain≢virt is)
names_at (Plain ∷ slots) zero site is = absurd (plain≢virt is)
names_at (Unusable ∷ slots) zero site is = absurd (plain≢virt is)
names_at (Virt one ∷ slots) zero site is = or_left (one == site) (names slots site) (eq-eqb one site (same_site is))
names_at (slot ∷ slots) (suc number) site is = or_right (is_virtual site slot) (names slots site) (names_at slots number site is)

-- ---- fields

field_in_made :
    (away : ℕ → Bool) (object : Option VObject) (number : Option ℕ)
    → field_in (option_map (object_without away) object) number
    ≡ made_plain away (field_in object number)
field_in_made away None number = refl
field_in_made away (Some object) None = refl
field_in_made away (Some object) (Some number) = ap readable (slice_get-map (made_plain away) object.fields number) ∙ readable_made away (slice_get object.fields number)

-- what a field holds is an edge
pub field_edge :
    (objects : List VObject) (from to : ℕ) (number : Option ℕ)
    → field_in (object_of objects from) number ≡ Virt to
    → IsEdge objects from to
field_edge objects from to number is =
    elim (some_or_none (object_of objects from)) [
      | inl found ↦ by_number number found.0 found.1 (sym (ap (λ (o : Option VObject). field_in o number) found.1) ∙ is)
      | inr none ↦ absurd (plain≢virt (sym (ap (λ (o : Option VObject). field_in o number) none) ∙ is))
    ] where
      by_number :
          (number : Option ℕ) (object : VObject)
          → object_of objects from ≡ Some object
          → field_in (Some object) number ≡ Virt to
          → IsEdge objects from to
      by_number None object there is = absurd (plain≢virt is)
      by_number (Some at) object there is = record { object = object; there = there; named = names_at object.fields at to is }

gone_read :
    (away : ℕ → Bool) (slot : Option Slot)
    → ((to : ℕ) → readable slot ≡ Virt to → IsTrue (away to))
    → made_plain away (readable slot) ≡ Plain
gone_read away None all = refl
gone_read away (Some Plain) all = refl
gone_read away (Some Unusable) all = refl
gone_read away (Some (Virt to)) all = plain_slot away to (all to refl)

gone_field :
    (away : ℕ → Bool) (object : Option VObject) (number : Option ℕ)
    → ((to : ℕ) → field_in object number ≡ Virt to → IsTrue (away to))
    → made_plain away (field_in object number) ≡ Plain
gone_field away None number all = refl
gone_field away (Some object) None all = refl
gone_field away (Some object) (Some at) all = gone_read away (slice_get object.fields at) all

pub field_made :
    (s : PlanScope) (state : State) (away : ℕ → Bool)
    → IsClosed away state.objects
    → (slot : Slot) (field : Reference)
    → field_of_slot s (without state away) (made_plain away slot) field
    ≡ made_plain away (field_of_slot s state slot field)
field_made s state away closed Plain field = refl
field_made s state away closed Unusable field = refl
field_made s state away closed (Virt site) field =
    elim (cases_Bool (away site)) [
      | inl gone ↦
          ap (λ (slot : Slot). field_of_slot s (without state away) slot field) (plain_slot away site gone)
          ∙ sym (gone_field away (object_of state.objects site) (field_number s site field) (λ to is. closed site to (field_edge state.objects site to (field_number s site field) is) gone))
      | inr kept ↦
          ap (λ (slot : Slot). field_of_slot s (without state away) slot field) (kept_slot away site kept)
          ∙ ap (λ (o : Option VObject). field_in o (field_number s site field)) (stays away state.objects site kept)
          ∙ field_in_made away (object_of state.objects site) (field_number s site field)
    ]

-- ---- sources

-- a new object is none of those that are made
abbrev pub KeepsNew : (ℕ → Bool) → Change → Type 0
KeepsNew away (new_object site) = IsFalse (away site)
KeepsNew away other = Unit {0}

new_made :
    (away : ℕ → Bool) (by : Change)
    → KeepsNew away by
    → slot_of_new by ≡ made_plain away (slot_of_new by)
new_made away no_change keeps = refl
new_made away (new_object site) keeps = sym (kept_slot away site keeps)
new_made away (put_field place field value) keeps = refl
new_made away (enter_monitor place) keeps = refl
new_made away (leave_monitor place) keeps = refl

pub slot_made :
    (s : PlanScope) (state : State) (away : ℕ → Bool) (by : Change)
    → IsClosed away state.objects
    → KeepsNew away by
    → (source : Source)
    → slot_from s (without state away) by source ≡ made_plain away (slot_from s state by source)
slot_made s state away by closed keeps plain_value = refl
slot_made s state away by closed keeps (from_place place) = held_made away state place
slot_made s state away by closed keeps (from_field place field) =
    ap (λ (slot : Slot). field_of_slot s (without state away) slot field) (held_made away state place)
    ∙ field_made s state away closed (held state place) field
slot_made s state away by closed keeps from_new = new_made away by keeps

pub slots_made :
    (s : PlanScope) (state : State) (away : ℕ → Bool) (by : Change)
    → IsClosed away state.objects
    → KeepsNew away by
    → (sources : List Source)
    → slots_from s (without state away) by sources ≡ made away (slots_from s state by sources)
slots_made s state away by closed keeps [] = refl
slots_made s state away by closed keeps (source ∷ sources) =
    λ i. slot_made s state away by closed keeps source i ∷ slots_made s state away by closed keeps sources i

-- ---- the places of a point

unusable_or_plain : (away : ℕ → Bool) (top : Bool) → cond top Unusable Plain ≡ made_plain away (cond top Unusable Plain)
unusable_or_plain away true = refl
unusable_or_plain away false = refl

unusable_or_slot :
    (away : ℕ → Bool) (slot : Slot) (top : Bool)
    → cond top Unusable (made_plain away slot) ≡ made_plain away (cond top Unusable slot)
unusable_or_slot away slot true = refl
unusable_or_slot away slot false = refl

pub fit_locals_made :
    (away : ℕ → Bool) (types : List VType) (slots : List Slot)
    → fit_locals types (made away slots) ≡ made away (fit_locals types slots)
fit_locals_made away [] slots = refl
fit_locals_made away (type ∷ types) [] = λ i. unusable_or_plain away (is_top type) i ∷ fit_locals_made away types [] i
fit_locals_made away (type ∷ types) (slot ∷ slots) = λ i. unusable_or_slot away slot (is_top type) i ∷ fit_locals_made away types slots i

pub fit_stack_made :
    (away : ℕ → Bool) (types : List VType) (slots : List Slot)
    → fit_stack types (made away slots) ≡ made away (fit_stack types slots)
fit_stack_made away [] slots = refl
fit_stack_made away (type ∷ types) [] = λ i. Plain ∷ fit_stack_made away types [] i
fit_stack_made away (type ∷ types) (slot ∷ slots) = λ i. made_plain away slot ∷ fit_stack_made away types slots i

-- ---- guards

plain_more : (away : ℕ → Bool) (slot : Slot) → IsTrue (is_plain slot) → IsTrue (is_plain (made_plain away slot))
plain_more away Plain plain = refl
plain_more away Unusable plain = refl
plain_more away (Virt site) plain = absurd (false≢true plain)

same_more :
    (away : ℕ → Bool) (one other : Slot)
    → IsTrue (may_be_same one other)
    → IsTrue (may_be_same (made_plain away one) (made_plain away other))
same_more away (Virt one) (Virt other) same =
    subst (λ (site : ℕ). IsTrue (may_be_same (made_plain away (Virt one)) (made_plain away (Virt site)))) (eqb-true one other same)
    (elim (away one) as (λ b. IsTrue (may_be_same (cond b Plain (Virt one)) (cond b Plain (Virt one)))) [ true ↦ refl | false ↦ virtual_itself one ])
same_more away (Virt one) Plain same = absurd (false≢true same)
same_more away (Virt one) Unusable same = absurd (false≢true same)
same_more away Plain (Virt other) same = absurd (false≢true same)
same_more away Unusable (Virt other) same = absurd (false≢true same)
same_more away Plain Plain same = refl
same_more away Plain Unusable same = refl
same_more away Unusable Plain same = refl
same_more away Unusable Unusable same = refl

differ_more :
    (away : ℕ → Bool) (one other : Slot)
    → IsTrue (may_differ one other)
    → IsTrue (may_differ (made_plain away one) (made_plain away other))
differ_more away (Virt one) (Virt other) differ =
    elim (away one) as (λ b. IsTrue (may_differ (cond b Plain (Virt one)) (made_plain away (Virt other)))) [
      | true ↦ refl
      | false ↦ elim (away other) as (λ b. IsTrue (may_differ (Virt one) (cond b Plain (Virt other)))) [ true ↦ refl | false ↦ differ ]
    ]
differ_more away (Virt one) Plain differ = elim (away one) as (λ b. IsTrue (may_differ (cond b Plain (Virt one)) Plain)) [ true ↦ refl | false ↦ refl ]
differ_more away (Virt one) Unusable differ = elim (away one) as (λ b. IsTrue (may_differ (cond b Plain (Virt one)) Unusable)) [ true ↦ refl | false ↦ refl ]
differ_more away Plain other differ = refl
differ_more away Unusable other differ = refl

-- an edge that is open stays open where more is made
pub open_more :
    (away : ℕ → Bool) (state : State) (guard : Guard)
    → IsTrue (is_open state guard)
    → IsTrue (is_open (without state away) guard)
open_more away state in_each_state opened = refl
open_more away state (where_plain place) opened = subst (λ (slot : Slot). IsTrue (is_plain slot)) (sym (held_made away state place)) (plain_more away (held state place) opened)
open_more away state (where_may_be_same one other) opened =
    subst (λ (slot : Slot). IsTrue (may_be_same slot (held (without state away) other))) (sym (held_made away state one))
    (subst (λ (slot : Slot). IsTrue (may_be_same (made_plain away (held state one)) slot)) (sym (held_made away state other)) (same_more away (held state one) (held state other) opened))
open_more away state (where_may_differ one other) opened =
    subst (λ (slot : Slot). IsTrue (may_differ slot (held (without state away) other))) (sym (held_made away state one))
    (subst (λ (slot : Slot). IsTrue (may_differ (made_plain away (held state one)) slot)) (sym (held_made away state other)) (differ_more away (held state one) (held state other) opened))
