-- The objects behind an instruction where the objects of a closed set are made before it.
use Rattle.std.proofs.Common.{◌≡◌, ℕ, ◌+◌, ◌-◌, zero, suc, Bool, false, not, List, [], ◌∷◌, ◌++◌, map, replicate, slice_set, Option, Some, None, IsTrue, IsFalse, refl, sym, ap, subst, ◌∙◌, inl, inr, ◌⊎◌}
use Rattle.std.specs.List.{filter}
use Rattle.std.specs.Option.{option_map}
use Rattle.std.proofs.lemmas.Bool.{cases_Bool, eqb-true, or_cases, or_left, or_right, false≢true, not_from_false, not_from_true}
use Rattle.std.proofs.lemmas.List.{map-set, map-append}
use Rattle.std.proofs.lemmas.List.Elements.{filter-append}
use Rattle.std.proofs.lemmas.Option.{same_Some}
use Rattle.plan_flow.specs.PlanRows.{Change, no_change, new_object, put_field, enter_monitor, leave_monitor, PlanRow}
use Rattle.plan_flow.specs.PlanScope.{PlanScope, field_count, field_number}
use Rattle.plan_flow.specs.PlanSlots.{held, with_field, put_in, with_depth_of, at_depth, changed, edge_objects}
use Rattle.plan_flow.specs.declared.edge.EdgeKind.{EdgeKind}
use Rattle.plan_flow.specs.declared.edge.EdgeKind.TheVariants.{Next, Jump, Handler}
use Rattle.virtual_state.specs.States.{State, IsEdge, object_of, is_virtual, names}
use Rattle.virtual_state.specs.Without.{IsClosed, made_plain, object_without, objects_without, without}
use Rattle.virtual_state.specs.declared.slot.Slot.{Slot}
use Rattle.virtual_state.specs.declared.slot.Slot.TheVariants.{Plain, Virt, Unusable}
use Rattle.virtual_state.specs.declared.slot.VObject.{VObject}
use Rattle.virtual_state.specs.Laws.Fields.{made, plain_slot, kept_slot}
use Rattle.virtual_state.specs.Laws.Objects.{same_or_not, found_site, object_first, object_behind, filter_first, filter_behind}
use Rattle.virtual_state.specs.Laws.Removals.{stay, stays}
use Rattle.plan_flow.proofs.Moving.{KeepsNew, held_made}

-- ---- one object

one_away :
    (away : ℕ → Bool) (object : VObject)
    → IsTrue (away object.site)
    → objects_without away (object ∷ []) ≡ []
one_away away object gone = ap (map (object_without away)) (filter_behind (stay away) object [] (not_from_true (away object.site) gone))

one_stays :
    (away : ℕ → Bool) (object : VObject)
    → IsFalse (away object.site)
    → objects_without away (object ∷ []) ≡ object_without away object ∷ []
one_stays away object kept = ap (map (object_without away)) (filter_first (stay away) object [] (not_from_false (away object.site) kept))

both_without :
    (away : ℕ → Bool) (one other : List VObject)
    → objects_without away (one ++ other) ≡ objects_without away one ++ objects_without away other
both_without away one other =
    ap (map (object_without away)) (filter-append (λ object. not (away object.site)) one other)
    ∙ map-append (object_without away) (filter (λ object. not (away object.site)) one) (filter (λ object. not (away object.site)) other)

-- ---- what changes

blank_made : (away : ℕ → Bool) (count : ℕ) → made away (replicate count Plain) ≡ replicate count Plain
blank_made away zero = refl
blank_made away (suc count) = λ i. Plain ∷ blank_made away count i

new_without :
    (away : ℕ → Bool) (site count : ℕ)
    → IsFalse (away site)
    → record { site = site; fields = replicate count Plain; depth = 0 } ∷ []
    ≡ objects_without away (record { site = site; fields = replicate count Plain; depth = 0 } ∷ [])
new_without away site count kept =
    sym (one_stays away (record { site = site; fields = replicate count Plain; depth = 0 }) kept
    ∙ (λ i. record { site = site; fields = blank_made away count i; depth = 0 } ∷ []))

field_gone :
    (away : ℕ → Bool) (object : Option VObject) (number : Option ℕ) (slot : Slot)
    → ((one : VObject) → object ≡ Some one → IsTrue (away one.site))
    → [] ≡ objects_without away (with_field object number slot)
field_gone away None number slot gone = refl
field_gone away (Some object) None slot gone = refl
field_gone away (Some object) (Some at) slot gone = sym (one_away away (record object { fields = slice_set object.fields at slot }) (gone object refl))

field_stays :
    (away : ℕ → Bool) (object : Option VObject) (number : Option ℕ) (slot : Slot)
    → ((one : VObject) → object ≡ Some one → IsFalse (away one.site))
    → with_field (option_map (object_without away) object) number (made_plain away slot)
    ≡ objects_without away (with_field object number slot)
field_stays away None number slot kept = refl
field_stays away (Some object) None slot kept = refl
field_stays away (Some object) (Some at) slot kept =
    sym (one_stays away (record object { fields = slice_set object.fields at slot }) (kept object refl)
    ∙ (λ i. record object { fields = map-set (made_plain away) object.fields at slot i } ∷ []))

put_without :
    (s : PlanScope) (state : State) (away : ℕ → Bool) (slot : Slot) (value : Slot)
    → (field : _)
    → put_in s (without state away) (made_plain away slot) field (made_plain away value)
    ≡ objects_without away (put_in s state slot field value)
put_without s state away Plain value field = refl
put_without s state away Unusable value field = refl
put_without s state away (Virt site) value field =
    elim (cases_Bool (away site)) [
      | inl gone ↦
          ap (λ (slot : Slot). put_in s (without state away) slot field (made_plain away value)) (plain_slot away site gone)
          ∙ field_gone away (object_of state.objects site) (field_number s site field) value (λ one is. ap away (found_site state.objects site one is) ∙ gone)
      | inr kept ↦
          ap (λ (slot : Slot). put_in s (without state away) slot field (made_plain away value)) (kept_slot away site kept)
          ∙ ap (λ (o : Option VObject). with_field o (field_number s site field) (made_plain away value)) (stays away state.objects site kept)
          ∙ field_stays away (object_of state.objects site) (field_number s site field) value (λ one is. ap away (found_site state.objects site one is) ∙ kept)
    ]

depth_gone :
    (away : ℕ → Bool) (object : Option VObject) (change : ℕ → ℕ)
    → ((one : VObject) → object ≡ Some one → IsTrue (away one.site))
    → [] ≡ objects_without away (with_depth_of object change)
depth_gone away None change gone = refl
depth_gone away (Some object) change gone = sym (one_away away (record object { depth = change object.depth }) (gone object refl))

depth_stays :
    (away : ℕ → Bool) (object : Option VObject) (change : ℕ → ℕ)
    → ((one : VObject) → object ≡ Some one → IsFalse (away one.site))
    → with_depth_of (option_map (object_without away) object) change
    ≡ objects_without away (with_depth_of object change)
depth_stays away None change kept = refl
depth_stays away (Some object) change kept = sym (one_stays away (record object { depth = change object.depth }) (kept object refl))

depth_without :
    (state : State) (away : ℕ → Bool) (slot : Slot) (change : ℕ → ℕ)
    → at_depth (without state away) (made_plain away slot) change
    ≡ objects_without away (at_depth state slot change)
depth_without state away Plain change = refl
depth_without state away Unusable change = refl
depth_without state away (Virt site) change =
    elim (cases_Bool (away site)) [
      | inl gone ↦
          ap (λ (slot : Slot). at_depth (without state away) slot change) (plain_slot away site gone)
          ∙ depth_gone away (object_of state.objects site) change (λ one is. ap away (found_site state.objects site one is) ∙ gone)
      | inr kept ↦
          ap (λ (slot : Slot). at_depth (without state away) slot change) (kept_slot away site kept)
          ∙ ap (λ (o : Option VObject). with_depth_of o change) (stays away state.objects site kept)
          ∙ depth_stays away (object_of state.objects site) change (λ one is. ap away (found_site state.objects site one is) ∙ kept)
    ]

pub changed_made :
    (s : PlanScope) (state : State) (away : ℕ → Bool) (by : Change)
    → KeepsNew away by
    → changed s (without state away) by ≡ objects_without away (changed s state by)
changed_made s state away no_change keeps = refl
changed_made s state away (new_object site) keeps = new_without away site (field_count s site) keeps
changed_made s state away (put_field place field value) keeps =
    (λ i. put_in s (without state away) (held_made away state place i) field (held_made away state value i))
    ∙ put_without s state away (held state place) (held state value) field
changed_made s state away (enter_monitor place) keeps =
    ap (λ (slot : Slot). at_depth (without state away) slot (λ depth. depth + 1)) (held_made away state place)
    ∙ depth_without state away (held state place) (λ depth. depth + 1)
changed_made s state away (leave_monitor place) keeps =
    ap (λ (slot : Slot). at_depth (without state away) slot (λ depth. depth - 1)) (held_made away state place)
    ∙ depth_without state away (held state place) (λ depth. depth - 1)

pub edge_objects_made :
    (s : PlanScope) (state : State) (away : ℕ → Bool) (row : PlanRow) (by : EdgeKind)
    → KeepsNew away row.change
    → edge_objects s (without state away) row by ≡ objects_without away (edge_objects s state row by)
edge_objects_made s state away row (Handler number) keeps = refl
edge_objects_made s state away row Next keeps =
    ap (λ (front : List VObject). front ++ objects_without away state.objects) (changed_made s state away row.change keeps)
    ∙ sym (both_without away (changed s state row.change) state.objects)
edge_objects_made s state away row (Jump number) keeps =
    ap (λ (front : List VObject). front ++ objects_without away state.objects) (changed_made s state away row.change keeps)
    ∙ sym (both_without away (changed s state row.change) state.objects)

-- ---- closed sets

pub virtual_is : (site : ℕ) (slot : Slot) → IsTrue (is_virtual site slot) → slot ≡ Virt site
virtual_is site Plain virtual = absurd (false≢true virtual)
virtual_is site Unusable virtual = absurd (false≢true virtual)
virtual_is site (Virt one) virtual = ap Virt (eqb-true one site virtual)

pub names_set :
    (slots : List Slot) (at : ℕ) (slot : Slot) (site : ℕ)
    → IsTrue (names (slice_set slots at slot) site)
    → (slot ≡ Virt site) ⊎ IsTrue (names slots site)
names_set [] at slot site named = absurd (false≢true named)
names_set (first ∷ slots) zero slot site named =
    elim (or_cases (is_virtual site slot) (names slots site) named) [
      | inl virtual ↦ inl (virtual_is site slot virtual)
      | inr rest ↦ inr (or_right (is_virtual site first) (names slots site) rest)
    ]
names_set (first ∷ slots) (suc at) slot site named =
    elim (or_cases (is_virtual site first) (names (slice_set slots at slot) site) named) [
      | inl virtual ↦ inr (or_left (is_virtual site first) (names slots site) virtual)
      | inr rest ↦ elim (names_set slots at slot site rest) [
        | inl is ↦ inl is
        | inr there ↦ inr (or_right (is_virtual site first) (names slots site) there)
      ]
    ]

pub names_blank : (count site : ℕ) → names (replicate count Plain) site ≡ false
names_blank zero site = refl
names_blank (suc count) site = names_blank count site

-- an edge in front of other objects is one of the first object, or one of the others
pub edge_cases :
    (object : VObject) (objects : List VObject) (from to : ℕ)
    → IsEdge (object ∷ objects) from to
    → ((object.site ≡ from) × IsTrue (names object.fields to)) ⊎ IsEdge objects from to
edge_cases object objects from to edge =
    elim (same_or_not object.site from) [
      | inl same ↦ inl (same, subst (λ (one : VObject). IsTrue (names one.fields to)) (sym (same_Some object edge.object (sym (object_first object objects from same) ∙ edge.there))) edge.named)
      | inr differ ↦ inr (record { object = edge.object; there = sym (object_behind object objects from differ) ∙ edge.there; named = edge.named })
    ]

closed_behind_one :
    (away : ℕ → Bool) (object : VObject) (objects : List VObject)
    → IsClosed away objects
    → ((to : ℕ) → IsTrue (away object.site) → IsTrue (names object.fields to) → IsTrue (away to))
    → IsClosed away (object ∷ objects)
closed_behind_one away object objects closed follow = λ from to edge gone. elim (edge_cases object objects from to edge) [
  | inl first ↦ follow to (ap away first.0 ∙ gone) first.1
  | inr rest ↦ closed from to rest gone
]

-- where an object is made, so is what is put into it
abbrev pub PutsWithin : (ℕ → Bool) → State → Change → Type 0
PutsWithin away state (put_field place field value) =
    (site to : ℕ)
    → held state place ≡ Virt site
    → held state value ≡ Virt to
    → IsTrue (away site)
    → IsTrue (away to)
PutsWithin away state other = Unit {0}

-- the fields of the object of a site in a list with a closed set
fields_follow :
    (away : ℕ → Bool) (objects : List VObject) (site : ℕ) (object : VObject)
    → IsClosed away objects
    → object_of objects site ≡ Some object
    → (to : ℕ)
    → IsTrue (away object.site)
    → IsTrue (names object.fields to)
    → IsTrue (away to)
fields_follow away objects site object closed there to gone named =
    closed site to (record { object = object; there = there; named = named }) (ap away (sym (found_site objects site object there)) ∙ gone)

depth_closed :
    (s : PlanScope) (state : State) (away : ℕ → Bool) (slot : Slot) (change : ℕ → ℕ)
    → IsClosed away state.objects
    → IsClosed away (at_depth state slot change ++ state.objects)
depth_closed s state away Plain change closed = closed
depth_closed s state away Unusable change closed = closed
depth_closed s state away (Virt site) change closed = of_object (object_of state.objects site) refl where
  of_object :
      (object : Option VObject)
      → object_of state.objects site ≡ object
      → IsClosed away (with_depth_of object change ++ state.objects)
  of_object None there = closed
  of_object (Some object) there = closed_behind_one away (record object { depth = change object.depth }) state.objects closed (fields_follow away state.objects site object closed there)

pub changed_closed :
    (s : PlanScope) (state : State) (away : ℕ → Bool) (by : Change)
    → IsClosed away state.objects
    → PutsWithin away state by
    → IsClosed away (changed s state by ++ state.objects)
changed_closed s state away no_change closed within = closed
changed_closed s state away (new_object site) closed within = closed_behind_one away (record { site = site; fields = replicate (field_count s site) Plain; depth = 0 }) state.objects closed (λ to gone named. absurd (false≢true (sym (names_blank (field_count s site) to) ∙ named)))
changed_closed s state away (put_field place field value) closed within = of_slot (held state place) refl where
  of_parts :
      (site : ℕ)
      → held state place ≡ Virt site
      → (object : Option VObject) (number : Option ℕ)
      → object_of state.objects site ≡ object
      → IsClosed away (with_field object number (held state value) ++ state.objects)
  of_parts site is None number there = closed
  of_parts site is (Some object) None there = closed
  of_parts site is (Some object) (Some at) there = closed_behind_one away (record object { fields = slice_set object.fields at (held state value) }) state.objects closed (λ to gone named. elim (names_set object.fields at (held state value) to named) [
    | inl put ↦ within site to is put (ap away (sym (found_site state.objects site object there)) ∙ gone)
    | inr kept ↦ fields_follow away state.objects site object closed there to gone kept
  ])

  of_slot : (slot : Slot) → held state place ≡ slot → IsClosed away (put_in s state slot field (held state value) ++ state.objects)
  of_slot Plain is = closed
  of_slot Unusable is = closed
  of_slot (Virt site) is = of_parts site is (object_of state.objects site) (field_number s site field) refl
changed_closed s state away (enter_monitor place) closed within = depth_closed s state away (held state place) (λ depth. depth + 1) closed
changed_closed s state away (leave_monitor place) closed within = depth_closed s state away (held state place) (λ depth. depth - 1) closed
