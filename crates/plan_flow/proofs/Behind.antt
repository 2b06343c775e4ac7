-- In a state in which an instruction asks for no object, the slots and objects behind each edge are those of a state.
use Rattle.std.proofs.Common.{◌≡◌, ℕ, ◌+◌, ◌-◌, zero, suc, Bool, true, false, cond, List, [], ◌∷◌, ◌++◌, map, length, replicate, slice_get, slice_set, Option, Some, None, is_some, IsTrue, refl, sym, ap, subst, ◌∙◌, inl, inr, ◌⊎◌}
use Rattle.std.specs.List.{list_any}
use Rattle.std.proofs.lemmas.Bool.{or_cases, or_left, or_right, or_parts, or_from, false≢true}
use Rattle.std.proofs.lemmas.List.{length-set, length-replicate, map-append}
use Rattle.std.proofs.lemmas.List.Folds.{list_any-append}
use Rattle.std.proofs.lemmas.Option.{same_Some}
use Rattle.class_model.specs.Frames.{is_top}
use Rattle.class_model.specs.declared.frame.VType.{VType}
use Rattle.flow_code.specs.declared.point.Point.{Point}
use Rattle.plan_flow.specs.Effect.{IsStateBehind}
use Rattle.plan_flow.specs.Must.{row_of_point, CannotBePut, IsMustOf}
use Rattle.plan_flow.specs.PlanRows.{Source, plain_value, from_place, from_field, from_new, Change, no_change, new_object, put_field, enter_monitor, leave_monitor, object_put_into, PlanRow, RowEdge}
use Rattle.plan_flow.specs.PlanScope.{PlanScope, field_count, field_number, local_types, stack_types}
use Rattle.plan_flow.specs.PlanSlots.{readable, held, field_in, field_of_slot, slot_of_new, slot_from, slots_from, with_field, put_in, with_depth_of, at_depth, changed, fit_locals, fit_stack, edge_locals, edge_stack, edge_objects, local_slots, stack_slots}
use Rattle.plan_flow.specs.PlanTable.{held_from, change_asks}
use Rattle.plan_flow.specs.Plans.{IsStateAt}
use Rattle.plan_flow.specs.declared.edge.EdgeKind.{EdgeKind}
use Rattle.plan_flow.specs.declared.edge.EdgeKind.TheVariants.{Next, Jump, Handler}
use Rattle.virtual_state.specs.Making.{CanBeState}
use Rattle.virtual_state.specs.States.{State, IsState, IsEdge, IsPath, one_edge, edge_and_path, object_of, is_present, is_unusable, is_virtual, names}
use Rattle.virtual_state.specs.declared.slot.Slot.{Slot}
use Rattle.virtual_state.specs.declared.slot.Slot.TheVariants.{Plain, Virt, Unusable}
use Rattle.virtual_state.specs.declared.slot.VObject.{VObject}
use Rattle.virtual_state.specs.Laws.Objects.{same_or_not, found_site, present_found, object_first, object_behind}
use Rattle.plan_flow.proofs.Changing.{virtual_is, names_set, names_blank}
use Rattle.plan_flow.proofs.EffectGrows.{asks_nothing, change_asked}
use Rattle.plan_flow.proofs.Keeping.{Ordered, in_front, kept_state}
use Rattle.plan_flow.proofs.Moving.{plain≢virt, same_site, names_at, field_edge}

-- ---- slots that can be read are usable

usable_read : (slot : Option Slot) → is_unusable (readable slot) ≡ false
usable_read None = refl
usable_read (Some Plain) = refl
usable_read (Some (Virt site)) = refl
usable_read (Some Unusable) = refl

usable_field : (object : Option VObject) (number : Option ℕ) → is_unusable (field_in object number) ≡ false
usable_field None number = refl
usable_field (Some object) None = refl
usable_field (Some object) (Some at) = usable_read (slice_get object.fields at)

usable_of_slot : (s : PlanScope) (state : State) (slot : Slot) → (field : _) → is_unusable (field_of_slot s state slot field) ≡ false
usable_of_slot s state Plain field = refl
usable_of_slot s state Unusable field = refl
usable_of_slot s state (Virt site) field = usable_field (object_of state.objects site) (field_number s site field)

usable_new : (by : Change) → is_unusable (slot_of_new by) ≡ false
usable_new no_change = refl
usable_new (new_object site) = refl
usable_new (put_field place field value) = refl
usable_new (enter_monitor place) = refl
usable_new (leave_monitor place) = refl

pub usable_source : (s : PlanScope) (state : State) (by : Change) (source : Source) → is_unusable (slot_from s state by source) ≡ false
usable_source s state by plain_value = refl
usable_source s state by (from_place place) = usable_read (slice_get state.slots place)
usable_source s state by (from_field place field) = usable_of_slot s state (held state place) field
usable_source s state by from_new = usable_new by

-- ---- what is named is present

pub present_front : (front objects : List VObject) (site : ℕ) → IsTrue (is_present objects site) → IsTrue (is_present (front ++ objects) site)
present_front [] objects site present = present
present_front (object ∷ front) objects site present =
    elim (same_or_not object.site site) [
      | inl same ↦ present_found (object ∷ front ++ objects) site object (object_first object (front ++ objects) site same)
      | inr differ ↦ subst (λ (o : Option VObject). IsTrue (is_some o)) (sym (object_behind object (front ++ objects) site differ)) (present_front front objects site present)
    ]

held_present : (state : State) (place site : ℕ) → IsState state → held state place ≡ Virt site → IsTrue (is_present state.objects site)
held_present state place site is there = is.places site (names_at state.slots place site there)

field_present : (s : PlanScope) (state : State) (slot : Slot) (site : ℕ) → IsState state → (field : _) → field_of_slot s state slot field ≡ Virt site → IsTrue (is_present state.objects site)
field_present s state Plain site is field there = absurd (plain≢virt there)
field_present s state Unusable site is field there = absurd (plain≢virt there)
field_present s state (Virt from) site is field there = is.fields from site (field_edge state.objects from site (field_number s from field) there)

new_present : (s : PlanScope) (state : State) (by : Change) (site : ℕ) → slot_of_new by ≡ Virt site → IsTrue (is_present (changed s state by ++ state.objects) site)
new_present s state no_change site is = absurd (plain≢virt is)
new_present s state (put_field place field value) site is = absurd (plain≢virt is)
new_present s state (enter_monitor place) site is = absurd (plain≢virt is)
new_present s state (leave_monitor place) site is = absurd (plain≢virt is)
new_present s state (new_object one) site is =
    let object : VObject = record { site = one; fields = replicate (field_count s one) Plain; depth = 0 } in
    present_found (object ∷ state.objects) site object (object_first object state.objects site (same_site is))

source_present : (s : PlanScope) (state : State) (by : Change) (site : ℕ) → IsState state → (source : Source) → slot_from s state by source ≡ Virt site → IsTrue (is_present (changed s state by ++ state.objects) site)
source_present s state by site is plain_value there = absurd (plain≢virt there)
source_present s state by site is (from_place place) there = present_front (changed s state by) state.objects site (held_present state place site is there)
source_present s state by site is (from_field place field) there = present_front (changed s state by) state.objects site (field_present s state (held state place) site is field there)
source_present s state by site is from_new there = new_present s state by site there

sources_present : (s : PlanScope) (state : State) (by : Change) (site : ℕ) → IsState state → (sources : List Source) → IsTrue (names (slots_from s state by sources) site) → IsTrue (is_present (changed s state by ++ state.objects) site)
sources_present s state by site is [] named = absurd (false≢true named)
sources_present s state by site is (source ∷ sources) named =
    elim (or_cases (is_virtual site (slot_from s state by source)) (names (slots_from s state by sources) site) named) [
      | inl here ↦ source_present s state by site is source (virtual_is site (slot_from s state by source) here)
      | inr there ↦ sources_present s state by site is sources there
    ]

places_present : (s : PlanScope) (state : State) (by : Change) (site : ℕ) → IsState state → (first number : ℕ) → IsTrue (names (slots_from s state by (held_from first number)) site) → IsTrue (is_present state.objects site)
places_present s state by site is first zero named = absurd (false≢true named)
places_present s state by site is first (suc number) named =
    elim (or_cases (is_virtual site (held state first)) (names (slots_from s state by (held_from (first + 1) number)) site) named) [
      | inl here ↦ held_present state first site is (virtual_is site (held state first) here)
      | inr there ↦ places_present s state by site is (first + 1) number there
    ]

not_virtual : (site : ℕ) (top : Bool) → IsTrue (is_virtual site (cond top Unusable Plain)) → ⊥
not_virtual site true virtual = false≢true virtual
not_virtual site false virtual = false≢true virtual

pub named_locals : (types : List VType) (slots : List Slot) (site : ℕ) → IsTrue (names (fit_locals types slots) site) → IsTrue (names slots site)
named_locals [] slots site named = absurd (false≢true named)
named_locals (type ∷ types) [] site named =
    elim (or_cases (is_virtual site (cond (is_top type) Unusable Plain)) (names (fit_locals types []) site) named) [
      | inl here ↦ absurd (not_virtual site (is_top type) here)
      | inr there ↦ named_locals types [] site there
    ]
named_locals (type ∷ types) (slot ∷ slots) site named =
    elim (or_cases (is_virtual site (cond (is_top type) Unusable slot)) (names (fit_locals types slots) site) named) [
      | inl here ↦ or_left (is_virtual site slot) (names slots site) (slot_here (is_top type) here)
      | inr there ↦ or_right (is_virtual site slot) (names slots site) (named_locals types slots site there)
    ] where
      slot_here : (top : Bool) → IsTrue (is_virtual site (cond top Unusable slot)) → IsTrue (is_virtual site slot)
      slot_here true virtual = absurd (false≢true virtual)
      slot_here false virtual = virtual

pub named_stack : (types : List VType) (slots : List Slot) (site : ℕ) → IsTrue (names (fit_stack types slots) site) → IsTrue (names slots site)
named_stack [] slots site named = absurd (false≢true named)
named_stack (type ∷ types) [] site named = named_stack types [] site named
named_stack (type ∷ types) (slot ∷ slots) site named =
    elim (or_cases (is_virtual site slot) (names (fit_stack types slots) site) named) [
      | inl here ↦ or_left (is_virtual site slot) (names slots site) here
      | inr there ↦ or_right (is_virtual site slot) (names slots site) (named_stack types slots site there)
    ]

-- ---- the object in front

-- what an object is that stands in front of the others behind an instruction
pub data Front (s : PlanScope) (state : State) (by : Change) : VObject → Type 0 where
  front_new : (site : ℕ)
      → by ≡ new_object site
      → Front s state by (record { site = site; fields = replicate (field_count s site) Plain; depth = 0 })
  front_put : (place value site at : ℕ) (field : _) (old : VObject)
      → by ≡ put_field place field value
      → held state place ≡ Virt site
      → object_of state.objects site ≡ Some old
      → Front s state by (record old { fields = slice_set old.fields at (held state value) })
  front_depth : (site depth : ℕ) (old : VObject)
      → object_of state.objects site ≡ Some old
      → Front s state by (record old { depth = depth })

pub record HasFront (s : PlanScope) (state : State) (by : Change) : Type 0 where
  pub object : VObject
  pub is : changed s state by ≡ object ∷ []
  pub front : Front s state by object

depth_front :
    (s : PlanScope) (state : State) (by : Change) (slot : Slot) (change : ℕ → ℕ)
    → changed s state by ≡ at_depth state slot change
    → (changed s state by ≡ []) ⊎ HasFront s state by
depth_front s state by Plain change is = inl is
depth_front s state by Unusable change is = inl is
depth_front s state by (Virt site) change is = go (object_of state.objects site) refl where
  go : (object : Option VObject) → object_of state.objects site ≡ object → (changed s state by ≡ []) ⊎ HasFront s state by
  go None there = inl (is ∙ ap (λ (o : Option VObject). with_depth_of o change) there)
  go (Some old) there = inr (record {
    object = record old { depth = change old.depth };
    is = is ∙ ap (λ (o : Option VObject). with_depth_of o change) there;
    front = front_depth site (change old.depth) old there;
  })

pub front_or_none : (s : PlanScope) (state : State) (by : Change) → (changed s state by ≡ []) ⊎ HasFront s state by
front_or_none s state no_change = inl refl
front_or_none s state (new_object site) = inr (record { object = record { site = site; fields = replicate (field_count s site) Plain; depth = 0 }; is = refl; front = front_new site refl })
front_or_none s state (enter_monitor place) = depth_front s state (enter_monitor place) (held state place) (λ depth. depth + 1) refl
front_or_none s state (leave_monitor place) = depth_front s state (leave_monitor place) (held state place) (λ depth. depth - 1) refl
front_or_none s state (put_field place field value) = of_slot (held state place) refl where
  of_parts :
      (site : ℕ)
      → held state place ≡ Virt site
      → (object : Option VObject) (number : Option ℕ)
      → object_of state.objects site ≡ object
      → changed s state (put_field place field value) ≡ with_field object number (held state value)
      → (changed s state (put_field place field value) ≡ []) ⊎ HasFront s state (put_field place field value)
  of_parts site is None number there same = inl same
  of_parts site is (Some old) None there same = inl same
  of_parts site is (Some old) (Some at) there same = inr (record {
    object = record old { fields = slice_set old.fields at (held state value) };
    is = same;
    front = front_put place value site at field old refl is there;
  })

  of_slot : (slot : Slot) → held state place ≡ slot → (changed s state (put_field place field value) ≡ []) ⊎ HasFront s state (put_field place field value)
  of_slot Plain is = inl (ap (λ (slot : Slot). put_in s state slot field (held state value)) is)
  of_slot Unusable is = inl (ap (λ (slot : Slot). put_in s state slot field (held state value)) is)
  of_slot (Virt site) is = of_parts site is (object_of state.objects site) (field_number s site field) refl (ap (λ (slot : Slot). put_in s state slot field (held state value)) is)

-- ---- fields of the object in front

blank_usable : (number : ℕ) → list_any is_unusable (replicate number Plain) ≡ false
blank_usable zero = refl
blank_usable (suc number) = blank_usable number

set_usable : (slots : List Slot) (at : ℕ) (slot : Slot) → list_any is_unusable slots ≡ false → is_unusable slot ≡ false → list_any is_unusable (slice_set slots at slot) ≡ false
set_usable [] at slot usable slot_usable = refl
set_usable (first ∷ slots) zero slot usable slot_usable = or_from (is_unusable slot) (list_any is_unusable slots) slot_usable (or_parts (is_unusable first) (list_any is_unusable slots) usable).1
set_usable (first ∷ slots) (suc at) slot usable slot_usable =
    let parts = or_parts (is_unusable first) (list_any is_unusable slots) usable in
    or_from (is_unusable first) (list_any is_unusable (slice_set slots at slot)) parts.0 (set_usable slots at slot parts.1 slot_usable)

front_usable : (s : PlanScope) (state : State) (by : Change) {object : VObject} → IsState state → Front s state by object → list_any is_unusable object.fields ≡ false
front_usable s state by is (front_new site new) = blank_usable (field_count s site)
front_usable s state by is (front_put place value site at field old put holds there) = set_usable old.fields at (held state value) (is.usable site old there) (usable_read (slice_get state.slots value))
front_usable s state by is (front_depth site depth old there) = is.usable site old there

front_count :
    (s : PlanScope) (state : State) (by : Change) {object : VObject}
    → ((site : ℕ) (old : VObject) → object_of state.objects site ≡ Some old → length old.fields ≡ field_count s site)
    → Front s state by object
    → length object.fields ≡ field_count s object.site
front_count s state by counts (front_new site new) = length-replicate (field_count s site) Plain
front_count s state by counts (front_put place value site at field old put holds there) = length-set old.fields at (held state value) ∙ counts site old there ∙ ap (field_count s) (sym (found_site state.objects site old there))
front_count s state by counts (front_depth site depth old there) = counts site old there ∙ ap (field_count s) (sym (found_site state.objects site old there))

-- a putfield puts a virtual object into another one
abbrev PutEdge : State → Change → ℕ → ℕ → Type 0
PutEdge state (put_field place field value) from to = (held state place ≡ Virt from) × (held state value ≡ Virt to)
PutEdge state other from to = ⊥

front_edge :
    (s : PlanScope) (state : State) (by : Change) {object : VObject} (to : ℕ)
    → Front s state by object
    → IsTrue (names object.fields to)
    → IsEdge state.objects object.site to ⊎ PutEdge state by object.site to
front_edge s state by to (front_new site new) named = absurd (false≢true (sym (names_blank (field_count s site) to) ∙ named))
front_edge s state by to (front_depth site depth old there) named =
    let here = found_site state.objects site old there in
    inl (record { object = old; there = ap (object_of state.objects) here ∙ there; named = named })
front_edge s state by to (front_put place value site at field old put holds there) named =
    let here = found_site state.objects site old there in
    elim (names_set old.fields at (held state value) to named) [
      | inl is ↦ inr (subst (λ (change : Change). PutEdge state change old.site to) (sym put) (holds ∙ ap Virt (sym here), is))
      | inr kept ↦ inl (record { object = old; there = ap (object_of state.objects) here ∙ there; named = kept })
    ]

-- ---- all objects behind an instruction

behind_edge :
    (s : PlanScope) (state : State) (by : Change) (from to : ℕ)
    → IsEdge (changed s state by ++ state.objects) from to
    → IsEdge state.objects from to ⊎ PutEdge state by from to
behind_edge s state by from to edge =
    elim (front_or_none s state by) [
      | inl none ↦ inl (subst (λ (front : List VObject). IsEdge (front ++ state.objects) from to) none edge)
      | inr has ↦
          let moved = subst (λ (front : List VObject). IsEdge (front ++ state.objects) from to) has.is edge in
          elim (Rattle.plan_flow.proofs.Changing.edge_cases has.object state.objects from to moved) [
            | inl first ↦ subst (λ (site : ℕ). IsEdge state.objects site to ⊎ PutEdge state by site to) first.0 (front_edge s state by to has.front first.1)
            | inr rest ↦ inl rest
          ]
    ]

-- where an object is, in front or behind
pub behind_object :
    (s : PlanScope) (state : State) (by : Change) (site : ℕ) (object : VObject)
    → object_of (changed s state by ++ state.objects) site ≡ Some object
    → (object_of state.objects site ≡ Some object) ⊎ (Front s state by object × (object.site ≡ site))
behind_object s state by site object there =
    elim (front_or_none s state by) [
      | inl none ↦ inl (subst (λ (front : List VObject). object_of (front ++ state.objects) site ≡ Some object) none there)
      | inr has ↦
          let moved = subst (λ (front : List VObject). object_of (front ++ state.objects) site ≡ Some object) has.is there in
          elim (same_or_not has.object.site site) [
            | inl same ↦
                let is = same_Some has.object object (sym (object_first has.object state.objects site same) ∙ moved) in
                inr (subst (Front s state by) is has.front, ap (λ (o : VObject). o.site) (sym is) ∙ same)
            | inr differ ↦ inl (sym (object_behind has.object state.objects site differ) ∙ moved)
          ]
    ]

-- ---- paths

abbrev Within : List VObject → ℕ → ℕ → Type 0
Within objects from to = (from ≡ to) ⊎ IsPath objects from to

edge_within : (objects : List VObject) (from middle to : ℕ) → IsEdge objects from middle → Within objects middle to → Within objects from to
edge_within objects from middle to edge within = elim within [
  | inl same ↦ inr (one_edge from to (subst (IsEdge objects from) same edge))
  | inr path ↦ inr (edge_and_path from middle to edge path)
]

put_same : (state : State) (by : Change) (from to into put : ℕ) → PutEdge state by from to → PutEdge state by into put → to ≡ put
put_same state no_change from to into put one other = absurd one
put_same state (new_object site) from to into put one other = absurd one
put_same state (enter_monitor place) from to into put one other = absurd one
put_same state (leave_monitor place) from to into put one other = absurd one
put_same state (put_field place field value) from to into put one other = same_site (sym one.1 ∙ other.1)

-- a path behind a putfield is one before it, or goes over what was put
behind_path :
    (s : PlanScope) (state : State) (by : Change) {from to : ℕ}
    → IsPath (changed s state by ++ state.objects) from to
    → IsPath state.objects from to
    ⊎ ((into : ℕ) × (put : ℕ) × PutEdge state by into put × Within state.objects from into × Within state.objects put to)
behind_path s state by (one_edge from to edge) =
    elim (behind_edge s state by from to edge) [
      | inl old ↦ inl (one_edge from to old)
      | inr new ↦ inr (from, to, new, inl refl, inl refl)
    ]
behind_path s state by (edge_and_path from middle to edge path) =
    elim (behind_path s state by path) [
      | inl rest ↦ elim (behind_edge s state by from middle edge) [
        | inl old ↦ inl (edge_and_path from middle to old rest)
        | inr new ↦ inr (from, middle, new, inl refl, inr rest)
      ]
      | inr over ↦ elim (behind_edge s state by from middle edge) [
        | inl old ↦ inr (over.0, over.1, over.2, edge_within state.objects from middle over.0 old over.3, over.4)
        | inr new ↦ inr (from, middle, new, inl refl, subst (λ (put : ℕ). Within state.objects put to) (put_same state by over.0 over.1 from middle over.2 new) over.4)
      ]
    ]

within_both : (objects : List VObject) (one two three : ℕ) → Within objects one two → Within objects two three → Within objects one three
within_both objects one two three (inl same) second = subst (λ (site : ℕ). Within objects site three) (sym same) second
within_both objects one two three (inr path) (inl same) = inr (subst (IsPath objects one) same path)
within_both objects one two three (inr path) (inr more) = inr (path_and path more) where
  path_and : {from middle : ℕ} → IsPath objects from middle → IsPath objects middle three → IsPath objects from three
  path_and (one_edge from middle edge) rest = edge_and_path from middle three edge rest
  path_and (edge_and_path from next middle edge path) rest = edge_and_path from next three edge (path_and path rest)

-- what is put reaches not what it is put into
put_apart :
    (s : PlanScope) (at : ℕ) (point : Point) (state : State) (into put : ℕ)
    → IsMustOf s at point state []
    → PutEdge state (row_of_point s at point).change into put
    → Within state.objects put into
    → ⊥
put_apart s at point state into put must = go (row_of_point s at point).change refl where
  go : (by : Change) → (row_of_point s at point).change ≡ by → PutEdge state by into put → Within state.objects put into → ⊥
  go no_change is edge within = edge
  go (new_object site) is edge within = edge
  go (enter_monitor place) is edge within = edge
  go (leave_monitor place) is edge within = edge
  go (put_field place field value) is edge within =
      asks_nothing s at point state must put (change_asked s at point state (object_put_into value place) put (ap change_asks is) (edge.1, subst (CannotBePut state put) (sym edge.0) within))

behind_acyclic :
    (s : PlanScope) (at : ℕ) (point : Point) (state : State) (site : ℕ)
    → IsState state
    → IsMustOf s at point state []
    → IsPath (changed s state (row_of_point s at point).change ++ state.objects) site site
    → ⊥
behind_acyclic s at point state site is must path =
    elim (behind_path s state (row_of_point s at point).change path) [
      | inl old ↦ is.acyclic site old
      | inr over ↦ put_apart s at point state over.0 over.1 must over.2 (within_both state.objects over.1 site over.0 over.4 over.3)
    ]

-- ---- what stands behind an edge can be a state

put_present : (state : State) (by : Change) (from to : ℕ) → IsState state → PutEdge state by from to → IsTrue (is_present state.objects to)
put_present state no_change from to is edge = absurd edge
put_present state (new_object site) from to is edge = absurd edge
put_present state (enter_monitor place) from to is edge = absurd edge
put_present state (leave_monitor place) from to is edge = absurd edge
put_present state (put_field place field value) from to is edge = held_present state value to is edge.1

changed_can_be :
    (s : PlanScope) (at : ℕ) (point : Point) (state : State) (slots : List Slot)
    → IsState state
    → IsMustOf s at point state []
    → ((site : ℕ) → IsTrue (names slots site) → IsTrue (is_present (changed s state (row_of_point s at point).change ++ state.objects) site))
    → CanBeState slots (changed s state (row_of_point s at point).change ++ state.objects)
changed_can_be s at point state slots is must places =
    let by = (row_of_point s at point).change in
    record {
      places = places;
      fields = λ from to edge. present_front (changed s state by) state.objects to (elim (behind_edge s state by from to edge) [
        | inl old ↦ is.fields from to old
        | inr new ↦ put_present state by from to is new
      ]);
      acyclic = λ site path. behind_acyclic s at point state site is must path;
      usable = λ site object there. elim (behind_object s state by site object there) [
        | inl old ↦ is.usable site object old
        | inr front ↦ front_usable s state by is front.0
      ];
    }

same_can_be : (state : State) (slots : List Slot) → IsState state → ((site : ℕ) → IsTrue (names slots site) → IsTrue (is_present state.objects site)) → CanBeState slots state.objects
same_can_be state slots is places = record { places = places; fields = is.fields; acyclic = is.acyclic; usable = is.usable }

changed_ordered : (s : PlanScope) (state : State) (by : Change) → IsState state → Ordered (changed s state by ++ state.objects)
changed_ordered s state by is =
    elim (front_or_none s state by) [
      | inl none ↦ subst (λ (front : List VObject). Ordered (front ++ state.objects)) (sym none) (record { list = state.objects; order = is.order; same = λ site. refl })
      | inr has ↦ subst (λ (front : List VObject). Ordered (front ++ state.objects)) (sym has.is) (in_front has.object state.objects is.order)
    ]

-- the slots behind an edge
abbrev pub edge_slots : PlanScope → ℕ → Point → State → RowEdge → List Slot
edge_slots s at point state edge =
    local_slots s state (row_of_point s at point) (length point.typed.locals) edge
    ++ stack_slots s state (row_of_point s at point) edge

pub names_both : (one other : List Slot) (site : ℕ) → IsTrue (names (one ++ other) site) → IsTrue (names one site) ⊎ IsTrue (names other site)
names_both one other site named = or_cases (names one site) (names other site) (sym (list_any-append (is_virtual site) one other) ∙ named)

-- what the slots of an edge name comes from the sources
slots_named :
    (s : PlanScope) (at : ℕ) (point : Point) (state : State) (edge : RowEdge) (site : ℕ)
    → IsTrue (names (edge_slots s at point state edge) site)
    → IsTrue (names (slots_from s state (row_of_point s at point).change (edge_locals (row_of_point s at point) (length point.typed.locals) edge.by)) site)
    ⊎ IsTrue (names (slots_from s state (row_of_point s at point).change (edge_stack (row_of_point s at point) edge.by)) site)
slots_named s at point state edge site named =
    let row = row_of_point s at point in
    elim (names_both (local_slots s state row (length point.typed.locals) edge) (stack_slots s state row edge) site named) [
      | inl local ↦ inl (named_locals (local_types s.flat edge.to) (slots_from s state row.change (edge_locals row (length point.typed.locals) edge.by)) site local)
      | inr entry ↦ inr (named_stack (stack_types s.flat edge.to) (slots_from s state row.change (edge_stack row edge.by)) site entry)
    ]

-- the condition and the order, by the kind of the edge
pub record CanBeBehind (s : PlanScope) (at : ℕ) (point : Point) (state : State) (slots : List Slot) (by : EdgeKind) : Type 0 where
  pub can : CanBeState slots (edge_objects s state (row_of_point s at point) by)
  pub ordered : Ordered (edge_objects s state (row_of_point s at point) by)

can_be_by :
    (s : PlanScope) (at : ℕ) (point : Point) (state : State) (slots : List Slot) (by : EdgeKind)
    → IsState state
    → IsMustOf s at point state []
    → ((site : ℕ) → IsTrue (names slots site)
    → IsTrue (names (slots_from s state (row_of_point s at point).change (edge_locals (row_of_point s at point) (length point.typed.locals) by)) site)
    ⊎ IsTrue (names (slots_from s state (row_of_point s at point).change (edge_stack (row_of_point s at point) by)) site))
    → CanBeBehind s at point state slots by
can_be_by s at point state slots (Handler number) is must named = record {
  can = same_can_be state slots is (λ site one. elim (named site one) [
    | inl local ↦ places_present s state (row_of_point s at point).change site is 0 (length point.typed.locals) local
    | inr entry ↦ absurd (false≢true entry)
  ]);
  ordered = record { list = state.objects; order = is.order; same = λ site. refl };
}
can_be_by s at point state slots Next is must named = record {
  can = changed_can_be s at point state slots is must (λ site one. elim (named site one) [
    | inl local ↦ sources_present s state (row_of_point s at point).change site is (row_of_point s at point).locals local
    | inr entry ↦ sources_present s state (row_of_point s at point).change site is (row_of_point s at point).stack entry
  ]);
  ordered = changed_ordered s state (row_of_point s at point).change is;
}
can_be_by s at point state slots (Jump number) is must named = record {
  can = changed_can_be s at point state slots is must (λ site one. elim (named site one) [
    | inl local ↦ sources_present s state (row_of_point s at point).change site is (row_of_point s at point).locals local
    | inr entry ↦ sources_present s state (row_of_point s at point).change site is (row_of_point s at point).stack entry
  ]);
  ordered = changed_ordered s state (row_of_point s at point).change is;
}

pub can_be_behind : (s : PlanScope) (at : ℕ) (point : Point) (state : State) (edge : RowEdge) → IsState state → IsMustOf s at point state [] → CanBeBehind s at point state (edge_slots s at point state edge) edge.by
can_be_behind s at point state edge is must = can_be_by s at point state (edge_slots s at point state edge) edge.by is must (slots_named s at point state edge)

-- ---- the state behind an edge

pub record StateBehind (s : PlanScope) (at : ℕ) (point : Point) (before : State) (edge : RowEdge) : Type 0 where
  pub state : State
  pub behind : IsStateBehind s point at before edge state

pub state_behind : (s : PlanScope) (at : ℕ) (point : Point) (state : State) (edge : RowEdge) → IsState state → IsMustOf s at point state [] → StateBehind s at point state edge
state_behind s at point state edge is must =
    let can = can_be_behind s at point state edge is must in
    let kept = kept_state (edge_slots s at point state edge) (edge_objects s state (row_of_point s at point) edge.by) can.ordered can.can in
    record { state = kept.state; behind = record { is_state = kept.is_state; is = kept.is } }

-- ---- it has the places of the target

usable_sources : (s : PlanScope) (state : State) (by : Change) (sources : List Source) → list_any is_unusable (slots_from s state by sources) ≡ false
usable_sources s state by [] = refl
usable_sources s state by (source ∷ sources) = or_from (is_unusable (slot_from s state by source)) (list_any is_unusable (slots_from s state by sources)) (usable_source s state by source) (usable_sources s state by sources)

unusable_top : (top : Bool) (slot : Slot) → is_unusable slot ≡ false → is_unusable (cond top Unusable slot) ≡ top
unusable_top true slot usable = refl
unusable_top false slot usable = usable

pub local_places : (types : List VType) (slots : List Slot) → list_any is_unusable slots ≡ false → map is_unusable (fit_locals types slots) ≡ map is_top types
local_places [] slots usable = refl
local_places (type ∷ types) [] usable = λ i. unusable_top (is_top type) Plain refl i ∷ local_places types [] refl i
local_places (type ∷ types) (slot ∷ slots) usable =
    let parts = or_parts (is_unusable slot) (list_any is_unusable slots) usable in
    λ i. unusable_top (is_top type) slot parts.0 i ∷ local_places types slots parts.1 i

pub stack_places : (types : List VType) (slots : List Slot) → list_any is_unusable slots ≡ false → map is_unusable (fit_stack types slots) ≡ map (λ type. false) types
stack_places [] slots usable = refl
stack_places (type ∷ types) [] usable = λ i. false ∷ stack_places types [] refl i
stack_places (type ∷ types) (slot ∷ slots) usable =
    let parts = or_parts (is_unusable slot) (list_any is_unusable slots) usable in
    λ i. parts.0 i ∷ stack_places types slots parts.1 i

behind_count :
    (s : PlanScope) (state : State) (row : PlanRow) (by : EdgeKind) (site : ℕ) (object : VObject)
    → ((site : ℕ) (old : VObject) → object_of state.objects site ≡ Some old → length old.fields ≡ field_count s site)
    → object_of (edge_objects s state row by) site ≡ Some object
    → length object.fields ≡ field_count s site
behind_count s state row (Handler number) site object counts there = counts site object there
behind_count s state row Next site object counts there = elim (behind_object s state row.change site object there) [
  | inl old ↦ counts site object old
  | inr front ↦ front_count s state row.change counts front.0 ∙ ap (field_count s) front.1
]
behind_count s state row (Jump number) site object counts there = elim (behind_object s state row.change site object there) [
  | inl old ↦ counts site object old
  | inr front ↦ front_count s state row.change counts front.0 ∙ ap (field_count s) front.1
]

pub behind_is_at :
    (s : PlanScope) (at : ℕ) (point : Point) (before : State) (edge : RowEdge) (state : State)
    → ((site : ℕ) (old : VObject) → object_of before.objects site ≡ Some old → length old.fields ≡ field_count s site)
    → IsStateBehind s point at before edge state
    → IsStateAt s edge.to state
behind_is_at s at point before edge state counts behind =
    let row = row_of_point s at point in
    record {
      is_state = behind.is_state;
      places =
          ap (map is_unusable) behind.is.same_slots
          ∙ map-append is_unusable (local_slots s before row (length point.typed.locals) edge) (stack_slots s before row edge)
          ∙ (λ i. local_places (local_types s.flat edge.to) (slots_from s before row.change (edge_locals row (length point.typed.locals) edge.by)) (usable_sources s before row.change (edge_locals row (length point.typed.locals) edge.by)) i
          ++ stack_places (stack_types s.flat edge.to) (slots_from s before row.change (edge_stack row edge.by)) (usable_sources s before row.change (edge_stack row edge.by)) i);
      fields = λ site object there.
          behind_count s before row edge.by site object counts (sym (behind.is.kept site (behind.is.reached site (present_found state.objects site object there))) ∙ there);
    }
