-- Slots with types: one by one, in lists, and where they are moved, fitted to a point or made plain.
use Rattle.std.proofs.Common.{◌≡◌, ◌+◌, ℕ, zero, suc, Bool, true, false, List, [], ◌∷◌, ◌++◌, length, map, replicate, slice_get, Option, Some, None, if◌then◌else◌, refl, sym, ap, subst, ◌∙◌, arith}
use Rattle.std.specs.List.{AllByRecursion}
use Rattle.std.specs.Prelude.{slice_set}
use Rattle.std.proofs.lemmas.Option.{none-some, same_Some}
use Rattle.class_model.specs.Frames.{is_top, is_wide}
use Rattle.class_model.specs.declared.frame.VType.{VType}
use Rattle.class_model.specs.declared.frame.VType.TheVariants as types
use Rattle.class_tree.specs.Headers.{IsThere, headers_of}
use Rattle.class_tree.specs.Hierarchy.{IsHierarchy}
use Rattle.flow_code.specs.FlatCode.{FlatCode}
use Rattle.flow_code.specs.ReadTypes.{class_of_site, read_type}
use Rattle.flow_code.specs.declared.point.Site.{Site}
use Rattle.member_link.specs.Assignability.{IsAssignable, from_null, of_names, to_same, to_top}
use Rattle.member_link.specs.Rows.FrameAssignability.{AreAssignable}
use Rattle.member_link.specs.References.{Reference}
use Rattle.plan_flow.specs.PlanRows.{Change, Source, enter_monitor, from_field, from_new, from_place, leave_monitor, new_object, no_change, plain_value, put_field}
use Rattle.plan_flow.specs.PlanScope.{PlanScope, field_number}
use Rattle.plan_flow.specs.PlanSlots.{field_in, field_of_slot, fit_locals, fit_stack, held, readable, slot_from, slot_of_new, slots_from}
use Rattle.plan_flow.specs.PlanTable.{held_from}
use Rattle.virtual_state.specs.States.{State, is_unusable, object_of}
use Rattle.virtual_state.specs.Without.{made_plain}
use Rattle.virtual_state.specs.declared.slot.Slot.{Slot}
use Rattle.virtual_state.specs.declared.slot.Slot.TheVariants.{Plain, Virt, Unusable}
use Rattle.virtual_state.specs.declared.slot.VObject.{VObject}
use Rattle.written_types.proofs.FromClasses.{from_class}
use Rattle.written_types.specs.FitsTypes.{HasType, HaveTypes, IsOfType}

-- ---- items of lists

pub item_before : {A : Type 0} (ones others : List A) (n : ℕ) (item : A) → slice_get ones n ≡ Some item → slice_get (ones ++ others) n ≡ Some item
item_before [] others n item is = absurd (none-some item is)
item_before (one ∷ ones) others zero item is = is
item_before (one ∷ ones) others (suc n) item is = item_before ones others n item is

pub item_behind : {A : Type 0} (ones others : List A) (n : ℕ) → slice_get (ones ++ others) (length ones + n) ≡ slice_get others n
item_behind [] others n = ap (slice_get others) (omega arith)
item_behind (one ∷ ones) others n =
    let next : suc (length ones) + n ≡ suc (length ones + n) = omega arith in
    ap (slice_get (one ∷ ones ++ others)) next ∙ item_behind ones others n

-- ---- read types

-- what is read as a type that is no reference is that type
pub read_as_top : (flat : FlatCode) (type : VType) → read_type flat type ≡ types.Top → type ≡ types.Top
read_as_top flat (types.Uninit at) is = by (class_of_site flat.sites at) refl where
  by : (found : Option (List ℕ)) → class_of_site flat.sites at ≡ found → types.Uninit at ≡ types.Top
  by None none = let no : types.Uninit at ≡ types.Top = rw none at is in no
  by (Some class) some = let no : types.Object class ≡ types.Top = rw some at is in absurd cc
read_as_top flat type is = is

pub read_wide : (flat : FlatCode) (type : VType) → is_wide (read_type flat type) ≡ is_wide type
read_wide flat (types.Uninit at) = by (class_of_site flat.sites at) refl where
  by : (found : Option (List ℕ)) → class_of_site flat.sites at ≡ found → is_wide (read_type flat (types.Uninit at)) ≡ false
  by None none = rw none refl
  by (Some class) some = rw some refl
read_wide flat type = refl

module _ (s : PlanScope) where
  -- ---- one slot

  pub of_virtual : (type : VType) (slot : Slot) → ((site : ℕ) → slot ≡ Virt site → IsOfType s site type) → HasType s type slot
  of_virtual type Plain is = tt
  of_virtual type (Virt site) is = is site refl
  of_virtual type Unusable is = tt

  pub read_slot : (type : VType) (slot : Slot) → HasType s type slot → HasType s type (readable (Some slot))
  read_slot type Plain has = tt
  read_slot type (Virt site) has = has
  read_slot type Unusable has = tt

  made_slot : (type : VType) (away : ℕ → Bool) (slot : Slot) → HasType s type slot → HasType s type (made_plain away slot)
  made_slot type away Plain has = tt
  made_slot type away (Virt site) has = by (away site) where
    by : (b : Bool) → HasType s type (if b then Plain else Virt site)
    by true = tt
    by false = has
  made_slot type away Unusable has = tt

  -- to what a type of a class is assignable, its objects are
  mapped_type : {type other : VType} (slot : Slot)
      → ((number : ℕ) → IsOfType s number type → IsOfType s number other)
      → HasType s type slot
      → HasType s other slot
  mapped_type Plain more has = tt
  mapped_type (Virt site) more has = more site has
  mapped_type Unusable more has = tt

  pub top_of_type : {number : ℕ} {type : VType} → IsOfType s number type → IsOfType s number types.Top
  top_of_type is = record { site = is.site; there = is.there; assignable = to_top (types.Object is.site.class) }

  -- ---- types of an object

  -- the type is Top or a class's
  pub data IsOpen : VType → Type 0 where
    open_top : IsOpen types.Top
    open_object : (name : List ℕ) → IsOpen (types.Object name)

  pub is_open_type : {number : ℕ} {type : VType} → IsOfType s number type → IsOpen type
  is_open_type is = by is.assignable refl where
    by : {from type : VType} → IsAssignable (headers_of s.classes) from type → from ≡ types.Object is.site.class → IsOpen type
    by (to_same _) same = subst IsOpen (sym same) (open_object is.site.class)
    by (to_top _) same = open_top
    by (from_null name) same = open_object name
    by (of_names low high names) same = open_object high

  pub not_wide : {number : ℕ} {type : VType} → IsOfType s number type → is_wide type ≡ true → ⊥
  not_wide is wide = by (is_open_type is) wide where
    by : {type : VType} → IsOpen type → is_wide type ≡ true → ⊥
    by open_top wide = cc
    by (open_object name) wide = cc

  -- ---- lists

  pub joined : (ones others : List VType) (fronts backs : List Slot) → HaveTypes s ones fronts → HaveTypes s others backs
      → HaveTypes s (ones ++ others) (fronts ++ backs)
  joined [] others [] backs front back = back
  joined [] others (slot ∷ fronts) backs front back = absurd front
  joined (one ∷ ones) others [] backs front back = absurd front
  joined (one ∷ ones) others (slot ∷ fronts) backs front back = (front.0, joined ones others fronts backs front.1 back)

  pub made_slots : (away : ℕ → Bool) (all : List VType) (slots : List Slot) → HaveTypes s all slots → HaveTypes s all (map (made_plain away) slots)
  made_slots away [] [] have = tt
  made_slots away [] (slot ∷ slots) have = absurd have
  made_slots away (type ∷ all) [] have = absurd have
  made_slots away (type ∷ all) (slot ∷ slots) have = (made_slot type away slot have.0, made_slots away all slots have.1)

  pub plain_slots : (all : List VType) → HaveTypes s all (replicate (length all) Plain)
  plain_slots [] = tt
  plain_slots (type ∷ all) = (tt, plain_slots all)

  -- with another type and slot in a place
  pub put_both : (all : List VType) (slots : List Slot) (n : ℕ) (type : VType) (slot : Slot) → HaveTypes s all slots → HasType s type slot
      → HaveTypes s (slice_set all n type) (slice_set slots n slot)
  put_both [] [] n type slot have has = tt
  put_both [] (first ∷ slots) n type slot have has = absurd have
  put_both (one ∷ all) [] n type slot have has = absurd have
  put_both (one ∷ all) (first ∷ slots) zero type slot have has = (has, have.1)
  put_both (one ∷ all) (first ∷ slots) (suc n) type slot have has = (have.0, put_both all slots n type slot have.1 has)

  pub put_top : (all : List VType) (slots : List Slot) (n : ℕ) → HaveTypes s all slots → HaveTypes s (slice_set all n types.Top) slots
  put_top [] [] n have = tt
  put_top [] (first ∷ slots) n have = absurd have
  put_top (one ∷ all) [] n have = absurd have
  put_top (one ∷ all) (first ∷ slots) zero have = (mapped_type first (λ number is. top_of_type is) have.0, have.1)
  put_top (one ∷ all) (first ∷ slots) (suc n) have = (have.0, put_top all slots n have.1)

  -- with another slot for a type
  pub put_slot : (all : List VType) (slots : List Slot) (n : ℕ) (type : VType) (slot : Slot) → HaveTypes s all slots → slice_get all n ≡ Some type
      → HasType s type slot
      → HaveTypes s all (slice_set slots n slot)
  put_slot [] slots n type slot have is has = absurd (none-some type is)
  put_slot (one ∷ all) [] n type slot have is has = absurd have
  put_slot (one ∷ all) (first ∷ slots) zero type slot have is has =
      (subst (λ (t : VType). HasType s t slot) (sym (same_Some one type is)) has, have.1)
  put_slot (one ∷ all) (first ∷ slots) (suc n) type slot have is has = (have.0, put_slot all slots n type slot have.1 is has)

  -- other types for the same objects
  pub changed_types : (change : VType → VType) → ((number : ℕ) (type : VType) → IsOfType s number type → IsOfType s number (change type))
      → (all : List VType) (slots : List Slot) → HaveTypes s all slots → HaveTypes s (map change all) slots
  changed_types change more [] [] have = tt
  changed_types change more [] (slot ∷ slots) have = absurd have
  changed_types change more (type ∷ all) [] have = absurd have
  changed_types change more (type ∷ all) (slot ∷ slots) have = (mapped_type slot (λ number is. more number type is) have.0, changed_types change more all slots have.1)

  pub assigned_slot : IsHierarchy (headers_of s.classes)
      → ((number : ℕ) (site : Site) → slice_get s.flat.sites number ≡ Some site → IsThere (headers_of s.classes) site.class)
      → (low high : VType) (slot : Slot) → HasType s low slot → IsAssignable (headers_of s.classes) low high
      → HasType s high slot
  assigned_slot hierarchy there low high slot has goes = mapped_type slot more has where
    more : (number : ℕ) → IsOfType s number low → IsOfType s number high
    more number is = record {
      site = is.site;
      there = is.there;
      assignable = from_class (headers_of s.classes) hierarchy (there number is.site is.there) refl is.assignable goes;
    }

  pub assigned : IsHierarchy (headers_of s.classes)
      → ((number : ℕ) (site : Site) → slice_get s.flat.sites number ≡ Some site → IsThere (headers_of s.classes) site.class)
      → (lows highs : List VType) (slots : List Slot) → HaveTypes s lows slots → AreAssignable (headers_of s.classes) lows highs
      → HaveTypes s highs slots
  assigned hierarchy there [] [] slots have are = have
  assigned hierarchy there [] (high ∷ highs) slots have are = absurd are
  assigned hierarchy there (low ∷ lows) [] slots have are = absurd are
  assigned hierarchy there (low ∷ lows) (high ∷ highs) [] have are = absurd have
  assigned hierarchy there (low ∷ lows) (high ∷ highs) (slot ∷ slots) have are =
      (assigned_slot hierarchy there low high slot have.0 are.0, assigned hierarchy there lows highs slots have.1 are.1)

  -- ---- places

  pub place_has : (all : List VType) (slots : List Slot) (n : ℕ) (type : VType) → HaveTypes s all slots → slice_get all n ≡ Some type
      → HasType s type (readable (slice_get slots n))
  place_has [] slots n type have is = absurd (none-some type is)
  place_has (one ∷ all) [] n type have is = absurd have
  place_has (one ∷ all) (slot ∷ slots) zero type have is =
      read_slot type slot (subst (λ (t : VType). HasType s t slot) (same_Some one type is) have.0)
  place_has (one ∷ all) (slot ∷ slots) (suc n) type have is = place_has all slots n type have.1 is

  pub places_have : (before : State) (does : Change) (whole : List VType) → HaveTypes s whole before.slots → (part : List VType) (first : ℕ)
      → ((n : ℕ) (type : VType) → slice_get part n ≡ Some type → slice_get whole (first + n) ≡ Some type)
      → HaveTypes s part (slots_from s before does (held_from first (length part)))
  places_have before does whole have [] first at = tt
  places_have before does whole have (type ∷ part) first at = (
    place_has whole before.slots first type have
        (subst (λ (n : ℕ). slice_get whole n ≡ Some type) (omega arith) (at zero type refl)),
    places_have before does whole have part (first + 1)
        (λ n one is. subst (λ (m : ℕ). slice_get whole m ≡ Some one) (omega arith) (at (suc n) one is)),
  )

  -- ---- behind an edge

  pub fitted_locals : (all : List VType) (slots : List Slot) → HaveTypes s (map (read_type s.flat) all) slots
      → HaveTypes s (map (read_type s.flat) all) (fit_locals all slots)
  fitted_locals [] [] have = tt
  fitted_locals [] (slot ∷ slots) have = absurd have
  fitted_locals (type ∷ all) [] have = absurd have
  fitted_locals (type ∷ all) (slot ∷ slots) have = (by (is_top type), fitted_locals all slots have.1) where
    by : (b : Bool) → HasType s (read_type s.flat type) (if b then Unusable else slot)
    by true = tt
    by false = have.0

  pub fitted_stack : (all : List VType) (slots : List Slot) → HaveTypes s (map (read_type s.flat) all) slots
      → HaveTypes s (map (read_type s.flat) all) (fit_stack all slots)
  fitted_stack [] [] have = tt
  fitted_stack [] (slot ∷ slots) have = absurd have
  fitted_stack (type ∷ all) [] have = absurd have
  fitted_stack (type ∷ all) (slot ∷ slots) have = (have.0, fitted_stack all slots have.1)

  pub no_locals : (all : List VType) → HaveTypes s (map (read_type s.flat) all) (fit_locals all [])
  no_locals [] = tt
  no_locals (type ∷ all) = (by (is_top type), no_locals all) where
    by : (b : Bool) → HasType s (read_type s.flat type) (if b then Unusable else Plain)
    by true = tt
    by false = tt

  pub no_stack : (all : List VType) → HaveTypes s (map (read_type s.flat) all) (fit_stack all [])
  no_stack [] = tt
  no_stack (type ∷ all) = (tt, no_stack all)

  -- ---- unusable places

  readable_usable : (found : Option Slot) → is_unusable (readable found) ≡ false
  readable_usable None = refl
  readable_usable (Some Plain) = refl
  readable_usable (Some (Virt site)) = refl
  readable_usable (Some Unusable) = refl

  field_usable : (state : State) (slot : Slot) (field : Reference) → is_unusable (field_of_slot s state slot field) ≡ false
  field_usable state Plain field = refl
  field_usable state (Virt site) field = by (object_of state.objects site) (field_number s site field) where
    by : (object : Option VObject) (number : Option ℕ) → is_unusable (field_in object number) ≡ false
    by None number = refl
    by (Some object) None = refl
    by (Some object) (Some number) = readable_usable (slice_get object.fields number)
  field_usable state Unusable field = refl

  new_usable : (does : Change) → is_unusable (slot_of_new does) ≡ false
  new_usable no_change = refl
  new_usable (new_object site) = refl
  new_usable (put_field object field value) = refl
  new_usable (enter_monitor place) = refl
  new_usable (leave_monitor place) = refl

  abbrev pub AreUsable : List Slot → Type 0
  AreUsable slots = AllByRecursion (λ slot. is_unusable slot ≡ false) slots

  source_usable : (before : State) (does : Change) (source : Source) → is_unusable (slot_from s before does source) ≡ false
  source_usable before does plain_value = refl
  source_usable before does (from_place place) = readable_usable (slice_get before.slots place)
  source_usable before does (from_field place field) = field_usable before (held before place) field
  source_usable before does from_new = new_usable does

  pub sources_usable : (before : State) (does : Change) (sources : List Source) → AreUsable (slots_from s before does sources)
  sources_usable before does [] = tt
  sources_usable before does (source ∷ sources) = (source_usable before does source, sources_usable before does sources)

  unusable_slot : (b : Bool) (slot : Slot) → is_unusable slot ≡ false → is_unusable (if b then Unusable else slot) ≡ b
  unusable_slot true slot usable = refl
  unusable_slot false slot usable = usable

  pub unusable_locals : (all : List VType) (slots : List Slot) → AreUsable slots → map is_unusable (fit_locals all slots) ≡ map is_top all
  unusable_locals [] slots usable = refl
  unusable_locals (type ∷ all) [] usable = λ i. unusable_slot (is_top type) Plain refl i ∷ unusable_locals all [] tt i
  unusable_locals (type ∷ all) (slot ∷ slots) usable =
      λ i. unusable_slot (is_top type) slot usable.0 i ∷ unusable_locals all slots usable.1 i

  pub usable_stack : (all : List VType) (slots : List Slot) → AreUsable slots → map is_unusable (fit_stack all slots) ≡ map (λ type. false) all
  usable_stack [] slots usable = refl
  usable_stack (type ∷ all) [] usable = λ i. false ∷ usable_stack all [] tt i
  usable_stack (type ∷ all) (slot ∷ slots) usable = λ i. usable.0 i ∷ usable_stack all slots usable.1 i
