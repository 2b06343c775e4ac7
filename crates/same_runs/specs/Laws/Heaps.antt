-- Heaps of two runs stay the same where both or one of them change.
use Rattle.std.proofs.Common.{◌≡◌, ◌+◌, ◌-◌, ℕ, zero, suc, List, [], ◌∷◌, ◌++◌, length, slice_get, slice_set, Option, Some, None, refl, sym, ap, subst, ◌∙◌, inl, inr, ◌⊎◌, arith}
use Rattle.std.specs.List.{AllByRecursion}
use Rattle.std.proofs.lemmas.Option.{none-some, same_Some}
use Rattle.machine_values.specs.Heaps.{Heap, object_at, allocated, with_object, with_value, with_monitor, monitor_count, entered, left, kept_in, constant_in}
use Rattle.machine_values.specs.declared.object.Object.{Object}
use Rattle.machine_values.specs.declared.object.Shape.{Shape}
use Rattle.machine_values.specs.declared.value.Value.{Value}
use Rattle.same_runs.specs.Renamings.{Names, NamesMore, SameObject, SameValue, SameValues, no_values, and_value}
use Rattle.same_runs.specs.SameMemories.{Apart, HasOwnConstants, SameHeaps, StaysApart, fresh_constant}
use Rattle.same_runs.specs.Laws.Names.{named_too, named_here, named_other, named_too_more, object_more}
use Rattle.same_runs.specs.Laws.Objects.{get_old, get_new, none_at_end, set_here, set_other}

pub same_or_not : (m n : ℕ) → (m ≡ n) ⊎ (m ≡ n → ⊥)
same_or_not m n = grind (arith)

-- ---- references that have no name

pub new_unnamed : {apart : Apart} {names : Names} {one other : Heap} → SameHeaps apart names one other → names (length one.objects) ≡ None
new_unnamed {apart = apart} {names = names} {one = one} same = go (names (length one.objects)) refl where
  go : (found : Option ℕ) → names (length one.objects) ≡ found → names (length one.objects) ≡ None
  go None is = is
  go (Some named) is =
      let there = same.objects (length one.objects) named is in
      absurd (none_at_end one.objects there.0 there.2)

-- no reference has a new one for its name
pub new_no_name : {apart : Apart} {names : Names} {one other : Heap} → SameHeaps apart names one other → (reference : ℕ)
    → names reference ≡ Some (length other.objects) → ⊥
new_no_name {other = other} same reference is =
    let there = same.objects reference (length other.objects) is in
    none_at_end other.objects there.1 there.3

-- ---- objects that are apart

-- what is apart stays so, each by itself
pub each_stays :
    {names more : Names} {one after : Heap}
    → ((apart : ℕ × Object) → StaysApart names one apart → StaysApart more after apart)
    → (apart : Apart)
    → AllByRecursion (StaysApart names one) apart
    → AllByRecursion (StaysApart more after) apart
each_stays keeps [] all = tt
each_stays keeps (first ∷ apart) all = (keeps first all.0, each_stays keeps apart all.1)

-- ---- constants of a heap whose objects change

own_kept :
    {before after : Heap}
    → after.constants ≡ before.constants
    → ((reference : ℕ) (object : Object) → object_at before reference ≡ Some object
    → (also : Object) × (object_at after reference ≡ Some also))
    → HasOwnConstants before
    → HasOwnConstants after
own_kept {before = before} {after = after} same stays own = record {
  there = λ constant reference is.
      let old = own.there constant reference (ap (λ kept. kept_in kept constant) (sym same) ∙ is) in
      stays reference old.0 old.1;
  is_of = λ constant reference is. ap (λ kept. constant_in kept reference) same
      ∙ own.is_of constant reference (ap (λ kept. kept_in kept constant) (sym same) ∙ is);
  has = λ constant reference is. ap (λ kept. kept_in kept constant) same
      ∙ own.has constant reference (ap (λ kept. constant_in kept reference) (sym same) ∙ is);
}

pub own_allocated : (heap : Heap) (shape : Shape) (values : List Value) → HasOwnConstants heap
    → HasOwnConstants (allocated heap shape values).heap
own_allocated heap shape values own =
    own_kept refl (λ reference object is.
    (object, get_old heap.objects (record { shape = shape; values = values; monitor = 0 }) reference object is)) own

-- ---- both allocate, or one does

pub both_allocate :
    {apart : Apart} {names : Names} {one other : Heap}
    → SameHeaps apart names one other
    → (shape : Shape) (values also : List Value)
    → SameValues (named_too names (length one.objects) (length other.objects)) values also
    → SameHeaps apart (named_too names (length one.objects) (length other.objects)) (allocated one shape values).heap
    (allocated other shape also).heap
both_allocate {apart = apart} {names = names} {one = one} {other = other} same shape values also are = record {
  renaming = record { once = once };
  objects = objects;
  own = own_allocated one shape values same.own;
  own_also = own_allocated other shape also same.own_also;
  kept = λ constant named is. let old = same.kept constant named is in (old.0, old.1, grows.keeps old.0 named old.2);
  named = λ constant reference named is has.
      let old = same.own.there constant reference is in
      same.named constant reference named is (old_name reference old.0 named old.1 has);
  fresh = λ constant reference is none.
      get_old one.objects (record { shape = shape; values = values; monitor = 0 }) reference (fresh_constant constant)
      (same.fresh constant reference is (no_old_name reference none));
  stays = each_stays still apart same.stays;
} where
  a : ℕ
  a = length one.objects

  b : ℕ
  b = length other.objects

  more : Names
  more = named_too names a b

  grows : NamesMore names more
  grows = named_too_more names a b (new_unnamed same)

  old_name : (reference : ℕ) (object : Object) (named : ℕ) → object_at one reference ≡ Some object → more reference ≡ Some named
      → names reference ≡ Some named
  old_name reference object named there is =
      sym (named_other names a b reference (λ e. none_at_end one.objects object (ap (slice_get one.objects) e ∙ there))) ∙ is

  no_old_name : (reference : ℕ) → more reference ≡ None → names reference ≡ None
  no_old_name reference none = elim (same_or_not a reference) [
    | inl e ↦ absurd (none-some b (sym none ∙ ap more (sym e) ∙ named_here names a b))
    | inr differ ↦ sym (named_other names a b reference differ) ∙ none
  ]

  still : (item : ℕ × Object) → StaysApart names one item → StaysApart more (allocated one shape values).heap item
  still item stays = record {
    there = get_old one.objects (record { shape = shape; values = values; monitor = 0 }) item.0 item.1 stays.there;
    unnamed = named_other names a b item.0 (λ e. none_at_end one.objects item.1 (ap (slice_get one.objects) e ∙ stays.there)) ∙ stays.unnamed;
    no_constant = stays.no_constant;
  }

  once : (first second reference : ℕ) → more first ≡ Some reference → more second ≡ Some reference → first ≡ second
  once first second reference is is_also = elim (same_or_not a first) [
    | inl e ↦ elim (same_or_not a second) [
      | inl e_also ↦ sym e ∙ e_also
      | inr differ ↦
          let new : reference ≡ b = same_Some reference b (sym is ∙ ap more (sym e) ∙ named_here names a b) in
          absurd (new_no_name same second (sym (named_other names a b second differ) ∙ is_also ∙ ap Some new))
    ]
    | inr differ ↦ elim (same_or_not a second) [
      | inl e_also ↦
          let new : reference ≡ b = same_Some reference b (sym is_also ∙ ap more (sym e_also) ∙ named_here names a b) in
          absurd (new_no_name same first (sym (named_other names a b first differ) ∙ is ∙ ap Some new))
      | inr differ_also ↦
          same.renaming.once first second reference (sym (named_other names a b first differ)
          ∙ is) (sym (named_other names a b second differ_also) ∙ is_also)
    ]
  ]

  objects :
      (reference named : ℕ)
      → more reference ≡ Some named
      → (object also_object : Object)
      × (object_at (allocated one shape values).heap reference ≡ Some object)
      × (object_at (allocated other shape also).heap named ≡ Some also_object)
      × SameObject more object also_object
  objects reference named is = elim (same_or_not a reference) [
    | inl e ↦
        let new : b ≡ named = same_Some b named (sym (named_here names a b) ∙ ap more e ∙ is) in (
          record { shape = shape; values = values; monitor = 0 },
          record { shape = shape; values = also; monitor = 0 },
          ap (slice_get (one.objects ++ record { shape = shape; values = values; monitor = 0 } ∷ [])) (sym e)
              ∙ get_new one.objects (record { shape = shape; values = values; monitor = 0 }),
          ap (slice_get (other.objects ++ record { shape = shape; values = also; monitor = 0 } ∷ [])) (sym new)
              ∙ get_new other.objects (record { shape = shape; values = also; monitor = 0 }),
          record { shape = refl; values = are; monitor = refl },
        )
    | inr differ ↦
        let old = same.objects reference named (sym (named_other names a b reference differ) ∙ is) in (
          old.0,
          old.1,
          get_old one.objects (record { shape = shape; values = values; monitor = 0 }) reference old.0 old.2,
          get_old other.objects (record { shape = shape; values = also; monitor = 0 }) named old.1 old.3,
          object_more grows old.4,
        )
  ]

-- the first alone allocates: its object has no name
pub first_allocates :
    {apart : Apart} {names : Names} {one other : Heap}
    → SameHeaps apart names one other
    → (shape : Shape) (values : List Value)
    → SameHeaps apart names (allocated one shape values).heap other
first_allocates {apart = apart} {names = names} {one = one} {other = other} same shape values = record {
  renaming = same.renaming;
  objects = λ reference named is.
      let old = same.objects reference named is in
      (old.0, old.1, get_old one.objects (record { shape = shape; values = values; monitor = 0 }) reference old.0 old.2, old.3, old.4);
  own = own_allocated one shape values same.own;
  own_also = same.own_also;
  kept = same.kept;
  named = same.named;
  fresh = λ constant reference is none.
      get_old one.objects (record { shape = shape; values = values; monitor = 0 }) reference (fresh_constant constant)
      (same.fresh constant reference is none);
  stays = each_stays still apart same.stays;
} where
  still : (item : ℕ × Object) → StaysApart names one item → StaysApart names (allocated one shape values).heap item
  still item stays = record {
    there = get_old one.objects (record { shape = shape; values = values; monitor = 0 }) item.0 item.1 stays.there;
    unnamed = stays.unnamed;
    no_constant = stays.no_constant;
  }

-- the second alone allocates: no reference has the new one for its name
pub second_allocates :
    {apart : Apart} {names : Names} {one other : Heap}
    → SameHeaps apart names one other
    → (shape : Shape) (values : List Value)
    → SameHeaps apart names one (allocated other shape values).heap
second_allocates {apart = apart} {names = names} {one = one} {other = other} same shape values = record {
  renaming = same.renaming;
  objects = λ reference named is.
      let old = same.objects reference named is in
      (old.0, old.1, old.2, get_old other.objects (record { shape = shape; values = values; monitor = 0 }) named old.1 old.3, old.4);
  own = same.own;
  own_also = own_allocated other shape values same.own_also;
  kept = same.kept;
  named = same.named;
  fresh = same.fresh;
  stays = same.stays;
}

-- ---- an object changes

pub own_changed : (heap : Heap) (reference : ℕ) (object new : Object) → object_at heap reference ≡ Some object → HasOwnConstants heap
    → HasOwnConstants (with_object heap reference new)
own_changed heap reference object new there own = own_kept refl stays own where
  stays : (at : ℕ) (old : Object) → object_at heap at ≡ Some old
      → (also : Object) × (object_at (with_object heap reference new) at ≡ Some also)
  stays at old is = elim (same_or_not reference at) [
    | inl e ↦ (new, ap (slice_get (slice_set heap.objects reference new)) (sym e) ∙ set_here heap.objects reference object new there)
    | inr differ ↦ (old, set_other heap.objects reference at new differ ∙ is)
  ]

-- an object of the first and the one under its name change alike
pub both_change :
    {apart : Apart} {names : Names} {one other : Heap}
    → SameHeaps apart names one other
    → (reference named : ℕ) (object also new new_also : Object)
    → names reference ≡ Some named
    → object_at one reference ≡ Some object
    → object_at other named ≡ Some also
    → SameObject names new new_also
    → SameHeaps apart names (with_object one reference new) (with_object other named new_also)
both_change {apart = apart} {names = names} {one = one} {other = other} same reference named object also new new_also is there there_also alike = record {
  renaming = same.renaming;
  objects = objects;
  own = own_changed one reference object new there same.own;
  own_also = own_changed other named also new_also there_also same.own_also;
  kept = same.kept;
  named = same.named;
  fresh = λ constant at kept none.
      set_other one.objects reference at new (λ e. none-some named (sym none ∙ ap names (sym e) ∙ is)) ∙ same.fresh constant at kept none;
  stays = each_stays still apart same.stays;
} where
  still : (item : ℕ × Object) → StaysApart names one item → StaysApart names (with_object one reference new) item
  still item stays = record {
    there = set_other one.objects reference item.0 new (λ e. none-some named (sym stays.unnamed ∙ ap names (sym e) ∙ is)) ∙ stays.there;
    unnamed = stays.unnamed;
    no_constant = stays.no_constant;
  }

  objects :
      (at name : ℕ)
      → names at ≡ Some name
      → (old old_also : Object)
      × (object_at (with_object one reference new) at ≡ Some old)
      × (object_at (with_object other named new_also) name ≡ Some old_also)
      × SameObject names old old_also
  objects at name has = elim (same_or_not reference at) [
    | inl e ↦
        let e_also : named ≡ name = same_Some named name (sym is ∙ ap names e ∙ has) in (
          new,
          new_also,
          ap (slice_get (slice_set one.objects reference new)) (sym e) ∙ set_here one.objects reference object new there,
          ap (slice_get (slice_set other.objects named new_also)) (sym e_also) ∙ set_here other.objects named also new_also there_also,
          alike,
        )
    | inr differ ↦
        let old = same.objects at name has in
        let differ_also : named ≡ name → ⊥ = λ e. differ (same.renaming.once reference at name (is ∙ ap Some e) has) in (
          old.0,
          old.1,
          set_other one.objects reference at new differ ∙ old.2,
          set_other other.objects named name new_also differ_also ∙ old.3,
          old.4,
        )
  ]

-- ---- values and monitors

with_value_there : (heap : Heap) (reference index : ℕ) (value : Value) (object : Object) → object_at heap reference ≡ Some object
    → with_value heap reference index value ≡ with_object heap reference (record object { values = slice_set object.values index value })
with_value_there heap reference index value object is = rw (is) refl

with_monitor_there : (heap : Heap) (reference count : ℕ) (object : Object) → object_at heap reference ≡ Some object
    → with_monitor heap reference count ≡ with_object heap reference (record object { monitor = count })
with_monitor_there heap reference count object is = rw (is) refl

pub monitor_there : (heap : Heap) (reference : ℕ) (object : Object) → object_at heap reference ≡ Some object
    → monitor_count heap reference ≡ object.monitor
monitor_there heap reference object is = rw (is) refl

values_set :
    {names : Names} {ones others : List Value} {value also : Value}
    → SameValues names ones others
    → SameValue names value also
    → (index : ℕ)
    → SameValues names (slice_set ones index value) (slice_set others index also)
values_set no_values same index = no_values
values_set (and_value first rest) same zero = and_value same rest
values_set (and_value first rest) same (suc index) = and_value first (values_set rest same index)

pub both_write :
    {apart : Apart} {names : Names} {one other : Heap} {value also : Value}
    → SameHeaps apart names one other
    → (reference named index : ℕ)
    → names reference ≡ Some named
    → SameValue names value also
    → SameHeaps apart names (with_value one reference index value) (with_value other named index also)
both_write {apart = apart} {names = names} {one = one} {other = other} {value = value} {also = also} same reference named index is alike =
    let old = same.objects reference named is in
    subst (λ (h : Heap). SameHeaps apart names h (with_value other named index also))
    (sym (with_value_there one reference index value old.0 old.2))
    (subst (SameHeaps apart names (with_object one reference (record old.0 { values = slice_set old.0.values index value })))
    (sym (with_value_there other named index also old.1 old.3))
    (both_change same reference named old.0 old.1 (record old.0 { values = slice_set old.0.values index value })
    (record old.1 { values = slice_set old.1.values index also })
    is old.2 old.3 (record { shape = old.4.shape; values = values_set old.4.values alike index; monitor = old.4.monitor })))

both_monitor :
    {apart : Apart} {names : Names} {one other : Heap}
    → SameHeaps apart names one other
    → (reference named count : ℕ)
    → names reference ≡ Some named
    → SameHeaps apart names (with_monitor one reference count) (with_monitor other named count)
both_monitor {apart = apart} {names = names} {one = one} {other = other} same reference named count is =
    let old = same.objects reference named is in
    subst (λ (h : Heap). SameHeaps apart names h (with_monitor other named count)) (sym (with_monitor_there one reference count old.0 old.2))
    (subst (SameHeaps apart names (with_object one reference (record old.0 { monitor = count })))
    (sym (with_monitor_there other named count old.1 old.3))
    (both_change same reference named old.0 old.1 (record old.0 { monitor = count }) (record old.1 { monitor = count })
    is old.2 old.3 (record { shape = old.4.shape; values = old.4.values; monitor = refl })))

-- a monitor is entered as often as that of the object under its name
pub same_monitor :
    {apart : Apart} {names : Names} {one other : Heap}
    → SameHeaps apart names one other
    → (reference named : ℕ)
    → names reference ≡ Some named
    → monitor_count other named ≡ monitor_count one reference
same_monitor {one = one} {other = other} same reference named is =
    let old = same.objects reference named is in
    monitor_there other named old.1 old.3 ∙ old.4.monitor ∙ sym (monitor_there one reference old.0 old.2)

pub both_enter :
    {apart : Apart} {names : Names} {one other : Heap}
    → SameHeaps apart names one other
    → (reference named : ℕ)
    → names reference ≡ Some named
    → SameHeaps apart names (entered one reference) (entered other named)
both_enter {apart = apart} {names = names} {one = one} {other = other} same reference named is =
    subst (λ (count : ℕ). SameHeaps apart names (entered one reference) (with_monitor other named (count + 1)))
    (sym (same_monitor same reference named is))
    (both_monitor same reference named (monitor_count one reference + 1) is)

pub both_leave :
    {apart : Apart} {names : Names} {one other : Heap}
    → SameHeaps apart names one other
    → (reference named : ℕ)
    → names reference ≡ Some named
    → SameHeaps apart names (left one reference) (left other named)
both_leave {apart = apart} {names = names} {one = one} {other = other} same reference named is =
    subst (λ (count : ℕ). SameHeaps apart names (left one reference) (with_monitor other named (count - 1)))
    (sym (same_monitor same reference named is))
    (both_monitor same reference named (monitor_count one reference - 1) is)

-- ---- constants stay

pub value_constants : (heap : Heap) (reference index : ℕ) (value : Value)
    → (with_value heap reference index value).constants ≡ heap.constants
value_constants heap reference index value = by (object_at heap reference) refl where
  by : (found : Option Object) → object_at heap reference ≡ found → (with_value heap reference index value).constants ≡ heap.constants
  by None is = rw (is) refl
  by (Some object) is = rw (is) refl

monitor_constants : (heap : Heap) (reference count : ℕ) → (with_monitor heap reference count).constants ≡ heap.constants
monitor_constants heap reference count = by (object_at heap reference) refl where
  by : (found : Option Object) → object_at heap reference ≡ found → (with_monitor heap reference count).constants ≡ heap.constants
  by None is = rw (is) refl
  by (Some object) is = rw (is) refl

pub entered_constants : (heap : Heap) (reference : ℕ) → (entered heap reference).constants ≡ heap.constants
entered_constants heap reference = monitor_constants heap reference (monitor_count heap reference + 1)

pub left_constants : (heap : Heap) (reference : ℕ) → (left heap reference).constants ≡ heap.constants
left_constants heap reference = monitor_constants heap reference (monitor_count heap reference - 1)
