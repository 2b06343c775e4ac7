-- Objects that the first run alone has: one more, one that changes, fewer of them, and those that the second makes too. And objects that the
-- second alone has, which change before they have a name.
use Rattle.std.proofs.Common.{◌≡◌, ◌==◌, ◌+◌, ◌-◌, ℕ, Bool, true, false, List, [], ◌∷◌, length, map, slice_get, slice_set, Option, Some, None, if◌then◌else◌, refl, sym, ap, ◌∙◌, inl, inr}
use Rattle.std.specs.List.{AllByRecursion}
use Rattle.std.proofs.lemmas.Bool.{eq-eqb, eqb-true, false≢true}
use Rattle.std.proofs.lemmas.Option.{none-some, same_Some}
use Rattle.class_model.specs.Laws.Lists.{at_index}
use Rattle.machine_values.specs.Heaps.{Heap, allocated, entered, kept_in, left, monitor_count, object_at, with_monitor, with_object, with_value}
use Rattle.machine_values.specs.declared.object.Constant.{Constant}
use Rattle.machine_values.specs.declared.object.Object.{Object}
use Rattle.machine_values.specs.declared.object.Shape.{Shape}
use Rattle.machine_values.specs.declared.value.Value.{Value}
use Rattle.same_runs.specs.Renamings.{IsRenaming, Names, NamesMore, SameObject}
use Rattle.same_runs.specs.SameMemories.{Apart, SameHeaps, StaysApart}
use Rattle.same_runs.specs.Laws.Heaps.{first_allocates, new_unnamed, own_changed, same_or_not}
use Rattle.same_runs.specs.Laws.Names.{named_here, named_other, named_too, named_too_more, object_more}
use Rattle.same_runs.specs.Laws.Objects.{get_new, none_at_end, set_here, set_other}

-- the same heaps, of which other objects are said to be apart
pub with_apart :
    {apart also : Apart} {names : Names} {one other : Heap}
    → SameHeaps apart names one other
    → AllByRecursion (StaysApart names one) also
    → SameHeaps also names one other
with_apart same stays = record {
  renaming = same.renaming;
  objects = same.objects;
  own = same.own;
  own_also = same.own_also;
  kept = same.kept;
  named = same.named;
  fresh = same.fresh;
  stays = stays;
}

-- ---- more and fewer

-- a new object of the first alone is apart
pub apart_more :
    {apart : Apart} {names : Names} {one other : Heap}
    → SameHeaps apart names one other
    → (shape : Shape) (values : List Value)
    → SameHeaps ((length one.objects, record { shape = shape; values = values; monitor = 0 }) ∷ apart) names (allocated one shape values).heap
    other
apart_more {names = names} {one = one} same shape values =
    let made = first_allocates same shape values in
    with_apart made (here, made.stays) where
      object : Object
      object = record { shape = shape; values = values; monitor = 0 }

      here : StaysApart names (allocated one shape values).heap (length one.objects, object)
      here = record {
        there = get_new one.objects object;
        unnamed = new_unnamed same;
        no_constant = λ constant kept.
            let old = same.own.there constant (length one.objects) kept in none_at_end one.objects old.0 old.1;
      }

-- each of some objects is one of others
abbrev pub AreAmong : Apart → Apart → Type 0
AreAmong fewer apart =
    AllByRecursion (λ (item : ℕ × Object). (number : ℕ) × (slice_get apart number ≡ Some item)) fewer

-- fewer objects are apart
pub apart_less :
    {apart : Apart} {names : Names} {one other : Heap} (fewer : Apart)
    → AreAmong fewer apart
    → SameHeaps apart names one other
    → SameHeaps fewer names one other
apart_less {apart = apart} {names = names} {one = one} fewer among same = with_apart same (each fewer among) where
  each : (some : Apart) → AreAmong some apart → AllByRecursion (StaysApart names one) some
  each [] all = tt
  each (item ∷ some) all = (at_index (StaysApart names one) apart all.0.0 item same.stays all.0.1, each some all.1)

-- ---- one changes

-- the same references, one of them with another object
abbrev pub changed_apart : ℕ → Object → Apart → Apart
changed_apart reference new apart =
    map (λ (item : ℕ × Object). if item.0 == reference then (item.0, new) else item) apart

-- an object of the first that has no name, and is no constant's, changes: so it does among those that are apart
pub apart_changes :
    {apart : Apart} {names : Names} {one other : Heap}
    → SameHeaps apart names one other
    → (reference : ℕ) (object new : Object)
    → names reference ≡ None
    → object_at one reference ≡ Some object
    → ((constant : Constant) → kept_in one.constants constant ≡ Some reference → ⊥)
    → SameHeaps (changed_apart reference new apart) names (with_object one reference new) other
apart_changes {apart = apart} {names = names} {one = one} {other = other} same reference object new none there no_constant = record {
  renaming = same.renaming;
  objects = λ at name has.
      let old = same.objects at name has in
      (old.0, old.1, set_other one.objects reference at new (λ e. none-some name (sym none ∙ ap names e ∙ has)) ∙ old.2, old.3, old.4);
  own = own_changed one reference object new there same.own;
  own_also = same.own_also;
  kept = same.kept;
  named = same.named;
  fresh = λ constant at kept unnamed.
      set_other one.objects reference at new (λ e. no_constant constant (kept ∙ ap Some (sym e))) ∙ same.fresh constant at kept unnamed;
  stays = each apart same.stays;
} where
  one_changed : (item : ℕ × Object) → StaysApart names one item → (b : Bool) → (item.0 == reference) ≡ b
      → StaysApart names (with_object one reference new) (if b then (item.0, new) else item)
  one_changed item stays true e = record {
    there =
        ap (slice_get (slice_set one.objects reference new)) (eqb-true item.0 reference e) ∙ set_here one.objects reference object new there;
    unnamed = stays.unnamed;
    no_constant = stays.no_constant;
  }
  one_changed item stays false e = record {
    there =
        set_other one.objects reference item.0 new (λ is. false≢true (sym e ∙ eq-eqb item.0 reference (sym is))) ∙ stays.there;
    unnamed = stays.unnamed;
    no_constant = stays.no_constant;
  }

  each : (some : Apart) → AllByRecursion (StaysApart names one) some
      → AllByRecursion (StaysApart names (with_object one reference new)) (changed_apart reference new some)
  each [] all = tt
  each (item ∷ some) all = (one_changed item all.0 (item.0 == reference) refl, each some all.1)

-- a field or an element of one that is apart is written
pub apart_written :
    {apart : Apart} {names : Names} {one other : Heap} {object : Object}
    → SameHeaps apart names one other
    → (reference index : ℕ) (value : Value)
    → StaysApart names one (reference, object)
    → SameHeaps (changed_apart reference (record object { values = slice_set object.values index value }) apart) names
    (with_value one reference index value) other
apart_written {one = one} {object = object} same reference index value stays =
    let there : object_at one reference ≡ Some object = stays.there in
    rw (there) (apart_changes same reference object (record object { values = slice_set object.values index value }) stays.unnamed there
    stays.no_constant)

-- the monitor of one that is apart is entered or left
apart_counted :
    {apart : Apart} {names : Names} {one other : Heap} {object : Object}
    → SameHeaps apart names one other
    → (reference count : ℕ)
    → StaysApart names one (reference, object)
    → SameHeaps (changed_apart reference (record object { monitor = count }) apart) names (with_monitor one reference count) other
apart_counted {one = one} {object = object} same reference count stays =
    let there : object_at one reference ≡ Some object = stays.there in
    rw (there) (apart_changes same reference object (record object { monitor = count }) stays.unnamed there stays.no_constant)

pub apart_entered :
    {apart : Apart} {names : Names} {one other : Heap} {object : Object}
    → SameHeaps apart names one other
    → (reference : ℕ)
    → StaysApart names one (reference, object)
    → SameHeaps (changed_apart reference (record object { monitor = monitor_count one reference + 1 }) apart) names (entered one reference) other
apart_entered {one = one} same reference stays = apart_counted same reference (monitor_count one reference + 1) stays

pub apart_left :
    {apart : Apart} {names : Names} {one other : Heap} {object : Object}
    → SameHeaps apart names one other
    → (reference : ℕ)
    → StaysApart names one (reference, object)
    → SameHeaps (changed_apart reference (record object { monitor = monitor_count one reference - 1 }) apart) names (left one reference) other
apart_left {one = one} same reference stays = apart_counted same reference (monitor_count one reference - 1) stays

-- ---- an object of the second alone

-- no reference has this one of the second for its name
abbrev pub IsNoName : Names → ℕ → Type 0
IsNoName names named = (reference : ℕ) → names reference ≡ Some named → ⊥

-- an object of the second that is no name changes
pub second_changes :
    {apart : Apart} {names : Names} {one other : Heap}
    → SameHeaps apart names one other
    → (named : ℕ) (object new : Object)
    → IsNoName names named
    → object_at other named ≡ Some object
    → SameHeaps apart names one (with_object other named new)
second_changes {other = other} same named object new no_name there = record {
  renaming = same.renaming;
  objects = λ at name has.
      let old = same.objects at name has in
      (old.0, old.1, old.2, set_other other.objects named name new (λ e. no_name at (has ∙ ap Some (sym e))) ∙ old.3, old.4);
  own = same.own;
  own_also = own_changed other named object new there same.own_also;
  kept = same.kept;
  named = same.named;
  fresh = same.fresh;
  stays = same.stays;
}

pub second_writes :
    {apart : Apart} {names : Names} {one other : Heap}
    → SameHeaps apart names one other
    → (named index : ℕ) (value : Value) (object : Object)
    → IsNoName names named
    → object_at other named ≡ Some object
    → SameHeaps apart names one (with_value other named index value)
second_writes same named index value object no_name there =
    rw (there) (second_changes same named object (record object { values = slice_set object.values index value }) no_name there)

second_counts :
    {apart : Apart} {names : Names} {one other : Heap}
    → SameHeaps apart names one other
    → (named count : ℕ) (object : Object)
    → IsNoName names named
    → object_at other named ≡ Some object
    → SameHeaps apart names one (with_monitor other named count)
second_counts same named count object no_name there =
    rw (there) (second_changes same named object (record object { monitor = count }) no_name there)

pub second_enters :
    {apart : Apart} {names : Names} {one other : Heap}
    → SameHeaps apart names one other
    → (named : ℕ) (object : Object)
    → IsNoName names named
    → object_at other named ≡ Some object
    → SameHeaps apart names one (entered other named)
second_enters {other = other} same named object no_name there =
    second_counts same named (monitor_count other named + 1) object no_name there

-- ---- names for what the second has made

-- A reference that gets a name: that of an object of the second that is the same, under the new names. It is no constant's.
pub record GetsName (more : Names) (one other : Heap) (reference named : ℕ) : Type 0 where
  pub object : Object
  pub also : Object
  pub there : object_at one reference ≡ Some object
  pub there_also : object_at other named ≡ Some also
  pub same : SameObject more object also
  pub no_constant : (constant : Constant) → kept_in one.constants constant ≡ Some reference → ⊥

-- Objects that both have without a name get one, all at once: they may hold references to one another. Fewer are apart then.
pub names_made :
    {apart : Apart} {names : Names} {one other : Heap} (more : Names) (fewer : Apart)
    → SameHeaps apart names one other
    → NamesMore names more
    → IsRenaming more
    → ((reference named : ℕ)
    → names reference ≡ None
    → more reference ≡ Some named
    → GetsName more one other reference named)
    → AllByRecursion (StaysApart more one) fewer
    → SameHeaps fewer more one other
names_made {names = names} {one = one} {other = other} more fewer same grows renaming made stays = record {
  renaming = renaming;
  objects = λ reference named is. at_name reference named is (names reference) refl;
  own = same.own;
  own_also = same.own_also;
  kept = λ constant named is.
      let was = same.kept constant named is in (was.0, was.1, grows.keeps was.0 named was.2);
  named = λ constant reference named kept is. at_constant constant reference named kept is (names reference) refl;
  fresh = λ constant reference kept none. same.fresh constant reference kept (no_old reference none (names reference) refl);
  stays = stays;
} where
  at_name : (reference named : ℕ) → more reference ≡ Some named → (found : Option ℕ) → names reference ≡ found
      → (object also : Object) × (object_at one reference ≡ Some object) × (object_at other named ≡ Some also) × SameObject more object also
  at_name reference named is None none =
      let new = made reference named none is in (new.object, new.also, new.there, new.there_also, new.same)
  at_name reference named is (Some old) has =
      let same_name : old ≡ named = same_Some old named (sym (grows.keeps reference old has) ∙ is) in
      let was = same.objects reference named (has ∙ ap Some same_name) in (was.0, was.1, was.2, was.3, object_more grows was.4)

  at_constant : (constant : Constant) (reference named : ℕ) → kept_in one.constants constant ≡ Some reference
      → more reference ≡ Some named → (found : Option ℕ) → names reference ≡ found → kept_in other.constants constant ≡ Some named
  at_constant constant reference named kept is None none = absurd ((made reference named none is).no_constant constant kept)
  at_constant constant reference named kept is (Some old) has =
      let same_name : old ≡ named = same_Some old named (sym (grows.keeps reference old has) ∙ is) in
      same.named constant reference named kept (has ∙ ap Some same_name)

  no_old : (reference : ℕ) → more reference ≡ None → (found : Option ℕ) → names reference ≡ found → names reference ≡ None
  no_old reference none None old = old
  no_old reference none (Some named) has = absurd (none-some named (sym none ∙ grows.keeps reference named has))

-- one name more, of an object of the second that was none, is a renaming still
pub renaming_too : {names : Names} (reference named : ℕ) → IsRenaming names → IsNoName names named
    → IsRenaming (named_too names reference named)
renaming_too {names = names} reference named renaming no_name = record { once = once } where
  more : Names
  more = named_too names reference named

  other_name : (at now : ℕ) → (reference ≡ at → ⊥) → more at ≡ Some now → names at ≡ Some now
  other_name at now differ is = sym (named_other names reference named at differ) ∙ is

  here : (now : ℕ) → more reference ≡ Some now → now ≡ named
  here now is = same_Some now named (sym is ∙ named_here names reference named)

  no_other : (at now : ℕ) → (reference ≡ at → ⊥) → more at ≡ Some now → more reference ≡ Some now → ⊥
  no_other at now differ is is_here = no_name at (other_name at now differ is ∙ ap Some (here now is_here))

  once : (first second now : ℕ) → more first ≡ Some now → more second ≡ Some now → first ≡ second
  once first second now is is_also = elim (same_or_not reference first) [
    | inl e ↦ elim (same_or_not reference second) [
      | inl e_also ↦ sym e ∙ e_also
      | inr differ ↦ absurd (no_other second now differ is_also (ap more e ∙ is))
    ]
    | inr differ ↦ elim (same_or_not reference second) [
      | inl e_also ↦ absurd (no_other first now differ is (ap more e_also ∙ is_also))
      | inr differ_also ↦ renaming.once first second now (other_name first now differ is) (other_name second now differ_also is_also)
    ]
  ]

-- One object that both have gets its name, and is no longer apart.
pub name_made :
    {apart : Apart} {names : Names} {one other : Heap} (reference named : ℕ) (object also : Object) (fewer : Apart)
    → SameHeaps apart names one other
    → StaysApart names one (reference, object)
    → IsNoName names named
    → object_at other named ≡ Some also
    → SameObject (named_too names reference named) object also
    → AreAmong fewer apart
    → AllByRecursion (λ (item : ℕ × Object). reference ≡ item.0 → ⊥) fewer
    → SameHeaps fewer (named_too names reference named) one other
name_made {apart = apart} {names = names} {one = one} {other = other} reference named object also fewer same stays no_name there_also alike
    among differ =
    names_made more fewer same (named_too_more names reference named stays.unnamed)
    (renaming_too reference named same.renaming no_name) gets (each fewer among differ) where
      more : Names
      more = named_too names reference named

      gets : (at now : ℕ) → names at ≡ None → more at ≡ Some now → GetsName more one other at now
      gets at now none is = elim (same_or_not reference at) [
        | inl e ↦
            let same_name : named ≡ now = same_Some named now (sym (named_here names reference named) ∙ ap more e ∙ is) in
            record {
              object = object;
              also = also;
              there = ap (object_at one) (sym e) ∙ stays.there;
              there_also = ap (object_at other) (sym same_name) ∙ there_also;
              same = alike;
              no_constant = λ constant kept. stays.no_constant constant (kept ∙ ap Some (sym e));
            }
        | inr other_one ↦ absurd (none-some now (sym none ∙ sym (named_other names reference named at other_one) ∙ is))
      ]

      each : (some : Apart) → AreAmong some apart → AllByRecursion (λ (item : ℕ × Object). reference ≡ item.0 → ⊥) some
          → AllByRecursion (StaysApart more one) some
      each [] all clear = tt
      each (item ∷ some) all clear =
          let old = at_index (StaysApart names one) apart all.0.0 item same.stays all.0.1 in (
            record {
              there = old.there;
              unnamed = named_other names reference named item.0 clear.0 ∙ old.unnamed;
              no_constant = old.no_constant;
            },
            each some all.1 clear.1,
          )
