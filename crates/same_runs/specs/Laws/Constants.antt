-- Constants of heaps: which reference each has, and how two heaps stay the same where both or one of them keep one more.
use Rattle.std.proofs.Common.{◌≡◌, ◌==◌, ◌&&◌, ℕ, Bool, true, false, List, [], ◌∷◌, ◌++◌, length, slice_get, bytes_eq, Option, Some, None, if◌then◌else◌, refl, sym, ap, subst, ◌∙◌, inl, inr, ◌⊎◌}
use Rattle.std.proofs.lemmas.Bool.{eq-eqb, eqb-true, and_parts}
use Rattle.std.proofs.lemmas.Option.{none-some, same_Some}
use Rattle.std.proofs.lemmas.Slice.Eq.{bytes_eq-Decides}
use Rattle.machine_values.specs.Heaps.{Heap, Kept, Made, object_at, external, constant_made, constant_in, kept_in, same_constant, class_of_constant}
use Rattle.machine_values.specs.declared.object.Constant.{Constant}
use Rattle.machine_values.specs.declared.object.Constant.TheVariants.{Str, Class, MethodType, Handle}
use Rattle.machine_values.specs.declared.object.Object.{Object}
use Rattle.machine_values.specs.declared.object.Shape.TheVariants.{External}
use Rattle.same_runs.specs.Renamings.{Names, NamesMore, SameObject, no_values}
use Rattle.same_runs.specs.SameMemories.{Apart, HasOwnConstants, SameHeaps, StaysApart, fresh_constant}
use Rattle.same_runs.specs.Laws.Heaps.{both_allocate, each_stays, first_allocates, new_no_name, new_unnamed, same_or_not}
use Rattle.same_runs.specs.Laws.Names.{named_too, named_here, named_other, named_too_more, names_themselves, object_more}
use Rattle.same_runs.specs.Laws.Objects.{get_old, get_new, none_at_end}

-- ---- equality

itself : (constant : Constant) → same_constant constant constant ≡ true
itself (Str text) = (bytes_eq-Decides text text).1 refl
itself (Class name) = (bytes_eq-Decides name name).1 refl
itself (MethodType desc) = (bytes_eq-Decides desc desc).1 refl
itself (Handle kind class name desc) =
    rw (
      eq-eqb kind kind refl,
      (bytes_eq-Decides class class).1 refl,
      (bytes_eq-Decides name name).1 refl,
      (bytes_eq-Decides desc desc).1 refl,
    ) refl

pub is_same : (one other : Constant) → same_constant one other ≡ true → one ≡ other
is_same (Str text) (Str other) same = ap Str ((bytes_eq-Decides text other).0 same)
is_same (Class text) (Class other) same = ap Class ((bytes_eq-Decides text other).0 same)
is_same (MethodType text) (MethodType other) same = ap MethodType ((bytes_eq-Decides text other).0 same)
is_same (Handle kind class name desc) (Handle kind' class' name' desc') same =
    let kinds = and_parts (kind == kind') (bytes_eq class class' && (bytes_eq name name' && bytes_eq desc desc')) same in
    let classes = and_parts (bytes_eq class class') (bytes_eq name name' && bytes_eq desc desc') kinds.1 in
    let names = and_parts (bytes_eq name name') (bytes_eq desc desc') classes.1 in
    let k = eqb-true kind kind' kinds.0 in
    let c = (bytes_eq-Decides class class').0 classes.0 in
    let n = (bytes_eq-Decides name name').0 names.0 in
    let d = (bytes_eq-Decides desc desc').0 names.1 in
    rw (k, c, n, d) refl
is_same one other same = cc

-- ---- what a heap keeps, with one constant more at the end

pub one_more : List Kept → Constant → ℕ → List Kept
one_more kept constant reference = kept ++ record { constant = constant; reference = reference } ∷ []

pub kept_before : (kept : List Kept) (constant last : Constant) (reference at : ℕ) → kept_in kept constant ≡ Some at
    → kept_in (one_more kept last reference) constant ≡ Some at
unfolding one_more
kept_before [] constant last reference at is = absurd (none-some at is)
kept_before (first ∷ kept) constant last reference at is = by (same_constant first.constant constant) is
    (kept_before kept constant last reference at) where
      by : (b : Bool) → (if b then Some first.reference else kept_in kept constant) ≡ Some at
          → (kept_in kept constant ≡ Some at → kept_in (kept ++ record { constant = last; reference = reference } ∷ []) constant ≡ Some at)
          → (if b then Some first.reference else kept_in (kept ++ record { constant = last; reference = reference } ∷ []) constant) ≡ Some at
      by true is rest = is
      by false is rest = rest is

-- what is kept then was kept before, or is the last
kept_then : (kept : List Kept) (constant last : Constant) (reference at : ℕ) → kept_in (one_more kept last reference) constant ≡ Some at
    → (kept_in kept constant ≡ Some at) ⊎ ((kept_in kept constant ≡ None) × (last ≡ constant) × (reference ≡ at))
unfolding one_more
kept_then [] constant last reference at is = by (same_constant last constant) refl is where
  by : (b : Bool) → same_constant last constant ≡ b → (if b then Some reference else None) ≡ Some at
      → (kept_in [] constant ≡ Some at) ⊎ ((kept_in [] constant ≡ None) × (last ≡ constant) × (reference ≡ at))
  by true same is = inr (refl, is_same last constant same, same_Some reference at is)
  by false same is = absurd (none-some at is)
kept_then (first ∷ kept) constant last reference at is = by (same_constant first.constant constant) is
    (kept_then kept constant last reference at) where
      by : (b : Bool) → (if b then Some first.reference else kept_in
          (kept ++ record { constant = last; reference = reference } ∷ []) constant) ≡ Some at
          → (kept_in (kept ++ record { constant = last; reference = reference } ∷ []) constant ≡ Some at
          → (kept_in kept constant ≡ Some at) ⊎ ((kept_in kept constant ≡ None) × (last ≡ constant) × (reference ≡ at)))
          → ((if b then Some first.reference else kept_in kept constant) ≡ Some at)
          ⊎ (((if b then Some first.reference else kept_in kept constant) ≡ None) × (last ≡ constant) × (reference ≡ at))
      by true is rest = inl is
      by false is rest = rest is

kept_last : (kept : List Kept) (constant : Constant) (reference : ℕ) → kept_in kept constant ≡ None
    → kept_in (one_more kept constant reference) constant ≡ Some reference
unfolding one_more
kept_last [] constant reference none = rw (itself constant) refl
kept_last (first ∷ kept) constant reference none = by (same_constant first.constant constant) none (kept_last kept constant reference) where
  by : (b : Bool) → (if b then Some first.reference else kept_in kept constant) ≡ None
      → (kept_in kept constant ≡ None
      → kept_in (kept ++ record { constant = constant; reference = reference } ∷ []) constant ≡ Some reference)
      → (if b then Some first.reference else kept_in (kept ++ record { constant = constant; reference = reference } ∷ []) constant)
      ≡ Some reference
  by true none rest = absurd (none-some first.reference (sym none))
  by false none rest = rest none

constant_before : (kept : List Kept) (last constant : Constant) (reference at : ℕ) → constant_in kept at ≡ Some constant
    → constant_in (one_more kept last reference) at ≡ Some constant
unfolding one_more
constant_before [] last constant reference at is = absurd (none-some constant is)
constant_before (first ∷ kept) last constant reference at is = by (first.reference == at) is
    (constant_before kept last constant reference at) where
      by : (b : Bool) → (if b then Some first.constant else constant_in kept at) ≡ Some constant
          → (constant_in kept at ≡ Some constant
          → constant_in (kept ++ record { constant = last; reference = reference } ∷ []) at ≡ Some constant)
          → (if b then Some first.constant else constant_in (kept ++ record { constant = last; reference = reference } ∷ []) at) ≡ Some constant
      by true is rest = is
      by false is rest = rest is

constant_then : (kept : List Kept) (last constant : Constant) (reference at : ℕ)
    → constant_in (one_more kept last reference) at ≡ Some constant
    → (constant_in kept at ≡ Some constant) ⊎ ((constant_in kept at ≡ None) × (last ≡ constant) × (reference ≡ at))
unfolding one_more
constant_then [] last constant reference at is = by (reference == at) refl is where
  by : (b : Bool) → (reference == at) ≡ b → (if b then Some last else None) ≡ Some constant
      → (constant_in [] at ≡ Some constant) ⊎ ((constant_in [] at ≡ None) × (last ≡ constant) × (reference ≡ at))
  by true same is = inr (refl, same_Some last constant is, eqb-true reference at same)
  by false same is = absurd (none-some constant is)
constant_then (first ∷ kept) last constant reference at is = by (first.reference == at) is
    (constant_then kept last constant reference at) where
      by : (b : Bool) → (if b then Some first.constant else constant_in (kept ++ record { constant = last; reference = reference } ∷ []) at)
          ≡ Some constant
          → (constant_in (kept ++ record { constant = last; reference = reference } ∷ []) at ≡ Some constant
          → (constant_in kept at ≡ Some constant) ⊎ ((constant_in kept at ≡ None) × (last ≡ constant) × (reference ≡ at)))
          → ((if b then Some first.constant else constant_in kept at) ≡ Some constant)
          ⊎ (((if b then Some first.constant else constant_in kept at) ≡ None) × (last ≡ constant) × (reference ≡ at))
      by true is rest = inl is
      by false is rest = rest is

constant_last : (kept : List Kept) (constant : Constant) (reference : ℕ) → constant_in kept reference ≡ None
    → constant_in (one_more kept constant reference) reference ≡ Some constant
unfolding one_more
constant_last [] constant reference none = rw (eq-eqb reference reference refl) refl
constant_last (first ∷ kept) constant reference none = by (first.reference == reference) none (constant_last kept constant reference) where
  by : (b : Bool) → (if b then Some first.constant else constant_in kept reference) ≡ None
      → (constant_in kept reference ≡ None
      → constant_in (kept ++ record { constant = constant; reference = reference } ∷ []) reference ≡ Some constant)
      → (if b then Some first.constant else constant_in (kept ++ record { constant = constant; reference = reference } ∷ []) reference)
      ≡ Some constant
  by true none rest = absurd (none-some first.constant (sym none))
  by false none rest = rest none

-- ---- a constant is made

-- the heap that keeps a new object as a constant
pub keeping : Heap → Constant → Heap
unfolding one_more
keeping heap constant =
    record (external heap (class_of_constant constant)).heap { constants = one_more heap.constants constant (length heap.objects) }

pub made_kept : (heap : Heap) (constant : Constant) (reference : ℕ) → kept_in heap.constants constant ≡ Some reference
    → constant_made heap constant ≡ record { heap = heap; reference = reference }
made_kept heap constant reference is = rw (is) refl

pub made_new : (heap : Heap) (constant : Constant) → kept_in heap.constants constant ≡ None
    → constant_made heap constant ≡ record { heap = keeping heap constant; reference = length heap.objects }
unfolding one_more keeping
made_new heap constant none = rw (none) refl

own_keeping : (heap : Heap) (constant : Constant) → kept_in heap.constants constant ≡ None → HasOwnConstants heap
    → HasOwnConstants (keeping heap constant)
unfolding keeping
own_keeping heap constant none own = record {
  there = λ other reference is. elim (kept_then heap.constants other constant (length heap.objects) reference is) [
    | inl old ↦ let was = own.there other reference old in (was.0, get_old heap.objects (fresh_constant constant) reference was.0 was.1)
    | inr new ↦ (fresh_constant constant, ap (slice_get (heap.objects ++ fresh_constant constant ∷ [])) (sym new.2) ∙ get_new heap.objects (fresh_constant constant))
  ];
  is_of = λ other reference is. elim (kept_then heap.constants other constant (length heap.objects) reference is) [
    | inl old ↦ constant_before heap.constants constant other (length heap.objects) reference (own.is_of other reference old)
    | inr new ↦
        subst (λ (r : ℕ). constant_in (one_more heap.constants constant (length heap.objects)) r ≡ Some other) new.2
        (constant_last heap.constants constant (length heap.objects) no_constant ∙ ap Some new.1)
  ];
  has = λ other reference is. elim (constant_then heap.constants constant other (length heap.objects) reference is) [
    | inl old ↦ kept_before heap.constants other constant (length heap.objects) reference (own.has other reference old)
    | inr new ↦
        subst (λ (c : Constant). kept_in (one_more heap.constants constant (length heap.objects)) c ≡ Some reference) new.1
        (kept_last heap.constants constant (length heap.objects) none ∙ ap Some new.2)
  ];
} where
  no_constant : constant_in heap.constants (length heap.objects) ≡ None
  no_constant = by (constant_in heap.constants (length heap.objects)) refl where
    by : (found : Option Constant) → constant_in heap.constants (length heap.objects) ≡ found
        → constant_in heap.constants (length heap.objects) ≡ None
    by None is = is
    by (Some other) is =
        let was = own.there other (length heap.objects) (own.has other (length heap.objects) is) in
        absurd (none_at_end heap.objects was.0 was.1)

-- ---- both keep a constant, or one does

-- a constant of both, under names that are perhaps more
pub record SameConstant (apart : Apart) (names : Names) (one other : Heap) (constant : Constant) : Type 0 where
  pub more : Names
  pub grows : NamesMore names more
  pub heaps : SameHeaps apart more (constant_made one constant).heap (constant_made other constant).heap
  pub is : more (constant_made one constant).reference ≡ Some (constant_made other constant).reference

-- the second keeps a constant that the first alone had
second_keeps :
    {apart : Apart} {names : Names} {one other : Heap}
    → SameHeaps apart names one other
    → (constant : Constant) (reference : ℕ)
    → kept_in one.constants constant ≡ Some reference
    → kept_in other.constants constant ≡ None
    → names reference ≡ None
    → SameHeaps apart (named_too names reference (length other.objects)) one (keeping other constant)
unfolding keeping
second_keeps {apart = apart} {names = names} {one = one} {other = other} same constant reference is none unnamed = record {
  renaming = record { once = once };
  objects = objects;
  own = same.own;
  own_also = own_keeping other constant none same.own_also;
  kept = λ also named has. elim (kept_then other.constants also constant b named has) [
    | inl old ↦ let was = same.kept also named old in (was.0, was.1, grows.keeps was.0 named was.2)
    | inr new ↦ (
      reference,
      subst (λ (c : Constant). kept_in one.constants c ≡ Some reference) new.1 is,
      named_here names reference b ∙ ap Some new.2,
    )
  ];
  named = λ also at named has given. elim (same_or_not reference at) [
    | inl e ↦
        let same_one : constant ≡ also =
        same_Some constant also (sym (same.own.is_of constant reference is) ∙ ap (constant_in one.constants) e
        ∙ same.own.is_of also at has) in
        let new : b ≡ named = same_Some b named (sym (named_here names reference b) ∙ ap more e ∙ given) in
        subst (λ (c : Constant). kept_in (one_more other.constants constant b) c
        ≡ Some named) same_one (kept_last other.constants constant b none ∙ ap Some new)
    | inr differ ↦
        kept_before other.constants also constant b named
        (same.named also at named has (sym (named_other names reference b at differ) ∙ given))
  ];
  fresh = λ also at has free. elim (same_or_not reference at) [
    | inl e ↦ absurd (none-some b (sym free ∙ ap more (sym e) ∙ named_here names reference b))
    | inr differ ↦ same.fresh also at has (sym (named_other names reference b at differ) ∙ free)
  ];
  stays = each_stays still apart same.stays;
} where
  b : ℕ
  b = length other.objects

  more : Names
  more = named_too names reference b

  grows : NamesMore names more
  grows = named_too_more names reference b unnamed

  still : (item : ℕ × Object) → StaysApart names one item → StaysApart more one item
  still item stays = record {
    there = stays.there;
    unnamed = named_other names reference b item.0 (λ e. stays.no_constant constant (is ∙ ap Some e)) ∙ stays.unnamed;
    no_constant = stays.no_constant;
  }

  once : (first second at : ℕ) → more first ≡ Some at → more second ≡ Some at → first ≡ second
  once first second at has has_also = elim (same_or_not reference first) [
    | inl e ↦ elim (same_or_not reference second) [
      | inl e_also ↦ sym e ∙ e_also
      | inr differ ↦
          let new : at ≡ b = same_Some at b (sym has ∙ ap more (sym e) ∙ named_here names reference b) in
          absurd (new_no_name same second (sym (named_other names reference b second differ) ∙ has_also ∙ ap Some new))
    ]
    | inr differ ↦ elim (same_or_not reference second) [
      | inl e_also ↦
          let new : at ≡ b = same_Some at b (sym has_also ∙ ap more (sym e_also) ∙ named_here names reference b) in
          absurd (new_no_name same first (sym (named_other names reference b first differ) ∙ has ∙ ap Some new))
      | inr differ_also ↦
          same.renaming.once first second at (sym (named_other names reference b first differ)
          ∙ has) (sym (named_other names reference b second differ_also) ∙ has_also)
    ]
  ]

  objects :
      (at named : ℕ)
      → more at ≡ Some named
      → (object also : Object)
      × (object_at one at ≡ Some object)
      × (object_at (external other (class_of_constant constant)).heap named ≡ Some also)
      × SameObject more object also
  objects at named has = elim (same_or_not reference at) [
    | inl e ↦
        let new : b ≡ named = same_Some b named (sym (named_here names reference b) ∙ ap more e ∙ has) in (
          fresh_constant constant,
          fresh_constant constant,
          ap (slice_get one.objects) (sym e) ∙ same.fresh constant reference is unnamed,
          ap (slice_get (other.objects ++ fresh_constant constant ∷ [])) (sym new) ∙ get_new other.objects (fresh_constant constant),
          record { shape = refl; values = no_values; monitor = refl },
        )
    | inr differ ↦
        let old = same.objects at named (sym (named_other names reference b at differ) ∙ has) in
        (old.0, old.1, old.2, get_old other.objects (fresh_constant constant) named old.1 old.3, object_more grows old.4)
  ]

-- where an object stands before, a new one does not
before_end : (heap : Heap) (reference : ℕ) (object : Object) → object_at heap reference ≡ Some object
    → length heap.objects ≡ reference → ⊥
before_end heap reference object there same = none_at_end heap.objects object (ap (slice_get heap.objects) same ∙ there)

-- an object that was no constant's is not that of a new one
not_kept : (heap : Heap) (constant : Constant) (reference : ℕ) (object : Object) → object_at heap reference ≡ Some object
    → ((also : Constant) → kept_in heap.constants also ≡ Some reference → ⊥)
    → (also : Constant) → kept_in (keeping heap constant).constants also ≡ Some reference → ⊥
unfolding keeping
not_kept heap constant reference object there none also is = elim (kept_then heap.constants also constant (length heap.objects) reference is) [
  | inl old ↦ none also old
  | inr new ↦ before_end heap reference object there new.2
]

-- both keep a new one
both_keep :
    {apart : Apart} {names : Names} {one other : Heap}
    → SameHeaps apart names one other
    → (constant : Constant)
    → kept_in one.constants constant ≡ None
    → kept_in other.constants constant ≡ None
    → SameHeaps apart (named_too names (length one.objects) (length other.objects)) (keeping one constant) (keeping other constant)
unfolding keeping
both_keep {apart = apart} {names = names} {one = one} {other = other} same constant none none_also = record {
  renaming = made.renaming;
  objects = made.objects;
  own = own_keeping one constant none same.own;
  own_also = own_keeping other constant none_also same.own_also;
  kept = λ also named has. elim (kept_then other.constants also constant b named has) [
    | inl old ↦
        let was = made.kept also named old in
        (was.0, kept_before one.constants also constant a was.0 was.1, was.2)
    | inr new ↦ (
      a,
      subst (λ (c : Constant). kept_in (one_more one.constants constant a) c ≡ Some a) new.1 (kept_last one.constants constant a none),
      named_here names a b ∙ ap Some new.2,
    )
  ];
  named = λ also at named has given. elim (kept_then one.constants also constant a at has) [
    | inl old ↦ kept_before other.constants also constant b named (made.named also at named old given)
    | inr new ↦
        let is_b : b ≡ named = same_Some b named (sym (named_here names a b) ∙ ap (named_too names a b) new.2 ∙ given) in
        subst (λ (c : Constant). kept_in (one_more other.constants constant b) c
        ≡ Some named) new.1 (kept_last other.constants constant b none_also ∙ ap Some is_b)
  ];
  fresh = λ also at has free. elim (kept_then one.constants also constant a at has) [
    | inl old ↦ made.fresh also at old free
    | inr new ↦ absurd (none-some b (sym free ∙ ap (named_too names a b) (sym new.2) ∙ named_here names a b))
  ];
  stays = each_stays still apart same.stays;
} where
  a : ℕ
  a = length one.objects

  b : ℕ
  b = length other.objects

  made : SameHeaps apart (named_too names a b) (external one (class_of_constant constant)).heap (external other (class_of_constant constant)).heap
  made = both_allocate same (External (class_of_constant constant) []) [] [] no_values

  still : (item : ℕ × Object) → StaysApart names one item → StaysApart (named_too names a b) (keeping one constant) item
  still item stays = record {
    there = get_old one.objects (fresh_constant constant) item.0 item.1 stays.there;
    unnamed = named_other names a b item.0 (before_end one item.0 item.1 stays.there) ∙ stays.unnamed;
    no_constant = not_kept one constant item.0 item.1 stays.there stays.no_constant;
  }

abbrev AreMade : Apart → Names → Made → Made → Type 0
AreMade apart names first second =
    (more : Names) × NamesMore names more × SameHeaps apart more first.heap second.heap × (more first.reference ≡ Some second.reference)

pub both_have :
    {apart : Apart} {names : Names} {one other : Heap}
    → SameHeaps apart names one other
    → (constant : Constant)
    → SameConstant apart names one other constant
both_have {apart = apart} {names = names} {one = one} {other = other} same constant = by (kept_in one.constants constant)
    (kept_in other.constants constant) refl refl where
      finish : (first second : Made) → constant_made one constant ≡ first → constant_made other constant ≡ second → AreMade apart names first second
          → SameConstant apart names one other constant
      finish first second is is_also goal =
          let at_first = subst (λ (m : Made). AreMade apart names m second) (sym is) goal in
          let both = subst (λ (m : Made). AreMade apart names (constant_made one constant) m) (sym is_also) at_first in
          record { more = both.0; grows = both.1; heaps = both.2; is = both.3 }

      by : (first second : Option ℕ) → kept_in one.constants constant ≡ first → kept_in other.constants constant ≡ second
          → SameConstant apart names one other constant
      by (Some reference) (Some named) is is_also =
          let was = same.kept constant named is_also in
          let same_one : was.0 ≡ reference = same_Some was.0 reference (sym was.1 ∙ is) in
          finish (record { heap = one; reference = reference }) (record { heap = other; reference = named })
          (made_kept one constant reference is) (made_kept other constant named is_also)
          (names, names_themselves names, same, ap names (sym same_one) ∙ was.2)
      by (Some reference) None is none =
          finish (record { heap = one; reference = reference }) (record { heap = keeping other constant; reference = length other.objects })
          (made_kept one constant reference is) (made_new other constant none) (
            named_too names reference (length other.objects),
            named_too_more names reference (length other.objects) (unnamed (names reference) refl),
            second_keeps same constant reference is none (unnamed (names reference) refl),
            named_here names reference (length other.objects),
          ) where
            unnamed : (found : Option ℕ) → names reference ≡ found → names reference ≡ None
            unnamed None free = free
            unnamed (Some named) given = absurd (none-some named (sym none ∙ same.named constant reference named is given))
      by None (Some named) none is_also =
          let was = same.kept constant named is_also in
          absurd (none-some was.0 (sym none ∙ was.1))
      by None None none none_also =
          finish (record { heap = keeping one constant; reference = length one.objects })
          (record { heap = keeping other constant; reference = length other.objects }) (made_new one constant none)
          (made_new other constant none_also) (
            named_too names (length one.objects) (length other.objects),
            named_too_more names (length one.objects) (length other.objects) (new_unnamed same),
            both_keep same constant none none_also,
            named_here names (length one.objects) (length other.objects),
          )

-- the first alone makes a constant, which has no name
pub first_has :
    {apart : Apart} {names : Names} {one other : Heap}
    → SameHeaps apart names one other
    → (constant : Constant)
    → SameHeaps apart names (constant_made one constant).heap other
unfolding keeping
first_has {apart = apart} {names = names} {one = one} {other = other} same constant = by (kept_in one.constants constant) refl where
  made : SameHeaps apart names (external one (class_of_constant constant)).heap other
  made = first_allocates same (External (class_of_constant constant) []) []

  kept_new : kept_in one.constants constant ≡ None → SameHeaps apart names (keeping one constant) other
  kept_new none = record {
    renaming = made.renaming;
    objects = made.objects;
    own = own_keeping one constant none same.own;
    own_also = same.own_also;
    kept = λ also named has.
        let was = same.kept also named has in
        (was.0, kept_before one.constants also constant (length one.objects) was.0 was.1, was.2);
    named = λ also at named has given. elim (kept_then one.constants also constant (length one.objects) at has) [
      | inl old ↦ same.named also at named old given
      | inr new ↦ absurd (none-some named (sym (new_unnamed same) ∙ ap names new.2 ∙ given))
    ];
    fresh = λ also at has free. elim (kept_then one.constants also constant (length one.objects) at has) [
      | inl old ↦ made.fresh also at old free
      | inr new ↦
          subst (λ (c : Constant). object_at (keeping one constant) at ≡ Some (fresh_constant c)) new.1
          (ap (slice_get (one.objects ++ fresh_constant constant ∷ [])) (sym new.2) ∙ get_new one.objects (fresh_constant constant))
    ];
    stays = each_stays still apart same.stays;
  } where
    still : (item : ℕ × Object) → StaysApart names one item → StaysApart names (keeping one constant) item
    still item stays = record {
      there = get_old one.objects (fresh_constant constant) item.0 item.1 stays.there;
      unnamed = stays.unnamed;
      no_constant = not_kept one constant item.0 item.1 stays.there stays.no_constant;
    }

  by : (found : Option ℕ) → kept_in one.constants constant ≡ found → SameHeaps apart names (constant_made one constant).heap other
  by (Some reference) is = subst (λ (m : Made). SameHeaps apart names m.heap other) (sym (made_kept one constant reference is)) same
  by None none = subst (λ (m : Made). SameHeaps apart names m.heap other) (sym (made_new one constant none)) (kept_new none)

-- what was kept is kept where a constant is made
pub kept_by_made : (heap : Heap) (constant also : Constant) (reference : ℕ) → kept_in heap.constants also ≡ Some reference
    → kept_in (constant_made heap constant).heap.constants also ≡ Some reference
unfolding keeping
kept_by_made heap constant also reference is = by (kept_in heap.constants constant) refl where
  by : (found : Option ℕ) → kept_in heap.constants constant ≡ found
      → kept_in (constant_made heap constant).heap.constants also ≡ Some reference
  by (Some at) there = ap (λ (m : Made). kept_in m.heap.constants also) (made_kept heap constant at there) ∙ is
  by None none = ap (λ (m : Made). kept_in m.heap.constants also) (made_new heap constant none)
      ∙ kept_before heap.constants also constant (length heap.objects) reference is

-- a constant that is made is kept
pub made_is_kept : (heap : Heap) (constant : Constant)
    → kept_in (constant_made heap constant).heap.constants constant ≡ Some (constant_made heap constant).reference
unfolding keeping
made_is_kept heap constant = by (kept_in heap.constants constant) refl where
  by : (found : Option ℕ) → kept_in heap.constants constant ≡ found
      → kept_in (constant_made heap constant).heap.constants constant ≡ Some (constant_made heap constant).reference
  by (Some at) there =
      ap (λ (m : Made). kept_in m.heap.constants constant) (made_kept heap constant at there) ∙ there
      ∙ ap (λ (m : Made). Some m.reference) (sym (made_kept heap constant at there))
  by None none =
      ap (λ (m : Made). kept_in m.heap.constants constant) (made_new heap constant none)
      ∙ kept_last heap.constants constant (length heap.objects) none
      ∙ ap (λ (m : Made). Some m.reference) (sym (made_new heap constant none))
