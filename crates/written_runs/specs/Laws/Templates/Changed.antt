-- A virtual object that changes in the first heap: so it does in the list of virtual objects.
use Rattle.std.proofs.Common.{◌≡◌, ◌≢◌, ◌⊎◌, ◌==◌, ◌+◌, ℕ, zero, suc, Bool, true, false, List, [], ◌∷◌, length, map, slice_get, slice_set, Some, None, Option, option_map, if◌then◌else◌, IsTrue, refl, sym, ap, subst, ◌∙◌, arith, inl, inr}
use Rattle.std.specs.List.{AllByRecursion}
use Rattle.std.proofs.lemmas.Bool.{eq-eqb, eqb-true}
use Rattle.std.proofs.lemmas.Option.{none-some, same_Some, slice_get-map}
use Rattle.class_model.specs.declared.descriptor.FieldType.{FieldType}
use Rattle.machine_values.specs.Heaps.{Heap, object_at, with_object}
use Rattle.machine_values.specs.declared.frame.RunFrame.{RunFrame}
use Rattle.machine_values.specs.declared.object.Object.{Object}
use Rattle.machine_values.specs.declared.value.Value.{Value}
use Rattle.machine_values.specs.declared.value.Value.TheVariants.{Ref}
use Rattle.member_link.specs.Machine.Programs.{Program}
use Rattle.member_link.specs.Machine.Worlds.{Memory, is_begun}
use Rattle.plan_flow.specs.PlanScope.{PlanScope}
use Rattle.same_runs.specs.Laws.Apart.{changed_apart}
use Rattle.same_runs.specs.Laws.Objects.{set_here, set_other}
use Rattle.same_runs.specs.Laws.QuietBeginnings.{unbegun}
use Rattle.same_runs.specs.SameMemories.{Apart}
use Rattle.virtual_state.specs.Laws.Objects.{same_or_not}
use Rattle.virtual_state.specs.declared.slot.Slot.{Slot}
use Rattle.virtual_state.specs.declared.slot.Slot.TheVariants.{Plain, Virt, Unusable}
use Rattle.virtual_state.specs.declared.slot.VObject.{VObject}
use Rattle.written_runs.specs.Inner.Setup.{Setup}
use Rattle.written_runs.specs.Inner.Standing.{apart, entered}
use Rattle.written_runs.specs.Inner.Together.{AreOwned}
use Rattle.written_runs.specs.Laws.StandingMore.{SameBelow}
use Rattle.written_runs.specs.Laws.StillThere.{ShapesStay}
use Rattle.written_runs.specs.VirtualObjects.{AreApart, HasVirtual, IsOther, RefersTo, TellFields, TellsField, TellsObject, Virtual, Virtuals, tells_plain, tells_virtual}

-- ---- references

-- two that have one reference are the same
pub one_reference : (virtuals : Virtuals) (number also : ℕ) (one other : Virtual)
    → AreApart virtuals
    → slice_get virtuals number ≡ Some one
    → slice_get virtuals also ≡ Some other
    → one.reference ≡ other.reference
    → one ≡ other
one_reference virtuals number also one other apart_all is is_also same = by virtuals apart_all number also is is_also where
  among : (found : Virtual) (others : Virtuals) (place : ℕ) (it : Virtual)
      → AllByRecursion (IsOther found) others
      → slice_get others place ≡ Some it
      → IsOther found it
  among found [] place it all there = absurd (none-some it there)
  among found (first ∷ others) zero it all there = subst (IsOther found) (same_Some first it there) all.0
  among found (first ∷ others) (suc place) it all there = among found others place it all.1 there

  by : (list : Virtuals) → AreApart list → (place place_also : ℕ) → slice_get list place ≡ Some one → slice_get list place_also ≡ Some other
      → one ≡ other
  by [] are place place_also there there_also = absurd (none-some one there)
  by (first ∷ list) are zero zero there there_also = sym (same_Some first one there) ∙ same_Some first other there_also
  by (first ∷ list) are zero (suc place_also) there there_also =
      absurd ((subst (λ (found : Virtual). IsOther found other) (same_Some first one there) (among first list place_also other are.0 there_also)).reference
      same)
  by (first ∷ list) are (suc place) zero there there_also =
      absurd ((subst (λ (found : Virtual). IsOther found one) (same_Some first other there_also) (among first list place one are.0 there)).reference
      (sym same))
  by (first ∷ list) are (suc place) (suc place_also) there there_also = by list are.1 place place_also there there_also

-- ---- the changed list

module _ (reference : ℕ) (new : Object) where
  abbrev pub change_one : Virtual → Virtual
  change_one virtual = if virtual.reference == reference then record virtual { object = new } else virtual

  abbrev pub with_changed : Virtuals → Virtuals
  with_changed virtuals = map change_one virtuals

  frame_as : (virtual : Virtual) → (change_one virtual).frame ≡ virtual.frame
  frame_as virtual = by (virtual.reference == reference) refl where
    by : (same : Bool) → (virtual.reference == reference) ≡ same → (change_one virtual).frame ≡ virtual.frame
    by true is = rw (is) refl
    by false is = rw (is) refl

  site_as : (virtual : Virtual) → (change_one virtual).site ≡ virtual.site
  site_as virtual = by (virtual.reference == reference) refl where
    by : (same : Bool) → (virtual.reference == reference) ≡ same → (change_one virtual).site ≡ virtual.site
    by true is = rw (is) refl
    by false is = rw (is) refl

  pub reference_as : (virtual : Virtual) → (change_one virtual).reference ≡ virtual.reference
  reference_as virtual = by (virtual.reference == reference) refl where
    by : (same : Bool) → (virtual.reference == reference) ≡ same → (change_one virtual).reference ≡ virtual.reference
    by true is = rw (is) refl
    by false is = rw (is) refl

  pub changed_here : (virtual : Virtual) → virtual.reference ≡ reference → change_one virtual ≡ record virtual { object = new }
  changed_here virtual same = rw (eq-eqb virtual.reference reference same) refl

  pub unchanged : (virtual : Virtual) → virtual.reference ≢ reference → change_one virtual ≡ virtual
  unchanged virtual apart_from = by (virtual.reference == reference) refl where
    by : (same : Bool) → (virtual.reference == reference) ≡ same → change_one virtual ≡ virtual
    by true is = absurd (apart_from (eqb-true virtual.reference reference is))
    by false is = rw (is) refl

  pub has_changed : {virtuals : Virtuals} {frame site : ℕ} {virtual : Virtual} → HasVirtual virtuals frame site virtual
      → HasVirtual (with_changed virtuals) frame site (change_one virtual)
  has_changed {virtuals = virtuals} {virtual = virtual} there = record {
    number = there.number;
    is_there = slice_get-map change_one virtuals there.number ∙ ap (option_map change_one) there.is_there;
    of_frame = frame_as virtual ∙ there.of_frame;
    of_site = site_as virtual ∙ there.of_site;
  }

  -- one of the changed list
  pub record WasOne (virtuals : Virtuals) (number : ℕ) (now : Virtual) : Type 0 where
    pub virtual : Virtual
    pub is_there : slice_get virtuals number ≡ Some virtual
    pub is : now ≡ change_one virtual

  pub was_one : (virtuals : Virtuals) (number : ℕ) (now : Virtual) → slice_get (with_changed virtuals) number ≡ Some now → WasOne virtuals number now
  was_one virtuals number now is = by (slice_get virtuals number) refl where
    by : (found : Option Virtual) → slice_get virtuals number ≡ found → WasOne virtuals number now
    by None none = absurd (none-some now (sym (ap (option_map change_one) none) ∙ sym (slice_get-map change_one virtuals number) ∙ is))
    by (Some virtual) some = record {
      virtual = virtual;
      is_there = some;
      is = sym (same_Some (change_one virtual) now (sym (ap (option_map change_one) some) ∙ sym (slice_get-map change_one virtuals number) ∙ is));
    }

  pub had : {virtuals : Virtuals} {frame site : ℕ} {now : Virtual} → HasVirtual (with_changed virtuals) frame site now
      → (virtual : Virtual) × HasVirtual virtuals frame site virtual × (now ≡ change_one virtual)
  had {virtuals = virtuals} {now = now} there =
      let was = was_one virtuals there.number now there.is_there in (
        was.virtual,
        record {
          number = there.number;
          is_there = was.is_there;
          of_frame = sym (frame_as was.virtual) ∙ ap (λ (v : Virtual). v.frame) (sym was.is) ∙ there.of_frame;
          of_site = sym (site_as was.virtual) ∙ ap (λ (v : Virtual). v.site) (sym was.is) ∙ there.of_site;
        },
        was.is,
      )

  others_apart : (one : Virtual) (virtuals : Virtuals) → AllByRecursion (IsOther one) virtuals
      → AllByRecursion (IsOther (change_one one)) (with_changed virtuals)
  others_apart one [] all = tt
  others_apart one (other ∷ virtuals) all = (
    record {
      owner = λ same_frame same_site.
          all.0.owner (sym (frame_as one) ∙ same_frame ∙ frame_as other) (sym (site_as one) ∙ same_site ∙ site_as other);
      reference = λ same. all.0.reference (sym (reference_as one) ∙ same ∙ reference_as other);
    },
    others_apart one virtuals all.1,
  )

  pub still_apart_changed : (virtuals : Virtuals) → AreApart virtuals → AreApart (with_changed virtuals)
  still_apart_changed [] are = tt
  still_apart_changed (one ∷ virtuals) are = (others_apart one virtuals are.0, still_apart_changed virtuals are.1)

  pub apart_as : (virtuals : Virtuals) → apart (with_changed virtuals) ≡ changed_apart reference new (apart virtuals)
  apart_as [] = refl
  apart_as (one ∷ virtuals) =
      ap (λ (item : ℕ × Object). item ∷ apart (with_changed virtuals)) (by (one.reference == reference) refl)
      ∙ ap (λ (items : Apart). (if one.reference == reference then (one.reference, new) else (one.reference, one.object)) ∷ items)
      (apart_as virtuals) where
        AsItem : ℕ × Object → ℕ × Object → Type 0
        AsItem item other = item ≡ other

        by : (same : Bool)
            → (one.reference == reference) ≡ same
            → AsItem ((change_one one).reference, (change_one one).object)
            (if one.reference == reference then (one.reference, new) else (one.reference, one.object))
        by true is = rw (is) refl
        by false is = rw (is) refl

  -- an object of another frame than that of the changed one stays as it is
  pub same_below_changed : (virtuals : Virtuals) (frame number : ℕ) (target : Virtual)
      → AreApart virtuals
      → slice_get virtuals number ≡ Some target
      → target.frame ≡ frame
      → target.reference ≡ reference
      → SameBelow virtuals (with_changed virtuals) frame
  same_below_changed virtuals frame number target are is of_frame of_reference = λ other low. record {
    forth = λ site virtual there.
        subst (HasVirtual (with_changed virtuals) other site) (unchanged virtual (λ same. absurd
        (let it = one_reference virtuals there.number number virtual target are there.is_there is (same ∙ sym of_reference) in
        let frames = sym there.of_frame ∙ ap (λ (v : Virtual). v.frame) it ∙ of_frame in omega (arith, low, frames)))) (has_changed there);
    back = λ site now there.
        let was = had there in
        subst (HasVirtual virtuals other site) (sym (was.2 ∙ unchanged was.0 (λ same. absurd
        (let it = one_reference virtuals was.1.number number was.0 target are was.1.is_there is (same ∙ sym of_reference) in
        let frames = sym was.1.of_frame ∙ ap (λ (v : Virtual). v.frame) it ∙ of_frame in omega (arith, low, frames))))) was.1;
  }

  -- ---- what is told of others

  pub refers_changed : {virtuals : Virtuals} {frame : ℕ} (site : ℕ) (value : Value) → RefersTo virtuals frame site value
      → RefersTo (with_changed virtuals) frame site value
  refers_changed site value refers = record {
    virtual = change_one refers.virtual;
    has = has_changed refers.has;
    is = refers.is ∙ ap Ref (sym (reference_as refers.virtual));
  }

  pub fields_changed : (virtuals : Virtuals) (frame : ℕ) (types : List FieldType) (values : List Value) (slots : List Slot)
      → TellFields virtuals frame types values slots
      → TellFields (with_changed virtuals) frame types values slots
  fields_changed virtuals frame [] [] [] told = tt
  fields_changed virtuals frame [] [] (slot ∷ slots) told = absurd told
  fields_changed virtuals frame [] (value ∷ values) slots told = absurd told
  fields_changed virtuals frame (type ∷ types) [] slots told = absurd told
  fields_changed virtuals frame (type ∷ types) (value ∷ values) [] told = absurd told
  fields_changed virtuals frame (type ∷ types) (value ∷ values) (slot ∷ slots) told =
      (by slot told.0, fields_changed virtuals frame types values slots told.1) where
        by : (slot : Slot) → TellsField virtuals frame type value slot → TellsField (with_changed virtuals) frame type value slot
        by (Virt site) (tells_virtual refers) = tells_virtual (refers_changed site value refers)
        by Plain (tells_plain fits kept) = tells_plain fits kept
        by Unusable here = elim here [ ]

  pub tells_other : {P : Program} {s : PlanScope} {virtuals : Virtuals} {frame : ℕ} (told : VObject)
      → (tells : TellsObject P s virtuals frame told)
      → tells.virtual.reference ≢ reference
      → TellsObject P s (with_changed virtuals) frame told
  tells_other {virtuals = virtuals} {frame = frame} told tells apart_from = record {
    site = tells.site;
    is_site = tells.is_site;
    virtual = tells.virtual;
    has = subst (HasVirtual (with_changed virtuals) frame told.site) (unchanged tells.virtual apart_from) (has_changed tells.has);
    class = tells.class;
    of_folder = tells.of_folder;
    shape = tells.shape;
    monitor = tells.monitor;
    fields = fields_changed virtuals frame tells.site.fields tells.virtual.object.values told.fields tells.fields;
  }

  -- ---- whose they are, and what they count

  pub owned_changed : (u : Setup) (virtuals : Virtuals) (memory after : Memory) (ones : List RunFrame) (number : ℕ) (target : Virtual)
      → slice_get virtuals number ≡ Some target
      → target.reference ≡ reference
      → new.shape ≡ target.object.shape
      → AreApart virtuals
      → after.begun ≡ memory.begun
      → AreOwned u virtuals memory ones
      → AreOwned u (with_changed virtuals) after ones
  owned_changed u virtuals memory after ones number target is of_reference shape are same owned = record {
    owner = λ place now there.
        let was = was_one virtuals place now there in
        let owner = owned.owner place was.virtual was.is_there in
        (owner.0, owner.1, ap (slice_get _) (ap (λ (v : Virtual). v.frame) was.is ∙ frame_as was.virtual) ∙ owner.2, owner.3);
    begun = λ place class now there of_class.
        let was = was_one virtuals place now there in
        begun_still class (owned.begun place class was.virtual was.is_there
        (shape_was place was.virtual was.is_there ∙ ap (λ (v : Virtual). v.object.shape) (sym was.is) ∙ of_class));
  } where
    begun_still : (class : ℕ) → IsTrue (is_begun memory class) → IsTrue (is_begun after class)
    begun_still class begun = rw (same) begun

    shape_was : (place : ℕ) (virtual : Virtual) → slice_get virtuals place ≡ Some virtual → virtual.object.shape ≡ (change_one virtual).object.shape
    shape_was place virtual there = by (same_or_not virtual.reference reference) where
      by : (virtual.reference ≡ reference) ⊎ (virtual.reference ≢ reference) → virtual.object.shape ≡ (change_one virtual).object.shape
      by (inl here) =
          ap (λ (v : Virtual). v.object.shape) (one_reference virtuals place number virtual target are there is (here ∙ sym of_reference))
          ∙ sym shape ∙ ap (λ (v : Virtual). v.object.shape) (sym (changed_here virtual here))
      by (inr apart_from) = ap (λ (v : Virtual). v.object.shape) (sym (unchanged virtual apart_from))

  -- the monitors of the list, where that of one object changes
  none_changed : (virtuals : Virtuals) → AllByRecursion (λ (v : Virtual). v.reference ≢ reference) virtuals → with_changed virtuals ≡ virtuals
  none_changed [] all = refl
  none_changed (one ∷ virtuals) all =
      ap (λ (v : Virtual). v ∷ with_changed virtuals) (unchanged one all.0) ∙ ap (λ (vs : Virtuals). one ∷ vs) (none_changed virtuals all.1)

  others_differ : (one : Virtual) (virtuals : Virtuals) → one.reference ≡ reference → AllByRecursion (IsOther one) virtuals
      → AllByRecursion (λ (v : Virtual). v.reference ≢ reference) virtuals
  others_differ one [] same all = tt
  others_differ one (other ∷ virtuals) same all =
      (λ here. all.0.reference (same ∙ sym here), others_differ one virtuals same all.1)

  pub entered_as : (virtuals : Virtuals) (number : ℕ) (target : Virtual)
      → AreApart virtuals
      → slice_get virtuals number ≡ Some target
      → target.reference ≡ reference
      → entered (with_changed virtuals) + target.object.monitor ≡ entered virtuals + new.monitor
  entered_as [] number target are is same = absurd (none-some target is)
  entered_as (one ∷ virtuals) zero target are is same =
      let here = same_Some one target is in
      let at_one : one.reference ≡ reference = ap (λ (v : Virtual). v.reference) here ∙ same in
      let head = ap (λ (v : Virtual). v.object.monitor) (changed_here one at_one) in
      let monitor = ap (λ (v : Virtual). v.object.monitor) here in
      let rest = ap entered (none_changed virtuals (others_differ one virtuals at_one are.0)) in
      omega (arith, head, monitor, rest)
  entered_as (one ∷ virtuals) (suc number) target are is same =
      let rest = entered_as virtuals number target are.1 is same in
      let head = ap (λ (v : Virtual). v.object.monitor) (unchanged one (apart_from virtuals number are.0 is)) in
      omega (arith, rest, head) where
        apart_from : (others : Virtuals) (place : ℕ) → AllByRecursion (IsOther one) others → slice_get others place ≡ Some target
            → one.reference ≢ reference
        apart_from [] place all there = absurd (none-some target there)
        apart_from (other ∷ others) zero all there =
            λ here. all.0.reference (here ∙ sym same ∙ sym (ap (λ (v : Virtual). v.reference) (same_Some other target there)))
        apart_from (other ∷ others) (suc place) all there = apart_from others place all.1 there

pub many_changed : (reference : ℕ) (new : Object) (virtuals : Virtuals) → length (with_changed reference new virtuals) ≡ length virtuals
many_changed reference new [] = refl
many_changed reference new (one ∷ virtuals) = ap suc (many_changed reference new virtuals)

-- ---- memories

-- an object that keeps its shape
pub shapes_changed : (heap : Heap) (reference : ℕ) (object new : Object)
    → object_at heap reference ≡ Some object
    → new.shape ≡ object.shape
    → ShapesStay heap (with_object heap reference new)
shapes_changed heap reference object new there same = record {
  stays = λ other found is. by other found is (same_or_not reference other);
} where
  by : (other : ℕ) (found : Object)
      → object_at heap other ≡ Some found
      → (reference ≡ other) ⊎ (reference ≢ other)
      → (also : Object) × (object_at (with_object heap reference new) other ≡ Some also) × (also.shape ≡ found.shape)
  by other found is (inl here) = (
    new,
    ap (slice_get (slice_set heap.objects reference new)) (sym here) ∙ set_here heap.objects reference object new there,
    same ∙ ap (λ (o : Object). o.shape) (same_Some object found (sym there ∙ ap (object_at heap) here ∙ is)),
  )
  by other found is (inr apart_from) = (found, set_other heap.objects reference other new apart_from ∙ is, refl)

-- as many classes are begun
pub unbegun_alike : (classes : List ℕ) (before after : Memory) → after.begun ≡ before.begun → unbegun classes after ≡ unbegun classes before
unbegun_alike [] before after same = refl
unbegun_alike (class ∷ classes) before after same =
    ap (λ (n : ℕ). (if is_begun after class then 0 else 1) + n) (unbegun_alike classes before after same)
    ∙ ap (λ (b : Bool). (if b then 0 else 1) + unbegun classes before) begun where
      begun : is_begun after class ≡ is_begun before class
      begun = rw (same) refl
