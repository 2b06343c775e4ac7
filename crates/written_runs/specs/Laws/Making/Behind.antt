-- Behind make code: what the state without the set tells of the first frame, and what the second frame keeps by it.
use Rattle.std.proofs.Common.{◌≡◌, ◌≤◌, ℕ, zero, suc, Bool, true, false, List, [], ◌∷◌, length, map, reverse, slice_get, Some, IsTrue, refl, sym, ap, subst, ◌∙◌}
use Rattle.std.proofs.lemmas.Bool.{false≢true}
use Rattle.std.proofs.lemmas.List.{drop-map, take-map}
use Rattle.std.proofs.lemmas.Option.{none-some, same_Some}
use Rattle.class_model.specs.Descriptors.{kind_of}
use Rattle.class_model.specs.declared.descriptor.FieldType.{FieldType}
use Rattle.flow_code.specs.WrittenUnits.{written_units}
use Rattle.machine_values.specs.Frames.{MethodState}
use Rattle.machine_values.specs.Values.{has_kind, have_kinds, narrowed}
use Rattle.machine_values.specs.declared.value.Value.{Value}
use Rattle.making_code.specs.Units.{WUnit, field_unit, own, unit_number}
use Rattle.plan_flow.specs.Written.WrittenPrograms.{WrittenMethod}
use Rattle.same_runs.specs.Laws.Stored.{Units}
use Rattle.same_runs.specs.Renamings.{Names}
use Rattle.virtual_state.specs.Laws.Objects.{found_site}
use Rattle.virtual_state.specs.Laws.Removals.{WasFound, was_found}
use Rattle.virtual_state.specs.Sites.{has}
use Rattle.virtual_state.specs.States.{State}
use Rattle.virtual_state.specs.Without.{made_plain, without}
use Rattle.virtual_state.specs.declared.slot.Slot.{Slot}
use Rattle.virtual_state.specs.declared.slot.Slot.TheVariants.{Plain, Virt, Unusable}
use Rattle.virtual_state.specs.declared.slot.VObject.{VObject}
use Rattle.written_runs.specs.Inner.MadeObjects.{left_of}
use Rattle.written_runs.specs.Inner.PlannedFrames.{KeepStack, Keeps, KeptIn, scope_in}
use Rattle.written_runs.specs.Inner.Setup.{Setup, first}
use Rattle.written_runs.specs.Laws.LessVirtual.{left_of_site, one_owner, was_virtual}
use Rattle.written_runs.specs.Laws.Making.Copies.{Absent, TellsAt, tells_at}
use Rattle.written_runs.specs.Laws.Making.Fields.{first_kind, reference_narrowed}
use Rattle.written_runs.specs.Laws.Making.Held.{HeldIn, Midway, Scene, value_made}
use Rattle.written_runs.specs.VirtualObjects.{HasVirtual, RefersTo, TellFields, Tells, TellsField, TellsObject, Virtual, Virtuals, local_slots, stack_slots, tells_plain, tells_virtual}

-- ---- slots

-- what a slot was before objects were made
data WasSlot (away : ℕ → Bool) : Slot → Slot → Type 0 where
  was_plain : WasSlot away Plain Plain
  was_unusable : WasSlot away Unusable Unusable
  was_made : (site : ℕ) → away site ≡ true → WasSlot away (Virt site) Plain
  was_kept : (site : ℕ) → away site ≡ false → WasSlot away (Virt site) (Virt site)

was_slot : (away : ℕ → Bool) (slot : Slot) → WasSlot away slot (made_plain away slot)
was_slot away Plain = was_plain
was_slot away Unusable = was_unusable
was_slot away (Virt site) = by (away site) refl where
  by : (b : Bool) → away site ≡ b → WasSlot away (Virt site) (made_plain away (Virt site))
  by true e = rw (e) (was_made site e)
  by false e = rw (e) (was_kept site e)

-- the slot at a place
record SlotAt (away : ℕ → Bool) (slots : List Slot) (place : ℕ) (slot : Slot) : Type 0 where
  pub before : Slot
  pub is : slice_get slots place ≡ Some before
  pub was : WasSlot away before slot

slot_at : (away : ℕ → Bool) (slots : List Slot) (place : ℕ) (slot : Slot) → slice_get (map (made_plain away) slots) place ≡ Some slot
    → SlotAt away slots place slot
slot_at away [] place slot is = absurd (none-some slot is)
slot_at away (one ∷ slots) zero slot is =
    record { before = one; is = refl; was = subst (WasSlot away one) (same_Some (made_plain away one) slot is) (was_slot away one) }
slot_at away (one ∷ slots) (suc place) slot is =
    let rest = slot_at away slots place slot is in record { before = rest.before; is = rest.is; was = rest.was }

module _ {u : Setup} {w : WrittenMethod} (s : Scene u w) where
  abbrev away : ℕ → Bool
  away = has s.made

  abbrev later : State
  later = without s.state away

  abbrev left : Virtuals
  left = left_of s.frame s.made s.virtuals

  locals_are : local_slots s.point later ≡ map (made_plain away) (local_slots s.point s.state)
  locals_are = take-map (made_plain away) (length s.point.typed.locals) s.state.slots

  pub stack_are : stack_slots s.point later ≡ map (made_plain away) (stack_slots s.point s.state)
  stack_are = drop-map (made_plain away) (length s.point.typed.locals) s.state.slots

  local_at : (unit : ℕ) (slot : Slot) → slice_get (local_slots s.point later) unit ≡ Some slot
      → SlotAt away (local_slots s.point s.state) unit slot
  local_at unit slot is =
      slot_at away (local_slots s.point s.state) unit slot (ap (λ (slots : List Slot). slice_get slots unit) (sym locals_are) ∙ is)

  entry_at : (place : ℕ) (slot : Slot) → slice_get (stack_slots s.point later) place ≡ Some slot
      → SlotAt away (stack_slots s.point s.state) place slot
  entry_at place slot is =
      slot_at away (stack_slots s.point s.state) place slot (ap (λ (slots : List Slot). slice_get slots place) (sym stack_are) ∙ is)

  -- ---- what the state tells

  refers_still : {site : ℕ} {value : Value} → away site ≡ false → RefersTo s.virtuals s.frame site value → RefersTo left s.frame site value
  refers_still {site = site} stays refers = record {
    virtual = refers.virtual;
    has = left_of_site s.frame site s.made s.virtuals refers.virtual stays refers.has;
    is = refers.is;
  }

  -- a virtual slot that is left was one
  still_virtual : {site : ℕ} {value : Value} {slot : Slot} → WasSlot away slot (Virt site)
      → ((one : ℕ) → slot ≡ Virt one → RefersTo s.virtuals s.frame one value)
      → RefersTo left s.frame site value
  still_virtual (was_kept site stays) refers = refers_still stays (refers site refl)

  field_without : {type : FieldType} {value : Value} (slot : Slot) → IsTrue (has_kind (kind_of type) value)
      → TellsField s.virtuals s.frame type value slot
      → TellsField left s.frame type value (made_plain away slot)
  field_without Plain kind (tells_plain fits narrow) = tells_plain fits narrow
  field_without {type = type} {value = value} (Virt site) kind (tells_virtual refers) = by (away site) refl where
    by : (b : Bool) → away site ≡ b → TellsField left s.frame type value (made_plain away (Virt site))
    by true e =
        rw (e) (tells_plain kind (subst (λ (v : Value). narrowed type v ≡ v) (sym refers.is) (reference_narrowed type refers.virtual.reference)))
    by false e = rw (e) (tells_virtual (refers_still e refers))
  field_without Unusable kind told = elim told [ ]

  fields_without : (types : List FieldType) (values : List Value) (slots : List Slot) → IsTrue (have_kinds types values)
      → TellFields s.virtuals s.frame types values slots
      → TellFields left s.frame types values (map (made_plain away) slots)
  fields_without [] [] [] kinds told = tt
  fields_without [] [] (slot ∷ slots) kinds told = absurd told
  fields_without [] (value ∷ values) [] kinds told = absurd told
  fields_without [] (value ∷ values) (slot ∷ slots) kinds told = absurd told
  fields_without (type ∷ types) [] [] kinds told = absurd told
  fields_without (type ∷ types) [] (slot ∷ slots) kinds told = absurd told
  fields_without (type ∷ types) (value ∷ values) [] kinds told = absurd told
  fields_without (type ∷ types) (value ∷ values) (slot ∷ slots) kinds told =
      let kind = first_kind type types value values kinds in
      (field_without slot kind.first told.0, fields_without types values slots kind.rest told.1)

  pub tells_without : Tells (first u) (scope_in u w) left s.frame s.point later s.f
  tells_without = record {
    locals = λ unit site is. local_told unit site (local_at unit (Virt site) is);
    stack = λ place site value is here.
        let at = entry_at place (Virt site) is in
        still_virtual at.was (λ one same. s.tells.stack place one value (at.is ∙ ap Some same) here);
    uninit_locals = s.tells.uninit_locals;
    uninit_stack = s.tells.uninit_stack;
    objects = λ site told found. object_told site told (was_found away s.state.objects site told found);
  } where
    local_told : (unit site : ℕ) → SlotAt away (local_slots s.point s.state) unit (Virt site)
        → (value : Value) × (slice_get s.f.locals unit ≡ Some (Some value)) × RefersTo left s.frame site value
    local_told unit site at = by at.was at.is where
      by : {slot : Slot} → WasSlot away slot (Virt site) → slice_get (local_slots s.point s.state) unit ≡ Some slot
          → (value : Value) × (slice_get s.f.locals unit ≡ Some (Some value)) × RefersTo left s.frame site value
      by (was_kept one stays) is = let found = s.tells.locals unit one is in (found.0, found.1, refers_still stays found.2)

    object_told : (site : ℕ) (told : VObject) → WasFound away s.state.objects site told → TellsObject (first u) (scope_in u w) left s.frame told
    object_told site told was =
        subst (TellsObject (first u) (scope_in u w) left s.frame) (sym was.is) (record {
          site = t.site;
          is_site = t.is_site;
          virtual = t.virtual;
          has = left_of_site s.frame was.before.site s.made s.virtuals t.virtual
              (ap away (found_site s.state.objects site was.before was.there) ∙ was.not_away) t.has;
          class = t.class;
          of_folder = t.of_folder;
          shape = t.shape;
          monitor = t.monitor;
          fields = fields_without t.site.fields t.virtual.object.values was.before.fields
              (s.kept.kinds was.before.site t.site t.virtual t.is_site t.has) t.fields;
        }) where
          t : TellsObject (first u) (scope_in u w) s.virtuals s.frame was.before
          t = s.tells.objects site was.before was.there

  -- ---- what the second frame keeps

  kept_in : {names : Names} {units : Units} {unit : WUnit} {value : Value} (g : MethodState) → g.locals ≡ units
      → HeldIn w.flat names units unit value
      → KeptIn names g (unit_number w.flat unit) value
  kept_in {unit = unit} g same held = record {
    also = held.also;
    is = ap (λ (units : Units). slice_get units (unit_number w.flat unit)) same ∙ held.is;
    same = held.same;
  }

  pub keeps_without : {names : Names} {all : List ℕ} {copied : ℕ → Type 0} {units : Units} (g : MethodState) → g.locals ≡ units
      → Midway s names all copied (Absent []) units
      → ((unit site : ℕ) → slice_get (local_slots s.point s.state) unit ≡ Some (Virt site) → copied unit)
      → KeepStack names (stack_slots s.point later) (reverse s.f.stack) (reverse g.stack)
      → Keeps w.flat names left s.frame [] s.point later s.f g
  keeps_without {names = names} {units = units} g same midway seen stack = record {
    locals = λ unit value is here. let at = local_at unit Plain is in local_kept unit value at.was at.is here;
    stack = stack;
    fields = λ site number told virtual value found has_it slot here.
        field_kept site number told virtual value (was_found away s.state.objects site told found)
        (was_virtual s.frame s.frame site s.made s.virtuals virtual has_it) slot here;
    made = λ site none. absurd (false≢true none);
    room = subst (λ (us : Units). written_units w.flat ≤ length us) (sym same) midway.room;
  } where
    local_kept : (unit : ℕ) (value : Value) {slot : Slot} → WasSlot away slot Plain → slice_get (local_slots s.point s.state) unit ≡ Some slot
        → slice_get s.f.locals unit ≡ Some (Some value)
        → KeptIn names g unit value
    local_kept unit value was_plain is here = kept_in {unit = own unit} g same (midway.plain unit value is here)
    local_kept unit value (was_made site is_away) is here =
        let found = s.tells.locals unit site is in
        let same_value : found.0 ≡ value = ap_some (same_Some (Some found.0) (Some value) (sym found.1 ∙ here)) in
        kept_in {unit = own unit} g same
        (subst (HeldIn w.flat names units (own unit)) same_value
        (value_made s.are_apart found.2 (midway.copies unit site (seen unit site is) is is_away))) where
          ap_some : {a b : Value} → Some a ≡ Some b → a ≡ b
          ap_some is = same_Some _ _ is

    field_kept : (site number : ℕ) (told : VObject) (virtual : Virtual) (value : Value) → WasFound away s.state.objects site told
        → HasVirtual s.virtuals s.frame site virtual
        → slice_get told.fields number ≡ Some Plain
        → slice_get virtual.object.values number ≡ Some value
        → KeptIn names g (unit_number w.flat (field_unit site number)) value
    field_kept site number told virtual value was has_it slot here = by at.was at.is where
      at : SlotAt away was.before.fields number Plain
      at = slot_at away was.before.fields number Plain (ap (λ (o : VObject). slice_get o.fields number) (sym was.is) ∙ slot)

      t : TellsObject (first u) (scope_in u w) s.virtuals s.frame was.before
      t = s.tells.objects site was.before was.there

      same_virtual : t.virtual ≡ virtual
      same_virtual =
          one_owner s.virtuals s.frame site t.virtual virtual s.are_apart
          (subst (λ (n : ℕ). HasVirtual s.virtuals s.frame n t.virtual) (found_site s.state.objects site was.before was.there) t.has) has_it

      by : {before : Slot} → WasSlot away before Plain → slice_get was.before.fields number ≡ Some before
          → KeptIn names g (unit_number w.flat (field_unit site number)) value
      by was_plain is = kept_in {unit = field_unit site number} g same (midway.fields site number was.before virtual value was.there has_it is here)
      by (was_made other is_away) is = kept_in {unit = field_unit site number} g same (refers told_at.told) where
        told_at : TellsAt s.virtuals s.frame t.site.fields t.virtual.object.values number (Virt other)
        told_at = tells_at t.site.fields t.virtual.object.values was.before.fields number (Virt other) t.fields is

        same_value : told_at.value ≡ value
        same_value =
            same_Some told_at.value value
            (sym told_at.is_value ∙ ap (λ (v : Virtual). slice_get v.object.values number) same_virtual ∙ here)

        refers : TellsField s.virtuals s.frame told_at.type told_at.value (Virt other)
            → HeldIn w.flat names units (field_unit site number) value
        refers (tells_virtual refers_to) =
            subst (HeldIn w.flat names units (field_unit site number)) same_value
            (value_made s.are_apart refers_to
            (midway.field_copies site number other was.before refl was.not_away was.there is is_away))
