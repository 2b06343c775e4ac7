-- What the second frame's local units hold behind the stores of make code.
use Rattle.std.proofs.Common.{◌≡◌, ◌⊎◌, inl, inr, ◌==◌, ◌+◌, ◌≤◌, ◌<◌, ℕ, suc, Bool, true, false, List, ◌∷◌, length, slice_get, Some, IsTrue, IsFalse, refl, sym, ap, subst, ◌∙◌, arith}
use Rattle.std.proofs.lemmas.Bool.{eqb-true, false≢true}
use Rattle.std.proofs.lemmas.Option.{same_Some}
use Rattle.class_model.specs.Descriptors.{kind_of}
use Rattle.class_model.specs.declared.descriptor.FieldType.{FieldType}
use Rattle.flow_code.specs.WrittenUnits.{written_units}
use Rattle.machine_values.specs.Values.{is_wide_value}
use Rattle.machine_values.specs.declared.value.Value.{Value}
use Rattle.machine_values.specs.declared.value.Value.TheVariants.{Ref}
use Rattle.making_code.specs.Units.{field_unit, object_unit, own, scratch, unit_number}
use Rattle.member_link.specs.Machine.Locals.{width_of}
use Rattle.plan_flow.specs.Written.WrittenPrograms.{WrittenMethod}
use Rattle.same_runs.specs.Laws.Moves.{same_wide}
use Rattle.same_runs.specs.Laws.Stored.{IsStored, Units, equal_or}
use Rattle.same_runs.specs.Renamings.{Names, NamesMore, SameValue}
use Rattle.virtual_state.specs.Sites.{has}
use Rattle.virtual_state.specs.States.{object_of}
use Rattle.virtual_state.specs.declared.slot.Slot.{Slot}
use Rattle.virtual_state.specs.declared.slot.Slot.TheVariants.{Plain, Virt, Unusable}
use Rattle.virtual_state.specs.declared.slot.VObject.{VObject}
use Rattle.written_runs.specs.Inner.Setup.{Setup}
use Rattle.written_runs.specs.Laws.Making.Held.{HoldsMade, Midway, Scene, held_still, made_still, midway_more}
use Rattle.written_runs.specs.Laws.Making.Places.{FitsUnit, IsFieldAt, fits_field, fits_object, fits_own, fits_scratch, narrow_kind}
use Rattle.written_runs.specs.VirtualObjects.{local_slots}

-- ---- sets of sites

-- a site of a longer list is the first, or one of the others
pub has_one : (one : ℕ) (sites : List ℕ) (site : ℕ) → IsTrue (has (one ∷ sites) site) → (one ≡ site) ⊎ IsTrue (has sites site)
has_one one sites site is = by (one == site) refl where
  by : (b : Bool) → (one == site) ≡ b → (one ≡ site) ⊎ IsTrue (has sites site)
  by true e = inl (eqb-true one site e)
  by false e = inr (sym (rw (e) refl) ∙ is)

-- one slot of a place is of one kind
pub not_plain : (slots : List Slot) (place : ℕ) {site : ℕ} → slice_get slots place ≡ Some Plain → slice_get slots place ≡ Some (Virt site) → ⊥
not_plain slots place plain virtual = differ (same_Some _ _ (sym plain ∙ virtual)) where
  differ : {site : ℕ} → Plain ≡ Virt site → ⊥
  differ same = cc same

pub not_unusable : (slots : List Slot) (place : ℕ) {site : ℕ} → slice_get slots place ≡ Some Unusable → slice_get slots place ≡ Some (Virt site) → ⊥
not_unusable slots place unusable virtual = differ (same_Some _ _ (sym unusable ∙ virtual)) where
  differ : {site : ℕ} → Unusable ≡ Virt site → ⊥
  differ same = cc same

module _ {u : Setup} {w : WrittenMethod} (s : Scene u w) where
  -- ---- a scratch unit

  pub midway_scratch : {names : Names} {done : List ℕ} {copied : ℕ → Type 0} {copied_field : ℕ → ℕ → Type 0} {units after : Units}
      (below : ℕ) (value : Value)
      → Midway s names done copied copied_field units
      → IsStored (unit_number w.flat (scratch below)) value units after
      → Midway s names done copied copied_field after
  midway_scratch below value m is = record {
    plain = λ unit v plain here. held_still {other = scratch below} (m.plain unit v plain here) is fits_scratch (λ also same. tt);
    fields = λ site number told virtual v found there plain here.
        held_still {other = scratch below} (m.fields site number told virtual v found there plain here) is fits_scratch (λ also same. tt);
    objects = λ site among. made_still {other = scratch below} (m.objects site among) is fits_scratch (λ also one. tt);
    copies = λ unit site c slot among. made_still {other = scratch below} (m.copies unit site c slot among) is fits_scratch (λ also one. tt);
    field_copies = λ of number site told c stays found slot among.
        made_still {other = scratch below} (m.field_copies of number site told c stays found slot among) is fits_scratch (λ also one. tt);
    room = subst (λ (n : ℕ). written_units w.flat ≤ n) (sym is.count) m.room;
  }

  -- ---- the unit of an object

  pub midway_object : {names : Names} {done : List ℕ} {copied : ℕ → Type 0} {copied_field : ℕ → ℕ → Type 0} {units after : Units}
      (site named : ℕ)
      → Midway s names done copied copied_field units
      → site < length w.flat.sites
      → has done site ≡ false
      → IsStored (unit_number w.flat (object_unit site)) (Ref named) units after
      → Midway s names done copied copied_field after
  midway_object {done = done} site named m low unmade is = record {
    plain = λ unit v plain here. held_still {other = object_unit site} (m.plain unit v plain here) is fits (λ also same. tt);
    fields = λ of number told virtual v found there plain here.
        held_still {other = object_unit site} (m.fields of number told virtual v found there plain here) is fits (λ also same. tt);
    objects = λ other among.
        made_still {other = object_unit site} (m.objects other among) is fits
        (λ also one same. false≢true (sym unmade ∙ ap (has done) (sym same) ∙ among));
    copies = λ unit other c slot among. made_still {other = object_unit site} (m.copies unit other c slot among) is fits (λ also one. tt);
    field_copies = λ of number other told c stays found slot among.
        made_still {other = object_unit site} (m.field_copies of number other told c stays found slot among) is fits (λ also one. tt);
    room = subst (λ (n : ℕ). written_units w.flat ≤ n) (sym is.count) m.room;
  } where
    fits : FitsUnit w.flat (Ref named) (object_unit site)
    fits = fits_object low refl

  -- one object more is made
  pub midway_made : {names more : Names} {done : List ℕ} {copied : ℕ → Type 0} {copied_field : ℕ → ℕ → Type 0} {units : Units} (site : ℕ)
      → NamesMore names more
      → Midway s names done copied copied_field units
      → HoldsMade w.flat s.virtuals s.frame more units (object_unit site) site
      → Midway s more (site ∷ done) copied copied_field units
  midway_made {more = more} {done = done} {copied = copied} {copied_field = copied_field} {units = units} site grows before one = record {
    plain = m.plain;
    fields = m.fields;
    objects = λ other among. elim (has_one site done other among) [
      | inl same ↦
          subst (λ (n : ℕ). HoldsMade w.flat s.virtuals s.frame more units (object_unit n) n) same one
      | inr old ↦ m.objects other old
    ];
    copies = m.copies;
    field_copies = m.field_copies;
    room = m.room;
  } where
    m : Midway s more done copied copied_field units
    m = midway_more grows before

  -- ---- a local unit

  pub midway_own : {names : Names} {done : List ℕ} {copied more_copied : ℕ → Type 0} {copied_field : ℕ → ℕ → Type 0} {units after : Units}
      (unit site named : ℕ)
      → Midway s names done copied copied_field units
      → slice_get (local_slots s.point s.state) unit ≡ Some (Virt site)
      → unit < w.flat.locals
      → IsStored (unit_number w.flat (own unit)) (Ref named) units after
      → HoldsMade w.flat s.virtuals s.frame names after (own unit) site
      → ((other : ℕ) → more_copied other → copied other ⊎ (unit ≡ other))
      → Midway s names done more_copied copied_field after
  midway_own {names = names} {copied = copied} {more_copied = more_copied} {after = after} unit site named m here low is one grow = record {
    plain = λ other v plain at. held_still {other = own unit} (m.plain other v plain at) is fits (λ also same. apart other v also plain at same);
    fields = λ of number told virtual v found there plain at.
        held_still {other = own unit} (m.fields of number told virtual v found there plain at) is fits (λ also same. tt);
    objects = λ other among. made_still {other = own unit} (m.objects other among) is fits (λ also narrow. tt);
    copies = λ other of c slot among. by_unit other of c slot among (equal_or unit other);
    field_copies = λ of number other told c stays found slot among.
        made_still {other = own unit} (m.field_copies of number other told c stays found slot among) is fits (λ also narrow. tt);
    room = subst (λ (n : ℕ). written_units w.flat ≤ n) (sym is.count) m.room;
  } where
    fits : FitsUnit w.flat (Ref named) (own unit)
    fits = fits_own (omega (arith, low))

    apart : (other : ℕ) (v also : Value) → slice_get (local_slots s.point s.state) other ≡ Some Plain
        → slice_get s.f.locals other ≡ Some (Some v) → SameValue names v also
        → (other + width_of also ≤ unit) ⊎ (unit + 1 ≤ other)
    apart other v also plain at same =
        by (is_wide_value v) refl
        (order other unit (λ e. not_plain (local_slots s.point s.state) other plain (ap (slice_get (local_slots s.point s.state)) e ∙ here))) where
          order : (n m : ℕ) → (n ≡ m → ⊥) → (n < m) ⊎ (m < n)
          order n m differ = grind (arith, differ)

          by : (b : Bool) → is_wide_value v ≡ b → (other < unit) ⊎ (unit < other) → (other + width_of also ≤ unit) ⊎ (unit + 1 ≤ other)
          by b e (inr more) = inr (omega (arith, more))
          by false e (inl less) =
              let one : width_of also ≡ 1 = rw (same_wide same ∙ e) refl in
              inl (omega (arith, less, one))
          by true e (inl less) =
              let two : width_of also ≡ 2 = rw (same_wide same ∙ e) refl in
              let next : suc other ≡ unit → ⊥ = λ equal.
              not_unusable (local_slots s.point s.state) (suc other) (s.kept.wide other v plain at e)
              (ap (slice_get (local_slots s.point s.state)) equal ∙ here) in
              inl (omega (arith, less, two, next))

    by_unit : (other of : ℕ) → more_copied other → slice_get (local_slots s.point s.state) other ≡ Some (Virt of) → IsTrue (has s.made of)
        → (unit ≡ other) ⊎ (unit ≡ other → ⊥)
        → HoldsMade w.flat s.virtuals s.frame names after (own other) of
    by_unit other of c slot among (inl same) =
        let site_is : site ≡ of = same_site (same_Some (Virt site) (Virt of) (sym here ∙ ap (slice_get (local_slots s.point s.state)) same ∙ slot)) in
        subst (λ (n : ℕ). HoldsMade w.flat s.virtuals s.frame names after (own n) of) same
        (subst (HoldsMade w.flat s.virtuals s.frame names after (own unit)) site_is one) where
          same_site : {a b : ℕ} → Virt a ≡ Virt b → a ≡ b
          same_site is = cc is
    by_unit other of c slot among (inr differ) = elim (grow other c) [
      | inl old ↦
          made_still {other = own unit} (m.copies other of old slot among) is fits (λ also narrow. order also narrow)
      | inr same ↦ absurd (differ same)
    ] where
      order : (also : Value) → width_of also ≡ 1 → (other + width_of also ≤ unit) ⊎ (unit + 1 ≤ other)
      order also narrow = elim (either other unit (λ e. differ (sym e))) [
        | inl less ↦ inl (omega (arith, less, narrow))
        | inr more ↦ inr (omega (arith, more))
      ] where
        either : (n k : ℕ) → (n ≡ k → ⊥) → (n < k) ⊎ (k < n)
        either n k apart_them = grind (arith, apart_them)

  -- ---- the unit of a field

  pub midway_field : {names : Names} {done : List ℕ} {copied : ℕ → Type 0} {copied_field more_fields : ℕ → ℕ → Type 0} {units after : Units}
      (from place site named : ℕ) (object : VObject) (type : FieldType)
      → Midway s names done copied copied_field units
      → object_of s.state.objects from ≡ Some object
      → slice_get object.fields place ≡ Some (Virt site)
      → IsFieldAt w.flat from place type
      → IsStored (unit_number w.flat (field_unit from place)) (Ref named) units after
      → HoldsMade w.flat s.virtuals s.frame names after (field_unit from place) site
      → ((of number : ℕ) → more_fields of number → copied_field of number ⊎ ((from ≡ of) × (place ≡ number)))
      → Midway s names done copied more_fields after
  midway_field {names = names} {copied_field = copied_field} {more_fields = more_fields} {after = after} from place site named object type m
      here slot_here field is one grow = record {
        plain = λ unit v plain at. held_still {other = field_unit from place} (m.plain unit v plain at) is fits (λ also same. tt);
        fields = λ of number told virtual v found there plain at.
            held_still {other = field_unit from place} (m.fields of number told virtual v found there plain at) is fits
            (λ also same e e_also. not_plain object.fields place (plain_here of number told found plain e e_also) slot_here);
        objects = λ other among. made_still {other = field_unit from place} (m.objects other among) is fits (λ also narrow. tt);
        copies = λ unit other c slot among. made_still {other = field_unit from place} (m.copies unit other c slot among) is fits (λ also narrow. tt);
        field_copies = λ of number other told c stays found slot among.
            by_field of number other told c stays found slot among (equal_or from of) (equal_or place number);
        room = subst (λ (n : ℕ). written_units w.flat ≤ n) (sym is.count) m.room;
      } where
        fits : FitsUnit w.flat (Ref named) (field_unit from place)
        fits = fits_field type field (narrow_kind (kind_of type))

        same_object : (of : ℕ) (told : VObject) → object_of s.state.objects of ≡ Some told → of ≡ from → told ≡ object
        same_object of told found e = same_Some told object (sym found ∙ ap (object_of s.state.objects) e ∙ here)

        plain_here : (of number : ℕ) (told : VObject) → object_of s.state.objects of ≡ Some told → slice_get told.fields number ≡ Some Plain
            → of ≡ from → number ≡ place → slice_get object.fields place ≡ Some Plain
        plain_here of number told found plain e e_also =
            ap (λ (o : VObject). slice_get o.fields place) (sym (same_object of told found e))
            ∙ ap (slice_get told.fields) (sym e_also) ∙ plain

        old : (of number other : ℕ) (told : VObject) → more_fields of number → IsFalse (has s.made of)
            → object_of s.state.objects of ≡ Some told → slice_get told.fields number ≡ Some (Virt other) → IsTrue (has s.made other)
            → ((from ≡ of) × (place ≡ number) → ⊥)
            → (of ≡ from → number ≡ place → ⊥)
            → HoldsMade w.flat s.virtuals s.frame names after (field_unit of number) other
        old of number other told c stays found slot among not_here differ = elim (grow of number c) [
          | inl before ↦
              made_still {other = field_unit from place} (m.field_copies of number other told before stays found slot among) is fits
              (λ also narrow. differ)
          | inr same ↦ absurd (not_here same)
        ]

        by_field : (of number other : ℕ) (told : VObject) → more_fields of number → IsFalse (has s.made of)
            → object_of s.state.objects of ≡ Some told → slice_get told.fields number ≡ Some (Virt other) → IsTrue (has s.made other)
            → (from ≡ of) ⊎ (from ≡ of → ⊥)
            → (place ≡ number) ⊎ (place ≡ number → ⊥)
            → HoldsMade w.flat s.virtuals s.frame names after (field_unit of number) other
        by_field of number other told c stays found slot among (inl same) (inl same_place) =
            subst (λ (n : ℕ). HoldsMade w.flat s.virtuals s.frame names after (field_unit n number) other) same
            (subst (λ (n : ℕ). HoldsMade w.flat s.virtuals s.frame names after (field_unit from n) other) same_place
            (subst (HoldsMade w.flat s.virtuals s.frame names after (field_unit from place)) site_is one)) where
              same_site : {a b : ℕ} → Virt a ≡ Virt b → a ≡ b
              same_site is = cc is

              site_is : site ≡ other
              site_is =
                  same_site (same_Some (Virt site) (Virt other) (sym slot_here
                  ∙ ap (λ (o : VObject). slice_get o.fields place) (sym (same_object of told found (sym same)))
                  ∙ ap (slice_get told.fields) same_place ∙ slot))
        by_field of number other told c stays found slot among (inl same) (inr apart) = old of number other told c stays found slot among
            (λ e. apart e.1) (λ e e_also. apart (sym e_also))
        by_field of number other told c stays found slot among (inr apart) place_or = old of number other told c stays found slot among
            (λ e. apart e.0) (λ e e_also. apart (sym e))
