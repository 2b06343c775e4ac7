-- Virtual objects that a frame's next state has not are dropped: nothing refers to them any more.
use Rattle.std.proofs.Common.{◌≡◌, ◌≢◌, ◌==◌, ◌||◌, not, ℕ, zero, suc, Bool, true, false, List, [], ◌∷◌, filter, length, slice_get, Some, IsTrue, refl, sym, ap, ◌∙◌, arith}
use Rattle.std.proofs.lemmas.Bool.{eq-eqb, eqb-true, false≢true}
use Rattle.std.proofs.lemmas.Option.{none-some, same_Some}
use Rattle.plan_flow.specs.Laws.OpenEdges.{still_in}
use Rattle.class_model.specs.declared.descriptor.FieldType.{FieldType}
use Rattle.flow_code.specs.declared.point.Point.{Point}
use Rattle.machine_values.specs.Frames.{MethodState}
use Rattle.machine_values.specs.declared.value.Value.{Value}
use Rattle.member_link.specs.Machine.Programs.{Program}
use Rattle.plan_flow.specs.PlanScope.{PlanScope}
use Rattle.flow_code.specs.FlatCode.{FlatCode}
use Rattle.same_runs.specs.Renamings.{Names}
use Rattle.virtual_state.specs.Laws.Objects.{found_site}
use Rattle.virtual_state.specs.States.{IsState, State, is_present, is_virtual, names, object_of}
use Rattle.virtual_state.specs.declared.slot.Slot.{Slot}
use Rattle.virtual_state.specs.declared.slot.Slot.TheVariants.{Plain, Virt, Unusable}
use Rattle.virtual_state.specs.declared.slot.VObject.{VObject}
use Rattle.written_runs.specs.Inner.PlannedFrames.{Keeps}
use Rattle.written_runs.specs.Laws.LessVirtual.{was_in}
use Rattle.written_runs.specs.Laws.StandingMore.{SameBelow}
use Rattle.written_runs.specs.Laws.Templates.Stacks.{get_dropped, get_taken}
use Rattle.written_runs.specs.VirtualObjects.{HasVirtual, RefersTo, TellFields, Tells, TellsField, TellsObject, Virtual, Virtuals, local_slots, stack_slots, tells_plain, tells_virtual}

-- those of other frames, and those that the state has
abbrev pub is_kept : ℕ → State → Virtual → Bool
is_kept frame state virtual = not (virtual.frame == frame) || is_present state.objects virtual.site

abbrev pub kept_in : ℕ → State → Virtuals → Virtuals
kept_in frame state virtuals = filter (is_kept frame state) virtuals

-- a slot of a list names its site
pub names_there : (slots : List Slot) (place site : ℕ) → slice_get slots place ≡ Some (Virt site) → IsTrue (names slots site)
names_there [] place site is = absurd (none-some (Virt site) is)
names_there (first ∷ slots) zero site is =
    rw (ap (is_virtual site) (same_Some first (Virt site) is) ∙ eq-eqb site site refl) refl
names_there (first ∷ slots) (suc place) site is = by (is_virtual site first) refl (names_there slots place site is) where
  by : (here : Bool) → is_virtual site first ≡ here → IsTrue (names slots site) → IsTrue (names (first ∷ slots) site)
  by true told rest = rw (told) refl
  by false told rest = rw (told) rest

module _ (frame : ℕ) (state : State) (virtuals : Virtuals) where
  -- one that is kept was there
  pub was_kept : {other site : ℕ} {virtual : Virtual} → HasVirtual (kept_in frame state virtuals) other site virtual
      → HasVirtual virtuals other site virtual
  was_kept {virtual = virtual} there =
      let was = was_in (is_kept frame state) virtuals there.number virtual there.is_there in
      record { number = was.number; is_there = was.is_there; of_frame = there.of_frame; of_site = there.of_site }

  -- those of other frames are kept, and those that the state has
  pub kept_other : {other site : ℕ} {virtual : Virtual} → other ≢ frame → HasVirtual virtuals other site virtual
      → HasVirtual (kept_in frame state virtuals) other site virtual
  kept_other {virtual = virtual} apart there =
      let found = still_in (is_kept frame state) virtuals there.number virtual there.is_there (by (virtual.frame == frame) refl) in
      record { number = found.0; is_there = found.1; of_frame = there.of_frame; of_site = there.of_site } where
        by : (same : Bool) → (virtual.frame == frame) ≡ same → is_kept frame state virtual ≡ true
        by true is = absurd (apart (sym there.of_frame ∙ eqb-true virtual.frame frame is))
        by false is = rw (is) refl

  pub kept_present : {other site : ℕ} {virtual : Virtual} → IsTrue (is_present state.objects site) → HasVirtual virtuals other site virtual
      → HasVirtual (kept_in frame state virtuals) other site virtual
  kept_present {virtual = virtual} present there =
      let found = still_in (is_kept frame state) virtuals there.number virtual there.is_there (by (virtual.frame == frame) refl) in
      record { number = found.0; is_there = found.1; of_frame = there.of_frame; of_site = there.of_site } where
        here : is_present state.objects virtual.site ≡ true
        here = ap (is_present state.objects) there.of_site ∙ present

        by : (same : Bool) → (virtual.frame == frame) ≡ same → is_kept frame state virtual ≡ true
        by true is = rw (is, here) refl
        by false is = rw (is) refl

  -- the state has each of the frame that is kept
  pub own_kept : (number : ℕ) (virtual : Virtual)
      → slice_get (kept_in frame state virtuals) number ≡ Some virtual
      → virtual.frame ≡ frame
      → IsTrue (is_present state.objects virtual.site)
  own_kept number virtual is of_frame =
      let was = was_in (is_kept frame state) virtuals number virtual is in
      sym (rw (ap (λ (n : ℕ). n == frame) of_frame ∙ eq-eqb frame frame refl) refl) ∙ was.passes

  pub same_below_kept : SameBelow virtuals (kept_in frame state virtuals) frame
  same_below_kept = λ other low. record {
    forth = λ site virtual there. kept_other (λ same. absurd (omega (arith, low, same))) there;
    back = λ site virtual there. was_kept there;
  }

  -- ---- what the state tells of them

  module _ (is_state : IsState state) where
    refers_kept : (site : ℕ) (value : Value) → IsTrue (is_present state.objects site) → RefersTo virtuals frame site value
        → RefersTo (kept_in frame state virtuals) frame site value
    refers_kept site value present refers =
        record { virtual = refers.virtual; has = kept_present present refers.has; is = refers.is }

    fields_kept : (types : List FieldType) (values : List Value) (slots : List Slot)
        → ((place site : ℕ) → slice_get slots place ≡ Some (Virt site) → IsTrue (is_present state.objects site))
        → TellFields virtuals frame types values slots
        → TellFields (kept_in frame state virtuals) frame types values slots
    fields_kept [] [] [] present told = tt
    fields_kept [] [] (slot ∷ slots) present told = absurd told
    fields_kept [] (value ∷ values) slots present told = absurd told
    fields_kept (type ∷ types) [] slots present told = absurd told
    fields_kept (type ∷ types) (value ∷ values) [] present told = absurd told
    fields_kept (type ∷ types) (value ∷ values) (slot ∷ slots) present told = (
      by slot (λ site is. present 0 site (ap Some is)) told.0,
      fields_kept types values slots (λ place site is. present (suc place) site is) told.1,
    ) where
      by : (slot : Slot)
          → ((site : ℕ) → slot ≡ Virt site → IsTrue (is_present state.objects site))
          → TellsField virtuals frame type value slot
          → TellsField (kept_in frame state virtuals) frame type value slot
      by (Virt site) here (tells_virtual refers) = tells_virtual (refers_kept site value (here site refl) refers)
      by Plain here (tells_plain fits kept) = tells_plain fits kept
      by Unusable here told = elim told [ ]

    pub tells_kept : {P : Program} {s : PlanScope} {point : Point} {f : MethodState} → Tells P s virtuals frame point state f
        → Tells P s (kept_in frame state virtuals) frame point state f
    tells_kept {P = P} {s = s} {point = point} tells = record {
      locals = λ unit site is.
          let found = tells.locals unit site is in
          (found.0, found.1, refers_kept site found.0 (local_present unit site is) found.2);
      stack = λ place site value is here. refers_kept site value (stack_present place site is) (tells.stack place site value is here);
      uninit_locals = tells.uninit_locals;
      uninit_stack = tells.uninit_stack;
      objects = λ site told is. object_kept site told is (tells.objects site told is);
    } where
      local_present : (unit site : ℕ) → slice_get (local_slots point state) unit ≡ Some (Virt site) → IsTrue (is_present state.objects site)
      local_present unit site is =
          is_state.places site (names_there state.slots unit site (get_taken (length point.typed.locals) state.slots unit (Virt site) is))

      stack_present : (place site : ℕ) → slice_get (stack_slots point state) place ≡ Some (Virt site) → IsTrue (is_present state.objects site)
      stack_present place site is =
          is_state.places site
          (names_there state.slots _ site (sym (get_dropped (length point.typed.locals) state.slots place) ∙ is))

      object_kept : (site : ℕ) (told : VObject)
          → object_of state.objects site ≡ Some told
          → TellsObject P s virtuals frame told
          → TellsObject P s (kept_in frame state virtuals) frame told
      object_kept site told is tells_it = record {
        site = tells_it.site;
        is_site = tells_it.is_site;
        virtual = tells_it.virtual;
        has = kept_present (rw (ap (object_of state.objects) (found_site state.objects site told is) ∙ is) refl) tells_it.has;
        class = tells_it.class;
        of_folder = tells_it.of_folder;
        shape = tells_it.shape;
        monitor = tells_it.monitor;
        fields =
            fields_kept tells_it.site.fields tells_it.virtual.object.values told.fields
            (λ place to here. is_state.fields site to (record { object = told; there = is; named = names_there told.fields place to here }))
            tells_it.fields;
      }

    pub keeps_kept : {flat : FlatCode} {known : Names} {point : Point} {f g : MethodState} → Keeps flat known virtuals frame [] point state f g
        → Keeps flat known (kept_in frame state virtuals) frame [] point state f g
    keeps_kept keeps = record {
      locals = keeps.locals;
      stack = keeps.stack;
      fields = λ site number told virtual value is there plain here. keeps.fields site number told virtual value is (was_kept there) plain here;
      made = λ site done. absurd (false≢true done);
      room = keeps.room;
    }
