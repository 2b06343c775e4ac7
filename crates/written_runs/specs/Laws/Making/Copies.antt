-- The objects that were made are copied to the local units that name them, and to the fields of objects that stay virtual.
use Rattle.std.proofs.Common.{◌≡◌, ◌⊎◌, inl, inr, ◌+◌, ◌≤◌, ◌<◌, ℕ, zero, suc, Bool, true, false, List, [], ◌∷◌, length, take, slice_get, Some, is_some, IsTrue, IsFalse, refl, sym, ap, subst, ◌∙◌, arith}
use Rattle.std.specs.List.{AllByRecursion, flat_map}
use Rattle.std.proofs.lemmas.Bool.{false≢true}
use Rattle.std.proofs.lemmas.Option.{none-some, same_Some, slice_get_within}
use Rattle.class_model.specs.Descriptors.{kind_of, units_of}
use Rattle.class_model.specs.declared.descriptor.FieldType.{FieldType}
use Rattle.class_model.specs.declared.descriptor.Kind.TheVariants as kinds
use Rattle.machine_values.specs.declared.value.Value.{Value}
use Rattle.machine_values.specs.declared.value.Value.TheVariants.{Ref}
use Rattle.making_code.specs.Items.{WInstr, load, store}
use Rattle.making_code.specs.MakeCode.{Entry, copy_field, copy_fields_from, copy_local, copy_locals_from, copy_object}
use Rattle.making_code.specs.Units.{WUnit, field_unit, object_unit, own, unit_number}
use Rattle.member_link.specs.Machine.Locals.{stored}
use Rattle.member_link.specs.Machine.Worlds.{Memory}
use Rattle.plan_flow.specs.Written.WrittenPrograms.{WrittenMethod}
use Rattle.same_runs.specs.Laws.Stored.{IsStored, Units, equal_or, stored_is, stores}
use Rattle.same_runs.specs.Renamings.{Names, SameValue}
use Rattle.virtual_state.specs.Laws.Objects.{object_behind, object_first}
use Rattle.virtual_state.specs.Sites.{has}
use Rattle.virtual_state.specs.States.{IsIncreasing, is_present, object_of, sites_of}
use Rattle.virtual_state.specs.declared.slot.Slot.{Slot}
use Rattle.virtual_state.specs.declared.slot.Slot.TheVariants.{Plain, Virt, Unusable}
use Rattle.virtual_state.specs.declared.slot.VObject.{VObject}
use Rattle.written_runs.specs.Inner.MadeObjects.{StandAt}
use Rattle.written_runs.specs.Inner.PlannedFrames.{scope_in}
use Rattle.written_runs.specs.Inner.Setup.{Setup, first}
use Rattle.written_runs.specs.Laws.Making.Held.{HoldsMade, Midway, SavedEntries, Scene, held_now, reference_is, saved_still, IsReference}
use Rattle.written_runs.specs.Laws.Making.Places.{FitsUnit, IsFieldAt, field_bounds, fits_field, fits_own, narrow_kind}
use Rattle.written_runs.specs.Laws.Making.Steps.{Doing, Done, done_as, done_none, done_then, loads_unit, stand_behind, stand_first, stores_unit}
use Rattle.written_runs.specs.Laws.Making.Stores.{midway_field, midway_own}
use Rattle.written_runs.specs.VirtualObjects.{TellFields, TellsField, TellsObject, Virtuals, local_slots}

-- ---- fields of a virtual object

-- a slot of a virtual object is that of a field with a type and a value
pub record TellsAt (virtuals : Virtuals) (frame : ℕ) (types : List FieldType) (values : List Value) (number : ℕ) (slot : Slot) : Type 0 where
  pub type : FieldType
  pub value : Value
  pub is_type : slice_get types number ≡ Some type
  pub is_value : slice_get values number ≡ Some value
  pub told : TellsField virtuals frame type value slot

pub tells_at : {virtuals : Virtuals} {frame : ℕ} (types : List FieldType) (values : List Value) (slots : List Slot) (number : ℕ) (slot : Slot)
    → TellFields virtuals frame types values slots
    → slice_get slots number ≡ Some slot
    → TellsAt virtuals frame types values number slot
tells_at types values [] number slot all is = absurd (none-some slot is)
tells_at [] [] (one ∷ slots) number slot all is = absurd all
tells_at [] (value ∷ values) (one ∷ slots) number slot all is = absurd all
tells_at (type ∷ types) [] (one ∷ slots) number slot all is = absurd all
tells_at {virtuals = virtuals} {frame = frame} (type ∷ types) (value ∷ values) (one ∷ slots) zero slot all is = record {
  type = type;
  value = value;
  is_type = refl;
  is_value = refl;
  told = subst (TellsField virtuals frame type value) (same_Some one slot is) all.0;
}
tells_at (type ∷ types) (value ∷ values) (one ∷ slots) (suc number) slot all is =
    let rest = tells_at types values slots number slot all.1 is in
    record { type = rest.type; value = rest.value; is_type = rest.is_type; is_value = rest.is_value; told = rest.told }

pub take_low : {A : Type 0} (count : ℕ) (xs : List A) → length (take count xs) ≤ count
take_low zero xs = omega arith
take_low (suc count) [] = omega arith
take_low (suc count) (x ∷ xs) = let rest = take_low count xs in omega (arith, rest)

-- each object of a list in order is found
pub each_found : (objects : List VObject) → IsIncreasing (sites_of objects)
    → AllByRecursion (λ object. object_of objects object.site ≡ Some object) objects
each_found [] order = tt
each_found (first ∷ objects) order = (object_first first objects first.site refl, behind objects order.0 (each_found objects order.1)) where
  behind : (some : List VObject) → AllByRecursion (λ other. first.site < other) (sites_of some)
      → AllByRecursion (λ object. object_of objects object.site ≡ Some object) some
      → AllByRecursion (λ object. object_of (first ∷ objects) object.site ≡ Some object) some
  behind [] above all = tt
  behind (one ∷ some) above all =
      (object_behind first objects one.site (λ same. absurd (let low = above.0 in omega (arith, low, same))) ∙ all.0, behind some above.1 all.1)

-- a site that is not present in a list is none of the rest
absent_behind : (object : VObject) (objects : List VObject) (site : ℕ) → IsFalse (is_present objects site) → (object.site ≡ site → ⊥)
    → IsFalse (is_present (object ∷ objects) site)
absent_behind object objects site absent differ = ap is_some (object_behind object objects site differ) ∙ absent

-- so many units are seen to
abbrev pub Before : ℕ → ℕ → Type 0
Before from unit = unit < from

-- fields of objects that are none of a list, and so many of one
abbrev pub Absent : List VObject → ℕ → ℕ → Type 0
Absent objects of number = IsFalse (is_present objects of)

abbrev OrBefore : List VObject → ℕ → ℕ → ℕ → ℕ → Type 0
OrBefore objects site from of number = IsFalse (is_present objects of) ⊎ ((of ≡ site) × (number < from))

module _ {u : Setup} {w : WrittenMethod} (d : Doing u w) (s : Scene u w) (names : Names) (all : List ℕ)
    (covers : (site : ℕ) → IsTrue (has s.made site) → IsTrue (has all site)) (saved : List Entry) (saved_values : List Value) where
  -- behind copies to local units and fields
  pub record AreCopied (copied : ℕ → Type 0) (copied_field : ℕ → ℕ → Type 0) (instrs : List WInstr) (place steps : ℕ) (memory : Memory)
      (units : Units) (stack : List Value)
      : Type 0 where
    pub after : Units
    pub done : Done d instrs place steps memory memory units after stack stack
    pub midway : Midway s names all copied copied_field after
    pub entries : SavedEntries w.flat names after saved saved_values

  -- nothing is copied, where nothing had to be
  pub midway_as : {copied more : ℕ → Type 0} {copied_field more_fields : ℕ → ℕ → Type 0} {units : Units}
      → Midway s names all copied copied_field units
      → ((unit site : ℕ) → more unit → slice_get (local_slots s.point s.state) unit ≡ Some (Virt site) → IsTrue (has s.made site) → copied unit)
      → ((of number site : ℕ) (told : VObject) → more_fields of number → IsFalse (has s.made of) → object_of s.state.objects of ≡ Some told
      → slice_get told.fields number ≡ Some (Virt site) → IsTrue (has s.made site) → copied_field of number)
      → Midway s names all more more_fields units
  midway_as m were were_fields = record {
    plain = m.plain;
    fields = m.fields;
    objects = m.objects;
    copies = λ unit site c slot among. m.copies unit site (were unit site c slot among) slot among;
    field_copies = λ of number site told c stays found slot among.
        m.field_copies of number site told (were_fields of number site told c stays found slot among) stays found slot among;
    room = m.room;
  }

  pub as_before : {copied more : ℕ → Type 0} {copied_field more_fields : ℕ → ℕ → Type 0} {units : Units} (place steps : ℕ) (memory : Memory)
      (stack : List Value)
      → Midway s names all copied copied_field units
      → SavedEntries w.flat names units saved saved_values
      → ((unit site : ℕ) → more unit → slice_get (local_slots s.point s.state) unit ≡ Some (Virt site) → IsTrue (has s.made site) → copied unit)
      → ((of number site : ℕ) (told : VObject) → more_fields of number → IsFalse (has s.made of) → object_of s.state.objects of ≡ Some told
      → slice_get told.fields number ≡ Some (Virt site) → IsTrue (has s.made site) → copied_field of number)
      → AreCopied more more_fields [] place steps memory units stack
  as_before {units = units} place steps memory stack m entries were were_fields =
      record { after = units; done = done_none d place steps memory units stack; midway = midway_as m were were_fields; entries = entries }

  -- ---- one copy

  -- the object's reference
  record IsCopied (site : ℕ) (unit : WUnit) (place steps : ℕ) (memory : Memory) (units : Units) (stack : List Value) : Type 0 where
    pub named : ℕ
    pub after : Units
    pub is : IsStored (unit_number w.flat unit) (Ref named) units after
    pub holds : HoldsMade w.flat s.virtuals s.frame names after unit site
    pub done : Done d (load kinds.Ref (object_unit site) ∷ store kinds.Ref unit ∷ []) place steps memory memory units after stack stack

  copies_one : (site : ℕ) (unit : WUnit) (place steps : ℕ) (memory : Memory) (units : Units) (stack : List Value)
      → HoldsMade w.flat s.virtuals s.frame names units (object_unit site) site
      → unit_number w.flat unit + 1 ≤ length units
      → ((reference : ℕ) → FitsUnit w.flat (Ref reference) unit)
      → StandAt u w place (load kinds.Ref (object_unit site) ∷ store kinds.Ref unit ∷ [])
      → IsCopied site unit place steps memory units stack
  copies_one site unit place steps memory units stack made room fits stand = record {
    named = reference.named;
    after = into.0;
    is = is;
    holds = record {
      virtual = made.virtual;
      has_it = made.has_it;
      held = held_now is (fits reference.named) (subst (SameValue names (Ref made.virtual.reference)) reference.is made.held.same);
    };
    done = done_then d first second;
  } where
    reference : IsReference names made.virtual.reference made.held.also
    reference = reference_is made.held.same

    into : (after : Units) × (stored (unit_number w.flat unit) (Ref reference.named) units ≡ Some after)
    into = stores (unit_number w.flat unit) (Ref reference.named) units room

    is : IsStored (unit_number w.flat unit) (Ref reference.named) units into.0
    is = stored_is (unit_number w.flat unit) (Ref reference.named) units into.0 into.1

    first : Done d (load kinds.Ref (object_unit site) ∷ []) place steps memory memory units units stack (Ref reference.named ∷ stack)
    first =
        loads_unit d kinds.Ref (object_unit site) steps memory units stack (Ref reference.named) stand
        (made.held.is ∙ ap (λ (v : Value). Some (Some v)) reference.is) refl

    second : Done d (store kinds.Ref unit ∷ []) (place + 1) first.then_steps memory memory units into.0 (Ref reference.named ∷ stack) stack
    second =
        stores_unit d kinds.Ref unit first.then_steps memory units into.0 stack (Ref reference.named)
        (stand_behind (load kinds.Ref (object_unit site) ∷ []) (store kinds.Ref unit ∷ []) stand) into.1 refl

  -- ---- local units

  -- the slots of the local units from one on
  pub record AreFrom (from : ℕ) (slots : List Slot) : Type 0 where
    pub each : (more : ℕ) → slice_get (local_slots s.point s.state) (from + more) ≡ slice_get slots more

  from_behind : {from : ℕ} {slot : Slot} {slots : List Slot} → AreFrom from (slot ∷ slots) → AreFrom (suc from) slots
  from_behind {from = from} are = record {
    each = λ more.
        let same : suc from + more ≡ from + suc more = omega arith in
        ap (slice_get (local_slots s.point s.state)) same ∙ are.each (suc more);
  }

  slot_here : {from : ℕ} {slot : Slot} {slots : List Slot} → AreFrom from (slot ∷ slots) → slice_get (local_slots s.point s.state) from ≡ Some slot
  slot_here {from = from} are =
      let same : from ≡ from + 0 = omega arith in
      ap (slice_get (local_slots s.point s.state)) same ∙ are.each 0

  one_local : {copied_field : ℕ → ℕ → Type 0} (from : ℕ) (slot : Slot) (place steps : ℕ) (memory : Memory) (units : Units) (stack : List Value)
      → slice_get (local_slots s.point s.state) from ≡ Some slot
      → Midway s names all (Before from) copied_field units
      → SavedEntries w.flat names units saved saved_values
      → StandAt u w place (copy_local s.made from slot)
      → AreCopied (Before (suc from)) copied_field (copy_local s.made from slot) place steps memory units stack
  one_local {copied_field = copied_field} from slot place steps memory units stack here midway entries stand = by slot here stand where
    -- the slot holds no object that is made
    none : (one : Slot) → slice_get (local_slots s.point s.state) from ≡ Some one
        → ((site : ℕ) → one ≡ Virt site → IsTrue (has s.made site) → ⊥)
        → AreCopied (Before (suc from)) copied_field [] place steps memory units stack
    none one is apart =
        as_before place steps memory stack midway entries
        (λ unit site low slot_is among. elim (equal_or unit from) [
          | inl same ↦
              absurd (apart site (same_Some one (Virt site)
              (sym is ∙ ap (slice_get (local_slots s.point s.state)) (sym same) ∙ slot_is)) among)
          | inr differ ↦ omega (arith, low, differ)
        ]) (λ of number site told c stays found slot_is among. c)

    by : (one : Slot) → slice_get (local_slots s.point s.state) from ≡ Some one → StandAt u w place (copy_local s.made from one)
        → AreCopied (Before (suc from)) copied_field (copy_local s.made from one) place steps memory units stack
    by Plain is stand_here = none Plain is (λ site same among. differ site same) where
      differ : (site : ℕ) → Plain ≡ Virt site → ⊥
      differ site same = cc same
    by Unusable is stand_here = none Unusable is (λ site same among. differ site same) where
      differ : (site : ℕ) → Unusable ≡ Virt site → ⊥
      differ site same = cc same
    by (Virt site) is stand_here = test (has s.made site) refl where
      same_site : {a b : ℕ} → Virt a ≡ Virt b → a ≡ b
      same_site same = cc same

      test : (b : Bool) → has s.made site ≡ b
          → AreCopied (Before (suc from)) copied_field (copy_local s.made from (Virt site)) place steps memory units stack
      test false e =
          subst (λ (instrs : List WInstr). AreCopied (Before (suc from)) copied_field instrs place steps memory units stack) (sym code_is)
          (none (Virt site) is (λ other same among. false≢true (sym e ∙ ap (has s.made) (same_site same) ∙ among))) where
            code_is : copy_local s.made from (Virt site) ≡ []
            code_is = rw (e) refl
      test true e = record {
        after = copied.after;
        done = done_as d (sym code_is) refl refl copied.done;
        midway = midway_own s from site copied.named midway is low copied.is copied.holds
            (λ other below. elim (equal_or from other) [
              | inl same ↦ inr same
              | inr differ ↦ inl (omega (arith, below, differ))
            ]);
        entries =
            saved_still w.flat names {other = own from} saved saved_values copied.is (fits_own (omega (arith, low))) (λ below also. tt) entries;
      } where
        code_is : copy_local s.made from (Virt site) ≡ load kinds.Ref (object_unit site) ∷ store kinds.Ref (own from) ∷ []
        code_is = rw (e) refl

        low : from < w.flat.locals
        low =
            let within = slice_get_within (local_slots s.point s.state) from (Virt site) is in
            let taken = take_low (length s.point.typed.locals) s.state.slots in
            let wide = s.widths in
            omega (arith, within, taken, wide)

        copied : IsCopied site (own from) place steps memory units stack
        copied =
            copies_one site (own from) place steps memory units stack (midway.objects site (covers site e))
            (let room = midway.room in let within = low in omega (arith, room, within)) (λ reference. fits_own (let within = low in omega (arith, within)))
            (subst (StandAt u w place) code_is stand_here)

  pub copies_locals : {copied_field : ℕ → ℕ → Type 0} (from : ℕ) (slots : List Slot) (place steps : ℕ) (memory : Memory) (units : Units)
      (stack : List Value)
      → AreFrom from slots
      → Midway s names all (Before from) copied_field units
      → SavedEntries w.flat names units saved saved_values
      → StandAt u w place (copy_locals_from s.made from slots)
      → AreCopied (Before (from + length slots)) copied_field (copy_locals_from s.made from slots) place steps memory units stack
  copies_locals from [] place steps memory units stack are midway entries stand =
      as_before place steps memory stack midway entries (λ unit site low slot among. omega (arith, low)) (λ of number site told c stays found slot among. c)
  copies_locals from (slot ∷ slots) place steps memory units stack are midway entries stand =
      let one = one_local from slot place steps memory units stack (slot_here are) midway entries
      (stand_first (copy_local s.made from slot) (copy_locals_from s.made (suc from) slots) stand) in
      let rest = copies_locals (suc from) slots (place + length (copy_local s.made from slot)) one.done.then_steps memory one.after stack
      (from_behind are) one.midway one.entries (stand_behind (copy_local s.made from slot) (copy_locals_from s.made (suc from) slots) stand) in
      record {
        after = rest.after;
        done = done_then d one.done rest.done;
        midway = midway_as rest.midway (λ unit site low slot_is among. omega (arith, low)) (λ of number site told c stays found slot_is among. c);
        entries = rest.entries;
      }

  -- ---- fields

  module _ (copied : ℕ → Type 0) (objects : List VObject) (object : VObject) (found : object_of s.state.objects object.site ≡ Some object) where
    told : TellsObject (first u) (scope_in u w) s.virtuals s.frame object
    told = s.tells.objects object.site object found

    one_field : (from : ℕ) (slot : Slot) (place steps : ℕ) (memory : Memory) (units : Units) (stack : List Value)
        → slice_get object.fields from ≡ Some slot
        → Midway s names all copied (OrBefore objects object.site from) units
        → SavedEntries w.flat names units saved saved_values
        → StandAt u w place (copy_field s.made object.site from slot)
        → AreCopied copied (OrBefore objects object.site (suc from)) (copy_field s.made object.site from slot) place steps memory units stack
    one_field from slot place steps memory units stack here midway entries stand = by slot here stand where
      grown : (of number : ℕ) → OrBefore objects object.site (suc from) of number
          → OrBefore objects object.site from of number ⊎ ((object.site ≡ of) × (from ≡ number))
      grown of number (inl absent) = inl (inl absent)
      grown of number (inr here_too) = elim (equal_or from number) [
        | inl same ↦ inr (sym here_too.0, same)
        | inr differ ↦ inl (inr (here_too.0, (let low = here_too.1 in omega (arith, low, differ))))
      ]

      none : (one : Slot) → slice_get object.fields from ≡ Some one
          → ((site : ℕ) → one ≡ Virt site → IsTrue (has s.made site) → ⊥)
          → AreCopied copied (OrBefore objects object.site (suc from)) [] place steps memory units stack
      none one is apart =
          as_before place steps memory stack midway entries (λ unit site c slot_is among. c)
          (λ of number site told_of c stays found_of slot_is among. elim (grown of number c) [
            | inl old ↦ old
            | inr same ↦
                let same_object : told_of ≡ object =
                same_Some told_of object (sym found_of ∙ ap (object_of s.state.objects) (sym same.0) ∙ found) in
                absurd (apart site (same_Some one (Virt site)
                (sym is ∙ ap (slice_get object.fields) same.1 ∙ ap (λ (o : VObject). slice_get o.fields number) (sym same_object) ∙ slot_is)) among)
          ])

      by : (one : Slot) → slice_get object.fields from ≡ Some one → StandAt u w place (copy_field s.made object.site from one)
          → AreCopied copied (OrBefore objects object.site (suc from)) (copy_field s.made object.site from one) place steps memory units stack
      by Plain is stand_here = none Plain is (λ site same among. differ site same) where
        differ : (site : ℕ) → Plain ≡ Virt site → ⊥
        differ site same = cc same
      by Unusable is stand_here = none Unusable is (λ site same among. differ site same) where
        differ : (site : ℕ) → Unusable ≡ Virt site → ⊥
        differ site same = cc same
      by (Virt site) is stand_here = test (has s.made site) refl where
        same_site : {a b : ℕ} → Virt a ≡ Virt b → a ≡ b
        same_site same = cc same

        test : (b : Bool) → has s.made site ≡ b
            → AreCopied copied (OrBefore objects object.site (suc from)) (copy_field s.made object.site from (Virt site)) place steps memory units stack
        test false e =
            subst (λ (instrs : List WInstr). AreCopied copied (OrBefore objects object.site (suc from)) instrs place steps memory units stack)
            (sym code_is) (none (Virt site) is (λ other same among. false≢true (sym e ∙ ap (has s.made) (same_site same) ∙ among))) where
              code_is : copy_field s.made object.site from (Virt site) ≡ []
              code_is = rw (e) refl
        test true e = record {
          after = one.after;
          done = done_as d (sym code_is) refl refl one.done;
          midway =
              midway_field s object.site from site one.named object at.type midway found is field one.is one.holds grown;
          entries =
              saved_still w.flat names {other = field_unit object.site from} saved saved_values one.is (fits one.named) (λ below also. tt) entries;
        } where
          code_is : copy_field s.made object.site from (Virt site)
              ≡ load kinds.Ref (object_unit site) ∷ store kinds.Ref (field_unit object.site from) ∷ []
          code_is = rw (e) refl

          at : TellsAt s.virtuals s.frame told.site.fields told.virtual.object.values from (Virt site)
          at = tells_at told.site.fields told.virtual.object.values object.fields from (Virt site) told.fields is

          field : IsFieldAt w.flat object.site from at.type
          field = record { one = told.site; is_site = told.is_site; is_type = at.is_type }

          narrow : (type : FieldType) → 1 ≤ units_of (kind_of type)
          narrow type = narrow_kind (kind_of type)

          fits : (reference : ℕ) → FitsUnit w.flat (Ref reference) (field_unit object.site from)
          fits reference = fits_field at.type field (narrow at.type)

          one : IsCopied site (field_unit object.site from) place steps memory units stack
          one =
              copies_one site (field_unit object.site from) place steps memory units stack (midway.objects site (covers site e))
              (let room = midway.room in
              let b = field_bounds w.flat object.site from at.type field in
              let starts = b.starts in
              let high = b.high in
              let ends = b.ends in
              let wide = narrow at.type in
              omega (arith, room, starts, high, ends, wide)) fits (subst (StandAt u w place) code_is stand_here)

    -- the fields of the object from one on
    fields_from : (from : ℕ) (slots : List Slot) (place steps : ℕ) (memory : Memory) (units : Units) (stack : List Value)
        → ((more : ℕ) → slice_get object.fields (from + more) ≡ slice_get slots more)
        → Midway s names all copied (OrBefore objects object.site from) units
        → SavedEntries w.flat names units saved saved_values
        → StandAt u w place (copy_fields_from s.made object.site from slots)
        → AreCopied copied (OrBefore objects object.site (from + length slots)) (copy_fields_from s.made object.site from slots) place steps memory
        units stack
    fields_from from [] place steps memory units stack are midway entries stand =
        as_before place steps memory stack midway entries (λ unit site c slot among. c)
        (λ of number site told_of c stays found_of slot among. elim c [
          | inl absent ↦ inl absent
          | inr here ↦ inr (here.0, (let low = here.1 in omega (arith, low)))
        ])
    fields_from from (slot ∷ slots) place steps memory units stack are midway entries stand =
        let here_slot : slice_get object.fields from ≡ Some slot =
        (let same : from ≡ from + 0 = omega arith in ap (slice_get object.fields) same ∙ are 0) in
        let one = one_field from slot place steps memory units stack here_slot midway entries
        (stand_first (copy_field s.made object.site from slot) (copy_fields_from s.made object.site (suc from) slots) stand) in
        let rest = fields_from (suc from) slots (place + length (copy_field s.made object.site from slot)) one.done.then_steps memory one.after stack
        (λ more. let same : suc from + more ≡ from + suc more = omega arith in ap (slice_get object.fields) same ∙ are (suc more)) one.midway one.entries
        (stand_behind (copy_field s.made object.site from slot) (copy_fields_from s.made object.site (suc from) slots) stand) in
        record {
          after = rest.after;
          done = done_then d one.done rest.done;
          midway = midway_as rest.midway (λ unit site c slot_is among. c) (λ of number site told_of c stays found_of slot_is among. elim c [
            | inl absent ↦ inl absent
            | inr here ↦ inr (here.0, (let low = here.1 in omega (arith, low)))
          ]);
          entries = rest.entries;
        }

  -- those of an object of the list
  one_object : {copied : ℕ → Type 0} (object : VObject) (objects : List VObject) (place steps : ℕ) (memory : Memory) (units : Units)
      (stack : List Value)
      → object_of s.state.objects object.site ≡ Some object
      → Midway s names all copied (Absent (object ∷ objects)) units
      → SavedEntries w.flat names units saved saved_values
      → StandAt u w place (copy_object s.made object)
      → AreCopied copied (Absent objects) (copy_object s.made object) place steps memory units stack
  one_object {copied = copied} object objects place steps memory units stack found midway entries stand = by (has s.made object.site) refl where
    by : (b : Bool) → has s.made object.site ≡ b → AreCopied copied (Absent objects) (copy_object s.made object) place steps memory units stack
    by true e =
        subst (λ (instrs : List WInstr). AreCopied copied (Absent objects) instrs place steps memory units stack) (sym code_is)
        (as_before place steps memory stack midway entries (λ unit site c slot among. c)
        (λ of number site told c stays found_of slot among.
        absent_behind object objects of c (λ same. false≢true (sym stays ∙ ap (has s.made) (sym same) ∙ e)))) where
          code_is : copy_object s.made object ≡ []
          code_is = rw (e) refl
    by false e = record {
      after = fields.after;
      done = done_as d (sym code_is) refl refl fields.done;
      midway = midway_as fields.midway (λ unit site c slot among. c)
          (λ of number site told c stays found_of slot among. elim (equal_or object.site of) [
            | inl same ↦
                let same_object : told ≡ object =
                same_Some told object (sym found_of ∙ ap (object_of s.state.objects) (sym same) ∙ found) in
                let low = slice_get_within told.fields number (Virt site) slot in
                let long : length told.fields ≡ length object.fields = ap (λ (o : VObject). length o.fields) same_object in
                inr (sym same, omega (arith, low, long))
            | inr differ ↦ inl (absent_behind object objects of c differ)
          ]);
      entries = fields.entries;
    } where
      code_is : copy_object s.made object ≡ copy_fields_from s.made object.site 0 object.fields
      code_is = rw (e) refl

      fields : AreCopied copied (OrBefore (object ∷ objects) object.site (0 + length object.fields))
          (copy_fields_from s.made object.site 0 object.fields) place steps memory units stack
      fields =
          fields_from copied (object ∷ objects) object found 0 object.fields place steps memory units stack
          (λ more. let same : 0 + more ≡ more = omega arith in ap (slice_get object.fields) same)
          (midway_as midway (λ unit site c slot among. c) (λ of number site told c stays found_of slot among. elim c [
            | inl absent ↦ absent
            | inr here ↦ absurd (let low = here.1 in omega (arith, low))
          ])) entries (subst (StandAt u w place) code_is stand)

  pub copies_objects : {copied : ℕ → Type 0} (objects : List VObject) (place steps : ℕ) (memory : Memory) (units : Units) (stack : List Value)
      → AllByRecursion (λ object. object_of s.state.objects object.site ≡ Some object) objects
      → Midway s names all copied (Absent objects) units
      → SavedEntries w.flat names units saved saved_values
      → StandAt u w place (flat_map (copy_object s.made) objects)
      → AreCopied copied (Absent []) (flat_map (copy_object s.made) objects) place steps memory units stack
  copies_objects [] place steps memory units stack found midway entries stand =
      record { after = units; done = done_none d place steps memory units stack; midway = midway; entries = entries }
  copies_objects (object ∷ objects) place steps memory units stack found midway entries stand =
      let one = one_object object objects place steps memory units stack found.0 midway entries
      (stand_first (copy_object s.made object) (flat_map (copy_object s.made) objects) stand) in
      let rest = copies_objects objects (place + length (copy_object s.made object)) one.done.then_steps memory one.after stack found.1 one.midway
      one.entries (stand_behind (copy_object s.made object) (flat_map (copy_object s.made) objects) stand) in
      record {
        after = rest.after;
        done = done_then d one.done rest.done;
        midway = rest.midway;
        entries = rest.entries;
      }
