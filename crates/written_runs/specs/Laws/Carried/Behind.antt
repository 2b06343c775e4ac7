-- What a frame behind an edge has, on which an instruction leaves the locals as they are, and takes plain operands off the stack and gives plain values.
use Rattle.std.proofs.Common.{◌≡◌, ◌≢◌, ◌⊎◌, ◌≤◌, ◌<◌, ◌+◌, ◌-◌, ◌++◌, ◌==◌, ◌&&◌, not, ℕ, zero, suc, Bool, true, false, List, [], ◌∷◌, drop, filter, length, map, reverse, slice_get, take, Some, IsTrue, refl, sym, ap, subst, ◌∙◌, arith, inl, inr}
use Rattle.std.proofs.lemmas.Bool.{cases_lt, eq-eqb, eqb-true, false≢true}
use Rattle.std.proofs.lemmas.List.{length-map, length-take-le}
use Rattle.std.proofs.lemmas.Option.{none-some, same_Some, slice_get_within}
use Rattle.plan_flow.specs.Laws.OpenEdges.{still_in}
use Rattle.class_model.specs.Frames.{is_top}
use Rattle.class_model.specs.declared.descriptor.FieldType.{FieldType}
use Rattle.class_model.specs.declared.frame.VType.{VType}
use Rattle.flow_code.specs.ReadTypes.{is_site_object}
use Rattle.flow_code.specs.WrittenUnits.{written_units}
use Rattle.flow_code.specs.declared.point.Point.{Point}
use Rattle.machine_values.specs.Frames.{MethodState}
use Rattle.machine_values.specs.declared.value.Value.{Value}
use Rattle.machine_values.specs.declared.value.Value.TheVariants.{Ref}
use Rattle.making_code.specs.Units.{field_unit, unit_number}
use Rattle.member_link.specs.Machine.Programs.{Program}
use Rattle.plan_flow.specs.Effect.{IsStateBehind}
use Rattle.plan_flow.specs.Must.{row_of_point}
use Rattle.plan_flow.specs.PlanRows.{RowEdge, Source, from_place}
use Rattle.plan_flow.specs.PlanScope.{PlanScope, stack_types}
use Rattle.plan_flow.specs.PlanSlots.{edge_stack}
use Rattle.plan_flow.specs.PlanTable.{held_from}
use Rattle.plan_flow.specs.ReadyForPlans.{KeepsAlong, KeepsType, from_its_new, from_its_type, place_types}
use Rattle.same_runs.specs.Renamings.{Names, SameValues, and_value}
use Rattle.virtual_state.specs.Laws.Objects.{found_site, present_found}
use Rattle.virtual_state.specs.States.{State, is_present, is_virtual, names as names_site, object_of}
use Rattle.virtual_state.specs.declared.slot.Slot.{Slot}
use Rattle.virtual_state.specs.declared.slot.Slot.TheVariants.{Plain, Virt, Unusable}
use Rattle.virtual_state.specs.declared.slot.VObject.{VObject}
use Rattle.written_runs.specs.Inner.PlannedFrames.{KeepStack, Keeps, KeptIn}
use Rattle.written_runs.specs.Laws.Carried.Slots.{FitsPlain, LeadsAlong, LeavesStack, edge_slots, fit_plain, fit_virtual, got_before, got_left, got_right, locals_are, stack_are}
use Rattle.written_runs.specs.Laws.FewerVirtuals.{AreFewer}
use Rattle.written_runs.specs.Laws.KnownClasses.{slot_names}
use Rattle.written_runs.specs.Laws.LessVirtual.{was_in}
use Rattle.written_runs.specs.Laws.StandingMore.{SameBelow}
use Rattle.written_runs.specs.Laws.Templates.Stacks.{as_read, held_at, held_length, keep_join, keep_read, read_virtual}
use Rattle.written_runs.specs.VirtualObjects.{HasVirtual, RefersTo, TellFields, Tells, TellsField, TellsObject, Virtual, Virtuals, local_slots, stack_slots, tells_plain, tells_virtual}

-- ---- the virtual objects that are left

-- those of other frames, and those that the frame's next state has
abbrev pub is_kept : ℕ → State → Virtual → Bool
is_kept frame state virtual = not ((virtual.frame == frame) && not (is_present state.objects virtual.site))

abbrev pub kept_of : ℕ → State → Virtuals → Virtuals
kept_of frame state virtuals = filter (is_kept frame state) virtuals

pub kept_are_fewer : (frame : ℕ) (state : State) (virtuals : Virtuals) → AreFewer virtuals (kept_of frame state virtuals)
kept_are_fewer frame state virtuals = record { keeps = is_kept frame state; is = refl }

-- one of a site that the state has is left
pub kept_of_site : (frame site : ℕ) (state : State) (virtuals : Virtuals) (virtual : Virtual)
    → IsTrue (is_present state.objects site)
    → HasVirtual virtuals frame site virtual
    → HasVirtual (kept_of frame state virtuals) frame site virtual
kept_of_site frame site state virtuals virtual present there =
    let found = still_in (is_kept frame state) virtuals there.number virtual there.is_there passes in
    record { number = found.0; is_there = found.1; of_frame = there.of_frame; of_site = there.of_site } where
      here : is_present state.objects virtual.site ≡ true
      here = ap (is_present state.objects) there.of_site ∙ present

      by : (same : Bool) → (virtual.frame == frame) ≡ same → is_kept frame state virtual ≡ true
      by true is = rw (is, here) refl
      by false is = rw (is) refl

      passes : is_kept frame state virtual ≡ true
      passes = by (virtual.frame == frame) refl

-- and one that is left was there
pub was_kept : (frame other site : ℕ) (state : State) (virtuals : Virtuals) (virtual : Virtual)
    → HasVirtual (kept_of frame state virtuals) other site virtual
    → HasVirtual virtuals other site virtual
was_kept frame other site state virtuals virtual there =
    let was = was_in (is_kept frame state) virtuals there.number virtual there.is_there in
    record { number = was.number; is_there = was.is_there; of_frame = there.of_frame; of_site = there.of_site }

-- one of the frame is of a site that the state has
pub kept_is_present : (frame number : ℕ) (state : State) (virtuals : Virtuals) (virtual : Virtual)
    → slice_get (kept_of frame state virtuals) number ≡ Some virtual
    → virtual.frame ≡ frame
    → IsTrue (is_present state.objects virtual.site)
kept_is_present frame number state virtuals virtual is of_frame = by (is_present state.objects virtual.site) refl where
  passes : is_kept frame state virtual ≡ true
  passes = (was_in (is_kept frame state) virtuals number virtual is).passes

  same : (virtual.frame == frame) ≡ true
  same = eq-eqb virtual.frame frame of_frame

  by : (present : Bool) → is_present state.objects virtual.site ≡ present → IsTrue (is_present state.objects virtual.site)
  by true told = told
  by false told = absurd (false≢true (sym (rw (same, told) refl) ∙ passes))

-- those of the frames below stay
pub same_below_kept : (frame : ℕ) (state : State) (virtuals : Virtuals) → SameBelow virtuals (kept_of frame state virtuals) frame
same_below_kept frame state virtuals = λ other low. record {
  forth = λ site virtual there.
      let apart : virtual.frame ≢ frame = λ same. let of_frame = there.of_frame in absurd (omega (arith, low, same, of_frame)) in
      let found = still_in (is_kept frame state) virtuals there.number virtual there.is_there (passes virtual apart) in
      record { number = found.0; is_there = found.1; of_frame = there.of_frame; of_site = there.of_site };
  back = λ site virtual there. was_kept frame other site state virtuals virtual there;
} where
  passes : (virtual : Virtual) → virtual.frame ≢ frame → is_kept frame state virtual ≡ true
  passes virtual apart = by (virtual.frame == frame) refl where
    by : (same : Bool) → (virtual.frame == frame) ≡ same → is_kept frame state virtual ≡ true
    by true is = absurd (apart (eqb-true virtual.frame frame is))
    by false is = rw (is) refl

-- ---- plain values

plain_slot : (given : List Source) (place site : ℕ) → slice_get (map (λ source. Plain) given) place ≡ Some (Virt site) → ⊥
plain_slot [] place site is = none-some (Virt site) is
plain_slot (source ∷ given) zero site is = apart (same_Some Plain (Virt site) is) where
  apart : Plain ≡ Virt site → ⊥
  apart same = absurd cc
plain_slot (source ∷ given) (suc place) site is = plain_slot given place site is

keep_plain : (names : Names) (given : List Source) (ones others : List Value)
    → SameValues names ones others
    → KeepStack names (map (λ source. Plain) given) ones others
keep_plain names [] ones others are = are
keep_plain names (source ∷ given) [] [] are = refl
keep_plain names (source ∷ given) [] (other ∷ others) are = elim are [ ]
keep_plain names (source ∷ given) (one ∷ ones) [] are = elim are [ ]
keep_plain names (source ∷ given) (one ∷ ones) (other ∷ others) (and_value is are) = (is, keep_plain names given ones others are)

-- ---- the frame behind the edge

-- The frames before an edge and behind it: the locals stay, and on the stack stand the lowest entries and, on these, values that are given.
pub record MovesAlong (s : PlanScope) (at : ℕ) (point target : Point) (before : State) (row : RowEdge) (more : Names) (taken : ℕ) (given : List Source)
    (f g then also : MethodState)
    : Type 0 where
  pub long : length (take (length point.typed.stack - taken) (reverse f.stack)) ≡ length point.typed.stack - taken
  pub locals : then.locals ≡ f.locals
  pub locals_also : also.locals ≡ g.locals
  pub ones : List Value
  pub others : List Value
  pub lower : List Value
  pub same : SameValues more ones others
  pub stack : reverse then.stack ≡ take (length point.typed.stack - taken) (reverse f.stack) ++ ones
  pub stack_also : reverse also.stack ≡ lower ++ others
  -- a unit that is usable behind was usable before
  pub usable : (unit : ℕ) (type : VType)
      → slice_get target.typed.locals unit ≡ Some type
      → is_top type ≡ false
      → slice_get (local_slots point before) unit ≡ Some Unusable
      → ⊥
  pub uninit : KeepsAlong s at point row
  -- what is given as an uninitialised object of a site is a reference
  pub uninit_given : (number : ℕ) (type : VType) (source : Source) (value : Value)
      → slice_get given number ≡ Some source
      → KeepsType at (place_types point.typed) type source
      → IsTrue (is_site_object s.flat type)
      → slice_get ones number ≡ Some value
      → (reference : ℕ) × (value ≡ Ref reference)

-- The same of the stack alone.
pub record MovesStack (s : PlanScope) (at : ℕ) (point : Point) (row : RowEdge) (more : Names) (taken : ℕ) (given : List Source)
    (f then also : MethodState)
    : Type 0 where
  pub long : length (take (length point.typed.stack - taken) (reverse f.stack)) ≡ length point.typed.stack - taken
  pub ones : List Value
  pub others : List Value
  pub lower : List Value
  pub same : SameValues more ones others
  pub stack : reverse then.stack ≡ take (length point.typed.stack - taken) (reverse f.stack) ++ ones
  pub stack_also : reverse also.stack ≡ lower ++ others
  pub uninit : KeepsAlong s at point row
  pub uninit_given : (number : ℕ) (type : VType) (source : Source) (value : Value)
      → slice_get given number ≡ Some source
      → KeepsType at (place_types point.typed) type source
      → IsTrue (is_site_object s.flat type)
      → slice_get ones number ≡ Some value
      → (reference : ℕ) × (value ≡ Ref reference)

abbrev pub moves_stack : {s : PlanScope} {at : ℕ} {point target : Point} {before : State} {row : RowEdge} {more : Names} {taken : ℕ} {given : List Source}
    {f g then also : MethodState}
    → MovesAlong s at point target before row more taken given f g then also
    → MovesStack s at point row more taken given f then also
moves_stack moves = record {
  long = moves.long;
  ones = moves.ones;
  others = moves.others;
  lower = moves.lower;
  same = moves.same;
  stack = moves.stack;
  stack_also = moves.stack_also;
  uninit = moves.uninit;
  uninit_given = moves.uninit_given;
}

-- What is known of the local units behind the edge, by what they come from: virtual objects are there, and the second frame keeps plain values.
pub record LocalsOver (s : PlanScope) (at : ℕ) (point target : Point) (before : State) (row : RowEdge) (virtuals : Virtuals) (frame : ℕ)
    (names more : Names) (g then also : MethodState)
    : Type 0 where
  pub many : length (edge_slots s at point before row) ≡ length target.typed.locals
  pub refer : (unit site : ℕ) (type : VType)
      → slice_get target.typed.locals unit ≡ Some type
      → is_top type ≡ false
      → slice_get (edge_slots s at point before row) unit ≡ Some (Virt site)
      → (value : Value) × (slice_get then.locals unit ≡ Some (Some value)) × RefersTo virtuals frame site value
  pub keep : (unit : ℕ) (type : VType) (value : Value)
      → slice_get target.typed.locals unit ≡ Some type
      → is_top type ≡ false
      → slice_get (edge_slots s at point before row) unit ≡ Some Plain
      → slice_get then.locals unit ≡ Some (Some value)
      → KeptIn more also unit value
  pub uninit : (unit : ℕ) (type : VType)
      → slice_get target.typed.locals unit ≡ Some type
      → IsTrue (is_site_object s.flat type)
      → (reference : ℕ) × (slice_get then.locals unit ≡ Some (Some (Ref reference)))
  -- what the units of fields hold stays
  pub others : (site number : ℕ) (value : Value)
      → KeptIn names g (unit_number s.flat (field_unit site number)) value
      → KeptIn more also (unit_number s.flat (field_unit site number)) value
  pub room : written_units s.flat ≤ length also.locals

module _ {P : Program} {s : PlanScope} {at : ℕ} {point target : Point} {before after : State} {row : RowEdge} {taken : ℕ} {given : List Source}
    (leaves : LeavesStack s at point before row taken given) (leads : LeadsAlong s point target before row taken given)
    (behind : IsStateBehind s point at before row after)
    {names more : Names} {virtuals : Virtuals} {frame : ℕ} {f g then also : MethodState}
    (moves : MovesStack s at point row more taken given f then also) (over : LocalsOver s at point target before row virtuals frame names more g then also)
    (tells : Tells P s virtuals frame point before f) where
  abbrev left : Virtuals
  left = kept_of frame after virtuals

  abbrev local_count : ℕ
  local_count = length point.typed.locals

  abbrev left_count : ℕ
  left_count = length point.typed.stack - taken

  abbrev lowest : List Value
  lowest = take left_count (reverse f.stack)

  -- ---- objects

  was_object : (site : ℕ) (told : VObject) → object_of after.objects site ≡ Some told → object_of before.objects site ≡ Some told
  was_object site told is =
      ap (λ (objects : List VObject). object_of objects site) (sym leaves.objects)
      ∙ sym (behind.is.kept site (behind.is.reached site (present_found after.objects site told is)))
      ∙ is

  refers_left : (site : ℕ) (value : Value)
      → IsTrue (is_present after.objects site)
      → RefersTo virtuals frame site value
      → RefersTo left frame site value
  refers_left site value present refers =
      record { virtual = refers.virtual; has = kept_of_site frame site after virtuals refers.virtual present refers.has; is = refers.is }

  fields_left : (types : List FieldType) (values : List Value) (slots : List Slot)
      → ((site : ℕ) → IsTrue (names_site slots site) → IsTrue (is_present after.objects site))
      → TellFields virtuals frame types values slots
      → TellFields left frame types values slots
  fields_left [] [] [] present told = tt
  fields_left [] [] (slot ∷ slots) present told = absurd told
  fields_left [] (value ∷ values) slots present told = absurd told
  fields_left (type ∷ types) [] slots present told = absurd told
  fields_left (type ∷ types) (value ∷ values) [] present told = absurd told
  fields_left (type ∷ types) (value ∷ values) (slot ∷ slots) present told =
      (by slot (λ site is. present site (in_first site is)) told.0, fields_left types values slots (λ site is. present site (in_rest site is)) told.1) where
        in_first : (site : ℕ) → is_virtual site slot ≡ true → IsTrue (names_site (slot ∷ slots) site)
        in_first site is = rw (is) refl

        in_rest : (site : ℕ) → IsTrue (names_site slots site) → IsTrue (names_site (slot ∷ slots) site)
        in_rest site is = of (is_virtual site slot) refl where
          of : (here : Bool) → is_virtual site slot ≡ here → IsTrue (names_site (slot ∷ slots) site)
          of true told_here = rw (told_here) refl
          of false told_here = rw (told_here) is

        by : (one : Slot)
            → ((site : ℕ) → is_virtual site one ≡ true → IsTrue (is_present after.objects site))
            → TellsField virtuals frame type value one
            → TellsField left frame type value one
        by (Virt site) there (tells_virtual refers) = tells_virtual (refers_left site value (there site (eq-eqb site site refl)) refers)
        by Plain there (tells_plain fits kept) = tells_plain fits kept
        by Unusable there impossible = elim impossible [ ]

  object_left : (site : ℕ) (told : VObject) → object_of after.objects site ≡ Some told → TellsObject P s left frame told
  object_left site told is =
      let was = tells.objects site told (was_object site told is) in
      let its_site : told.site ≡ site = found_site after.objects site told is in
      let present : IsTrue (is_present after.objects told.site) =
      ap (is_present after.objects) its_site ∙ present_found after.objects site told is in
      record {
        site = was.site;
        is_site = was.is_site;
        virtual = was.virtual;
        has = kept_of_site frame told.site after virtuals was.virtual present was.has;
        class = was.class;
        of_folder = was.of_folder;
        shape = was.shape;
        monitor = was.monitor;
        fields =
            fields_left was.site.fields was.virtual.object.values told.fields
            (λ to named. behind.is_state.fields site to (record { object = told; there = is; named = named })) was.fields;
      }

  -- ---- slots

  -- a virtual object of a place is one that the state has
  present_local : (unit site : ℕ) → slice_get (local_slots target after) unit ≡ Some (Virt site) → IsTrue (is_present after.objects site)
  present_local unit site is =
      behind.is_state.places site (slot_names after.slots unit site (got_before (length target.typed.locals) after.slots unit (Virt site) is))

  dropped : (count : ℕ) (slots : List Slot) (place site : ℕ) → slice_get (drop count slots) place ≡ Some (Virt site) → IsTrue (names_site slots site)
  dropped zero slots place site is = slot_names slots place site is
  dropped (suc count) [] place site is = absurd (none-some (Virt site) is)
  dropped (suc count) (slot ∷ slots) place site is = of (is_virtual site slot) refl (dropped count slots place site is) where
    of : (here : Bool) → is_virtual site slot ≡ here → IsTrue (names_site slots site) → IsTrue (names_site (slot ∷ slots) site)
    of true told rest = rw (told) refl
    of false told rest = rw (told) rest

  present_entry : (place site : ℕ) → slice_get (stack_slots target after) place ≡ Some (Virt site) → IsTrue (is_present after.objects site)
  present_entry place site is = behind.is_state.places site (dropped (length target.typed.locals) after.slots place site is)

  -- and so is what the unit comes from, where its type is not Top
  local_fits : (unit site : ℕ) → slice_get (local_slots target after) unit ≡ Some (Virt site)
      → (type : VType) × (slice_get target.typed.locals unit ≡ Some type) × (is_top type ≡ false)
      × (slice_get (edge_slots s at point before row) unit ≡ Some (Virt site))
  local_fits unit site is =
      fit_virtual target.typed.locals (edge_slots s at point before row) unit site
      (ap (λ (slots : List Slot). slice_get slots unit) (sym (locals_are leaves leads behind)) ∙ is)

  abbrev lowest_slots : List Slot
  lowest_slots = take left_count (stack_slots point before)

  slots_few : left_count ≤ length (stack_slots point before)
  slots_few =
      let all = leads.slots in
      let cut = drop_length local_count before.slots in
      omega (arith, all, cut) where
        drop_length : (count : ℕ) (xs : List Slot) → length (drop count xs) ≡ length xs - count
        drop_length zero xs = omega arith
        drop_length (suc count) [] = omega arith
        drop_length (suc count) (x ∷ xs) = let rest = drop_length count xs in omega (arith, rest)

  slots_long : length (map as_read lowest_slots) ≡ left_count
  slots_long = length-map lowest_slots as_read ∙ length-take-le left_count (stack_slots point before) slots_few

  values_long : length lowest ≡ left_count
  values_long = moves.long

  -- a virtual object on the stack was there before
  record EntryWas (place site : ℕ) : Type 0 where
    low : place < left_count
    was : slice_get (stack_slots point before) place ≡ Some (Virt site)

  entry_was : (place site : ℕ) → slice_get (stack_slots target after) place ≡ Some (Virt site) → EntryWas place site
  entry_was place site is = by (cases_lt place left_count) where
    here : slice_get (map as_read lowest_slots ++ map (λ source. Plain) given) place ≡ Some (Virt site)
    here = ap (λ (slots : List Slot). slice_get slots place) (sym (stack_are leaves leads behind)) ∙ is

    by : (place < left_count) ⊎ (left_count ≤ place) → EntryWas place site
    by (inl low) = record {
      low = low;
      was =
          got_before left_count (stack_slots point before) place (Virt site)
          (read_virtual lowest_slots place site
          (sym (got_left (map as_read lowest_slots) (map (λ source. Plain) given) place (let long = slots_long in omega (arith, low, long))) ∙ here));
    }
    by (inr high) =
        let long = slots_long in
        let further : length (map as_read lowest_slots) + (place - left_count) ≡ place = omega (arith, high, long) in
        absurd (plain_slot given (place - left_count) site
        (sym (got_right (map as_read lowest_slots) (map (λ source. Plain) given) (place - left_count))
        ∙ ap (slice_get (map as_read lowest_slots ++ map (λ source. Plain) given)) further
        ∙ here))

  -- so was an entry of the stack, if it is none of those that are given
  value_was : (place : ℕ) (value : Value) → place < left_count → slice_get (reverse then.stack) place ≡ Some value → slice_get (reverse f.stack) place
      ≡ Some value
  value_was place value low is =
      got_before left_count (reverse f.stack) place value
      (sym (got_left lowest moves.ones place (let long = values_long in omega (arith, low, long)))
      ∙ ap (λ (values : List Value). slice_get values place) (sym moves.stack) ∙ is)

  -- ---- uninitialised objects

  entry_place : (entry : ℕ) (type : VType) (source : Source)
      → source ≡ from_place (local_count + entry)
      → KeepsType at (place_types point.typed) type source
      → slice_get point.typed.stack entry ≡ Some type
  entry_place entry type source is (from_its_type one there) =
      let same : one ≡ local_count + entry = ap place_of is in
      sym (got_right point.typed.locals point.typed.stack entry) ∙ ap (slice_get (place_types point.typed)) (sym same) ∙ there where
        place_of : Source → ℕ
        place_of (from_place place) = place
        place_of other = 0
  entry_place entry type source is (from_its_new new) = absurd (cc is)

  uninit_entry : (place : ℕ) (type : VType) (value : Value)
      → slice_get target.typed.stack place ≡ Some type
      → slice_get (reverse then.stack) place ≡ Some value
      → IsTrue (is_site_object s.flat type)
      → (reference : ℕ) × (value ≡ Ref reference)
  uninit_entry place type value is_type is_value is_site = by (cases_lt place left_count) where
    of_target : slice_get (stack_types s.flat row.to) place ≡ Some type
    of_target = rw (leads.is_target) is_type

    kept : (source : Source) × (slice_get (edge_stack (row_of_point s at point) row.by) place ≡ Some source)
        × KeepsType at (place_types point.typed) type source
    kept = moves.uninit.stack place type of_target is_site

    source_is : slice_get (held_from local_count left_count ++ given) place ≡ Some kept.0
    source_is = ap (λ (sources : List Source). slice_get sources place) (sym leaves.stack) ∙ kept.1

    by : (place < left_count) ⊎ (left_count ≤ place) → (reference : ℕ) × (value ≡ Ref reference)
    by (inl low) =
        let long = held_length local_count left_count in
        let is_source : kept.0 ≡ from_place (local_count + place) =
        same_Some kept.0 (from_place (local_count + place))
        (sym source_is ∙ got_left (held_from local_count left_count) given place (omega (arith, low, long)) ∙ held_at local_count left_count place low) in
        tells.uninit_stack place type value (entry_place place type kept.0 is_source kept.2) (value_was place value low is_value) is_site
    by (inr high) =
        let long = held_length local_count left_count in
        let long_also = values_long in
        let further : length (held_from local_count left_count) + (place - left_count) ≡ place = omega (arith, high, long) in
        let further_also : length lowest + (place - left_count) ≡ place = omega (arith, high, long_also) in
        moves.uninit_given (place - left_count) type kept.0 value
        (sym (got_right (held_from local_count left_count) given (place - left_count))
        ∙ ap (slice_get (held_from local_count left_count ++ given)) further ∙ source_is) kept.2 is_site
        (sym (got_right lowest moves.ones (place - left_count))
        ∙ ap (slice_get (lowest ++ moves.ones)) further_also
        ∙ ap (λ (values : List Value). slice_get values place) (sym moves.stack) ∙ is_value)

  -- ---- the whole

  -- the state behind the edge tells of the frame behind it
  pub tells_behind : Tells P s left frame target after then
  tells_behind = record {
    locals = λ unit site is.
        let fits = local_fits unit site is in
        let there = over.refer unit site fits.0 fits.1 fits.2 fits.3 in
        (there.0, there.1, refers_left site there.0 (present_local unit site is) there.2);
    stack = λ place site value is here.
        let was = entry_was place site is in
        refers_left site value (present_entry place site is) (tells.stack place site value was.was (value_was place value was.low here));
    uninit_locals = over.uninit;
    uninit_stack = uninit_entry;
    objects = object_left;
  }

  -- and the second frame keeps what it tells
  pub keeps_behind : KeepStack more (take left_count (stack_slots point before)) (take left_count (reverse f.stack)) moves.lower
      → Keeps s.flat names virtuals frame [] point before f g
      → Keeps s.flat more left frame [] target after then also
  keeps_behind lower keeps = record {
    locals = λ unit value is here. kept_local unit value is here;
    stack =
        subst (λ (values : List Value). KeepStack more (stack_slots target after) values (reverse also.stack)) (sym moves.stack)
        (subst (KeepStack more (stack_slots target after) (lowest ++ moves.ones)) (sym moves.stack_also)
        (subst (λ (slots : List Slot). KeepStack more slots (lowest ++ moves.ones) (moves.lower ++ moves.others)) (sym (stack_are leaves leads behind))
        (keep_join more (map as_read lowest_slots) (map (λ source. Plain) given) lowest moves.ones moves.lower moves.others (slots_long ∙ sym values_long)
        (keep_read more lowest_slots lowest moves.lower lower) (keep_plain more given moves.ones moves.others moves.same))));
    fields = λ site number told virtual value is there plain here.
        over.others site number value
        (keeps.fields site number told virtual value (was_object site told is) (was_kept frame frame site after virtuals virtual there) plain here);
    made = λ site done. absurd (false≢true done);
    room = over.room;
  } where
    kept_local : (unit : ℕ) (value : Value)
        → slice_get (local_slots target after) unit ≡ Some Plain
        → slice_get then.locals unit ≡ Some (Some value)
        → KeptIn more also unit value
    kept_local unit value is here = over.keep unit fits.type value fits.is_type fits.usable (fits.slot low) here where
      fits : FitsPlain target.typed.locals (edge_slots s at point before row) unit
      fits =
          fit_plain target.typed.locals (edge_slots s at point before row) unit
          (ap (λ (slots : List Slot). slice_get slots unit) (sym (locals_are leaves leads behind)) ∙ is)

      low : unit < length (edge_slots s at point before row)
      low =
          let within = slice_get_within target.typed.locals unit fits.type fits.is_type in
          let many = over.many in
          omega (arith, within, many)
