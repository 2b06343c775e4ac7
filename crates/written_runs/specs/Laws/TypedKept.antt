-- What typing of the first run tells make code of a frame at a point, by a state that has the places of the point.
use Rattle.std.proofs.Common.{◌≡◌, ◌≢◌, ℕ, zero, suc, Bool, true, false, List, [], ◌∷◌, ◌++◌, ◌<◌, drop, get_or, length, map, reverse, slice_get, take, Option, Some, None, option_map, IsTrue, refl, sym, ap, subst, ◌∙◌, arith}
use Rattle.std.proofs.lemmas.Bool.{false≢true, true≢false}
use Rattle.std.proofs.lemmas.List.{length-map, length-reverse}
use Rattle.std.proofs.lemmas.Option.{none-some, same_Some, slice_get-get_or, slice_get-map, slice_get_within}
use Rattle.class_model.specs.Frames.{is_top}
use Rattle.class_model.specs.Laws.Lists.{at_index}
use Rattle.class_model.specs.declared.descriptor.FieldType.{FieldType}
use Rattle.class_model.specs.declared.frame.VType.{VType}
use Rattle.class_model.specs.declared.frame.VType.TheVariants.{Top, Int, Float, Long, Double, Null, UninitThis, Object, Uninit}
use Rattle.class_tree.specs.Headers.{Name, headers_of}
use Rattle.expanded_code.specs.CandidateSites.{IsSite}
use Rattle.flow_code.specs.declared.point.Point.{Point}
use Rattle.flow_code.specs.declared.point.Site.{Site}
use Rattle.machine_values.specs.Frames.{MethodState}
use Rattle.machine_values.specs.Heaps.{object_at}
use Rattle.machine_values.specs.Values.{has_kind, have_kinds, is_wide_value}
use Rattle.machine_values.specs.declared.frame.RunFrame.{RunFrame}
use Rattle.machine_values.specs.declared.frame.RunFrame.TheVariants.{Method}
use Rattle.machine_values.specs.declared.object.Object.{Object as RunObject}
use Rattle.machine_values.specs.declared.object.Shape.TheVariants.{Folder}
use Rattle.machine_values.specs.declared.value.Value.{Value}
use Rattle.machine_values.specs.declared.value.Value.TheVariants.{Null as NullValue}
use Rattle.making_code.specs.MakeCode.{kind_of_type}
use Rattle.member_link.specs.FieldConstructors.{field_types}
use Rattle.member_link.specs.Machine.Programs.{folder_number}
use Rattle.member_link.specs.Machine.Runs.{Run}
use Rattle.member_link.specs.Machine.Worlds.{World}
use Rattle.plan_flow.specs.PlanScope.{local_types, stack_types}
use Rattle.plan_flow.specs.Plans.{unusable_places}
use Rattle.plan_flow.specs.Written.WrittenPrograms.{WrittenMethod}
use Rattle.same_runs.specs.SameMemories.{StaysApart}
use Rattle.typed_runs.specs.TypedWorlds.{TypedWorld}
use Rattle.virtual_state.specs.Laws.Objects.{found_present, found_site}
use Rattle.virtual_state.specs.States.{State, is_present, is_unusable, object_of}
use Rattle.virtual_state.specs.declared.slot.Slot.{Slot}
use Rattle.virtual_state.specs.declared.slot.Slot.TheVariants.{Plain, Virt, Unusable}
use Rattle.virtual_state.specs.declared.slot.VObject.{VObject}
use Rattle.written_runs.specs.Inner.MadeObjects.{CanBeKept}
use Rattle.written_runs.specs.Inner.PlannedFrames.{Known, scope_in}
use Rattle.written_runs.specs.Inner.Setup.{IsSetup, Setup, first}
use Rattle.written_runs.specs.Inner.Standing.{apart}
use Rattle.written_runs.specs.Laws.Halfway.{Halfway}
use Rattle.written_runs.specs.Laws.LessVirtual.{one_owner}
use Rattle.written_runs.specs.Laws.WideLocals.{HasWideRoom}
use Rattle.written_runs.specs.VirtualObjects.{HasVirtual, TellsObject, Virtual, local_slots, stack_slots}
use Rattle.written_runs.specs.WrittenRuns.{IsReadyMethod}

-- what typing gives
pub record TypesEntries (u : Setup) : Type 0 where
  -- a frame at a point has as many stack entries as the point's type
  pub stacks : (one : World) (f : MethodState) (rest : List RunFrame) (w : WrittenMethod) (point : Point)
      → TypedWorld (first u) u.typings one
      → one.frames ≡ Method f ∷ rest
      → u.written f.at ≡ Some w
      → slice_get w.flat.points f.place ≡ Some point
      → length f.stack ≡ length point.typed.stack
  -- an entry has a value of the kind of its type, if that is not Top
  pub kinds : (one : World) (f : MethodState) (rest : List RunFrame) (w : WrittenMethod) (point : Point)
      → TypedWorld (first u) u.typings one
      → one.frames ≡ Method f ∷ rest
      → u.written f.at ≡ Some w
      → slice_get w.flat.points f.place ≡ Some point
      → (place : ℕ) (type : VType) (value : Value)
      → slice_get point.typed.stack place ≡ Some type
      → type ≢ Top
      → slice_get (reverse f.stack) place ≡ Some value
      → IsTrue (has_kind (kind_of_type type) value)
  -- behind a long or double that is typed so there is Top
  pub wide : (one : World) (f : MethodState) (rest : List RunFrame) (w : WrittenMethod) (point : Point)
      → TypedWorld (first u) u.typings one
      → one.frames ≡ Method f ∷ rest
      → u.written f.at ≡ Some w
      → slice_get w.flat.points f.place ≡ Some point
      → HasWideRoom point.typed.locals
      → (unit : ℕ) (type : VType) (value : Value)
      → slice_get point.typed.locals unit ≡ Some type
      → type ≢ Top
      → slice_get f.locals unit ≡ Some (Some value)
      → IsTrue (is_wide_value value)
      → slice_get point.typed.locals (suc unit) ≡ Some Top
  -- the values of an object are of the kinds of the fields of its class
  pub values : (one : World) (reference class : ℕ) (object : RunObject) (name : Name)
      → TypedWorld (first u) u.typings one
      → object_at one.memory.heap reference ≡ Some object
      → object.shape ≡ Folder class
      → folder_number (first u) name ≡ Some class
      → IsTrue (have_kinds (field_types (headers_of u.classes) name) object.values)

-- ---- the places of a state

-- a state has the places of a point
pub record HasPlaces (point : Point) (state : State) : Type 0 where
  pub are : map is_unusable state.slots ≡ map is_top point.typed.locals ++ map (λ (type : VType). false) point.typed.stack

-- as a plan says it
pub places_of : (u : Setup) (w : WrittenMethod) (at : ℕ) (point : Point) (state : State)
    → slice_get w.flat.points at ≡ Some point
    → map is_unusable state.slots ≡ unusable_places (scope_in u w) at
    → HasPlaces point state
places_of u w at point state is_point are = record { are = are ∙ same } where
  same : map is_top (local_types w.flat at) ++ map (λ (type : VType). false) (stack_types w.flat at)
      ≡ map is_top point.typed.locals ++ map (λ (type : VType). false) point.typed.stack
  same = rw (is_point) refl

-- flags of slots that stand in front of others
record CutFlags (slots : List Slot) (front back : List Bool) : Type 0 where
  pub front_is : map is_unusable (take (length front) slots) ≡ front
  pub back_is : map is_unusable (drop (length front) slots) ≡ back

cut_flags : (slots : List Slot) (front back : List Bool) → map is_unusable slots ≡ front ++ back → CutFlags slots front back
cut_flags slots [] back are = record { front_is = refl; back_is = are }
cut_flags [] (flag ∷ front) back are = absurd cc
cut_flags (slot ∷ slots) (flag ∷ front) back are =
    let rest = cut_flags slots front back (ap (drop 1) are) in
    record {
      front_is =
          ap (λ (flags : List Bool). flags ++ map is_unusable (take (length front) slots)) (ap (take 1) are)
          ∙ ap (λ (flags : List Bool). flag ∷ flags) rest.front_is;
      back_is = rest.back_is;
    }

top_is : (type : VType) → is_top type ≡ true → type ≡ Top
top_is Top is = refl
top_is Int is = absurd (false≢true is)
top_is Float is = absurd (false≢true is)
top_is Long is = absurd (false≢true is)
top_is Double is = absurd (false≢true is)
top_is Null is = absurd (false≢true is)
top_is UninitThis is = absurd (false≢true is)
top_is (Object name) is = absurd (false≢true is)
top_is (Uninit at) is = absurd (false≢true is)

unusable_is : (slot : Slot) → is_unusable slot ≡ true → slot ≡ Unusable
unusable_is Plain is = absurd (false≢true is)
unusable_is (Virt site) is = absurd (false≢true is)
unusable_is Unusable is = refl

module _ {point : Point} {state : State} (places : HasPlaces point state) where
  flags : CutFlags state.slots (map is_top point.typed.locals) (map (λ (type : VType). false) point.typed.stack)
  flags = cut_flags state.slots (map is_top point.typed.locals) (map (λ (type : VType). false) point.typed.stack) places.are

  as_long : length (map is_top point.typed.locals) ≡ length point.typed.locals
  as_long = length-map point.typed.locals is_top

  local_flags : map is_unusable (local_slots point state) ≡ map is_top point.typed.locals
  local_flags =
      ap (λ (n : ℕ). map is_unusable (take n state.slots)) (sym as_long) ∙ flags.front_is

  stack_flags : map is_unusable (stack_slots point state) ≡ map (λ (type : VType). false) point.typed.stack
  stack_flags =
      ap (λ (n : ℕ). map is_unusable (drop n state.slots)) (sym as_long) ∙ flags.back_is

  pub stack_length : length (stack_slots point state) ≡ length point.typed.stack
  stack_length =
      sym (length-map (stack_slots point state) is_unusable) ∙ ap (λ (flags : List Bool). length flags) stack_flags
      ∙ length-map point.typed.stack (λ (type : VType). false)

  pub stack_usable : (place : ℕ) → slice_get (stack_slots point state) place ≡ Some Unusable → ⊥
  stack_usable place is = none_true point.typed.stack place told where
    none_true : (types : List VType) (n : ℕ) → slice_get (map (λ (type : VType). false) types) n ≡ Some true → ⊥
    none_true [] n found = none-some true found
    none_true (type ∷ types) zero found = false≢true (same_Some false true found)
    none_true (type ∷ types) (suc n) found = none_true types n found

    told : slice_get (map (λ (type : VType). false) point.typed.stack) place ≡ Some true
    told =
        ap (λ (all : List Bool). slice_get all place) (sym stack_flags)
        ∙ slice_get-map is_unusable (stack_slots point state) place ∙ ap (option_map is_unusable) is

  -- the type of a plain local unit, and the slot of one that is typed Top
  pub local_type : (unit : ℕ) → slice_get (local_slots point state) unit ≡ Some Plain
      → (type : VType) × (slice_get point.typed.locals unit ≡ Some type) × (type ≢ Top)
  local_type unit is = by (slice_get point.typed.locals unit) refl where
    told : option_map is_top (slice_get point.typed.locals unit) ≡ Some false
    told =
        sym (slice_get-map is_top point.typed.locals unit) ∙ ap (λ (all : List Bool). slice_get all unit) (sym local_flags)
        ∙ slice_get-map is_unusable (local_slots point state) unit ∙ ap (option_map is_unusable) is

    by : (found : Option VType) → slice_get point.typed.locals unit ≡ found
        → (type : VType) × (slice_get point.typed.locals unit ≡ Some type) × (type ≢ Top)
    by None none = absurd (none-some false (sym (ap (option_map is_top) none) ∙ told))
    by (Some type) some = (
      type,
      some,
      λ top. true≢false (sym (ap is_top top) ∙ same_Some (is_top type) false (sym (ap (option_map is_top) some) ∙ told)),
    )

  pub local_unusable : (unit : ℕ) → slice_get point.typed.locals unit ≡ Some Top → slice_get (local_slots point state) unit ≡ Some Unusable
  local_unusable unit is = by (slice_get (local_slots point state) unit) refl where
    told : option_map is_unusable (slice_get (local_slots point state) unit) ≡ Some true
    told =
        sym (slice_get-map is_unusable (local_slots point state) unit) ∙ ap (λ (all : List Bool). slice_get all unit) local_flags
        ∙ slice_get-map is_top point.typed.locals unit ∙ ap (option_map is_top) is

    by : (found : Option Slot) → slice_get (local_slots point state) unit ≡ found → slice_get (local_slots point state) unit ≡ Some Unusable
    by None none = absurd (none-some true (sym (ap (option_map is_unusable) none) ∙ told))
    by (Some slot) some =
        some ∙ ap Some (unusable_is slot (same_Some (is_unusable slot) true (sym (ap (option_map is_unusable) some) ∙ told)))

-- a stack entry that a state has is there
pub entry_there : (point : Point) (state : State) (f : MethodState) (place : ℕ) (slot : Slot)
    → HasPlaces point state
    → length f.stack ≡ length point.typed.stack
    → slice_get (stack_slots point state) place ≡ Some slot
    → (value : Value) × (slice_get (reverse f.stack) place ≡ Some value)
entry_there point state f place slot places as_long is =
    (get_or (reverse f.stack) place NullValue, slice_get-get_or (reverse f.stack) place NullValue (omega (arith, within, slots, as_long, back))) where
      within : place < length (stack_slots point state)
      within = slice_get_within (stack_slots point state) place slot is

      slots : length (stack_slots point state) ≡ length point.typed.stack
      slots = stack_length places

      back : length (reverse f.stack) ≡ length f.stack
      back = length-reverse f.stack

-- ---- the whole

pub can_be_kept : {u : Setup} {one other : Run} {f : MethodState} {rest : List RunFrame} {w : WrittenMethod} {known : Known} {point : Point}
    {state : State} {place : ℕ}
    → IsSetup u
    → TypesEntries u
    → (h : Halfway u one other f rest w known point state place)
    → slice_get w.flat.points f.place ≡ Some point
    → HasPlaces point state
    → HasWideRoom point.typed.locals
    → CanBeKept w h.virtuals (length rest) point state f
can_be_kept {u = u} {one = one} {f = f} {rest = rest} {w = w} {point = point} {state = state} setup types h is_point places room = record {
  entries = types.stacks one.world f rest w point h.typed h.stands written is_point;
  slots = stack_length places;
  usable = stack_usable places;
  wide = λ unit value plain is is_wide.
      let type = local_type places unit plain in
      local_unusable places (suc unit)
      (types.wide one.world f rest w point h.typed h.stands written is_point room unit type.0 value type.1 type.2 is is_wide);
  kinds = kinds;
} where
  written : u.written f.at ≡ Some w
  written = ap u.written h.at ∙ h.is_written

  ready : IsReadyMethod u.classes u.links f.at w
  ready = setup.ready f.at w written

  there : (number : ℕ) (virtual : Virtual) → slice_get h.virtuals number ≡ Some virtual
      → object_at one.world.memory.heap virtual.reference ≡ Some virtual.object
  there number virtual is =
      (at_index (StaysApart h.names one.world.memory.heap) (apart h.virtuals) number (virtual.reference, virtual.object) h.memories.heaps.stays
      (slice_get-map (λ (v : Virtual). (v.reference, v.object)) h.virtuals number
      ∙ ap (option_map (λ (v : Virtual). (v.reference, v.object))) is)).there

  kinds : (number : ℕ) (site : Site) (virtual : Virtual)
      → slice_get w.flat.sites number ≡ Some site
      → HasVirtual h.virtuals (length rest) number virtual
      → IsTrue (have_kinds site.fields virtual.object.values)
  kinds number site virtual is_site has_it =
      subst (λ (fields : List FieldType). IsTrue (have_kinds fields virtual.object.values)) (sym fields_are)
      (types.values one.world virtual.reference t.class virtual.object site.class h.typed (there has_it.number virtual has_it.is_there)
      (ap (λ (v : Virtual). v.object.shape) (sym same_virtual) ∙ t.shape)
      (ap (λ (s : Site). folder_number (first u) s.class) (sym same_site) ∙ t.of_folder)) where
        found : (told : VObject) × (object_of state.objects number ≡ Some told)
        found =
            found_present state.objects number
            (subst (λ (n : ℕ). IsTrue (is_present state.objects n)) has_it.of_site
            (h.own has_it.number virtual has_it.is_there has_it.of_frame))

        is_of : found.0.site ≡ number
        is_of = found_site state.objects number found.0 found.1

        t : TellsObject (first u) (scope_in u w) h.virtuals (length rest) found.0
        t = h.tells.objects number found.0 found.1

        same_site : t.site ≡ site
        same_site = same_Some t.site site (sym t.is_site ∙ ap (slice_get w.flat.sites) is_of ∙ is_site)

        same_virtual : t.virtual ≡ virtual
        same_virtual =
            one_owner h.virtuals (length rest) number t.virtual virtual h.are_apart
            (subst (λ (n : ℕ). HasVirtual h.virtuals (length rest) n t.virtual) is_of t.has) has_it

        fields_are : site.fields ≡ field_types (headers_of u.classes) site.class
        fields_are = (at_index (IsSite u.classes w.flat) w.flat.sites number site ready.sites.sites is_site).fields
