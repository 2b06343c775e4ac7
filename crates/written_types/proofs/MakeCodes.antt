-- Make code carries a frame that fits a state to one that fits the state without the objects that are made.
use Rattle.std.proofs.Common.{◌≡◌, ◌≢◌, ◌⊎◌, ◌+◌, ◌<◌, ◌≤◌, ℕ, zero, suc, Bool, true, false, List, [], ◌∷◌, ◌++◌, drop, length, map, replicate, take, slice_get, Option, Some, option_map, refl, sym, ap, subst, ◌∙◌, inl, inr, arith}
use Rattle.std.specs.List.{AllByRecursion}
use Rattle.std.proofs.lemmas.Bool.{false≢true}
use Rattle.std.proofs.lemmas.List.{length-append, length-replicate, map-append}
use Rattle.std.proofs.lemmas.Option.{none-some, same_Some, slice_get-map}
use Rattle.class_model.specs.Frames.{depth, is_top}
use Rattle.class_model.specs.declared.frame.Frame.{Frame}
use Rattle.class_model.specs.declared.frame.VType.{VType}
use Rattle.class_model.specs.declared.frame.VType.TheVariants as types
use Rattle.class_tree.specs.Headers.{Headers, headers_of}
use Rattle.flow_code.specs.ReadTypes.{read_type}
use Rattle.flow_code.specs.WrittenUnits.{greatest_depth}
use Rattle.flow_code.specs.declared.point.Point.{Point}
use Rattle.making_code.specs.Items.{item}
use Rattle.making_code.specs.StateFrames.{frame_in, local_types_from, type_of_slot}
use Rattle.member_link.specs.Assignability.{IsAssignable, from_null, of_names, to_same, to_top}
use Rattle.member_link.specs.Rows.FrameAssignability.{AreAssignable}
use Rattle.plan_flow.specs.PlanScope.{PlanScope, local_types, stack_types}
use Rattle.plan_flow.specs.Written.FramedCode.{type_by_item}
use Rattle.virtual_state.specs.Laws.Objects.{object_behind, object_first}
use Rattle.virtual_state.specs.Laws.Removals.{present_before}
use Rattle.virtual_state.specs.Sites.{has}
use Rattle.virtual_state.specs.States.{IsIncreasing, State, is_unusable, object_of, sites_of}
use Rattle.virtual_state.specs.Without.{made_plain, without}
use Rattle.virtual_state.specs.declared.slot.Slot.{Slot}
use Rattle.virtual_state.specs.declared.slot.Slot.TheVariants.{Plain, Virt, Unusable}
use Rattle.virtual_state.specs.declared.slot.VObject.{VObject}
use Rattle.written_types.proofs.AgreeingFrames.{keeps_no_this}
use Rattle.written_types.proofs.Arrivals.{fits_point, fits_types, made_fits, types_there}
use Rattle.written_types.proofs.Given.{CanMake, FitsState, Given, NoTops, NoTopsAbove, frame_at_state}
use Rattle.written_types.proofs.MadeStates.{agree_at, all_each, each_all, fields_agree}
use Rattle.written_types.proofs.MakingLocals.{Kept}
use Rattle.written_types.proofs.MakingPlaces.{MakeConstants}
use Rattle.written_types.proofs.MakingReload.{Lowest, lowest, object_fits}
use Rattle.written_types.proofs.MakingStack.{entries_by_item, entry_no_top, entry_type}
use Rattle.written_types.proofs.NoThis.{NotThis, by_item_not_this, new_not_this}
use Rattle.written_types.proofs.SlotTypes.{item_before, item_behind}
use Rattle.written_types.proofs.Standing.{all_at, item_at}
use Rattle.written_types.proofs.Starts.{scope_headers}
use Rattle.written_types.proofs.UnitTypes.{UnitTypes, assigned_at, assigned_each, field_region, own_region, units_left, units_typed}
use Rattle.written_types.specs.FitsTypes.{FitsTypes, HasItsNew, HasType, HavePairs, HaveTypes, is_reached}
use Rattle.written_types.specs.Writing.{Writing}

-- ---- lists

assigned_long : (headers : Headers) (lows highs : List VType) → AreAssignable headers lows highs → length lows ≡ length highs
assigned_long headers [] [] are = refl
assigned_long headers [] (high ∷ highs) are = absurd are
assigned_long headers (low ∷ lows) [] are = absurd are
assigned_long headers (low ∷ lows) (high ∷ highs) are = ap suc (assigned_long headers lows highs are.1)

mapped_long : {A B : Type 0} (change : A → B) (all : List A) → length (map change all) ≡ length all
mapped_long change [] = refl
mapped_long change (first ∷ all) = ap suc (mapped_long change all)

dropped_map : {A B : Type 0} (change : A → B) (count : ℕ) (all : List A) → drop count (map change all) ≡ map change (drop count all)
dropped_map change zero all = refl
dropped_map change (suc count) [] = refl
dropped_map change (suc count) (first ∷ all) = dropped_map change count all

pub taken_at : {A : Type 0} (count : ℕ) (all : List A) (n : ℕ) (item : A) → slice_get (take count all) n ≡ Some item → slice_get all n ≡ Some item
taken_at zero all n item is = absurd (none-some item is)
taken_at (suc count) [] n item is = absurd (none-some item is)
taken_at (suc count) (first ∷ all) zero item is = is
taken_at (suc count) (first ∷ all) (suc n) item is = taken_at count all n item is

pub taken_long : {A : Type 0} (count : ℕ) (all : List A) → count ≤ length all → length (take count all) ≡ count
taken_long zero all few = refl
taken_long (suc count) [] few = absurd (omega (arith, few))
taken_long (suc count) (first ∷ all) few = ap suc (taken_long count all (omega (arith, few)))

have_long : (s : PlanScope) (all : List VType) (slots : List Slot) → HaveTypes s all slots → length slots ≡ length all
have_long s [] [] have = refl
have_long s [] (slot ∷ slots) have = absurd have
have_long s (type ∷ all) [] have = absurd have
have_long s (type ∷ all) (slot ∷ slots) have = ap suc (have_long s all slots have.1)

have_behind : (s : PlanScope) (ones others : List VType) (slots : List Slot) → HaveTypes s (ones ++ others) slots → HaveTypes s others (drop (length ones) slots)
have_behind s [] others slots have = have
have_behind s (one ∷ ones) others [] have = absurd have
have_behind s (one ∷ ones) others (slot ∷ slots) have = have_behind s ones others slots have.1

pub have_at : (s : PlanScope) (all : List VType) (slots : List Slot) (unit : ℕ) (type : VType) → HaveTypes s all slots → slice_get all unit ≡ Some type
    → (slot : Slot) × (slice_get slots unit ≡ Some slot) × HasType s type slot
have_at s [] slots unit type have is = absurd (none-some type is)
have_at s (first ∷ all) [] unit type have is = absurd have
have_at s (first ∷ all) (slot ∷ slots) zero type have is = (slot, refl, subst (λ (t : VType). HasType s t slot) (same_Some first type is) have.0)
have_at s (first ∷ all) (slot ∷ slots) (suc unit) type have is = have_at s all slots unit type have.1 is

top_at : (count unit : ℕ) (type : VType) → slice_get (replicate count types.Top) unit ≡ Some type → types.Top ≡ type
top_at zero unit type is = absurd (none-some type is)
top_at (suc count) zero type is = same_Some types.Top type is
top_at (suc count) (suc unit) type is = top_at count unit type is

low_not_this : {headers : Headers} {low high : VType} → IsAssignable headers low high → high ≢ types.Top → NotThis high → NotThis low
low_not_this (to_same type) no_top not_this = not_this
low_not_this (to_top type) no_top not_this = absurd (no_top refl)
low_not_this (from_null name) no_top not_this = λ e. absurd cc
low_not_this (of_names low high names) no_top not_this = λ e. absurd cc

-- the objects of a state are found by their sites
pub all_found : (objects : List VObject) → IsIncreasing (sites_of objects) → AllByRecursion (λ object. object_of objects object.site ≡ Some object) objects
all_found [] order = tt
all_found (first ∷ objects) order = (object_first first objects first.site refl, behind objects order.0 (all_found objects order.1)) where
  behind : (others : List VObject) → AllByRecursion (λ other. first.site < other) (sites_of others)
      → AllByRecursion (λ object. object_of objects object.site ≡ Some object) others
      → AllByRecursion (λ object. object_of (first ∷ objects) object.site ≡ Some object) others
  behind [] above found = tt
  behind (other ∷ others) above found =
      let less = above.0 in
      (object_behind first objects other.site (λ same. absurd (omega (arith, same, less))) ∙ found.0, behind others above.1 found.1)

pub depth_within : (points : List Point) (number : ℕ) (point : Point) → slice_get points number ≡ Some point → depth point.typed.stack ≤ greatest_depth points
depth_within [] number point is = absurd (none-some point is)
depth_within (first ∷ points) zero point is =
    let same = ap (λ (p : Point). depth p.typed.stack) (same_Some first point is) in
    omega (arith, same)
depth_within (first ∷ points) (suc number) point is = let rest = depth_within points number point is in omega (arith, rest)

module _ (w : Writing) (given : Given w) (constants : MakeConstants w) (at : ℕ) (state : State) (made order : List ℕ)
    (can : CanMake w given at state made order) where
  abbrev pub reached : ℕ → Bool
  reached = is_reached given.setting.routes

  abbrev pub point : Point
  point = can.fits.point

  pub headers_same : w.host.headers ≡ headers_of w.s.classes
  headers_same = scope_headers w.s.classes w.s.flat.host w.host given.setting.ready.host

  pub widths : length point.typed.locals ≡ w.s.flat.locals
  widths = all_at (λ (p : Point). length p.typed.locals ≡ w.s.flat.locals) w.s.flat.points at point given.setting.for_plans.widths can.fits.there

  abbrev pub after : State
  after = without state (has made)

  after_fits : FitsTypes w.s reached at after
  after_fits = fits_types (made_fits (has made) (fits_point can.fits))

  slots_have : HaveTypes w.s (map (read_type w.s.flat) point.typed.locals ++ map (read_type w.s.flat) point.typed.stack) state.slots
  slots_have =
      subst (λ (all : List VType). HaveTypes w.s all state.slots) (map-append (read_type w.s.flat) point.typed.locals point.typed.stack) can.fits.slots

  pub slots_long : length point.typed.locals ≤ length state.slots
  slots_long =
      let long = have_long w.s _ state.slots slots_have in
      let both = length-append (map (read_type w.s.flat) point.typed.locals) (map (read_type w.s.flat) point.typed.stack) in
      let locals = mapped_long (read_type w.s.flat) point.typed.locals in
      omega (arith, long, both, locals)

  pub ut : UnitTypes w at point state
  ut = units_typed w at point state can.fits.there widths slots_long can.fits.written_pairs

  point_same : after_fits.point ≡ point
  point_same = same_Some after_fits.point point (sym after_fits.there ∙ can.fits.there)

  after_ut : UnitTypes w at point after
  after_ut =
      units_typed w at point after can.fits.there widths
      (let long = mapped_long (made_plain (has made)) state.slots in omega (arith, long, slots_long))
      (subst (λ (p : Point). HavePairs (local_types_from w.s.flat p.typed.locals after.slots)) point_same after_fits.written_pairs)

  region_in : (unit : ℕ) (type : VType) → slice_get (own_region w point state ++ field_region w state) unit ≡ Some type
      → slice_get (frame_at_state w at state).locals unit ≡ Some type
  region_in unit type is =
      ap (λ (all : List VType). slice_get all unit) ut.is
      ∙ item_before (own_region w point state ++ field_region w state) (replicate (units_left w.s.flat) types.Top) unit type is

  -- ---- before

  pub kept_first : (frame : Frame) → FitsState w frame at state → Kept w at point state made ut frame.locals (λ site. false) [] 0
  kept_first frame fits = record {
    long =
        let long = assigned_long w.host.headers frame.locals (frame_at_state w at state).locals fits.assignable.locals in
        let whole = ap length ut.is in
        let both = length-append (own_region w point state ++ field_region w state) (replicate (units_left w.s.flat) types.Top) in
        let tops = length-replicate (units_left w.s.flat) types.Top in
        let region = ut.long in
        omega (arith, long, whole, both, tops, region);
    no_this = λ unit type is. each_all NotThis frame.locals unit type fits.no_this is;
    has_region = λ unit type low here is.
        let found = assigned_at w.host.headers frame.locals (frame_at_state w at state).locals unit low fits.assignable.locals is in
        subst (IsAssignable w.host.headers low) (same_Some found.0 type (sym found.1 ∙ region_in unit type here)) found.2;
    made = λ site one now is_site. absurd (false≢true now);
    saved = tt;
    copied = λ unit site one less own slot taken is_site. absurd (omega (arith, less));
  }

  abbrev pub entries : List Slot
  entries = drop (length point.typed.locals) state.slots

  stack_is : (other : State) → (frame_at_state w at other).stack
      ≡ entries_by_item w point.typed.stack (drop (length point.typed.locals) other.slots)
  stack_is other = ap (λ (found : Option Point). map (type_by_item w.form w.blocks) (frame_in w.s.flat found other).stack) can.fits.there

  not_this_entries : (all : List VType) → AllByRecursion (HasItsNew w.s reached) (map (read_type w.s.flat) all)
      → AllByRecursion (λ type. NotThis (entry_type w type)) all
  not_this_entries [] new = tt
  not_this_entries (type ∷ all) new = (
    by_item_not_this w.form w.blocks (read_type w.s.flat type) (new_not_this w.s reached (read_type w.s.flat type) new.0),
    not_this_entries all new.1,
  )

  types_are : (local_types w.s.flat at ≡ point.typed.locals) × (stack_types w.s.flat at ≡ point.typed.stack)
  types_are = types_there w.s at point can.fits.there

  above : NoTopsAbove made point.typed.stack entries
  above =
      subst (λ (all : List VType). NoTopsAbove made all entries) types_are.1
      (subst (λ (all : List VType). NoTopsAbove made (stack_types w.s.flat at) (drop (length all) state.slots)) types_are.0 can.saves)

  entries_have : HaveTypes w.s (map (read_type w.s.flat) point.typed.stack) entries
  entries_have =
      subst (λ (n : ℕ). HaveTypes w.s (map (read_type w.s.flat) point.typed.stack) (drop n state.slots))
      (mapped_long (read_type w.s.flat) point.typed.locals)
      (have_behind w.s (map (read_type w.s.flat) point.typed.locals) (map (read_type w.s.flat) point.typed.stack) state.slots slots_have)

  abbrev pub Low : Frame → Type 0
  Low frame = Lowest w made headers_same 0 0 point.typed.stack entries frame.stack

  pub low_of : (frame : Frame) → FitsState w frame at state → Low frame
  low_of frame fits =
      lowest w made headers_same 0 0 point.typed.stack entries frame.stack above entries_have (not_this_entries point.typed.stack can.fits.stack)
      (subst (AreAssignable w.host.headers frame.stack) (stack_is state) fits.assignable.stack)

  pub saved_not_this : (all : List VType) (slots : List Slot) (tops : List VType) → AreAssignable w.host.headers tops (entries_by_item w all slots)
      → NoTops all slots
      → AllByRecursion (λ type. NotThis (entry_type w type)) all
      → AllByRecursion NotThis tops
  saved_not_this [] slots [] fits no_tops nots = tt
  saved_not_this [] slots (top ∷ tops) fits no_tops nots = absurd fits
  saved_not_this (type ∷ all) [] [] fits no_tops nots = tt
  saved_not_this (type ∷ all) [] (top ∷ tops) fits no_tops nots = absurd fits
  saved_not_this (type ∷ all) (Plain ∷ slots) [] fits no_tops nots = absurd fits
  saved_not_this (type ∷ all) (Plain ∷ slots) (top ∷ tops) fits no_tops nots = (
    low_not_this fits.0 (entry_no_top w type (no_tops.0 refl)) nots.0,
    saved_not_this all slots tops fits.1 no_tops.1 nots.1,
  )
  saved_not_this (type ∷ all) (Virt site ∷ slots) tops fits no_tops nots = saved_not_this all slots tops fits no_tops.1 nots.1
  saved_not_this (type ∷ all) (Unusable ∷ slots) tops fits no_tops nots = saved_not_this all slots tops fits no_tops.1 nots.1

  -- ---- behind

  pub slot_at : (unit : ℕ) (type : VType) → slice_get point.typed.locals unit ≡ Some type
      → (slot : Slot) × (slice_get state.slots unit ≡ Some slot) × HasType w.s (read_type w.s.flat type) slot
  slot_at unit type is =
      have_at w.s _ state.slots unit (read_type w.s.flat type) slots_have
      (item_before (map (read_type w.s.flat) point.typed.locals) (map (read_type w.s.flat) point.typed.stack) unit (read_type w.s.flat type)
      (slice_get-map (read_type w.s.flat) point.typed.locals unit ∙ ap (option_map (read_type w.s.flat)) is))

  pub unusable_at : (unit : ℕ) (type : VType) (slot : Slot) → slice_get point.typed.locals unit ≡ Some type → slice_get state.slots unit ≡ Some slot
      → is_unusable slot ≡ is_top type
  unusable_at unit type slot is has_slot =
      same_Some (is_unusable slot) (is_top type)
      (sym (slice_get-map is_unusable state.slots unit ∙ ap (option_map is_unusable) has_slot)
      ∙ ap (λ (all : List Bool). slice_get all unit) (can.fits.unusable
      ∙ ap (λ (all : List VType). map is_top all ++ map (λ one. false) (stack_types w.s.flat at)) types_are.0)
      ∙ item_before (map is_top point.typed.locals) (map (λ one. false) (stack_types w.s.flat at)) unit (is_top type)
      (slice_get-map is_top point.typed.locals unit ∙ ap (option_map is_top) is))

  module _ (frame : Frame) (fits : FitsState w frame at state) (locals : List VType) (done : ℕ → Bool)
      (all_done : (site : ℕ) → has made site ≡ true → done site ≡ true) (saves : List (ℕ × VType))
      (kept : Kept w at point state made ut locals done saves w.s.flat.locals) where
    own_unit : (unit : ℕ) (type low high : VType) (slot : Slot)
        → unit < w.s.flat.locals
        → slice_get point.typed.locals unit ≡ Some type
        → slice_get state.slots unit ≡ Some slot
        → HasType w.s (read_type w.s.flat type) slot
        → slice_get locals unit ≡ Some low
        → high ≡ type_by_item w.form w.blocks (type_of_slot w.s.flat type (made_plain (has made) slot))
        → IsAssignable w.host.headers low high
    own_unit unit type low high Plain less is has_slot typed is_low high_is =
        subst (IsAssignable w.host.headers low) (sym high_is)
        (kept.has_region unit _ low (item_before (own_region w point state) (field_region w state) unit _ (ut.own unit type Plain is has_slot)) is_low)
    own_unit unit type low high Unusable less is has_slot typed is_low high_is = subst (IsAssignable w.host.headers low) (sym high_is) (to_top low)
    own_unit unit type low high (Virt site) less is has_slot typed is_low high_is = by (has made site) refl where
      by : (b : Bool) → has made site ≡ b → IsAssignable w.host.headers low high
      by false stays =
          let top : high ≡ types.Top = high_is ∙ rw (stays) refl in
          subst (IsAssignable w.host.headers low) (sym top) (to_top low)
      by true taken =
          let plain_now : high ≡ entry_type w type = high_is ∙ rw (taken) refl in
          let object : types.Object typed.site.class ≡ low =
          same_Some (types.Object typed.site.class) low (sym (kept.copied unit site typed.site less less has_slot taken typed.there) ∙ is_low) in
          subst (IsAssignable w.host.headers low) (sym plain_now)
          (subst (λ (t : VType). IsAssignable w.host.headers t (entry_type w type)) object (object_fits w made headers_same type site typed))

    -- a unit below those of objects
    region_fits : (unit : ℕ) (low high : VType)
        → slice_get locals unit ≡ Some low
        → slice_get (own_region w point after ++ field_region w after) unit ≡ Some high
        → IsAssignable w.host.headers low high
    region_fits unit low high is_low is_high = by (split unit w.s.flat.locals) where
      split : (a b : ℕ) → (a < b) ⊎ ((more : ℕ) × (a ≡ b + more))
      split a zero = inr (a, omega arith)
      split zero (suc b) = inl (omega arith)
      split (suc a) (suc b) = of (split a b) where
        of : (a < b) ⊎ ((more : ℕ) × (a ≡ b + more)) → (suc a < suc b) ⊎ ((more : ℕ) × (suc a ≡ suc b + more))
        of (inl less) = inl (omega (arith, less))
        of (inr (more, is)) = inr (more, omega (arith, is))

      by : (unit < w.s.flat.locals) ⊎ ((more : ℕ) × (unit ≡ w.s.flat.locals + more)) → IsAssignable w.host.headers low high
      by (inl less) =
          let own_type = item_at point.typed.locals unit (omega (arith, less, widths)) in
          let slot = slot_at unit own_type.0 own_type.1 in
          own_unit unit own_type.0 low high slot.0 less own_type.1 slot.1 slot.2 is_low
          (sym (same_Some _ high
          (sym (item_before (own_region w point after) (field_region w after) unit _
          (after_ut.own unit own_type.0 (made_plain (has made) slot.0) own_type.1
          (slice_get-map (made_plain (has made)) state.slots unit ∙ ap (option_map (made_plain (has made))) slot.1)))
          ∙ is_high)))
      by (inr (more, is)) =
          of_field (agree_at (field_region w state) (field_region w after) more high
          (fields_agree w state after (λ site present. present_before (has made) state.objects site present)) field_high) where
            own_count : length (own_region w point state) ≡ w.s.flat.locals
            own_count = ut.own_long

            after_count : length (own_region w point after) ≡ w.s.flat.locals
            after_count = after_ut.own_long

            field_high : slice_get (field_region w after) more ≡ Some high
            field_high =
                sym (item_behind (own_region w point after) (field_region w after) more)
                ∙ ap (slice_get (own_region w point after ++ field_region w after)) (the_same (length (own_region w point after) + more) unit
                (omega (arith, after_count, is)))
                ∙ is_high where
                  the_same : (a b : ℕ) → a ≡ b → a ≡ b
                  the_same a b e = e

            of_field : (high ≡ types.Top) ⊎ (slice_get (field_region w state) more ≡ Some high) → IsAssignable w.host.headers low high
            of_field (inl top) = subst (IsAssignable w.host.headers low) (sym top) (to_top low)
            of_field (inr same) =
                kept.has_region unit high low
                (ap (slice_get (own_region w point state ++ field_region w state)) (the_same unit (length (own_region w point state) + more)
                (omega (arith, own_count, is)))
                ∙ item_behind (own_region w point state) (field_region w state) more
                ∙ same) is_low where
                  the_same : (a b : ℕ) → a ≡ b → a ≡ b
                  the_same a b e = e

    unit_fits : (unit : ℕ) (low high : VType)
        → slice_get locals unit ≡ Some low
        → slice_get (frame_at_state w at after).locals unit ≡ Some high
        → IsAssignable w.host.headers low high
    unit_fits unit low high is_low is_high = by (split_get region tops unit high (ap (λ (all : List VType). slice_get all unit) (sym after_ut.is) ∙ is_high)) where
      region : List VType
      region = own_region w point after ++ field_region w after

      tops : List VType
      tops = replicate (units_left w.s.flat) types.Top

      split_get : (ones others : List VType) (n : ℕ) (type : VType) → slice_get (ones ++ others) n ≡ Some type
          → (slice_get ones n ≡ Some type) ⊎ ((m : ℕ) × (slice_get others m ≡ Some type))
      split_get [] others n type is = inr (n, is)
      split_get (one ∷ ones) others zero type is = inl is
      split_get (one ∷ ones) others (suc n) type is = split_get ones others n type is

      by : (slice_get region unit ≡ Some high) ⊎ ((m : ℕ) × (slice_get tops m ≡ Some high)) → IsAssignable w.host.headers low high
      by (inl is) = region_fits unit low high is_low is
      by (inr (m, is)) = subst (IsAssignable w.host.headers low) (top_at (units_left w.s.flat) m high is) (to_top low)

    pub fits_after : (base new : List VType)
        → AreAssignable w.host.headers (base ++ new) (entries_by_item w point.typed.stack (map (made_plain (has made)) entries))
        → FitsState w (record { locals = locals; stack = base ++ new }) at after
    fits_after base new stack_fits = record {
      assignable = record {
        locals = assigned_each w.host.headers locals (frame_at_state w at after).locals
            (let long = kept.long in
            let whole = ap length after_ut.is in
            let both = length-append (own_region w point after ++ field_region w after) (replicate (units_left w.s.flat) types.Top) in
            let tops = length-replicate (units_left w.s.flat) types.Top in
            let region = after_ut.long in
            omega (arith, long, whole, both, tops, region)) unit_fits;
        stack = subst (AreAssignable w.host.headers (base ++ new))
            (sym (stack_is after ∙ ap (entries_by_item w point.typed.stack) (dropped_map (made_plain (has made)) (length point.typed.locals) state.slots)))
            stack_fits;
        keeps_this = keeps_no_this locals _ not_this;
      };
      no_this = not_this;
    } where
      not_this : AllByRecursion NotThis locals
      not_this = all_each NotThis locals kept.no_this
