-- Rows of loads, stores and increments that are written as they are.
use Rattle.std.proofs.Common.{◌≡◌, ◌≢◌, ◌+◌, ◌-◌, ◌<◌, ◌≤◌, ℕ, zero, suc, Bool, List, [], ◌∷◌, ◌++◌, length, map, slice_get, Option, Some, None, refl, sym, ap, subst, ◌∙◌, inl, inr, arith}
use Rattle.std.specs.Prelude.{slice_set}
use Rattle.std.specs.List.{AllByRecursion}
use Rattle.std.proofs.lemmas.List.{length-map}
use Rattle.std.proofs.lemmas.Option.{none-some}
use Rattle.class_model.specs.declared.descriptor.Kind.{Kind}
use Rattle.class_model.specs.declared.descriptor.Kind.TheVariants as kinds
use Rattle.class_model.specs.declared.frame.Frame.{Frame}
use Rattle.class_model.specs.declared.frame.VType.{VType}
use Rattle.class_model.specs.declared.frame.VType.TheVariants as types
use Rattle.flow_code.specs.ReadTypes.{read_frame, read_type}
use Rattle.member_link.specs.RowScope.{RowScope}
use Rattle.member_link.specs.Rows.LocalRows.{HasRoom, HoldsKind, iinc_row, load_row, local_entry, store_row, stored}
use Rattle.member_link.specs.Rows.Operands.{AllFit, IsOfKind, lowest_of, of_kind, topmost}
use Rattle.plan_flow.specs.PlanRows.{from_place, no_change}
use Rattle.plan_flow.specs.PlanSlots.{held, slot_from, slots_from}
use Rattle.plan_flow.specs.PlanTable.{held_from, held_locals, moving, operand}
use Rattle.plan_flow.specs.PlanTable.{store_row as plan_store}
use Rattle.virtual_state.specs.States.{State}
use Rattle.virtual_state.specs.declared.slot.Slot.{Slot}
use Rattle.virtual_state.specs.declared.slot.Slot.TheVariants.{Plain, Virt, Unusable}
use Rattle.written_types.proofs.AgreeLists.{AgreeAt, AgreeEntry, agree_entry}
use Rattle.written_types.proofs.BlockEnds.{topmost_none}
use Rattle.written_types.proofs.Given.{type_in}
use Rattle.written_types.proofs.KeptRows.{Goes, cut_of, lowest_agrees}
use Rattle.written_types.proofs.NeedsKept.{fits_agreeing}
use Rattle.written_types.proofs.OperandRows.{Fit}
use Rattle.written_types.proofs.OwnUnits.{Own, have_long, own_at, own_cut, own_longer, own_stored, stored_all}
use Rattle.written_types.proofs.PlainOperands.{IsNone, not_virtual}
use Rattle.written_types.proofs.SiteFields.{SitesKnown}
use Rattle.written_types.proofs.SlotTypes.{item_before}
use Rattle.written_types.proofs.Standing.{all_at, all_dropped, kept_locals, local_has}
use Rattle.written_types.proofs.StandingFrames.{Cut, Stands, cut, held_plain, moved, operands_fit}
use Rattle.written_types.proofs.TwoUnits.{room_of_wide}
use Rattle.written_types.proofs.WrittenTypes.{by_item, entry_types, item_top, own_types}
use Rattle.written_types.specs.FitsTypes.{HasItsNew}
use Rattle.written_types.specs.Inner.CarriedFrames.{AgreeIn}
use Rattle.written_types.specs.Writing.{Writing, scope_in}

-- ---- lists

held_at : (w : Writing) (before : State) (first count number : ℕ) → number < count
    → slice_get (slots_from w.s before no_change (held_from first count)) number ≡ Some (held before (first + number))
held_at w before first zero number within = absurd (omega (arith, within))
held_at w before first (suc count) zero within = ap (λ (n : ℕ). Some (held before n)) (omega arith)
held_at w before first (suc count) (suc number) within =
    held_at w before (first + 1) count number (omega (arith, within)) ∙ ap (λ (n : ℕ). Some (held before n)) (omega arith)

within_of : (all : List VType) (number : ℕ) (type : VType) → slice_get all number ≡ Some type → number < length all
within_of [] number type is = absurd (none-some type is)
within_of (first ∷ all) zero type is = omega arith
within_of (first ∷ all) (suc number) type is = let rest = within_of all number type is in omega (arith, rest)

map_set : {A B : Type 0} (change : A → B) (items : List A) (number : ℕ) (item : A)
    → map change (slice_set items number item) ≡ slice_set (map change items) number (change item)
map_set change [] number item = refl
map_set change (first ∷ items) zero item = refl
map_set change (first ∷ items) (suc number) item = λ i. change first ∷ map_set change items number item i

held_usable : (w : Writing) (before : State) (first count : ℕ)
    → AllByRecursion (λ slot. slot ≢ Unusable) (slots_from w.s before no_change (held_from first count))
held_usable w before first zero = tt
held_usable w before first (suc count) = (usable (slice_get before.slots first) refl, held_usable w before (first + 1) count) where
  usable : (found : Option Slot) → slice_get before.slots first ≡ found → held before first ≢ Unusable
  usable None is same = let no : Plain ≡ Unusable = rw is at same in absurd cc
  usable (Some Plain) is same = let no : Plain ≡ Unusable = rw is at same in absurd cc
  usable (Some (Virt site)) is same = let no : Virt site ≡ Unusable = rw is at same in absurd cc
  usable (Some Unusable) is same = let no : Plain ≡ Unusable = rw is at same in absurd cc

room_within : (kind : Kind) (locals : List VType) (at : ℕ) → HasRoom kind locals at → at < length locals
room_within kinds.Int locals at room = omega (arith, room)
room_within kinds.Float locals at room = omega (arith, room)
room_within kinds.Ref locals at room = omega (arith, room)
room_within kinds.Long locals at room = omega (arith, room)
room_within kinds.Double locals at room = omega (arith, room)

more_room : (kind : Kind) (locals others : List VType) (at : ℕ) → length locals ≤ length others → HasRoom kind locals at → HasRoom kind others at
more_room kinds.Int locals others at more room = omega (arith, more, room)
more_room kinds.Float locals others at more room = omega (arith, more, room)
more_room kinds.Ref locals others at more room = omega (arith, more, room)
more_room kinds.Long locals others at more room = omega (arith, more, room)
more_room kinds.Double locals others at more room = omega (arith, more, room)

kind_not_top : (kind : Kind) → IsOfKind kind types.Top → ⊥
kind_not_top kinds.Int is = absurd cc
kind_not_top kinds.Long is = absurd cc
kind_not_top kinds.Float is = absurd cc
kind_not_top kinds.Double is = absurd cc
kind_not_top kinds.Ref is = is

-- ---- rows

module _ (w : Writing) (reached : ℕ → Bool) (f : Frame) (before : State) (rest : List VType) (g : Frame) (st : Stands w reached f before rest g)
    (known : SitesKnown w.s) (sc : RowScope) (same : (scope_in w).headers ≡ sc.headers) where
  abbrev rf : Frame
  rf = read_frame w.s.flat f

  locals_long : length rf.locals ≡ length f.locals
  locals_long = length-map f.locals (read_type w.s.flat)

  abbrev slots : List Slot
  slots = slots_from w.s before no_change (held_locals f)

  own : Own w rest g.locals rf.locals slots
  own = record { long = have_long w.s rf.locals slots (kept_locals w.s reached f before st.standing no_change); agree = st.locals }

  -- a plain local as it is written
  plain_local : (at : ℕ) (type : VType) → slice_get rf.locals at ≡ Some type → held before at ≡ Plain → AgreeEntry g.locals at (by_item w type)
  plain_local at type is plain =
      agree_entry g.locals (own_types w rf.locals slots ++ rest) at (by_item w type) st.locals
      (item_before (own_types w rf.locals slots) rest at (by_item w type)
      (own_at w rf.locals slots at type (held before at) is
      (held_at w before 0 (length f.locals) at (let low = within_of rf.locals at type is in omega (arith, low, locals_long)) ∙ from_none)
      ∙ ap (λ (slot : Slot). Some (by_item w (type_in type slot))) plain)) where
        from_none : Some (held before (0 + at)) ≡ Some (held before at)
        from_none = let here : 0 + at ≡ at = omega arith in ap (λ (n : ℕ). Some (held before n)) here

  holds : (kind : Kind) (at : ℕ) → held before at ≡ Plain → (h : HoldsKind kind rf.locals at)
      → (entry : AgreeEntry g.locals at (by_item w h.0)) × IsOfKind kind entry.type
  holds kind at plain h =
      let entry = plain_local at h.0 h.1 plain in (entry, fits_agreeing w sc (of_kind kind) h.0 entry.type tt h.2 entry.agrees)

  no_cut : Cut w f before g 0
  no_cut = cut w reached f before rest g st 0 (omega arith) (λ k less. absurd (omega (arith, less)))

  no_operands : AllFit (scope_in w) [] (topmost 0 g.stack)
  no_operands = subst (AllFit (scope_in w) []) (sym (topmost_none g.stack)) tt

  pub load_kept : (kind : Kind) (at : ℕ) → IsNone before at → HoldsKind kind rf.locals at
      → Goes w reached f before rest g st known sc same (moving f 0 (from_place at ∷ [])) (load_row rf kind at) (load_row g kind at)
  load_kept kind at none h =
      let plain = held_plain before at none in
      let there = holds kind at plain h in
      record {
        fits = record { operands = no_operands; local = (there.0.type, there.0.is, there.1); further = tt; access = tt };
        operands = no_cut.top;
        goes = refl;
        unchanged = refl;
        follows = λ goes. moved w reached f before rest g st (moving f 0 (from_place at ∷ [])) 0 (from_place at ∷ []) (local_entry rf.locals at)
            (local_entry g.locals at) refl refl no_cut (given plain there.0);
      } where
        given : held before at ≡ Plain → (entry : AgreeEntry g.locals at (by_item w h.0))
            → AgreeIn (local_entry g.locals at) (entry_types w (local_entry rf.locals at) (held before at ∷ []))
        given plain entry = rw (entry.is, h.1, plain) (entry.agrees, tt)

  pub iinc_kept : (at : ℕ) → HoldsKind kinds.Int rf.locals at
      → Goes w reached f before rest g st known sc same (moving f 0 []) (iinc_row rf at) (iinc_row g at)
  iinc_kept at h =
      let there = holds kinds.Int at (held_plain before at none) h in
      record {
        fits = record { operands = no_operands; local = (there.0.type, there.0.is, there.1); further = tt; access = tt };
        operands = no_cut.top;
        goes = refl;
        unchanged = refl;
        follows = λ goes. moved w reached f before rest g st (moving f 0 []) 0 [] [] [] refl refl no_cut tt;
      } where
        none : IsNone before at
        none site virtual =
            not_virtual w.s known sc (of_kind kinds.Int) h.0 (held before at) tt (local_has w.s reached f before st.standing at h.0 h.1) h.2 site virtual

  -- ---- a store

  -- the operand, by its type and as it is written
  record Stored (kind : Kind) : Type 0 where
    type : VType
    is_lowest : lowest_of 1 rf.stack ≡ type
    is_kind : IsOfKind kind type
    is_new : HasItsNew w.s reached type

  stored_value : (kind : Kind) → AllFit sc (of_kind kind ∷ []) (topmost 1 rf.stack) → Stored kind
  stored_value kind fit = by (topmost 1 rf.stack) refl fit where
    by : (entries : List VType) → topmost 1 rf.stack ≡ entries → AllFit sc (of_kind kind ∷ []) entries → Stored kind
    by [] are fits = absurd fits
    by (type ∷ entries) are fits = record {
      type = type;
      is_lowest = rw are refl;
      is_kind = fits.0;
      is_new = all_at (HasItsNew w.s reached) (topmost 1 rf.stack) 0 type
          (all_dropped (HasItsNew w.s reached) (length rf.stack - 1) rf.stack st.standing.stack) (ap (λ (l : List VType). slice_get l 0) are);
    }

  -- it is no uninitialised this
  item_not_this : (type : VType) → HasItsNew w.s reached type → by_item w type ≢ types.UninitThis
  item_not_this (types.Uninit at) new is = absurd cc
  item_not_this types.Top new is = absurd cc
  item_not_this types.Int new is = absurd cc
  item_not_this types.Float new is = absurd cc
  item_not_this types.Long new is = absurd cc
  item_not_this types.Double new is = absurd cc
  item_not_this types.Null new is = absurd cc
  item_not_this types.UninitThis new is = absurd new
  item_not_this (types.Object name) new is = absurd cc

  written_value : (kind : Kind) (value : Stored kind) → AgreeAt (lowest_of 1 g.stack) (by_item w (lowest_of 1 rf.stack))
      → lowest_of 1 g.stack ≡ by_item w value.type
  written_value kind value (inl top) =
      absurd (kind_not_top kind (subst (IsOfKind kind) (sym value.is_lowest ∙ item_top w (lowest_of 1 rf.stack) top) value.is_kind))
  written_value kind value (inr is) = is ∙ ap (by_item w) value.is_lowest

  pub store_kept : (kind : Kind) (at : ℕ) → IsNone before (operand f 0) → HasRoom kind rf.locals at → Fit sc rf (store_row rf kind at)
      → Goes w reached f before rest g st known sc same (plan_store f at) (store_row rf kind at) (store_row g kind at)
  store_kept kind at none room fit = record {
    fits = record {
      operands = operands_fit w reached f before rest g st sc same (of_kind kind ∷ []) (tt, tt) fit c;
      local = more_room kind rf.locals g.locals at longer room;
      further = tt;
      access = tt;
    };
    operands = c.top;
    goes = refl;
    unchanged = refl;
    follows = λ goes. record {
      locals = subst (λ (all : List Slot). AgreeIn (stored at (lowest_of 1 g.stack) g.locals) (own_types w (stored at (lowest_of 1 rf.stack) rf.locals) all ++ rest))
          (sym slots_are) after.agree;
      stack = (moved w reached f before rest g st (moving f 1 []) 1 [] [] [] refl refl c tt).stack;
      no_this = stored_this;
    };
  } where
    value : Stored kind
    value = stored_value kind fit

    c : Cut w f before g 1
    c = cut_of w reached f before rest g st known sc same (of_kind kind ∷ []) (inr none, tt) fit

    is_written : lowest_of 1 g.stack ≡ by_item w (lowest_of 1 rf.stack)
    is_written =
        written_value kind value (lowest_agrees w reached f before rest g st known sc same 1 c.top) ∙ ap (by_item w) (sym value.is_lowest)

    longer : length rf.locals ≤ length g.locals
    longer = own_longer w rest g.locals rf.locals slots own

    after : Own w rest (stored at (lowest_of 1 g.stack) g.locals) (stored at (lowest_of 1 rf.stack) rf.locals) (slice_set slots at Plain)
    after =
        own_stored w rest (lowest_of 1 g.stack) (lowest_of 1 rf.stack) at g.locals rf.locals slots is_written (room_within kind rf.locals at room)
        (λ wide. room_of_wide kind (lowest_of 1 rf.stack) rf.locals at (subst (IsOfKind kind) (sym value.is_lowest) value.is_kind) room wide)
        (own_cut w rest w.s at g.locals rf.locals slots (room_within kind rf.locals at room) (kept_locals w.s reached f before st.standing no_change)
        (held_usable w before 0 (length f.locals)) own)

    slots_are : slots_from w.s before no_change (slice_set (held_locals f) at (from_place (operand f 0))) ≡ slice_set slots at Plain
    slots_are =
        map_set (slot_from w.s before no_change) (held_locals f) at (from_place (operand f 0))
        ∙ ap (slice_set slots at) (held_plain before (operand f 0) none)

    stored_this : AllByRecursion (λ type. type ≢ types.UninitThis) (stored at (lowest_of 1 g.stack) g.locals)
    stored_this =
        stored_all (λ type. type ≢ types.UninitThis) at (lowest_of 1 g.stack) g.locals st.no_this (λ is. absurd cc)
        (λ is. item_not_this value.type value.is_new (ap (by_item w) (sym value.is_lowest) ∙ sym is_written ∙ is))
