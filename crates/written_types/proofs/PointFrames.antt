-- The frame before an instruction that is written as it is stands as that of its point, and the one behind agrees with what comes along its edges.
use Rattle.std.proofs.Common.{◌≡◌, ◌+◌, ℕ, zero, suc, Bool, true, false, List, [], ◌∷◌, ◌++◌, drop, length, map, replicate, slice_get, Some, refl, sym, ap, subst, ◌∙◌, inr, arith}
use Rattle.std.specs.List.{AllByRecursion, flat_map}
use Rattle.std.proofs.lemmas.Bool.{true≢false}
use Rattle.std.proofs.lemmas.List.{append_assoc, drop-map, length-map, map-append}
use Rattle.class_model.specs.Code.{verification_type}
use Rattle.class_model.specs.Descriptors.{parameter_units}
use Rattle.class_model.specs.Frames.{is_top, units}
use Rattle.class_model.specs.declared.descriptor.FieldType.{FieldType}
use Rattle.class_model.specs.declared.descriptor.FieldType.TheVariants as field_types
use Rattle.class_model.specs.declared.frame.Frame.{Frame}
use Rattle.class_model.specs.declared.frame.VType.{VType}
use Rattle.class_model.specs.declared.frame.VType.TheVariants as types
use Rattle.flow_code.specs.FlatCode.{FlatCode}
use Rattle.flow_code.specs.ReadTypes.{read_frame, read_type}
use Rattle.flow_code.specs.WrittenUnits.{greatest_depth}
use Rattle.flow_code.specs.declared.point.Point.{Point}
use Rattle.flow_code.specs.declared.point.Site.{Site}
use Rattle.making_code.specs.StateFrames.{field_types as unit_types, site_types_from}
use Rattle.plan_flow.specs.PlanRows.{PlanRow, no_change}
use Rattle.plan_flow.specs.PlanSlots.{held, readable, slots_from}
use Rattle.plan_flow.specs.PlanTable.{held_from, held_locals}
use Rattle.plan_flow.specs.Written.FramedCode.{frame_by_item}
use Rattle.virtual_state.specs.States.{State, is_present, is_unusable}
use Rattle.virtual_state.specs.declared.slot.Slot.{Slot}
use Rattle.virtual_state.specs.declared.slot.Slot.TheVariants.{Plain, Virt, Unusable}
use Rattle.virtual_state.specs.declared.slot.VObject.{VObject}
use Rattle.written_types.proofs.AgreeingFrames.{is_a_top}
use Rattle.written_types.proofs.Arrivals.{FitsPoint, begins}
use Rattle.written_types.proofs.Given.{entries_in, entries_with, frame_in_slots, locals_in, type_in, written_before}
use Rattle.written_types.proofs.Standing.{all_joined, item_of_dropped}
use Rattle.written_types.proofs.StandingFrames.{Follows, Stands, held_same}
use Rattle.written_types.proofs.WrittenTypes.{IsSteady, all_steady, by_item, own_types, steady_item}
use Rattle.written_types.specs.Inner.CarriedFrames.{AgreeIn, Agrees}
use Rattle.written_types.specs.Writing.{Writing}

-- ---- units behind those of the flat code

abbrev pub rest_of : FlatCode → List VObject → List VType
rest_of flat objects =
    site_types_from (record { slots = []; objects = objects }) 0 flat.sites
    ++ (replicate (length flat.sites) types.Top ++ replicate (greatest_depth flat.points) types.Top)

abbrev AreSteady : List VType → Type 0
AreSteady all = AllByRecursion IsSteady all

tops_steady : (count : ℕ) → AreSteady (replicate count types.Top)
tops_steady zero = tt
tops_steady (suc count) = (tt, tops_steady count)

units_steady : (type : FieldType) → AreSteady (units (verification_type type))
units_steady field_types.Byte = (tt, tt)
units_steady field_types.Char = (tt, tt)
units_steady field_types.Short = (tt, tt)
units_steady field_types.Bool = (tt, tt)
units_steady field_types.Int = (tt, tt)
units_steady field_types.Long = (tt, (tt, tt))
units_steady field_types.Float = (tt, tt)
units_steady field_types.Double = (tt, (tt, tt))
units_steady (field_types.Named name) = (tt, tt)

fields_steady : (all : List FieldType) → AreSteady (flat_map (λ type. units (verification_type type)) all)
fields_steady [] = tt
fields_steady (type ∷ all) = all_joined IsSteady (units (verification_type type)) _ (units_steady type) (fields_steady all)

site_steady : (present : Bool) (all : List FieldType) → AreSteady (unit_types present all)
site_steady true all = fields_steady all
site_steady false all = tops_steady (parameter_units all)

sites_steady : (state : State) (number : ℕ) (sites : List Site) → AreSteady (site_types_from state number sites)
sites_steady state number [] = tt
sites_steady state number (site ∷ sites) =
    all_joined IsSteady (unit_types (is_present state.objects number) site.fields) (site_types_from state (suc number) sites)
    (site_steady (is_present state.objects number) site.fields) (sites_steady state (suc number) sites)

pub rest_steady : (flat : FlatCode) (objects : List VObject) → AreSteady (rest_of flat objects)
rest_steady flat objects =
    all_joined IsSteady (site_types_from (record { slots = []; objects = objects }) 0 flat.sites)
    (replicate (length flat.sites) types.Top ++ replicate (greatest_depth flat.points) types.Top)
    (sites_steady (record { slots = []; objects = objects }) 0 flat.sites)
    (all_joined IsSteady (replicate (length flat.sites) types.Top) (replicate (greatest_depth flat.points) types.Top) (tops_steady (length flat.sites))
    (tops_steady (greatest_depth flat.points)))

locals_by_item : (w : Writing) (read : Frame) (slots entries : List Slot) (objects : List VObject)
    → map (by_item w) (frame_in_slots w.s.flat read slots entries objects).locals ≡ own_types w read.locals slots ++ rest_of w.s.flat objects
locals_by_item w read slots entries objects =
    ap (map (by_item w)) (append_assoc (own ++ sites) objects_units scratch ∙ append_assoc own sites (objects_units ++ scratch))
    ∙ map-append (by_item w) own (rest_of w.s.flat objects)
    ∙ ap (λ (rest : List VType). own_types w read.locals slots ++ rest) (all_steady w (rest_of w.s.flat objects) (rest_steady w.s.flat objects)) where
      own : List VType
      own = locals_in read.locals slots

      sites : List VType
      sites = site_types_from (record { slots = []; objects = objects }) 0 w.s.flat.sites

      objects_units : List VType
      objects_units = replicate (length w.s.flat.sites) types.Top

      scratch : List VType
      scratch = replicate (greatest_depth w.s.flat.points) types.Top

-- ---- what places hold

-- the slots of a state from a place on
abbrev From : State → ℕ → List Slot → Type 0
From before first slots = (n : ℕ) → slice_get before.slots (first + n) ≡ slice_get slots n

from_next : (before : State) (first : ℕ) (slot : Slot) (slots : List Slot) → From before first (slot ∷ slots) → From before (first + 1) slots
from_next before first slot slots from n =
    let next : first + 1 + n ≡ first + suc n = omega arith in ap (slice_get before.slots) next ∙ from (suc n)

from_here : (before : State) (first : ℕ) (slot : Slot) (slots : List Slot) → From before first (slot ∷ slots)
    → held before first ≡ readable (Some slot)
from_here before first slot slots from =
    let here : first ≡ first + 0 = omega arith in ap readable (ap (slice_get before.slots) here ∙ from 0)

first_same : {A : Type 0} (one other : A) (ones others : List A) → one ∷ ones ≡ other ∷ others → one ≡ other
first_same one other ones others is = cc

rest_same : {A : Type 0} (one other : A) (ones others : List A) → one ∷ ones ≡ other ∷ others → ones ≡ others
rest_same one other ones others is = cc

read_place : (flat : FlatCode) (type : VType) (slot : Slot) → is_unusable slot ≡ is_top type
    → type_in (read_type flat type) slot ≡ type_in (read_type flat type) (readable (Some slot))
read_place flat type Plain same = refl
read_place flat type (Virt site) same = refl
read_place flat type Unusable same = sym (ap (read_type flat) (is_a_top type (sym same)))

locals_held : (w : Writing) (before : State) (all : List VType) (slots : List Slot) (first : ℕ) (more : List Bool) → From before first slots
    → map is_unusable slots ≡ map is_top all ++ more
    → locals_in (map (read_type w.s.flat) all) slots
    ≡ locals_in (map (read_type w.s.flat) all) (slots_from w.s before no_change (held_from first (length all)))
locals_held w before [] slots first more from same = refl
locals_held w before (type ∷ all) [] first more from same = absurd cc
locals_held w before (type ∷ all) (slot ∷ slots) first more from same =
    ap (λ (t : VType). t ∷ locals_in (map (read_type w.s.flat) all) slots)
    (read_place w.s.flat type slot (first_same _ _ _ _ same)
    ∙ ap (type_in (read_type w.s.flat type)) (sym (from_here before first slot slots from)))
    ∙ ap (λ (rest : List VType). type_in (read_type w.s.flat type) (held before first) ∷ rest)
    (locals_held w before all slots (first + 1) more (from_next before first slot slots from) (rest_same _ _ _ _ same))

read_entry : (slot : Slot) → is_unusable slot ≡ false → slot ≡ readable (Some slot)
read_entry Plain usable = refl
read_entry (Virt site) usable = refl
read_entry Unusable usable = absurd (true≢false usable)

entries_held : (w : Writing) (before : State) (all : List VType) (slots : List Slot) (first : ℕ) → From before first slots
    → map is_unusable slots ≡ map (λ type. false) all
    → entries_in (map (read_type w.s.flat) all) slots
    ≡ entries_in (map (read_type w.s.flat) all) (slots_from w.s before no_change (held_from first (length all)))
entries_held w before [] slots first from same = refl
entries_held w before (type ∷ all) [] first from same = absurd cc
entries_held w before (type ∷ all) (slot ∷ slots) first from same =
    ap (λ (s : Slot). entries_with s (read_type w.s.flat type) (entries_in (map (read_type w.s.flat) all) slots))
    (read_entry slot (first_same _ _ _ _ same) ∙ sym (from_here before first slot slots from))
    ∙ ap (entries_with (held before first) (read_type w.s.flat type))
    (entries_held w before all slots (first + 1) (from_next before first slot slots from) (rest_same _ _ _ _ same))

drop_front : {A : Type 0} (left right : List A) → drop (length left) (left ++ right) ≡ right
drop_front [] right = refl
drop_front (first ∷ left) right = drop_front left right

-- ---- before and behind

module _ (w : Writing) (reached : ℕ → Bool) (at : ℕ) (point : Point) (before : State) (fits : FitsPoint w.s reached at point before) where
  abbrev f : Frame
  f = point.typed

  places : map is_unusable before.slots ≡ map is_top f.locals ++ map (λ type. false) f.stack
  places = fits.unusable

  stack_places : map is_unusable (drop (length f.locals) before.slots) ≡ map (λ type. false) f.stack
  stack_places =
      sym (drop-map is_unusable (length f.locals) before.slots)
      ∙ ap (drop (length f.locals)) places
      ∙ ap (λ (n : ℕ). drop n (map is_top f.locals ++ map (λ type. false) f.stack)) (sym (length-map f.locals is_top))
      ∙ drop_front (map is_top f.locals) (map (λ type. false) f.stack)

  pub stands_there : (frame : Frame) → Agrees frame (frame_by_item w.form w.blocks (written_before w point before))
      → Stands w reached f before (rest_of w.s.flat before.objects) frame
  stands_there frame agree = record {
    standing = begins fits;
    locals =
        subst (AgreeIn frame.locals)
        (locals_by_item w (read_frame w.s.flat f) before.slots (drop (length f.locals) before.slots) before.objects
        ∙ ap (λ (own : List VType). map (by_item w) own ++ rest_of w.s.flat before.objects)
        (locals_held w before f.locals before.slots 0 (map (λ type. false) f.stack) from_start places)) agree.locals;
    stack =
        subst (AgreeIn frame.stack)
        (ap (map (by_item w))
        (entries_held w before f.stack (drop (length f.locals) before.slots) (length f.locals)
        (λ n. sym (item_of_dropped (length f.locals) before.slots n)) stack_places)) agree.stack;
    no_this = agree.no_this;
    steady = rest_steady w.s.flat before.objects;
  } where
    from_start : (n : ℕ) → slice_get before.slots (0 + n) ≡ slice_get before.slots n
    from_start n = let same : 0 + n ≡ n = omega arith in ap (slice_get before.slots) same

-- what is left by a row
pub agrees_behind : (w : Writing) (before : State) (objects : List VObject) (p : PlanRow) (left behind : Frame)
    → Follows w before (rest_of w.s.flat objects) p left behind
    → Agrees behind (frame_by_item w.form w.blocks
    (frame_in_slots w.s.flat left (slots_from w.s before p.change p.locals) (slots_from w.s before p.change p.stack) objects))
agrees_behind w before objects p left behind follows = record {
  locals =
      subst (AgreeIn behind.locals)
      (sym (locals_by_item w left (slots_from w.s before p.change p.locals) (slots_from w.s before p.change p.stack) objects)) follows.locals;
  stack = follows.stack;
  no_this = follows.no_this;
}

-- what a handler begins with
pub agrees_caught : (w : Writing) (reached : ℕ → Bool) (f : Frame) (before : State) (objects : List VObject) (frame : Frame) (p : PlanRow) (caught : VType)
    → Stands w reached f before (rest_of w.s.flat objects) frame
    → IsSteady caught
    → Agrees (record { locals = frame.locals; stack = caught ∷ [] }) (frame_by_item w.form w.blocks
    (frame_in_slots w.s.flat (record { locals = (read_frame w.s.flat f).locals; stack = caught ∷ [] }) (slots_from w.s before p.change (held_locals f))
    (Plain ∷ []) objects))
agrees_caught w reached f before objects frame p caught st steady = record {
  locals =
      subst (AgreeIn frame.locals)
      (sym (locals_by_item w (record { locals = (read_frame w.s.flat f).locals; stack = caught ∷ [] }) (slots_from w.s before p.change (held_locals f))
      (Plain ∷ []) objects))
      (subst (λ (slots : List Slot). AgreeIn frame.locals (own_types w (read_frame w.s.flat f).locals slots ++ rest_of w.s.flat objects))
      (held_same w before no_change p.change 0 (length f.locals)) st.locals);
  stack = (inr (sym (steady_item w caught steady)), tt);
  no_this = st.no_this;
}
