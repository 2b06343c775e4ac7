-- The types of the local units of written code at a typed point in a state: those of the flat code's units, and of fields; Top behind them.
use Rattle.std.proofs.Common.{◌≡◌, ◌+◌, ◌≤◌, ℕ, zero, suc, Bool, true, false, List, [], ◌∷◌, ◌++◌, length, map, replicate, take, Option, Some, option_map, slice_get, refl, sym, ap, subst, ◌∙◌, arith}
use Rattle.std.specs.List.{flat_map}
use Rattle.std.proofs.lemmas.Bool.{false≢true}
use Rattle.std.proofs.lemmas.List.{append_assoc, length-append, length-replicate, map-append}
use Rattle.std.proofs.lemmas.List.Sums.{sum_by-cons}
use Rattle.std.proofs.lemmas.Option.{none-some, same_Some, slice_get-map}
use Rattle.class_model.specs.Code.{verification_type}
use Rattle.class_model.specs.Descriptors.{kind_of, parameter_units, units_of}
use Rattle.class_model.specs.Frames.{is_wide, units}
use Rattle.class_model.specs.declared.descriptor.FieldType.{FieldType}
use Rattle.class_model.specs.declared.descriptor.FieldType.TheVariants as field_types
use Rattle.class_model.specs.declared.frame.VType.{VType}
use Rattle.class_model.specs.declared.frame.VType.TheVariants as types
use Rattle.class_tree.specs.Headers.{Headers}
use Rattle.flow_code.specs.FlatCode.{FlatCode, point_at}
use Rattle.flow_code.specs.WrittenUnits.{field_units, greatest_depth}
use Rattle.flow_code.specs.declared.point.Point.{Point}
use Rattle.flow_code.specs.declared.point.Site.{Site}
use Rattle.making_code.specs.StateFrames.{field_types as unit_types, frame_in, local_types_from, site_types_from, type_of_slot}
use Rattle.making_code.specs.Units.{field_unit, fields_at, first_object_unit, unit_number}
use Rattle.member_link.specs.Assignability.{IsAssignable}
use Rattle.member_link.specs.Rows.FrameAssignability.{AreAssignable}
use Rattle.plan_flow.specs.Written.Finish.{Finished}
use Rattle.plan_flow.specs.Written.FramedCode.{type_by_item}
use Rattle.plan_flow.specs.Written.WrittenCode.{Form}
use Rattle.virtual_state.specs.States.{State, is_present}
use Rattle.virtual_state.specs.declared.slot.Slot.{Slot}
use Rattle.written_types.proofs.EdgeFrames.{fields_long}
use Rattle.written_types.proofs.Entry.{both_tops}
use Rattle.written_types.proofs.Given.{frame_at_state}
use Rattle.written_types.proofs.SlotTypes.{item_before, item_behind}
use Rattle.written_types.proofs.TwoUnits.{mapped_pairs}
use Rattle.written_types.specs.FitsTypes.{BeginsWithTop, HavePairs}
use Rattle.written_types.specs.Writing.{Writing}

-- ---- pairs

-- behind a long or double is Top
pub paired_at : (all : List VType) (unit : ℕ) (type : VType) → HavePairs all → slice_get all unit ≡ Some type → is_wide type ≡ true
    → slice_get all (suc unit) ≡ Some types.Top
paired_at [] unit type pairs is wide = absurd (none-some type is)
paired_at (first ∷ all) zero type pairs is wide = by all (pairs.0 (ap is_wide (same_Some first type is) ∙ wide)) where
  by : (rest : List VType) → BeginsWithTop rest → slice_get (first ∷ rest) 1 ≡ Some types.Top
  by [] begins = absurd begins
  by (next ∷ rest) begins = ap (λ (t : VType). Some t) begins
paired_at (first ∷ all) (suc unit) type pairs is wide = paired_at all unit type pairs.1 is wide

pub both_paired : (ones others : List VType) → HavePairs ones → HavePairs others → HavePairs (ones ++ others)
both_paired [] others pairs also = also
both_paired (one ∷ []) others pairs also = (λ wide. absurd (pairs.0 wide), also)
both_paired (one ∷ next ∷ ones) others pairs also = (pairs.0, both_paired (next ∷ ones) others pairs.1 also)

pub tops_paired : (count : ℕ) → HavePairs (replicate count types.Top)
tops_paired zero = tt
tops_paired (suc count) = (λ wide. absurd (false≢true wide), tops_paired count)

type_paired : (type : FieldType) → HavePairs (units (verification_type type))
type_paired (field_types.Named name) = (λ wide. absurd (false≢true wide), tt)
type_paired field_types.Bool = (λ wide. absurd (false≢true wide), tt)
type_paired field_types.Byte = (λ wide. absurd (false≢true wide), tt)
type_paired field_types.Char = (λ wide. absurd (false≢true wide), tt)
type_paired field_types.Short = (λ wide. absurd (false≢true wide), tt)
type_paired field_types.Int = (λ wide. absurd (false≢true wide), tt)
type_paired field_types.Long = (λ wide. refl, (λ wide. absurd (false≢true wide), tt))
type_paired field_types.Float = (λ wide. absurd (false≢true wide), tt)
type_paired field_types.Double = (λ wide. refl, (λ wide. absurd (false≢true wide), tt))

units_paired : (present : Bool) (all : List FieldType) → HavePairs (unit_types present all)
units_paired true [] = tt
units_paired true (type ∷ all) =
    both_paired (units (verification_type type)) (flat_map (λ one. units (verification_type one)) all) (type_paired type) (units_paired true all)
units_paired false all = tops_paired (parameter_units all)

sites_paired : (state : State) (number : ℕ) (sites : List Site) → HavePairs (site_types_from state number sites)
sites_paired state number [] = tt
sites_paired state number (site ∷ sites) =
    both_paired (unit_types (is_present state.objects number) site.fields) (site_types_from state (suc number) sites)
    (units_paired (is_present state.objects number) site.fields) (sites_paired state (suc number) sites)

pub item_wide : (form : Form) (blocks : List Finished) (type : VType) → is_wide (type_by_item form blocks type) ≡ is_wide type
item_wide form blocks (types.Uninit at) = refl
item_wide form blocks (types.Object name) = refl
item_wide form blocks types.Top = refl
item_wide form blocks types.Int = refl
item_wide form blocks types.Float = refl
item_wide form blocks types.Long = refl
item_wide form blocks types.Double = refl
item_wide form blocks types.Null = refl
item_wide form blocks types.UninitThis = refl

-- ---- counts

units_count : (present : Bool) (all : List FieldType) → length (unit_types present all) ≡ parameter_units all
units_count true all = fields_long all
units_count false all = length-replicate (parameter_units all) types.Top

pub sites_count : (state : State) (number : ℕ) (sites : List Site) → length (site_types_from state number sites) ≡ field_units sites
sites_count state number [] = refl
sites_count state number (site ∷ sites) =
    length-append (unit_types (is_present state.objects number) site.fields) (site_types_from state (suc number) sites)
    ∙ ap (λ (n : ℕ). n + length (site_types_from state (suc number) sites)) (units_count (is_present state.objects number) site.fields)
    ∙ ap (λ (n : ℕ). parameter_units site.fields + n) (sites_count state (suc number) sites)

locals_count : (flat : FlatCode) (all : List VType) (slots : List Slot) → length all ≤ length slots → length (local_types_from flat all slots) ≡ length all
locals_count flat [] slots few = refl
locals_count flat (type ∷ all) [] few = absurd (omega (arith, few))
locals_count flat (type ∷ all) (slot ∷ slots) few = ap suc (locals_count flat all slots (omega (arith, few)))

-- ---- units of the flat code

pub local_at : (flat : FlatCode) (all : List VType) (slots : List Slot) (unit : ℕ) (type : VType) (slot : Slot)
    → slice_get all unit ≡ Some type
    → slice_get slots unit ≡ Some slot
    → slice_get (local_types_from flat all slots) unit ≡ Some (type_of_slot flat type slot)
local_at flat [] slots unit type slot is has = absurd (none-some type is)
local_at flat (first ∷ all) [] unit type slot is has = absurd (none-some slot has)
local_at flat (first ∷ all) (other ∷ slots) zero type slot is has =
    λ i. Some (type_of_slot flat (same_Some first type is i) (same_Some other slot has i))
local_at flat (first ∷ all) (other ∷ slots) (suc unit) type slot is has = local_at flat all slots unit type slot is has

-- ---- units of fields

type_units : (type : FieldType) → (more : List VType) × (units (verification_type type) ≡ verification_type type ∷ more)
type_units (field_types.Named name) = ([], refl)
type_units field_types.Bool = ([], refl)
type_units field_types.Byte = ([], refl)
type_units field_types.Char = ([], refl)
type_units field_types.Short = ([], refl)
type_units field_types.Int = ([], refl)
type_units field_types.Long = (types.Top ∷ [], refl)
type_units field_types.Float = ([], refl)
type_units field_types.Double = (types.Top ∷ [], refl)

type_count : (type : FieldType) → length (units (verification_type type)) ≡ units_of (kind_of type)
type_count (field_types.Named name) = refl
type_count field_types.Bool = refl
type_count field_types.Byte = refl
type_count field_types.Char = refl
type_count field_types.Short = refl
type_count field_types.Int = refl
type_count field_types.Long = refl
type_count field_types.Float = refl
type_count field_types.Double = refl

field_at : (all : List FieldType) (number : ℕ) (type : FieldType)
    → slice_get all number ≡ Some type
    → slice_get (flat_map (λ one. units (verification_type one)) all) (parameter_units (take number all)) ≡ Some (verification_type type)
field_at [] number type is = absurd (none-some type is)
field_at (first ∷ all) zero type is =
    let first_of = type_units type in
    ap (λ (one : FieldType). slice_get (units (verification_type one) ++ flat_map (λ one. units (verification_type one)) all) 0) (same_Some first type is)
    ∙ ap (λ (parts : List VType). slice_get (parts ++ flat_map (λ one. units (verification_type one)) all) 0) first_of.1
field_at (first ∷ all) (suc number) type is =
    ap (slice_get (units (verification_type first) ++ flat_map (λ one. units (verification_type one)) all))
    (sum_by-cons (λ (one : FieldType). units_of (kind_of one)) first (take number all)
    ∙ ap (λ (n : ℕ). n + parameter_units (take number all)) (sym (type_count first)))
    ∙ item_behind (units (verification_type first)) (flat_map (λ one. units (verification_type one)) all) (parameter_units (take number all))
    ∙ field_at all number type is

site_at : (state : State) (from : ℕ) (sites : List Site) (site : ℕ) (one : Site) (unit : ℕ) (type : VType)
    → slice_get sites site ≡ Some one
    → slice_get (unit_types (is_present state.objects (from + site)) one.fields) unit ≡ Some type
    → slice_get (site_types_from state from sites) (field_units (take site sites) + unit) ≡ Some type
site_at state from [] site one unit type is has = absurd (none-some one is)
site_at state from (first ∷ sites) zero one unit type is has =
    ap (slice_get (site_types_from state from (first ∷ sites))) (the_same (0 + unit) unit (omega arith))
    ∙ item_before (unit_types (is_present state.objects from) first.fields) (site_types_from state (suc from) sites) unit type
    (subst (λ (n : ℕ). slice_get (unit_types (is_present state.objects n) first.fields) unit ≡ Some type) (the_same (from + 0) from (omega arith))
    (subst (λ (x : Site). slice_get (unit_types (is_present state.objects (from + 0)) x.fields) unit ≡ Some type) (sym (same_Some first one is)) has))
  where
    the_same : (a b : ℕ) → a ≡ b → a ≡ b
    the_same a b e = e
site_at state from (first ∷ sites) (suc site) one unit type is has =
    ap (slice_get (site_types_from state from (first ∷ sites)))
    (the_same (parameter_units first.fields + field_units (take site sites) + unit)
    (length (unit_types (is_present state.objects from) first.fields) + (field_units (take site sites) + unit))
    (let long = units_count (is_present state.objects from) first.fields in omega (arith, long)))
    ∙ item_behind (unit_types (is_present state.objects from) first.fields) (site_types_from state (suc from) sites) (field_units (take site sites) + unit)
    ∙ site_at state (suc from) sites site one unit type is
    (subst (λ (n : ℕ). slice_get (unit_types (is_present state.objects n) one.fields) unit ≡ Some type)
    (the_same (from + suc site) (suc from + site) (omega arith)) has)
  where
    the_same : (a b : ℕ) → a ≡ b → a ≡ b
    the_same a b e = e

-- a field's type is no uninitialised one
field_by_item : (form : Form) (blocks : List Finished) (type : FieldType) → type_by_item form blocks (verification_type type) ≡ verification_type type
field_by_item form blocks (field_types.Named name) = refl
field_by_item form blocks field_types.Bool = refl
field_by_item form blocks field_types.Byte = refl
field_by_item form blocks field_types.Char = refl
field_by_item form blocks field_types.Short = refl
field_by_item form blocks field_types.Int = refl
field_by_item form blocks field_types.Long = refl
field_by_item form blocks field_types.Float = refl
field_by_item form blocks field_types.Double = refl

-- ---- the units of a state

abbrev pub field_region : Writing → State → List VType
field_region w state = map (type_by_item w.form w.blocks) (site_types_from state 0 w.s.flat.sites)

abbrev pub own_region : Writing → Point → State → List VType
own_region w point state = map (type_by_item w.form w.blocks) (local_types_from w.s.flat point.typed.locals state.slots)

-- the number of units behind those of fields
abbrev pub units_left : FlatCode → ℕ
units_left flat = length flat.sites + greatest_depth flat.points

pub record UnitTypes (w : Writing) (at : ℕ) (point : Point) (state : State) : Type 0 where
  pub is : (frame_at_state w at state).locals
      ≡ (own_region w point state ++ field_region w state) ++ replicate (units_left w.s.flat) types.Top
  pub own_long : length (own_region w point state) ≡ w.s.flat.locals
  pub long : length (own_region w point state ++ field_region w state) ≡ first_object_unit w.s.flat
  pub pairs : HavePairs (own_region w point state ++ field_region w state)
  pub own : (unit : ℕ) (type : VType) (slot : Slot)
      → slice_get point.typed.locals unit ≡ Some type
      → slice_get state.slots unit ≡ Some slot
      → slice_get (own_region w point state) unit ≡ Some (type_by_item w.form w.blocks (type_of_slot w.s.flat type slot))
  pub field : (site number : ℕ) (one : Site) (type : FieldType)
      → slice_get w.s.flat.sites site ≡ Some one
      → is_present state.objects site ≡ true
      → slice_get one.fields number ≡ Some type
      → slice_get (own_region w point state ++ field_region w state) (unit_number w.s.flat (field_unit site number)) ≡ Some (verification_type type)

pub units_typed : (w : Writing) (at : ℕ) (point : Point) (state : State)
    → point_at w.s.flat at ≡ Some point
    → length point.typed.locals ≡ w.s.flat.locals
    → length point.typed.locals ≤ length state.slots
    → HavePairs (local_types_from w.s.flat point.typed.locals state.slots)
    → UnitTypes w at point state
units_typed w at point state there widths few pairs = record {
  is =
      ap (λ (found : Option Point). map by_item (frame_in w.s.flat found state).locals) there
      ∙ map-append by_item (own ++ fields ++ replicate (length w.s.flat.sites) types.Top) (replicate (greatest_depth w.s.flat.points) types.Top)
      ∙ (λ i. (map-append by_item (own ++ fields) (replicate (length w.s.flat.sites) types.Top) ∙ (λ j. map-append by_item own fields j
      ++ tops_by_item (length w.s.flat.sites) j)) i ++ tops_by_item (greatest_depth w.s.flat.points) i)
      ∙ append_assoc (map by_item own ++ map by_item fields) (replicate (length w.s.flat.sites) types.Top)
      (replicate (greatest_depth w.s.flat.points) types.Top)
      ∙ ap (λ (rest : List VType). (map by_item own ++ map by_item fields) ++ rest)
      (both_tops (length w.s.flat.sites) (greatest_depth w.s.flat.points));
  own_long = own_count;
  long = length-append (map by_item own) (map by_item fields)
      ∙ (λ i. own_count i + (mapped_long by_item fields ∙ sites_count state 0 w.s.flat.sites) i);
  pairs = both_paired (map by_item own) (map by_item fields)
      (mapped_pairs by_item (item_wide w.form w.blocks) refl own pairs)
      (mapped_pairs by_item (item_wide w.form w.blocks) refl fields (sites_paired state 0 w.s.flat.sites));
  own = λ unit type slot is has.
      slice_get-map by_item own unit ∙ ap (option_map by_item) (local_at w.s.flat point.typed.locals state.slots unit type slot is has);
  field = λ site number one type is present has.
      ap (slice_get (map by_item own ++ map by_item fields)) (unit_is site number one is)
      ∙ item_behind (map by_item own) (map by_item fields) (field_units (take site w.s.flat.sites) + parameter_units (take number one.fields))
      ∙ slice_get-map by_item fields (field_units (take site w.s.flat.sites) + parameter_units (take number one.fields))
      ∙ ap (option_map by_item)
      (site_at state 0 w.s.flat.sites site one (parameter_units (take number one.fields)) (verification_type type) is
      (subst (λ (b : Bool). slice_get (unit_types b one.fields) (parameter_units (take number one.fields)) ≡ Some (verification_type type))
      (sym (ap (is_present state.objects) (the_same (0 + site) site (omega arith)) ∙ present)) (field_at one.fields number type has)))
      ∙ ap (λ (t : VType). Some t) (field_by_item w.form w.blocks type);
} where
  the_same : (a b : ℕ) → a ≡ b → a ≡ b
  the_same a b e = e

  by_item : VType → VType
  by_item = type_by_item w.form w.blocks

  own : List VType
  own = local_types_from w.s.flat point.typed.locals state.slots

  fields : List VType
  fields = site_types_from state 0 w.s.flat.sites

  mapped_long : (change : VType → VType) (all : List VType) → length (map change all) ≡ length all
  mapped_long change [] = refl
  mapped_long change (type ∷ all) = ap suc (mapped_long change all)

  own_count : length (map by_item own) ≡ w.s.flat.locals
  own_count = mapped_long by_item own ∙ locals_count w.s.flat point.typed.locals state.slots few ∙ widths

  tops_by_item : (count : ℕ) → map by_item (replicate count types.Top) ≡ replicate count types.Top
  tops_by_item zero = refl
  tops_by_item (suc count) = ap (λ (rest : List VType). types.Top ∷ rest) (tops_by_item count)

  unit_is : (site number : ℕ) (one : Site) → slice_get w.s.flat.sites site ≡ Some one
      → unit_number w.s.flat (field_unit site number)
      ≡ length (map by_item own) + (field_units (take site w.s.flat.sites) + parameter_units (take number one.fields))
  unit_is site number one is =
      let fields_is : fields_at w.s.flat site ≡ one.fields = rw (is) refl in
      ap (λ (all : List FieldType). w.s.flat.locals + field_units (take site w.s.flat.sites) + parameter_units (take number all)) fields_is
      ∙ (let long = own_count in the_same _ _ (omega (arith, long)))

-- ---- by unit, and as lists

pub assigned_at : (headers : Headers) (lows highs : List VType) (unit : ℕ) (low : VType)
    → AreAssignable headers lows highs
    → slice_get lows unit ≡ Some low
    → (high : VType) × (slice_get highs unit ≡ Some high) × IsAssignable headers low high
assigned_at headers [] highs unit low are is = absurd (none-some low is)
assigned_at headers (first ∷ lows) [] unit low are is = absurd are
assigned_at headers (first ∷ lows) (high ∷ highs) zero low are is =
    (high, refl, subst (λ (t : VType). IsAssignable headers t high) (same_Some first low is) are.0)
assigned_at headers (first ∷ lows) (high ∷ highs) (suc unit) low are is = assigned_at headers lows highs unit low are.1 is

pub assigned_each : (headers : Headers) (lows highs : List VType)
    → length lows ≡ length highs
    → ((unit : ℕ) (low high : VType) → slice_get lows unit ≡ Some low → slice_get highs unit ≡ Some high → IsAssignable headers low high)
    → AreAssignable headers lows highs
assigned_each headers [] [] long each = tt
assigned_each headers [] (high ∷ highs) long each = absurd cc
assigned_each headers (low ∷ lows) [] long each = absurd cc
assigned_each headers (low ∷ lows) (high ∷ highs) long each =
    let rest : length lows ≡ length highs = cc in
    (each 0 low high refl refl, assigned_each headers lows highs rest (λ unit one other is also. each (suc unit) one other is also))
