-- The local units of a state and those of the state without the objects that are made.
use Rattle.std.proofs.Common.{◌≡◌, ◌≢◌, ◌⊎◌, ◌+◌, ◌<◌, ◌≤◌, ℕ, zero, suc, Bool, true, false, List, [], ◌∷◌, ◌++◌, length, map, replicate, slice_get, Some, refl, sym, ap, subst, ◌∙◌, inl, inr}
use Rattle.std.specs.List.{AllByRecursion, flat_map}
use Rattle.std.proofs.lemmas.Bool.{false≢true}
use Rattle.std.proofs.lemmas.Option.{none-some, same_Some}
use Rattle.class_model.specs.Code.{verification_type}
use Rattle.class_model.specs.Descriptors.{parameter_units}
use Rattle.class_model.specs.Frames.{units}
use Rattle.class_model.specs.declared.descriptor.FieldType.{FieldType}
use Rattle.class_model.specs.declared.descriptor.FieldType.TheVariants as field_types
use Rattle.class_model.specs.declared.frame.VType.{VType}
use Rattle.class_model.specs.declared.frame.VType.TheVariants as types
use Rattle.flow_code.specs.ReadTypes.{read_type}
use Rattle.flow_code.specs.declared.point.Point.{Point}
use Rattle.flow_code.specs.declared.point.Site.{Site}
use Rattle.making_code.specs.StateFrames.{field_types as unit_types, local_types_from, site_types_from, type_of_slot}
use Rattle.plan_flow.specs.Written.Finish.{Finished}
use Rattle.plan_flow.specs.Written.FramedCode.{type_by_item}
use Rattle.plan_flow.specs.Written.WrittenCode.{Form, block_items, written_items}
use Rattle.virtual_state.specs.States.{State, is_present}
use Rattle.virtual_state.specs.declared.slot.Slot.{Slot}
use Rattle.virtual_state.specs.declared.slot.Slot.TheVariants.{Plain, Virt, Unusable}
use Rattle.written_types.proofs.AgreeingFrames.{agrees_with_itself}
use Rattle.written_types.proofs.EdgeFrames.{fields_long}
use Rattle.written_types.proofs.Given.{Given, IsOfNoNew}
use Rattle.written_types.proofs.NewStarts.{type_apart}
use Rattle.written_types.proofs.UnitTypes.{field_region, own_region}
use Rattle.written_types.specs.FitsTypes.{HasItsNew}
use Rattle.written_types.specs.Inner.CarriedFrames.{AgreeIn}
use Rattle.written_types.specs.Writing.{Writing}

-- ---- what each of a list is

pub all_each : (P : VType → Type 0) (all : List VType) → ((unit : ℕ) (type : VType) → slice_get all unit ≡ Some type → P type)
    → AllByRecursion P all
all_each P [] each = tt
all_each P (type ∷ all) each = (each 0 type refl, all_each P all (λ unit one is. each (suc unit) one is))

pub each_all : (P : VType → Type 0) (all : List VType) (unit : ℕ) (type : VType) → AllByRecursion P all → slice_get all unit ≡ Some type → P type
each_all P [] unit type have is = absurd (none-some type is)
each_all P (first ∷ all) zero type have is = subst P (same_Some first type is) have.0
each_all P (first ∷ all) (suc unit) type have is = each_all P all unit type have.1 is

pub all_of_both : (P : VType → Type 0) (ones others : List VType) → AllByRecursion P (ones ++ others) → AllByRecursion P ones × AllByRecursion P others
all_of_both P [] others have = (tt, have)
all_of_both P (one ∷ ones) others have = let rest = all_of_both P ones others have.1 in ((have.0, rest.0), rest.1)

-- ---- fields that are the same or Top

joined_agree : (ones others more rest : List VType) → AgreeIn ones others → AgreeIn more rest → AgreeIn (ones ++ more) (others ++ rest)
joined_agree [] [] more rest agree also = also
joined_agree [] (other ∷ others) more rest agree also = absurd agree
joined_agree (one ∷ ones) [] more rest agree also = absurd agree
joined_agree (one ∷ ones) (other ∷ others) more rest agree also = (agree.0, joined_agree ones others more rest agree.1 also)

tops_agree : (ones : List VType) (count : ℕ) → length ones ≡ count → AgreeIn ones (replicate count types.Top)
tops_agree [] zero long = tt
tops_agree [] (suc count) long = absurd cc
tops_agree (one ∷ ones) zero long = absurd cc
tops_agree (one ∷ ones) (suc count) long = let rest : length ones ≡ count = cc in (inl refl, tops_agree ones count rest)

units_agree : (low high : Bool) (all : List FieldType) → (high ≡ true → low ≡ true) → AgreeIn (unit_types low all) (unit_types high all)
units_agree true true all still = agrees_with_itself (unit_types true all)
units_agree false true all still = absurd (false≢true (still refl))
units_agree true false all still = tops_agree (unit_types true all) (parameter_units all) (fields_long all)
units_agree false false all still = agrees_with_itself (unit_types false all)

sites_agree : (low high : State) (number : ℕ) (sites : List Site)
    → ((site : ℕ) → is_present high.objects site ≡ true → is_present low.objects site ≡ true)
    → AgreeIn (site_types_from low number sites) (site_types_from high number sites)
sites_agree low high number [] still = tt
sites_agree low high number (site ∷ sites) still =
    joined_agree (unit_types (is_present low.objects number) site.fields) (unit_types (is_present high.objects number) site.fields)
    (site_types_from low (suc number) sites) (site_types_from high (suc number) sites)
    (units_agree (is_present low.objects number) (is_present high.objects number) site.fields (still number))
    (sites_agree low high (suc number) sites still)

agree_by_item : (form : Form) (blocks : List Finished) (ones others : List VType) → AgreeIn ones others
    → AgreeIn (map (type_by_item form blocks) ones) (map (type_by_item form blocks) others)
agree_by_item form blocks [] [] agree = tt
agree_by_item form blocks [] (other ∷ others) agree = absurd agree
agree_by_item form blocks (one ∷ ones) [] agree = absurd agree
agree_by_item form blocks (one ∷ ones) (other ∷ others) agree = (by agree.0, agree_by_item form blocks ones others agree.1) where
  by : (other ≡ types.Top) ⊎ (one ≡ other) → (type_by_item form blocks other ≡ types.Top) ⊎ (type_by_item form blocks one ≡ type_by_item form blocks other)
  by (inl top) = inl (ap (type_by_item form blocks) top)
  by (inr same) = inr (ap (type_by_item form blocks) same)

pub agree_at : (ones others : List VType) (unit : ℕ) (other : VType) → AgreeIn ones others → slice_get others unit ≡ Some other
    → (other ≡ types.Top) ⊎ (slice_get ones unit ≡ Some other)
agree_at [] [] unit other agree is = absurd (none-some other is)
agree_at [] (first ∷ others) unit other agree is = absurd agree
agree_at (one ∷ ones) [] unit other agree is = absurd agree
agree_at (one ∷ ones) (first ∷ others) zero other agree is = by agree.0 where
  by : (first ≡ types.Top) ⊎ (one ≡ first) → (other ≡ types.Top) ⊎ (slice_get (one ∷ ones) 0 ≡ Some other)
  by (inl top) = inl (sym (same_Some first other is) ∙ top)
  by (inr same) = inr (ap (λ (t : VType). Some t) same ∙ is)
agree_at (one ∷ ones) (first ∷ others) (suc unit) other agree is = agree_at ones others unit other agree.1 is

-- the units of fields of a state with fewer objects
pub fields_agree : (w : Writing) (low high : State)
    → ((site : ℕ) → is_present high.objects site ≡ true → is_present low.objects site ≡ true)
    → AgreeIn (field_region w low) (field_region w high)
fields_agree w low high still = agree_by_item w.form w.blocks _ _ (sites_agree low high 0 w.s.flat.sites still)

-- ---- no unit has an object of the block

module _ (w : Writing) (given : Given w) (reached : ℕ → Bool) (front behind : List Finished) (one : Finished)
    (is : w.blocks ≡ front ++ (one ∷ behind)) (no_new : IsOfNoNew w one) (number : ℕ)
    (low : length (written_items w.form front) ≤ number)
    (high : number < length (written_items w.form front) + length (block_items w.form one)) where
  abbrev Apart : VType → Type 0
  Apart type = type ≢ types.Uninit number

  top_apart : Apart types.Top
  top_apart = λ e. absurd cc

  locals_apart : (all : List VType) (slots : List Slot) → AllByRecursion (HasItsNew w.s reached) (map (read_type w.s.flat) all)
      → AllByRecursion Apart (map (type_by_item w.form w.blocks) (local_types_from w.s.flat all slots))
  locals_apart [] slots new = tt
  locals_apart (type ∷ all) [] new = tt
  locals_apart (type ∷ all) (slot ∷ slots) new = (by slot, locals_apart all slots new.1) where
    by : (slot : Slot) → Apart (type_by_item w.form w.blocks (type_of_slot w.s.flat type slot))
    by Plain = type_apart w given reached front behind one number type is no_new new.0 low high
    by (Virt site) = top_apart
    by Unusable = top_apart

  tops_apart : (count : ℕ) → AllByRecursion Apart (map (type_by_item w.form w.blocks) (replicate count types.Top))
  tops_apart zero = tt
  tops_apart (suc count) = (top_apart, tops_apart count)

  both_apart : (ones others : List VType) → AllByRecursion Apart (map (type_by_item w.form w.blocks) ones)
      → AllByRecursion Apart (map (type_by_item w.form w.blocks) others)
      → AllByRecursion Apart (map (type_by_item w.form w.blocks) (ones ++ others))
  both_apart [] others apart also = also
  both_apart (first ∷ ones) others apart also = (apart.0, both_apart ones others apart.1 also)

  type_units_apart : (type : FieldType) → AllByRecursion Apart (map (type_by_item w.form w.blocks) (units (verification_type type)))
  type_units_apart (field_types.Named name) = (λ e. absurd cc, tt)
  type_units_apart field_types.Bool = (λ e. absurd cc, tt)
  type_units_apart field_types.Byte = (λ e. absurd cc, tt)
  type_units_apart field_types.Char = (λ e. absurd cc, tt)
  type_units_apart field_types.Short = (λ e. absurd cc, tt)
  type_units_apart field_types.Int = (λ e. absurd cc, tt)
  type_units_apart field_types.Long = (λ e. absurd cc, (λ e. absurd cc, tt))
  type_units_apart field_types.Float = (λ e. absurd cc, tt)
  type_units_apart field_types.Double = (λ e. absurd cc, (λ e. absurd cc, tt))

  fields_apart : (present : Bool) (all : List FieldType) → AllByRecursion Apart (map (type_by_item w.form w.blocks) (unit_types present all))
  fields_apart true [] = tt
  fields_apart true (type ∷ all) =
      both_apart (units (verification_type type)) (flat_map (λ other. units (verification_type other)) all) (type_units_apart type)
      (fields_apart true all)
  fields_apart false all = tops_apart (parameter_units all)

  sites_apart : (state : State) (from : ℕ) (sites : List Site) → AllByRecursion Apart (map (type_by_item w.form w.blocks) (site_types_from state from sites))
  sites_apart state from [] = tt
  sites_apart state from (site ∷ sites) =
      both_apart (unit_types (is_present state.objects from) site.fields) (site_types_from state (suc from) sites)
      (fields_apart (is_present state.objects from) site.fields) (sites_apart state (suc from) sites)

  joined_apart : (ones others : List VType) → AllByRecursion Apart ones → AllByRecursion Apart others → AllByRecursion Apart (ones ++ others)
  joined_apart [] others apart also = also
  joined_apart (first ∷ ones) others apart also = (apart.0, joined_apart ones others apart.1 also)

  pub region_apart : (point : Point) (state : State) → AllByRecursion (HasItsNew w.s reached) (map (read_type w.s.flat) point.typed.locals)
      → (unit : ℕ) (type : VType) → slice_get (own_region w point state ++ field_region w state) unit ≡ Some type
      → Apart type
  region_apart point state new unit type there =
      each_all Apart (own_region w point state ++ field_region w state) unit type
      (joined_apart (own_region w point state) (field_region w state) (locals_apart point.typed.locals state.slots new)
      (sites_apart state 0 w.s.flat.sites)) there
