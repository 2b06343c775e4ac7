-- The units of fields among the local units: where those of a field stand, and lists of units that end in no long or double.
use Rattle.std.proofs.Common.{◌≡◌, ◌+◌, ℕ, zero, suc, Bool, true, false, List, [], ◌∷◌, ◌++◌, length, map, replicate, slice_get, take, Some, refl, sym, ap, ◌∙◌, arith}
use Rattle.std.specs.List.{flat_map}
use Rattle.std.proofs.lemmas.List.{append_assoc, length-append, length-replicate}
use Rattle.std.proofs.lemmas.List.Sums.{sum_by-cons}
use Rattle.std.proofs.lemmas.Option.{none-some, same_Some}
use Rattle.class_model.specs.Code.{verification_type}
use Rattle.class_model.specs.Descriptors.{kind_of, parameter_units, units_of}
use Rattle.class_model.specs.Frames.{is_wide, units}
use Rattle.class_model.specs.declared.descriptor.FieldType.{FieldType}
use Rattle.class_model.specs.declared.descriptor.FieldType.TheVariants as field_types
use Rattle.class_model.specs.declared.frame.VType.{VType}
use Rattle.class_model.specs.declared.frame.VType.TheVariants as types
use Rattle.flow_code.specs.FlatCode.{FlatCode}
use Rattle.flow_code.specs.WrittenUnits.{field_units, greatest_depth}
use Rattle.flow_code.specs.declared.point.Site.{Site}
use Rattle.making_code.specs.StateFrames.{field_types as types_of_fields, site_types_from}
use Rattle.virtual_state.specs.States.{State, is_present}
use Rattle.virtual_state.specs.declared.slot.VObject.{VObject}
use Rattle.written_types.proofs.SlotFrames.{units_behind}
use Rattle.written_types.specs.FitsTypes.{HavePairs}

-- ---- lists that end in no long or double

abbrev pub EndsNarrow : List VType → Type 0
EndsNarrow [] = Unit {0}
EndsNarrow (type ∷ []) = is_wide type ≡ false
EndsNarrow (type ∷ next ∷ rest) = EndsNarrow (next ∷ rest)

pub narrow_both : (ones others : List VType) → EndsNarrow ones → EndsNarrow others → EndsNarrow (ones ++ others)
narrow_both [] others first second = second
narrow_both (type ∷ []) [] first second = first
narrow_both (type ∷ []) (other ∷ others) first second = second
narrow_both (type ∷ next ∷ rest) others first second = narrow_both (next ∷ rest) others first second

pub narrow_right : (ones others : List VType) (other : VType) → EndsNarrow (ones ++ (other ∷ others)) → EndsNarrow (other ∷ others)
narrow_right [] others other ends = ends
narrow_right (type ∷ []) others other ends = ends
narrow_right (type ∷ next ∷ rest) others other ends = narrow_right (next ∷ rest) others other ends

pub narrow_mapped : (change : VType → VType) → ((type : VType) → is_wide (change type) ≡ is_wide type) → (all : List VType) → EndsNarrow all
    → EndsNarrow (map change all)
narrow_mapped change same [] ends = tt
narrow_mapped change same (type ∷ []) ends = same type ∙ ends
narrow_mapped change same (type ∷ next ∷ rest) ends = narrow_mapped change same (next ∷ rest) ends

pub narrow_pairs : (all : List VType) → HavePairs all → EndsNarrow all
narrow_pairs [] pairs = tt
narrow_pairs (type ∷ []) pairs = by (is_wide type) refl where
  by : (b : Bool) → is_wide type ≡ b → is_wide type ≡ false
  by true wide = absurd (pairs.0 wide)
  by false narrow = narrow
narrow_pairs (type ∷ next ∷ rest) pairs = narrow_pairs (next ∷ rest) pairs.1

narrow_tops : (count : ℕ) → EndsNarrow (replicate count types.Top)
narrow_tops zero = tt
narrow_tops (suc zero) = refl
narrow_tops (suc (suc count)) = narrow_tops (suc count)

-- ---- the units of a field

abbrev pub units_for : FieldType → List VType
units_for type = units (verification_type type)

units_narrow : (type : FieldType) → EndsNarrow (units_for type)
units_narrow field_types.Byte = refl
units_narrow field_types.Char = refl
units_narrow field_types.Short = refl
units_narrow field_types.Bool = refl
units_narrow field_types.Int = refl
units_narrow field_types.Long = refl
units_narrow field_types.Float = refl
units_narrow field_types.Double = refl
units_narrow (field_types.Named name) = refl

pub units_long : (type : FieldType) → length (units_for type) ≡ units_of (kind_of type)
units_long field_types.Byte = refl
units_long field_types.Char = refl
units_long field_types.Short = refl
units_long field_types.Bool = refl
units_long field_types.Int = refl
units_long field_types.Long = refl
units_long field_types.Float = refl
units_long field_types.Double = refl
units_long (field_types.Named name) = refl

pub fields_narrow : (fields : List FieldType) → EndsNarrow (flat_map units_for fields)
fields_narrow [] = tt
fields_narrow (type ∷ fields) = narrow_both (units_for type) (flat_map units_for fields) (units_narrow type) (fields_narrow fields)

pub fields_long : (fields : List FieldType) → length (flat_map units_for fields) ≡ parameter_units fields
fields_long [] = refl
fields_long (type ∷ fields) =
    length-append (units_for type) (flat_map units_for fields)
    ∙ (λ i. units_long type i + fields_long fields i)
    ∙ sym (sum_by-cons (λ (t : FieldType). units_of (kind_of t)) type fields)

-- units before those of some, these, and the units behind
pub record UnitsAt (all middle : List VType) (place : ℕ) : Type 0 where
  pub left : List VType
  pub right : List VType
  pub is : all ≡ left ++ (middle ++ right)
  pub long : length left ≡ place
  pub narrow : EndsNarrow left

-- among those of the fields of a site
pub field_among : (fields : List FieldType) (number : ℕ) (type : FieldType) → slice_get fields number ≡ Some type
    → UnitsAt (flat_map units_for fields) (units_for type) (parameter_units (take number fields))
field_among [] number type is = absurd (none-some type is)
field_among (first ∷ fields) zero type is = record {
  left = [];
  right = flat_map units_for fields;
  is = ap (λ (t : FieldType). units_for t ++ flat_map units_for fields) (same_Some first type is);
  long = refl;
  narrow = tt;
}
field_among (first ∷ fields) (suc number) type is =
    let rest = field_among fields number type is in
    record {
      left = units_for first ++ rest.left;
      right = rest.right;
      is =
          ap (λ (all : List VType). units_for first ++ all) rest.is
          ∙ sym (append_assoc (units_for first) rest.left (units_for type ++ rest.right));
      long =
          length-append (units_for first) rest.left
          ∙ (λ i. units_long first i + rest.long i)
          ∙ sym (sum_by-cons (λ (t : FieldType). units_of (kind_of t)) first (take number fields));
      narrow = narrow_both (units_for first) rest.left (units_narrow first) rest.narrow;
    }

-- ---- the units of a site

abbrev pub bare : List VObject → State
bare objects = record { slots = []; objects = objects }

site_long : (b : Bool) (fields : List FieldType) → length (types_of_fields b fields) ≡ parameter_units fields
site_long true fields = fields_long fields
site_long false fields = length-replicate (parameter_units fields) types.Top

pub site_narrow_of : (b : Bool) (fields : List FieldType) → EndsNarrow (types_of_fields b fields)
site_narrow_of true fields = fields_narrow fields
site_narrow_of false fields = narrow_tops (parameter_units fields)

pub site_among : (objects : List VObject) (from : ℕ) (sites : List Site) (number : ℕ) (site : Site) → slice_get sites number ≡ Some site
    → UnitsAt (site_types_from (bare objects) from sites) (types_of_fields (is_present objects (from + number)) site.fields)
    (field_units (take number sites))
site_among objects from [] number site is = absurd (none-some site is)
site_among objects from (first ∷ sites) zero site is = record {
  left = [];
  right = site_types_from (bare objects) (suc from) sites;
  is =
      let here : from ≡ from + 0 = omega arith in
      (λ i. types_of_fields (is_present objects (here i)) (same_Some first site is i).fields ++ site_types_from (bare objects) (suc from) sites);
  long = refl;
  narrow = tt;
}
site_among objects from (first ∷ sites) (suc number) site is =
    let rest = site_among objects (suc from) sites number site is in
    let next : suc from + number ≡ from + suc number = omega arith in
    record {
      left = types_of_fields (is_present objects from) first.fields ++ rest.left;
      right = rest.right;
      is =
          ap (λ (all : List VType). types_of_fields (is_present objects from) first.fields ++ all)
          (rest.is ∙ ap (λ (n : ℕ). rest.left ++ (types_of_fields (is_present objects n) site.fields ++ rest.right)) next)
          ∙ sym (append_assoc (types_of_fields (is_present objects from) first.fields) rest.left
          (types_of_fields (is_present objects (from + suc number)) site.fields ++ rest.right));
      long =
          length-append (types_of_fields (is_present objects from) first.fields) rest.left
          ∙ (λ i. site_long (is_present objects from) first.fields i + rest.long i);
      narrow = narrow_both (types_of_fields (is_present objects from) first.fields) rest.left (site_narrow_of (is_present objects from) first.fields) rest.narrow;
    }

-- with the units of objects and of scratch behind
pub site_units : (flat : FlatCode) (objects : List VObject) (number : ℕ) (site : Site) → slice_get flat.sites number ≡ Some site
    → UnitsAt (units_behind flat objects) (types_of_fields (is_present objects number) site.fields) (field_units (take number flat.sites))
site_units flat objects number site is =
    let here = site_among objects 0 flat.sites number site is in
    let zeroth : 0 + number ≡ number = omega arith in
    record {
      left = here.left;
      right = here.right ++ (replicate (length flat.sites) types.Top ++ replicate (greatest_depth flat.points) types.Top);
      is =
          append_assoc (site_types_from (bare objects) 0 flat.sites) (replicate (length flat.sites) types.Top)
          (replicate (greatest_depth flat.points) types.Top)
          ∙ ap (λ (all : List VType). all ++ (replicate (length flat.sites) types.Top ++ replicate (greatest_depth flat.points) types.Top))
          (here.is ∙ ap (λ (n : ℕ). here.left ++ (types_of_fields (is_present objects n) site.fields ++ here.right)) zeroth)
          ∙ append_assoc here.left (types_of_fields (is_present objects number) site.fields ++ here.right)
          (replicate (length flat.sites) types.Top ++ replicate (greatest_depth flat.points) types.Top)
          ∙ ap (λ (rest : List VType). here.left ++ rest)
          (append_assoc (types_of_fields (is_present objects number) site.fields) here.right
          (replicate (length flat.sites) types.Top ++ replicate (greatest_depth flat.points) types.Top));
      long = here.long;
      narrow = here.narrow;
    }

-- those of a field of an object that is present
pub field_units_at : (flat : FlatCode) (objects : List VObject) (number : ℕ) (site : Site) (place : ℕ) (type : FieldType)
    → slice_get flat.sites number ≡ Some site
    → is_present objects number ≡ true
    → slice_get site.fields place ≡ Some type
    → UnitsAt (units_behind flat objects) (units_for type) (field_units (take number flat.sites) + parameter_units (take place site.fields))
field_units_at flat objects number site place type is there is_type =
    let whole = site_units flat objects number site is in
    let here = field_among site.fields place type is_type in
    record {
      left = whole.left ++ here.left;
      right = here.right ++ whole.right;
      is =
          whole.is
          ∙ ap (λ (all : List VType). whole.left ++ (all ++ whole.right)) (ap (λ (b : Bool). types_of_fields b site.fields) there ∙ here.is)
          ∙ ap (λ (all : List VType). whole.left ++ all)
          (append_assoc here.left (units_for type ++ here.right) whole.right
          ∙ ap (λ (all : List VType). here.left ++ all) (append_assoc (units_for type) here.right whole.right))
          ∙ sym (append_assoc whole.left here.left (units_for type ++ (here.right ++ whole.right)));
      long = length-append whole.left here.left ∙ (λ i. whole.long i + here.long i);
      narrow = narrow_both whole.left here.left whole.narrow here.narrow;
    }
