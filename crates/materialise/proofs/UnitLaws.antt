-- Numbers of local units.
use Rattle.std.proofs.Common.{◌≡◌, ◌+◌, ◌≤◌, ℕ, zero, suc, min, List, [], ◌∷◌, ◌++◌, length, take, drop, slice_get, Some, None, refl, sym, ap, ◌∙◌, append_assoc, append-nil, arith}
use Rattle.std.proofs.lemmas.List.{drop_all}
use Rattle.std.proofs.lemmas.List.Sums.{sum_by-cons}
use Rattle.std.proofs.lemmas.Option.{none-some, same_Some}
use Rattle.class_model.specs.Descriptors.{kind_of, parameter_units, units_of}
use Rattle.class_model.specs.Laws.Lists.{drop_item}
use Rattle.class_model.specs.declared.descriptor.FieldType.{FieldType}
use Rattle.flow_code.specs.FlatCode.{FlatCode}
use Rattle.flow_code.specs.WrittenUnits.{field_units, written_units}
use Rattle.flow_code.specs.declared.point.Site.{Site}
use Rattle.making_code.specs.Units.{field_unit, fields_at, first_field_unit, unit_number}
use Rattle.materialise.specs.Inner.UnitWords.{first_units, kept_unit, units_at}

-- ---- the first units of the sites' fields

pub first_there : (unit : ℕ) (sites : List Site) (number one : ℕ)
    → slice_get (first_units unit sites) number ≡ Some one
    → one ≡ unit + field_units (take number sites)
first_there unit [] number one is = absurd (none-some one is)
first_there unit (site ∷ sites) zero one is = let same : unit ≡ one = same_Some unit one is in omega arith
first_there unit (site ∷ sites) (suc number) one is =
    let rest = first_there (unit + parameter_units site.fields) sites number one is in omega arith

pub first_past : (unit : ℕ) (sites : List Site) (number : ℕ)
    → slice_get (first_units unit sites) number ≡ None
    → field_units (take number sites) ≡ field_units sites
first_past unit [] zero is = refl
first_past unit [] (suc number) is = refl
first_past unit (site ∷ sites) zero is = absurd (none-some unit (sym is))
first_past unit (site ∷ sites) (suc number) is =
    ap (λ (units : ℕ). parameter_units site.fields + units) (first_past (unit + parameter_units site.fields) sites number is)

pub fewer_fields : (sites : List Site) (number : ℕ) → field_units (take number sites) ≤ field_units sites
fewer_fields [] zero = omega arith
fewer_fields [] (suc number) = omega arith
fewer_fields (site ∷ sites) zero = omega arith
fewer_fields (site ∷ sites) (suc number) = let rest = fewer_fields sites number in omega arith

-- ---- the units of fields, one after the other

-- the units of a first field and of the others
pub units_first_field : (type : FieldType) (fields : List FieldType) → parameter_units (type ∷ fields) ≡ units_of (kind_of type) + parameter_units fields
units_first_field type fields = sum_by-cons (λ (one : FieldType). units_of (kind_of one)) type fields

pub units_more : (fields : List FieldType) (number : ℕ)
    → parameter_units (take (suc number) fields) ≡ parameter_units (take number fields) + units_at fields number
units_more [] zero = refl
units_more [] (suc number) = refl
units_more (type ∷ fields) zero = refl
units_more (type ∷ fields) (suc number) =
    let rest = units_more fields number in
    let longer = units_first_field type (take (suc number) fields) in
    let shorter = units_first_field type (take number fields) in
    omega (arith, rest, longer, shorter)

pub min_twice : (a b : ℕ) → min (min a 65535 + b) 65535 ≡ min (a + b) 65535
min_twice a b = grind arith

pub few_min : (a : ℕ) → a ≤ 65535 → min a 65535 ≡ a
few_min a few = grind arith

pub next_kept : (flat : FlatCode) (site number : ℕ)
    → min (kept_unit flat (field_unit site number) + units_at (fields_at flat site) number) 65535
    ≡ kept_unit flat (field_unit site (suc number))
next_kept flat site number =
    min_twice (unit_number flat (field_unit site number)) (units_at (fields_at flat site) number)
    ∙ ap (λ (units : ℕ). min units 65535)
    (let more = units_more (fields_at flat site) number in
    let sum : (first_field_unit flat site + parameter_units (take number (fields_at flat site))) + units_at (fields_at flat site) number
    ≡ first_field_unit flat site + parameter_units (take (suc number) (fields_at flat site)) = omega arith in sum)

pub sites_fields : (flat : FlatCode) (site : ℕ) (one : Site) → slice_get flat.sites site ≡ Some one → fields_at flat site ≡ one.fields
sites_fields flat site one is = rw is refl

-- the first field's unit is kept as it is
pub first_kept : (flat : FlatCode) (site unit : ℕ) → written_units flat ≤ 65535 → unit ≡ first_field_unit flat site → unit ≡ kept_unit flat (field_unit site 0)
first_kept flat site unit few is =
    let low = fewer_fields flat.sites site in
    let fits : first_field_unit flat site + 0 ≤ 65535 = omega (arith, low, few) in
    let same : unit ≡ first_field_unit flat site + 0 = omega (arith, is) in
    same ∙ sym (few_min (first_field_unit flat site + 0) fits)

-- ---- loops

pub record HasUnits (first : ℕ) (sites : List Site) (units : List ℕ) (unit at : ℕ) : Type 0 where
  pub units_are : units ++ first_units unit (drop at sites) ≡ first_units first sites
  pub sum_is : unit + field_units (drop at sites) ≡ first + field_units sites

pub units_first : (first : ℕ) (sites : List Site) → HasUnits first sites [] first 0
units_first first sites = record { units_are = refl; sum_is = refl }

pub units_next : (first : ℕ) (sites : List Site) (units : List ℕ) (unit more at : ℕ) (site : Site)
    → slice_get sites at ≡ Some site
    → more ≡ unit + parameter_units site.fields
    → HasUnits first sites units unit at
    → HasUnits first sites (units ++ unit ∷ []) more (at + 1)
units_next first sites units unit more at site is adds so_far =
    let split = drop_item sites at site is in
    record {
      units_are =
          append_assoc units (unit ∷ []) (first_units more (drop (at + 1) sites))
          ∙ ap (λ (n : ℕ). units ++ unit ∷ first_units n (drop (at + 1) sites)) adds
          ∙ ap (λ (list : List Site). units ++ first_units unit list) (sym split)
          ∙ so_far.units_are;
      sum_is =
          let whole : field_units (drop at sites) ≡ parameter_units site.fields + field_units (drop (at + 1) sites) = ap field_units split in
          let sum = so_far.sum_is in
          omega (arith, whole, sum, adds);
    }

pub unit_fits : (first : ℕ) (sites : List Site) (units : List ℕ) (unit at : ℕ) (site : Site)
    → slice_get sites at ≡ Some site
    → first + field_units sites ≤ 65535
    → HasUnits first sites units unit at
    → unit + parameter_units site.fields ≤ 65535
unit_fits first sites units unit at site is few so_far =
    let whole : field_units (drop at sites) ≡ parameter_units site.fields + field_units (drop (at + 1) sites) = ap field_units (drop_item sites at site is) in
    let sum = so_far.sum_is in
    omega (arith, whole, sum, few)

pub units_all : (first : ℕ) (sites : List Site) (units : List ℕ) (unit at : ℕ)
    → length sites ≤ at
    → HasUnits first sites units unit at
    → (units ≡ first_units first sites) × (unit ≡ first + field_units sites)
units_all first sites units unit at end so_far =
    let none = drop_all at sites end in (
      sym (append-nil units) ∙ ap (λ (list : List Site). units ++ first_units unit list) (sym none) ∙ so_far.units_are,
      let zero_left : field_units (drop at sites) ≡ 0 = ap field_units none in let sum = so_far.sum_is in omega (arith, zero_left, sum),
    )

-- the units of fields, and of those that are left
pub record SumsUnits (fields : List FieldType) (units at : ℕ) : Type 0 where
  pub sum_is : units + parameter_units (drop at fields) ≡ parameter_units fields

pub sums_first : (fields : List FieldType) → SumsUnits fields 0 0
sums_first fields = record { sum_is = omega arith }

pub sums_next : (fields : List FieldType) (units more at : ℕ) (type : FieldType)
    → slice_get fields at ≡ Some type
    → more ≡ units + units_of (kind_of type)
    → SumsUnits fields units at
    → SumsUnits fields more (at + 1)
sums_next fields units more at type is adds so_far = record {
  sum_is =
      let whole : parameter_units (drop at fields) ≡ units_of (kind_of type) + parameter_units (drop (at + 1) fields) = ap parameter_units (drop_item fields at type is) ∙ units_first_field type (drop (at + 1) fields) in
      let sum = so_far.sum_is in
      omega (arith, whole, sum, adds);
}

pub sums_fit : (fields : List FieldType) (units at : ℕ) (type : FieldType)
    → slice_get fields at ≡ Some type
    → SumsUnits fields units at
    → units + units_of (kind_of type) ≤ parameter_units fields
sums_fit fields units at type is so_far =
    let whole : parameter_units (drop at fields) ≡ units_of (kind_of type) + parameter_units (drop (at + 1) fields) = ap parameter_units (drop_item fields at type is) ∙ units_first_field type (drop (at + 1) fields) in
    let sum = so_far.sum_is in
    omega (arith, whole, sum)

pub sums_all : (fields : List FieldType) (units at : ℕ) → length fields ≤ at → SumsUnits fields units at → units ≡ parameter_units fields
sums_all fields units at end so_far =
    let none : parameter_units (drop at fields) ≡ 0 = ap parameter_units (drop_all at fields end) in
    let sum = so_far.sum_is in
    omega (arith, none, sum)
