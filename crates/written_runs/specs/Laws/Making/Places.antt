-- The local units of written code do not overlap, so that what is stored in one leaves the values in the others.
use Rattle.std.proofs.Common.{◌≡◌, ◌⊎◌, inl, inr, ◌+◌, ◌≤◌, ◌<◌, ℕ, zero, suc, List, [], ◌∷◌, length, take, slice_get, Some, refl, sym, ap, arith}
use Rattle.std.proofs.lemmas.List.Sums.{sum_by-cons}
use Rattle.std.proofs.lemmas.Option.{none-some, same_Some}
use Rattle.class_model.specs.Descriptors.{kind_of, parameter_units, units_of}
use Rattle.class_model.specs.declared.descriptor.FieldType.{FieldType}
use Rattle.class_model.specs.declared.descriptor.Kind.{Kind}
use Rattle.class_model.specs.declared.descriptor.Kind.TheVariants as kinds
use Rattle.flow_code.specs.FlatCode.{FlatCode}
use Rattle.flow_code.specs.WrittenUnits.{field_units}
use Rattle.flow_code.specs.declared.point.Site.{Site}
use Rattle.machine_values.specs.declared.value.Value.{Value}
use Rattle.making_code.specs.Units.{WUnit, field_unit, fields_at, first_field_unit, first_object_unit, object_unit, own, scratch, unit_number}
use Rattle.member_link.specs.Machine.Locals.{width_of}
use Rattle.same_runs.specs.Laws.Stored.{IsClear, equal_or}

-- ---- what fits

-- a field of a site
pub record IsFieldAt (flat : FlatCode) (site number : ℕ) (type : FieldType) : Type 0 where
  pub one : Site
  pub is_site : slice_get flat.sites site ≡ Some one
  pub is_type : slice_get one.fields number ≡ Some type

-- a value is no wider than its unit
pub data FitsUnit (flat : FlatCode) (value : Value) : WUnit → Type 0 where
  fits_own : {unit : ℕ} → unit + width_of value ≤ flat.locals → FitsUnit flat value (own unit)
  fits_field : {site number : ℕ} (type : FieldType)
      → IsFieldAt flat site number type
      → width_of value ≤ units_of (kind_of type)
      → FitsUnit flat value (field_unit site number)
  fits_object : {site : ℕ} → site < length flat.sites → width_of value ≡ 1 → FitsUnit flat value (object_unit site)
  fits_scratch : {below : ℕ} → FitsUnit flat value (scratch below)

-- units with values that differ
abbrev pub AreOther : WUnit → Value → WUnit → Value → Type 0
AreOther (own unit) value (own other) also =
    (unit + width_of value ≤ other) ⊎ (other + width_of also ≤ unit)
AreOther (field_unit site number) value (field_unit other another) also = site ≡ other → number ≡ another → ⊥
AreOther (object_unit site) value (object_unit other) also = site ≡ other → ⊥
AreOther (scratch below) value (scratch other) also =
    (below + width_of value ≤ other) ⊎ (other + width_of also ≤ below)
AreOther unit value other also = Unit {0}

-- a kind takes one unit or two
pub narrow_kind : (kind : Kind) → 1 ≤ units_of kind
narrow_kind kinds.Int = omega arith
narrow_kind kinds.Long = omega arith
narrow_kind kinds.Float = omega arith
narrow_kind kinds.Double = omega arith
narrow_kind kinds.Ref = omega arith

-- ---- units of fields

params_cons : (type : FieldType) (types : List FieldType) → parameter_units (type ∷ types) ≡ units_of (kind_of type) + parameter_units types
params_cons type types = sum_by-cons (λ (t : FieldType). units_of (kind_of t)) type types

params_next : (types : List FieldType) (number : ℕ) (type : FieldType) → slice_get types number ≡ Some type
    → parameter_units (take (suc number) types) ≡ parameter_units (take number types) + units_of (kind_of type)
params_next [] number type is = absurd (none-some type is)
params_next (first ∷ types) zero type is =
    let same : units_of (kind_of first) ≡ units_of (kind_of type) = ap (λ (t : FieldType). units_of (kind_of t)) (same_Some first type is) in
    omega (arith, same)
params_next (first ∷ types) (suc number) type is =
    let rest = params_next types number type is in
    let one : parameter_units (take (suc (suc number)) (first ∷ types)) ≡ units_of (kind_of first) + parameter_units (take (suc number) types) =
    params_cons first (take (suc number) types) in
    let other : parameter_units (take (suc number) (first ∷ types)) ≡ units_of (kind_of first) + parameter_units (take number types) =
    params_cons first (take number types) in
    omega (arith, rest, one, other)

params_more : (types : List FieldType) (few more : ℕ) → few ≤ more → parameter_units (take few types) ≤ parameter_units (take more types)
params_more [] zero more low = omega arith
params_more [] (suc few) zero low = omega arith
params_more [] (suc few) (suc more) low = omega arith
params_more (first ∷ types) zero more low = omega arith
params_more (first ∷ types) (suc few) zero low = absurd (omega (arith, low))
params_more (first ∷ types) (suc few) (suc more) low =
    let rest = params_more types few more (omega (arith, low)) in
    let one : parameter_units (take (suc few) (first ∷ types)) ≡ units_of (kind_of first) + parameter_units (take few types) =
    params_cons first (take few types) in
    let other : parameter_units (take (suc more) (first ∷ types)) ≡ units_of (kind_of first) + parameter_units (take more types) =
    params_cons first (take more types) in
    omega (arith, rest, one, other)

params_all : (types : List FieldType) (few : ℕ) → parameter_units (take few types) ≤ parameter_units types
params_all [] zero = omega arith
params_all [] (suc few) = omega arith
params_all (first ∷ types) zero = omega arith
params_all (first ∷ types) (suc few) =
    let rest = params_all types few in
    let one : parameter_units (take (suc few) (first ∷ types)) ≡ units_of (kind_of first) + parameter_units (take few types) =
    params_cons first (take few types) in
    let other : parameter_units (first ∷ types) ≡ units_of (kind_of first) + parameter_units types = params_cons first types in
    omega (arith, rest, one, other)

sites_next : (sites : List Site) (number : ℕ) (one : Site) → slice_get sites number ≡ Some one
    → field_units (take (suc number) sites) ≡ field_units (take number sites) + parameter_units one.fields
sites_next [] number one is = absurd (none-some one is)
sites_next (first ∷ sites) zero one is =
    let same : parameter_units first.fields ≡ parameter_units one.fields = ap (λ (s : Site). parameter_units s.fields) (same_Some first one is) in
    omega (arith, same)
sites_next (first ∷ sites) (suc number) one is =
    let rest = sites_next sites number one is in omega (arith, rest)

sites_more : (sites : List Site) (few more : ℕ) → few ≤ more → field_units (take few sites) ≤ field_units (take more sites)
sites_more [] zero more low = omega arith
sites_more [] (suc few) zero low = omega arith
sites_more [] (suc few) (suc more) low = omega arith
sites_more (first ∷ sites) zero more low = omega arith
sites_more (first ∷ sites) (suc few) zero low = absurd (omega (arith, low))
sites_more (first ∷ sites) (suc few) (suc more) low =
    let rest = sites_more sites few more (omega (arith, low)) in omega (arith, rest)

sites_all : (sites : List Site) (few : ℕ) → field_units (take few sites) ≤ field_units sites
sites_all [] zero = omega arith
sites_all [] (suc few) = omega arith
sites_all (first ∷ sites) zero = omega arith
sites_all (first ∷ sites) (suc few) = let rest = sites_all sites few in omega (arith, rest)

-- where the units of a field are: among those of its site, which are among those of all
pub record FieldBounds (flat : FlatCode) (site number wide : ℕ) : Type 0 where
  pub first : ℕ
  pub starts : first ≡ unit_number flat (field_unit site number)
  pub low : first_field_unit flat site ≤ first
  pub high : first + wide ≤ first_field_unit flat (suc site)
  pub ends : first_field_unit flat (suc site) ≤ first_object_unit flat
  pub begins : flat.locals ≤ first_field_unit flat site

pub field_bounds : (flat : FlatCode) (site number : ℕ) (type : FieldType) → IsFieldAt flat site number type
    → FieldBounds flat site number (units_of (kind_of type))
field_bounds flat site number type is = record {
  first = first_field_unit flat site + parameter_units (take number is.one.fields);
  starts = ap (λ (fields : List FieldType). first_field_unit flat site + parameter_units (take number fields)) (sym fields_are);
  low = omega arith;
  high =
      let next = sites_next flat.sites site is.one is.is_site in
      let here = params_next is.one.fields number type is.is_type in
      let all = params_all is.one.fields (suc number) in
      omega (arith, next, here, all);
  ends = let all = sites_all flat.sites (suc site) in omega (arith, all);
  begins = omega arith;
} where
  fields_are : fields_at flat site ≡ is.one.fields
  fields_are = rw (is.is_site) refl

-- two fields of one site, the first before the second
before_in : (flat : FlatCode) (site number other : ℕ) (type : FieldType) → IsFieldAt flat site number type → number < other
    → unit_number flat (field_unit site number) + units_of (kind_of type) ≤ unit_number flat (field_unit site other)
before_in flat site number other type is less =
    let here = params_next is.one.fields number type is.is_type in
    let more = params_more is.one.fields (suc number) other (omega (arith, less)) in
    rw (is.is_site) (omega (arith, here, more))

-- ---- units that differ do not overlap

less_or : (n m : ℕ) → (n ≡ m → ⊥) → (n < m) ⊎ (m < n)
less_or n m differ = grind (arith, differ)

pub clear : (flat : FlatCode) (x y : WUnit) (value also : Value) → FitsUnit flat value x → FitsUnit flat also y → AreOther x value y also
    → IsClear (unit_number flat x) value (unit_number flat y) (unit_number flat y + width_of also)
clear flat (own unit) (own other) value also (fits_own low) (fits_own low_also) differ = elim differ [
  | inl before ↦ inl before
  | inr behind ↦ inr behind
]
clear flat (own unit) (field_unit site number) value also (fits_own low) (fits_field type is fits) differ =
    let b = field_bounds flat site number type is in
    inl (let s = b.starts in let l = b.low in let g = b.begins in omega (arith, s, l, g, low))
clear flat (own unit) (object_unit site) value also (fits_own low) (fits_object there one) differ = inl (omega (arith, low))
clear flat (own unit) (scratch below) value also (fits_own low) fits_scratch differ = inl (omega (arith, low))
clear flat (field_unit site number) (own other) value also (fits_field type is fits) (fits_own low) differ =
    let b = field_bounds flat site number type is in
    inr (let s = b.starts in let l = b.low in let g = b.begins in omega (arith, s, l, g, low))
clear flat (field_unit site number) (field_unit other another) value also (fits_field type is fits) (fits_field kind is_also fits_also) differ =
    elim (equal_or site other) [
      | inl same ↦ elim (less_or number another (λ equal. differ same equal)) [
        | inl less ↦
            let apart = before_in flat site number another type is less in
            let there = ap (λ (n : ℕ). unit_number flat (field_unit n another)) same in
            inl (omega (arith, fits, apart, there))
        | inr more ↦
            let apart = before_in flat other another number kind is_also more in
            let there = ap (λ (n : ℕ). unit_number flat (field_unit n number)) same in
            inr (omega (arith, fits_also, apart, there))
      ]
      | inr apart ↦
          let b = field_bounds flat site number type is in
          let c = field_bounds flat other another kind is_also in
          elim (less_or site other apart) [
            | inl less ↦
                let more = sites_more flat.sites (suc site) other (omega (arith, less)) in
                inl (let s = b.starts in let h = b.high in let t = c.starts in let l = c.low in omega (arith, s, h, t, l, more, fits))
            | inr less ↦
                let more = sites_more flat.sites (suc other) site (omega (arith, less)) in
                inr (let s = c.starts in let h = c.high in let t = b.starts in let l = b.low in omega (arith, s, h, t, l, more, fits_also))
          ]
    ]
clear flat (field_unit site number) (object_unit other) value also (fits_field type is fits) (fits_object there one) differ =
    let b = field_bounds flat site number type is in
    inl (let s = b.starts in let h = b.high in let e = b.ends in omega (arith, s, h, e, fits))
clear flat (field_unit site number) (scratch below) value also (fits_field type is fits) fits_scratch differ =
    let b = field_bounds flat site number type is in
    inl (let s = b.starts in let h = b.high in let e = b.ends in omega (arith, s, h, e, fits))
clear flat (object_unit site) (own other) value also (fits_object there one) (fits_own low) differ = inr (omega (arith, low))
clear flat (object_unit site) (field_unit other number) value also (fits_object there one) (fits_field type is fits) differ =
    let b = field_bounds flat other number type is in
    inr (let s = b.starts in let h = b.high in let e = b.ends in omega (arith, s, h, e, fits))
clear flat (object_unit site) (object_unit other) value also (fits_object there one) (fits_object there_also one_also) differ =
    elim (less_or site other differ) [
      | inl less ↦ inl (omega (arith, less, one))
      | inr less ↦ inr (omega (arith, less, one_also))
    ]
clear flat (object_unit site) (scratch below) value also (fits_object there one) fits_scratch differ = inl (omega (arith, there, one))
clear flat (scratch below) (own other) value also fits_scratch (fits_own low) differ = inr (omega (arith, low))
clear flat (scratch below) (field_unit other number) value also fits_scratch (fits_field type is fits) differ =
    let b = field_bounds flat other number type is in
    inr (let s = b.starts in let h = b.high in let e = b.ends in omega (arith, s, h, e, fits))
clear flat (scratch below) (object_unit other) value also fits_scratch (fits_object there one) differ = inr (omega (arith, there, one))
clear flat (scratch below) (scratch other) value also fits_scratch fits_scratch differ = elim differ [
  | inl before ↦ inl (omega (arith, before))
  | inr behind ↦ inr (omega (arith, behind))
]
