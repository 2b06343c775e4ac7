-- A flat code of few sites with few fields, and of low stacks, is not too wide.
use Rattle.std.proofs.Common.{◌≡◌, ◌==◌, ◌*◌, ◌<◌, ◌≤◌, ℕ, suc, false, max, nat_le, List, [], ◌∷◌, length, slice_get, Option, Some, None, is_some, IsTrue, refl, sym, subst, ◌∙◌, inl, inr, arith}
use Rattle.std.specs.List.{AllByRecursion}
use Rattle.std.proofs.lemmas.Bool.{cases_Bool, eqb-true, false≢true, leb-true, or_cases, true≢false}
use Rattle.std.proofs.lemmas.List.Sums.{sum_by-cons}
use Rattle.cases_rewrite.specs.Inner.Making.{IsShort}
use Rattle.class_model.specs.Descriptors.{kind_of, parameter_units, units_of}
use Rattle.class_model.specs.Frames.{depth}
use Rattle.class_model.specs.declared.descriptor.FieldType.{FieldType}
use Rattle.class_model.specs.declared.descriptor.Kind.{Kind}
use Rattle.class_model.specs.declared.descriptor.Kind.TheVariants as kinds
use Rattle.class_model.specs.declared.frame.VType.{VType}
use Rattle.class_model.specs.declared.frame.VType.TheVariants.{Top, Int, Float, Long, Double, Null, UninitThis, Object, Uninit}
use Rattle.flow_code.specs.FlatCode.{FlatCode}
use Rattle.flow_code.specs.WrittenUnits.{field_units, greatest_depth, written_units}
use Rattle.flow_code.specs.declared.point.Point.{Point}
use Rattle.flow_code.specs.declared.point.Site.{Site}
use Rattle.virtual_state.specs.Sites.{IsSiteFrom, has}
use Rattle.virtual_state.specs.States.{is_present}
use Rattle.virtual_state.specs.declared.slot.VObject.{VObject}

low_depth : (types : List VType) → depth types ≤ 2 * length types
low_depth [] = omega arith
low_depth (Top ∷ types) = let rest = low_depth types in omega arith
low_depth (Int ∷ types) = let rest = low_depth types in omega arith
low_depth (Float ∷ types) = let rest = low_depth types in omega arith
low_depth (Long ∷ types) = let rest = low_depth types in omega arith
low_depth (Double ∷ types) = let rest = low_depth types in omega arith
low_depth (Null ∷ types) = let rest = low_depth types in omega arith
low_depth (UninitThis ∷ types) = let rest = low_depth types in omega arith
low_depth (Object name ∷ types) = let rest = low_depth types in omega arith
low_depth (Uninit at ∷ types) = let rest = low_depth types in omega arith

low_kind : (kind : Kind) → units_of kind ≤ 2
low_kind kinds.Int = omega arith
low_kind kinds.Long = omega arith
low_kind kinds.Float = omega arith
low_kind kinds.Double = omega arith
low_kind kinds.Ref = omega arith

low_units : (fields : List FieldType) → parameter_units fields ≤ 2 * length fields
low_units [] = omega arith
low_units (type ∷ fields) =
    let rest = low_units fields in
    let first = sum_by-cons (λ (one : FieldType). units_of (kind_of one)) type fields in
    let two = low_kind (kind_of type) in
    omega (arith, rest, first, two)

low_sites : (sites : List Site) → AllByRecursion IsShort sites → field_units sites ≤ 1000 * length sites
low_sites [] all = omega arith
low_sites (site ∷ sites) all =
    let rest = low_sites sites all.1 in
    let first = low_units site.fields in
    let short = all.0 in
    omega (arith, rest, first, short)

low_points : (points : List Point)
    → ((at : ℕ) (point : Point) → slice_get points at ≡ Some point → length point.typed.stack ≤ 500)
    → greatest_depth points ≤ 1000
low_points [] low = omega arith
low_points (point ∷ points) low =
    let first = low_depth point.typed.stack in
    let short = low 0 point refl in
    let rest = low_points points (λ at one is. low (suc at) one is) in
    both (depth point.typed.stack) (greatest_depth points) (omega (arith, first, short)) rest
  where
    both : (a b : ℕ) → a ≤ 1000 → b ≤ 1000 → max a b ≤ 1000
    both a b one other = grind (arith, one, other)

pub small_units : (flat : FlatCode)
    → flat.locals ≤ 10000
    → length flat.sites ≤ 20
    → AllByRecursion IsShort flat.sites
    → ((at : ℕ) (point : Point) → slice_get flat.points at ≡ Some point → length point.typed.stack ≤ 500)
    → written_units flat ≤ 65535
small_units flat locals sites short low =
    let fields = low_sites flat.sites short in
    let stacks = low_points flat.points low in
    omega (arith, locals, sites, fields, stacks)

-- each of these sites is present
pub one_present : (objects : List VObject) (sites : List ℕ) → AllByRecursion (λ site. IsTrue (is_present objects site)) sites
    → (site : ℕ) → IsTrue (has sites site) → IsTrue (is_present objects site)
one_present objects [] all site there = absurd (false≢true there)
one_present objects (first ∷ sites) all site there =
    elim (or_cases (first == site) (has sites site) there) [
      | inl same ↦ subst (λ (n : ℕ). IsTrue (is_present objects n)) (eqb-true first site same) all.0
      | inr behind ↦ one_present objects sites all.1 site behind
    ]

-- what is present is below a number from which nothing is
pub below_past : (objects : List VObject) (end site : ℕ) → IsSiteFrom objects end None → IsTrue (is_present objects site) → site < end
below_past objects end site none present = elim (cases_Bool (nat_le end site)) [
  | inl above ↦ absurd (false≢true (sym (none site (leb-true end site above)) ∙ present))
  | inr below ↦ not_le end site below
]
  where
    not_le : (a b : ℕ) → nat_le a b ≡ false → b < a
    not_le a b is = grind (arith, is)

pub none_of : (found : Option ℕ) → is_some found ≡ false → found ≡ None
none_of None no_site = refl
none_of (Some site) no_site = absurd (true≢false no_site)
