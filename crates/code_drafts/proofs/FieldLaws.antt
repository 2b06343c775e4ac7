-- Fields of virtual objects in local units.
use Rattle.std.proofs.Common.{◌≡◌, ◌+◌, ◌≤◌, ℕ, zero, suc, min, List, [], ◌∷◌, ◌++◌, take, drop, slice_get, Option, Some, None, refl, sym, ap, subst, ◌∙◌, arith}
use Rattle.std.proofs.lemmas.List.Sums.{sum_by-take-le}
use Rattle.std.proofs.lemmas.Option.{none-some, same_Some}
use Rattle.class_model.specs.Descriptors.{kind_of, parameter_units, units_of}
use Rattle.class_model.specs.Laws.Lists.{drop_item}
use Rattle.class_model.specs.declared.descriptor.FieldType.{FieldType}
use Rattle.class_model.specs.declared.descriptor.Kind.{Kind}
use Rattle.class_model.specs.declared.instr.Imm.{Imm}
use Rattle.class_model.specs.declared.instr.Instr.{Instr}
use Rattle.class_model.specs.declared.instr.Instr.TheVariants.{Const, Load, Store}
use Rattle.code_drafts.proofs.PutLaws.{puts_both, puts_none}
use Rattle.code_drafts.specs.Emits.{Kept}
use Rattle.code_drafts.specs.Puts.{IsPut, Puts}
use Rattle.flow_code.specs.FlatCode.{FlatCode}
use Rattle.flow_code.specs.WrittenUnits.{field_units, written_units}
use Rattle.flow_code.specs.declared.point.Site.{Site}
use Rattle.making_code.specs.Items.{WInstr, load, plain, store}
use Rattle.making_code.specs.Units.{WUnit, field_unit, fields_at, first_field_unit, unit_number}
use Rattle.materialise.specs.Inner.UnitWords.{kept_unit}
use Rattle.plan_flow.specs.Written.Templates.{cleared_fields, load_of_field, narrowing, store_of_field, zero_of}

-- ---- the numbers of field units fit

few_min : (a : ℕ) → a ≤ 65535 → min a 65535 ≡ a
few_min a few = grind arith

fewer_fields : (sites : List Site) (number : ℕ) → field_units (take number sites) ≤ field_units sites
fewer_fields [] zero = omega arith
fewer_fields [] (suc number) = omega arith
fewer_fields (site ∷ sites) zero = omega arith
fewer_fields (site ∷ sites) (suc number) = let rest = fewer_fields sites number in omega arith

parts_few : (fields : List FieldType) (number : ℕ) → parameter_units (take number fields) ≤ parameter_units fields
parts_few fields number = sum_by-take-le (λ (type : FieldType). units_of (kind_of type)) fields number

within : (sites : List Site) (site number : ℕ) (one : Site) → slice_get sites site ≡ Some one
    → field_units (take site sites) + parameter_units (take number one.fields) ≤ field_units sites
within [] site number one is = absurd (none-some one is)
within (first ∷ sites) zero number one is =
    subst (λ (s : Site). 0 + parameter_units (take number s.fields) ≤ parameter_units first.fields + field_units sites) (same_Some first one is)
    (let part = parts_few first.fields number in omega arith)
within (first ∷ sites) (suc site) number one is = let rest = within sites site number one is in omega arith

pub fields_none : (flat : FlatCode) (site : ℕ) → slice_get flat.sites site ≡ None → fields_at flat site ≡ []
fields_none flat site is = rw is refl

pub fields_some : (flat : FlatCode) (site : ℕ) (one : Site) → slice_get flat.sites site ≡ Some one → fields_at flat site ≡ one.fields
fields_some flat site one is = rw is refl

field_fits : (flat : FlatCode) (site number : ℕ) → written_units flat ≤ 65535 → unit_number flat (field_unit site number) ≤ 65535
field_fits flat site number few = by (slice_get flat.sites site) refl where
  by : (found : Option Site) → slice_get flat.sites site ≡ found → unit_number flat (field_unit site number) ≤ 65535
  by None is =
      subst (λ (fields : List FieldType). first_field_unit flat site + parameter_units (take number fields) ≤ 65535) (sym (fields_none flat site is))
      (let low = fewer_fields flat.sites site in let part = parts_few [] number in omega (arith, few, low, part))
  by (Some one) is =
      subst (λ (fields : List FieldType). first_field_unit flat site + parameter_units (take number fields) ≤ 65535) (sym (fields_some flat site one is))
      (let part = within flat.sites site number one is in omega (arith, few, part))

-- a field's unit is kept as it is
pub field_kept : (flat : FlatCode) (site number : ℕ) → written_units flat ≤ 65535
    → kept_unit flat (field_unit site number) ≡ unit_number flat (field_unit site number)
field_kept flat site number few = few_min (unit_number flat (field_unit site number)) (field_fits flat site number few)

-- ---- instructions

pub load_put : (flat : FlatCode) (kind : Kind) (unit : WUnit) (number : ℕ) → number ≡ unit_number flat unit → IsPut flat (load kind unit) (Load kind number)
load_put flat kind unit number is = record {
  is = λ classes links constructor pool. ap (λ (n : ℕ). Load kind n) (sym is);
  needless = λ classes links constructor. refl;
}

pub store_put : (flat : FlatCode) (kind : Kind) (unit : WUnit) (number : ℕ) → number ≡ unit_number flat unit → IsPut flat (store kind unit) (Store kind number)
store_put flat kind unit number is = record {
  is = λ classes links constructor pool. ap (λ (n : ℕ). Store kind n) (sym is);
  needless = λ classes links constructor. refl;
}

-- ---- fields from a number on

pub cleared_more : (site number : ℕ) (types : List FieldType) (type : FieldType) → slice_get types number ≡ Some type
    → cleared_fields site number (drop number types)
    ≡ (plain (zero_of (kind_of type)) ∷ store (kind_of type) (field_unit site number) ∷ []) ++ cleared_fields site (number + 1) (drop (number + 1) types)
cleared_more site number types type is =
    let next : suc number ≡ number + 1 = omega arith in
    ap (cleared_fields site number) (drop_item types number type is)
    ∙ ap (λ (n : ℕ). (plain (zero_of (kind_of type)) ∷ store (kind_of type) (field_unit site number) ∷ []) ++ cleared_fields site n (drop (number + 1) types)) next

pub drop_past : {A : Type 0} (list : List A) (at : ℕ) → slice_get list at ≡ None → drop at list ≡ []
drop_past [] zero gone = refl
drop_past [] (suc at) gone = refl
drop_past (one ∷ list) zero gone = absurd (none-some one (sym gone))
drop_past (one ∷ list) (suc at) gone = drop_past list at gone

pub cleared_end : (site number : ℕ) (types : List FieldType) → slice_get types number ≡ None → cleared_fields site number (drop number types) ≡ []
cleared_end site number types is = ap (cleared_fields site number) (drop_past types number is)

-- ---- what the code writes

plain_as : (flat : FlatCode) (instr also : Instr) → instr ≡ also → IsPut flat (plain also) instr
plain_as flat instr also same = record { is = λ classes links constructor pool. sym same; needless = λ classes links constructor. refl }

store_as : (flat : FlatCode) (kind also : Kind) (unit : WUnit) (number : ℕ) → kind ≡ also → number ≡ unit_number flat unit → IsPut flat (store also unit) (Store kind number)
store_as flat kind also unit number same is = subst (λ (k : Kind). IsPut flat (store k unit) (Store kind number)) same (store_put flat kind unit number is)

load_as : (flat : FlatCode) (kind also : Kind) (unit : WUnit) (number : ℕ) → kind ≡ also → number ≡ unit_number flat unit → IsPut flat (load also unit) (Load kind number)
load_as flat kind also unit number same is = subst (λ (k : Kind). IsPut flat (load k unit) (Load kind number)) same (load_put flat kind unit number is)

-- what a put of an instruction keeps
abbrev pub PutsOne : FlatCode → Instr → Kept → Kept → Type 0
PutsOne flat instr before after = (one : WInstr) → IsPut flat one instr → Puts flat (one ∷ []) before after

pub clear_step : (flat : FlatCode) (site number : ℕ) (type : FieldType) (kind also : Kind) (zeroed : Imm) (unit : ℕ) (before middle after : Kept)
    → written_units flat ≤ 65535
    → kind ≡ kind_of type
    → also ≡ kind_of type
    → Const zeroed ≡ zero_of kind
    → unit ≡ kept_unit flat (field_unit site number)
    → PutsOne flat (Const zeroed) before middle
    → PutsOne flat (Store also unit) middle after
    → Puts flat (plain (zero_of (kind_of type)) ∷ store (kind_of type) (field_unit site number) ∷ []) before after
clear_step flat site number type kind also zeroed unit before middle after few same twin is kept one other =
    puts_both flat before middle after (plain (zero_of (kind_of type)) ∷ []) (store (kind_of type) (field_unit site number) ∷ [])
    (one (plain (zero_of (kind_of type))) (plain_as flat (Const zeroed) (zero_of (kind_of type)) (is ∙ ap zero_of same)))
    (other (store (kind_of type) (field_unit site number)) (store_as flat also (kind_of type) (field_unit site number) unit twin (kept ∙ field_kept flat site number few)))

pub load_step : (flat : FlatCode) (site number : ℕ) (found : Option FieldType) (type : FieldType) (kind : Kind) (unit : ℕ) (before after : Kept)
    → found ≡ Some type
    → kind ≡ kind_of type
    → unit ≡ unit_number flat (field_unit site number)
    → PutsOne flat (Load kind unit) before after
    → Puts flat (load_of_field site number found) before after
load_step flat site number found type kind unit before after there same is one =
    subst (λ (f : Option FieldType). Puts flat (load_of_field site number f) before after) (sym there)
    (one (load (kind_of type) (field_unit site number)) (load_as flat kind (kind_of type) (field_unit site number) unit same is))

pub store_step : (flat : FlatCode) (site number : ℕ) (found : Option FieldType) (type : FieldType) (kind : Kind) (unit : ℕ) (before middle after : Kept)
    → found ≡ Some type
    → kind ≡ kind_of type
    → unit ≡ unit_number flat (field_unit site number)
    → Puts flat (narrowing type) before middle
    → PutsOne flat (Store kind unit) middle after
    → Puts flat (store_of_field site number found) before after
store_step flat site number found type kind unit before middle after there same is narrows one =
    subst (λ (f : Option FieldType). Puts flat (store_of_field site number f) before after) (sym there)
    (puts_both flat before middle after (narrowing type) (store (kind_of type) (field_unit site number) ∷ []) narrows
    (one (store (kind_of type) (field_unit site number)) (store_as flat kind (kind_of type) (field_unit site number) unit same is)))

pub load_none : (flat : FlatCode) (site number : ℕ) (found : Option FieldType) (kept : Kept) → found ≡ None → Puts flat (load_of_field site number found) kept kept
load_none flat site number found kept none = subst (λ (f : Option FieldType). Puts flat (load_of_field site number f) kept kept) (sym none) (puts_none flat kept)

pub store_none : (flat : FlatCode) (site number : ℕ) (found : Option FieldType) (kept : Kept) → found ≡ None → Puts flat (store_of_field site number found) kept kept
store_none flat site number found kept none = subst (λ (f : Option FieldType). Puts flat (store_of_field site number f) kept kept) (sym none) (puts_none flat kept)
