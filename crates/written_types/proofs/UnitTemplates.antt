-- Templates that change field units: what is stored may stand for what a field is declared as.
use Rattle.std.proofs.Common.{◌≡◌, ◌≢◌, ◌⊎◌, ◌+◌, ℕ, zero, suc, Bool, true, false, List, [], ◌∷◌, ◌++◌, length, map, replicate, refl, sym, ap, subst, ◌∙◌, inl, inr}
use Rattle.std.specs.List.{flat_map}
use Rattle.std.proofs.lemmas.List.{length-append, length-replicate, map-append}
use Rattle.class_model.specs.Code.{verification_type}
use Rattle.class_model.specs.Descriptors.{parameter_units}
use Rattle.class_model.specs.Frames.{is_top, is_wide}
use Rattle.class_model.specs.declared.descriptor.FieldType.{FieldType}
use Rattle.class_model.specs.declared.descriptor.FieldType.TheVariants as field_types
use Rattle.class_model.specs.declared.frame.VType.{VType}
use Rattle.class_model.specs.declared.frame.VType.TheVariants as types
use Rattle.class_tree.specs.Headers.{Headers}
use Rattle.flow_code.specs.FlatCode.{FlatCode}
use Rattle.flow_code.specs.WrittenUnits.{greatest_depth}
use Rattle.flow_code.specs.declared.point.Site.{Site}
use Rattle.making_code.specs.StateFrames.{field_types as types_of_fields, site_types_from}
use Rattle.member_link.specs.Assignability.{IsAssignable, from_null, of_names, to_same, to_top}
use Rattle.member_link.specs.Rows.FrameAssignability.{AreAssignable}
use Rattle.plan_flow.specs.Written.FramedCode.{type_by_item}
use Rattle.plan_flow.specs.Written.Finish.{Finished}
use Rattle.plan_flow.specs.Written.WrittenCode.{Form}
use Rattle.virtual_state.specs.States.{is_present}
use Rattle.virtual_state.specs.declared.slot.VObject.{VObject}
use Rattle.written_types.proofs.SlotFrames.{units_behind}
use Rattle.written_types.proofs.FieldUnits.{bare, fields_long, units_for}
use Rattle.written_types.specs.Inner.CarriedFrames.{AgreeIn}

-- ---- types of values

-- a type that may stand for a declared one
pub record IsValue (By : VType → VType) (type : FieldType) (value : VType) : Type 0 where
  pub not_top : is_top value ≡ false
  pub by_is : By value ≡ value
  pub as_wide : is_wide value ≡ is_wide (verification_type type)
  pub not_this : value ≢ types.UninitThis

-- ---- assignability of lists

pub agree_assigned : (headers : Headers) (ones written : List VType) → AgreeIn ones written → AreAssignable headers ones written
agree_assigned headers [] [] agree = tt
agree_assigned headers [] (type ∷ written) agree = absurd agree
agree_assigned headers (one ∷ ones) [] agree = absurd agree
agree_assigned headers (one ∷ ones) (type ∷ written) agree = (
  elim agree.0 [
    | inl top ↦ subst (IsAssignable headers one) (sym top) (to_top one)
    | inr same ↦ subst (IsAssignable headers one) same (to_same one)
  ],
  agree_assigned headers ones written agree.1,
)

pub assigned_both : (headers : Headers) (ones others more also : List VType) → AreAssignable headers ones others → AreAssignable headers more also
    → AreAssignable headers (ones ++ more) (others ++ also)
assigned_both headers [] [] more also are rest = rest
assigned_both headers [] (other ∷ others) more also are rest = absurd are
assigned_both headers (one ∷ ones) [] more also are rest = absurd are
assigned_both headers (one ∷ ones) (other ∷ others) more also are rest = (are.0, assigned_both headers ones others more also are.1 rest)

pub record AssignedParts (headers : Headers) (ones more others also : List VType) : Type 0 where
  pub own : AreAssignable headers ones others
  pub rest : AreAssignable headers more also

pub assigned_parts : (headers : Headers) (ones more others also : List VType) → length ones ≡ length others
    → AreAssignable headers (ones ++ more) (others ++ also)
    → AssignedParts headers ones more others also
assigned_parts headers [] more [] also long are = record { own = tt; rest = are }
assigned_parts headers [] more (other ∷ others) also long are = absurd cc
assigned_parts headers (one ∷ ones) more [] also long are = absurd cc
assigned_parts headers (one ∷ ones) more (other ∷ others) also long are =
    let tail = assigned_parts headers ones more others also (let e : length ones ≡ length others = cc in e) are.1 in
    record { own = (are.0, tail.own); rest = tail.rest }

-- ---- field units of two states

-- for each place the second type is Top or the first one
abbrev pub Less : List VType → List VType → Type 0
Less [] [] = Unit {0}
Less (type ∷ all) (other ∷ others) = ((other ≡ types.Top) ⊎ (type ≡ other)) × Less all others
Less all others = ⊥

-- what stands for units stands for those that say less
pub less_assigned : (headers : Headers) (lows ones others : List VType) → AreAssignable headers lows ones → Less ones others
    → AreAssignable headers lows others
less_assigned headers [] [] [] are less = tt
less_assigned headers [] [] (other ∷ others) are less = absurd less
less_assigned headers [] (one ∷ ones) others are less = absurd are
less_assigned headers (low ∷ lows) [] others are less = absurd are
less_assigned headers (low ∷ lows) (one ∷ ones) [] are less = absurd less
less_assigned headers (low ∷ lows) (one ∷ ones) (other ∷ others) are less = (
  elim less.0 [
    | inl top ↦ subst (IsAssignable headers low) (sym top) (to_top low)
    | inr same ↦ subst (IsAssignable headers low) same are.0
  ],
  less_assigned headers lows ones others are.1 less.1,
)

less_both : (ones others more also : List VType) → Less ones others → Less more also → Less (ones ++ more) (others ++ also)
less_both [] [] more also less rest = rest
less_both [] (other ∷ others) more also less rest = absurd less
less_both (one ∷ ones) [] more also less rest = absurd less
less_both (one ∷ ones) (other ∷ others) more also less rest = (less.0, less_both ones others more also less.1 rest)

less_itself : (all : List VType) → Less all all
less_itself [] = tt
less_itself (type ∷ all) = (inr refl, less_itself all)

less_tops : (all : List VType) (count : ℕ) → length all ≡ count → Less all (replicate count types.Top)
less_tops [] zero long = tt
less_tops [] (suc count) long = absurd cc
less_tops (type ∷ all) zero long = absurd cc
less_tops (type ∷ all) (suc count) long = (inl refl, less_tops all count (let e : length all ≡ count = cc in e))

-- types of which each may stand for units of declared types or Top
top_or_same : (headers : Headers) (low high : VType) → IsAssignable headers low high → low ≡ types.Top → (high ≡ types.Top) ⊎ (low ≡ high)
top_or_same headers low high (to_same type) top = inl top
top_or_same headers low high (to_top type) top = inl refl
top_or_same headers low high (from_null name) top = absurd cc
top_or_same headers low high (of_names one other names) top = absurd cc

tops_less : (headers : Headers) (count : ℕ) (others : List VType) → AreAssignable headers (replicate count types.Top) others
    → Less (replicate count types.Top) others
tops_less headers zero [] are = tt
tops_less headers zero (other ∷ others) are = absurd are
tops_less headers (suc count) [] are = absurd are
tops_less headers (suc count) (other ∷ others) are =
    (top_or_same headers types.Top other are.0 refl, tops_less headers count others are.1)

site_less : (headers : Headers) (one other : Bool) (fields : List FieldType) → AreAssignable headers (types_of_fields one fields) (types_of_fields other fields)
    → Less (types_of_fields one fields) (types_of_fields other fields)
site_less headers true true fields are = less_itself _
site_less headers true false fields are = less_tops _ _ (fields_long fields)
site_less headers false other fields are = tops_less headers _ _ are

pub site_units_long : (b : Bool) (fields : List FieldType) → length (types_of_fields b fields) ≡ parameter_units fields
site_units_long true fields = fields_long fields
site_units_long false fields = length-replicate (parameter_units fields) types.Top

sites_less : (headers : Headers) (ones others : List VObject) (number : ℕ) (sites : List Site)
    → AreAssignable headers (site_types_from (bare ones) number sites) (site_types_from (bare others) number sites)
    → Less (site_types_from (bare ones) number sites) (site_types_from (bare others) number sites)
sites_less headers ones others number [] are = tt
sites_less headers ones others number (site ∷ sites) are =
    let parts = assigned_parts headers (types_of_fields (is_present ones number) site.fields) _ (types_of_fields (is_present others number) site.fields) _
    (site_units_long (is_present ones number) site.fields ∙ sym (site_units_long (is_present others number) site.fields)) are in
    less_both (types_of_fields (is_present ones number) site.fields) (types_of_fields (is_present others number) site.fields) _ _
    (site_less headers (is_present ones number) (is_present others number) site.fields parts.own)
    (sites_less headers ones others (suc number) sites parts.rest)

pub sites_long : (ones others : List VObject) (number : ℕ) (sites : List Site)
    → length (site_types_from (bare ones) number sites) ≡ length (site_types_from (bare others) number sites)
sites_long ones others number [] = refl
sites_long ones others number (site ∷ sites) =
    length-append (types_of_fields (is_present ones number) site.fields) _
    ∙ (λ i. (site_units_long (is_present ones number) site.fields ∙ sym (site_units_long (is_present others number) site.fields)) i
    + sites_long ones others (suc number) sites i)
    ∙ sym (length-append (types_of_fields (is_present others number) site.fields) _)

pub units_less : (headers : Headers) (flat : FlatCode) (ones others : List VObject)
    → AreAssignable headers (units_behind flat ones) (units_behind flat others)
    → Less (units_behind flat ones) (units_behind flat others)
units_less headers flat ones others are =
    less_both _ _ scratch scratch (less_both _ _ objects objects (sites_less headers ones others 0 flat.sites own) (less_itself objects))
    (less_itself scratch) where
      objects : List VType
      objects = replicate (length flat.sites) types.Top

      scratch : List VType
      scratch = replicate (greatest_depth flat.points) types.Top

      own : AreAssignable headers (site_types_from (bare ones) 0 flat.sites) (site_types_from (bare others) 0 flat.sites)
      own =
          (assigned_parts headers _ objects _ objects (sites_long ones others 0 flat.sites)
          (assigned_parts headers (site_types_from (bare ones) 0 flat.sites ++ objects) scratch (site_types_from (bare others) 0 flat.sites ++ objects) scratch
          (length-append _ objects ∙ ap (λ (n : ℕ). n + length objects) (sites_long ones others 0 flat.sites) ∙ sym (length-append _ objects)) are).own).own

-- ---- field units have no uninitialised object

module _ (form : Form) (blocks : List Finished) where
  by_declared : (type : FieldType) → map (type_by_item form blocks) (units_for type) ≡ units_for type
  by_declared field_types.Byte = refl
  by_declared field_types.Char = refl
  by_declared field_types.Short = refl
  by_declared field_types.Bool = refl
  by_declared field_types.Int = refl
  by_declared field_types.Long = refl
  by_declared field_types.Float = refl
  by_declared field_types.Double = refl
  by_declared (field_types.Named name) = refl

  by_fields : (fields : List FieldType) → map (type_by_item form blocks) (flat_map units_for fields) ≡ flat_map units_for fields
  by_fields [] = refl
  by_fields (type ∷ fields) =
      map-append (type_by_item form blocks) (units_for type) (flat_map units_for fields) ∙ (λ i. by_declared type i ++ by_fields fields i)

  by_tops : (count : ℕ) → map (type_by_item form blocks) (replicate count types.Top) ≡ replicate count types.Top
  by_tops zero = refl
  by_tops (suc count) = ap (λ (rest : List VType). types.Top ∷ rest) (by_tops count)

  by_site : (b : Bool) (fields : List FieldType) → map (type_by_item form blocks) (types_of_fields b fields) ≡ types_of_fields b fields
  by_site true fields = by_fields fields
  by_site false fields = by_tops (parameter_units fields)

  by_sites : (objects : List VObject) (number : ℕ) (sites : List Site)
      → map (type_by_item form blocks) (site_types_from (bare objects) number sites) ≡ site_types_from (bare objects) number sites
  by_sites objects number [] = refl
  by_sites objects number (site ∷ sites) =
      map-append (type_by_item form blocks) (types_of_fields (is_present objects number) site.fields) (site_types_from (bare objects) (suc number) sites)
      ∙ (λ i. by_site (is_present objects number) site.fields i ++ by_sites objects (suc number) sites i)

  pub by_units : (flat : FlatCode) (objects : List VObject) → map (type_by_item form blocks) (units_behind flat objects) ≡ units_behind flat objects
  by_units flat objects =
      map-append (type_by_item form blocks) (site_types_from (bare objects) 0 flat.sites ++ replicate (length flat.sites) types.Top)
      (replicate (greatest_depth flat.points) types.Top)
      ∙ (λ i. (map-append (type_by_item form blocks) (site_types_from (bare objects) 0 flat.sites) (replicate (length flat.sites) types.Top)
      ∙ (λ j. by_sites objects 0 flat.sites j ++ by_tops (length flat.sites) j)) i
      ++ by_tops (greatest_depth flat.points) i)
