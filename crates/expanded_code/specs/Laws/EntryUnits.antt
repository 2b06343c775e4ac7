-- The frame that the code of a method begins with has the local units of the code, where these hold its arguments.
use Rattle.std.proofs.Common.{◌≡◌, ◌+◌, ◌≤◌, ℕ, Bool, true, false, List, [], ◌∷◌, length, map, Option, Some, None, refl, sym, ap, ◌∙◌, arith}
use Rattle.std.proofs.lemmas.List.{length-append}
use Rattle.std.proofs.lemmas.List.Sums.{sum_by-cons}
use Rattle.class_model.specs.Code.{entry_frame, verification_type}
use Rattle.class_model.specs.Descriptors.{kind_of, parameter_units, units_of}
use Rattle.class_model.specs.Frames.{depth, filled, units, units_of_entries}
use Rattle.class_model.specs.Members.{STATIC, has, is_text}
use Rattle.class_model.specs.Methods.{this_units}
use Rattle.class_model.specs.Names.{init}
use Rattle.class_model.specs.declared.descriptor.FieldType.{FieldType}
use Rattle.class_model.specs.declared.descriptor.FieldType.TheVariants as field_types
use Rattle.class_model.specs.declared.frame.VType.{VType}
use Rattle.class_model.specs.declared.frame.VType.TheVariants as types
use Rattle.expanded_code.specs.Laws.RowUnits.{filled_long}

type_units : (type : FieldType) → length (units (verification_type type)) ≡ units_of (kind_of type)
type_units (field_types.Named name) = refl
type_units other = refl

parameters_depth : (params : List FieldType) → depth (map verification_type params) ≡ parameter_units params
parameters_depth [] = refl
parameters_depth (param ∷ params) =
    let both : length (units (verification_type param)) + depth (map verification_type params) ≡ units_of (kind_of param)
    + parameter_units params =
    omega (arith, type_units param, parameters_depth params) in
    length-append (units (verification_type param)) (units_of_entries (map verification_type params))
    ∙ both ∙ sym (sum_by-cons (λ type. units_of (kind_of type)) param params)

-- with this, which takes one
one_more : (this : VType) (params : List FieldType) → units this ≡ this ∷ []
    → depth (this ∷ map verification_type params) ≡ 1 + parameter_units params
one_more this params one =
    let first : length (units this) ≡ 1 = ap length one in
    let both = length-append (units this) (units_of_entries (map verification_type params)) in
    omega (arith, first, both, parameters_depth params)

pub entry_frame_long : (flags : ℕ) (name : List ℕ) (class : Option (List ℕ)) (params : List FieldType) (max_locals : ℕ)
    → parameter_units params + this_units flags ≤ max_locals
    → length (entry_frame flags name class params max_locals).locals ≡ max_locals
entry_frame_long flags name class params max_locals fits = by (has flags STATIC) refl where
  one : (this : VType) → units this ≡ this ∷ [] → this_units flags ≡ 1 → length (filled max_locals (this ∷ map verification_type params)) ≡ max_locals
  one this single is = filled_long max_locals (this ∷ map verification_type params) (omega (arith, fits, is, one_more this params single))

  of_class : (class_is : Option (List ℕ)) → class ≡ class_is → has flags STATIC ≡ false → is_text init (Some name) ≡ false
      → length (entry_frame flags name class params max_locals).locals ≡ max_locals
  of_class (Some named) is static other =
      let this : this_units flags ≡ 1 = rw static refl in rw (static, other, is) (one (types.Object named) refl this)
  of_class None is static other = let this : this_units flags ≡ 1 = rw static refl in rw (static, other, is) (one types.Top refl this)

  of_name : (is_init : Bool) → is_text init (Some name) ≡ is_init → has flags STATIC ≡ false
      → length (entry_frame flags name class params max_locals).locals ≡ max_locals
  of_name true is static = let this : this_units flags ≡ 1 = rw static refl in rw (static, is) (one types.UninitThis refl this)
  of_name false is static = of_class class refl static is

  by : (static : Bool) → has flags STATIC ≡ static → length (entry_frame flags name class params max_locals).locals ≡ max_locals
  by true is =
      let none : this_units flags ≡ 0 = rw is refl in
      rw is (filled_long max_locals (map verification_type params) (omega (arith, fits, none, parameters_depth params)))
  by false is = of_name (is_text init (Some name)) refl is
