-- The units of values, value by value.
use Rattle.std.proofs.Common.{◌≡◌, ℕ, ◌+◌, ◌<◌, true, false, Option, Some, None, List, [], ◌∷◌, ◌++◌, length, take, get_or, refl, ap, sym, ◌∙◌, append_assoc}
use Rattle.std.proofs.lemmas.List.{take_more}
use Rattle.machine_values.specs.Values.{is_wide_value, units_of_values}
use Rattle.machine_values.specs.declared.value.Value.{Value}
use Rattle.machine_values.specs.declared.value.Value.TheVariants.{Int, Long, Float, Double, Null, Ref}

pub wide_units :
    (value : Value) → is_wide_value value ≡ true
    → units_of_values (value ∷ []) ≡ Some value ∷ None ∷ []
wide_units (Int number) wide = cc
wide_units (Long number) wide = refl
wide_units (Float bits) wide = cc
wide_units (Double bits) wide = refl
wide_units Null wide = cc
wide_units (Ref reference) wide = cc

pub narrow_units :
    (value : Value) → is_wide_value value ≡ false → units_of_values (value ∷ []) ≡ Some value ∷ []
narrow_units (Int number) narrow = refl
narrow_units (Long number) narrow = cc
narrow_units (Float bits) narrow = refl
narrow_units (Double bits) narrow = cc
narrow_units Null narrow = refl
narrow_units (Ref reference) narrow = refl

units_joined :
    (one other : List Value)
    → units_of_values (one ++ other) ≡ units_of_values one ++ units_of_values other
units_joined [] other = refl
units_joined (Int number ∷ one) other = ap (λ units. Some (Int number) ∷ units) (units_joined one other)
units_joined (Long number ∷ one) other =
    ap (λ units. Some (Long number) ∷ None ∷ units) (units_joined one other)
units_joined (Float bits ∷ one) other = ap (λ units. Some (Float bits) ∷ units) (units_joined one other)
units_joined (Double bits ∷ one) other =
    ap (λ units. Some (Double bits) ∷ None ∷ units) (units_joined one other)
units_joined (Null ∷ one) other = ap (λ units. Some Null ∷ units) (units_joined one other)
units_joined (Ref reference ∷ one) other =
    ap (λ units. Some (Ref reference) ∷ units) (units_joined one other)

-- one more value
pub units_more :
    (before initial after : List (Option Value)) (values : List Value) (at : ℕ) (value : Value)
    → at < length values → value ≡ get_or values at value
    → before ≡ initial ++ units_of_values (take at values)
    → after ≡ before ++ units_of_values (value ∷ [])
    → after ≡ initial ++ units_of_values (take (at + 1) values)
units_more before initial after values at value below is before_is after_is =
    after_is
    ∙ ap (λ units. units ++ units_of_values (value ∷ [])) before_is
    ∙ append_assoc initial (units_of_values (take at values)) (units_of_values (value ∷ []))
    ∙ ap (λ units. initial ++ units)
    (sym
    (ap units_of_values
    (take_more values at value below ∙ ap (λ item. take at values ++ item ∷ []) (sym is))
    ∙ units_joined (take at values) (value ∷ [])))
