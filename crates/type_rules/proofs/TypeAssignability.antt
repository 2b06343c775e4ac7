-- Assignability of types, by the type that is wanted.
use Rattle.std.proofs.Common.{◌≡◌, ◌⊎◌, ◌↔◌, Bool, true, IsTrue, refl, sym, ap, subst, inl, inr}
use Rattle.std.specs.Bool.{Decides}
use Rattle.class_model.specs.Code.{verification_type}
use Rattle.class_model.specs.declared.descriptor.FieldType.{FieldType}
use Rattle.class_model.specs.declared.descriptor.FieldType.TheVariants as fields
use Rattle.class_model.specs.declared.frame.VType.{VType}
use Rattle.class_model.specs.declared.frame.VType.TheVariants.{Top, Int, Null, Object}
use Rattle.class_tree.specs.Headers.{Name, Headers}
use Rattle.member_link.specs.Assignability.{IsNameAssignable, to_itself, IsAssignable, to_same, to_top, from_null, of_names}

module _ (headers : Headers) where
  of_object : {from to : VType} → IsAssignable headers from to → (high : Name) → to ≡ Object high → (from ≡ Null) ⊎ ((low : Name) × (from ≡ Object low) × IsNameAssignable headers low high)
  of_object (to_same type) high is = inr (high, is, to_itself high)
  of_object (to_top type) high is = absurd cc
  of_object (from_null name) high is = inl refl
  of_object (of_names low name below) high is = let same : name ≡ high = cc in inr (low, refl, subst (IsNameAssignable headers low) same below)

  -- null is assignable to each object
  pub null_decides : (from : VType) (high : Name) → from ≡ Null → IsTrue true ↔ IsAssignable headers from (Object high)
  null_decides from high is = (λ yes. subst (λ type. IsAssignable headers type (Object high)) (sym is) (from_null high), λ whole. refl)

  pub object_decides : (from : VType) (low high : Name) → from ≡ Object low → IsNameAssignable headers low high ↔ IsAssignable headers from (Object high)
  object_decides from low high is = (
    λ below. subst (λ type. IsAssignable headers type (Object high)) (sym is) (of_names low high below),
    λ whole. elim (of_object whole high refl) [
      | inl null ↦ absurd cc
      | inr named ↦ let same : named.0 ≡ low = cc in subst (λ name. IsNameAssignable headers name high) same named.2
    ],
  )

  of_same : {from to : VType} → IsAssignable headers from to → (from ≡ to) ⊎ ((to ≡ Top) ⊎ ((name : Name) × (to ≡ Object name)))
  of_same (to_same type) = inl refl
  of_same (to_top type) = inr (inl refl)
  of_same (from_null name) = inr (inr (name, refl))
  of_same (of_names low high below) = inr (inr (high, refl))

  -- another type has only itself
  pub same_decides : (from to : VType) (same : Bool) → Decides same (from ≡ to) → ¬ (to ≡ Top) → ((name : Name) → ¬ (to ≡ Object name)) → IsTrue same ↔ IsAssignable headers from to
  same_decides from to same decides no_top no_object = (
    λ yes. subst (IsAssignable headers from) (decides.0 yes) (to_same from),
    λ whole. elim (of_same whole) [ inl is ↦ decides.1 is | inr (inl top) ↦ absurd (no_top top) | inr (inr named) ↦ absurd (no_object named.0 named.1) ],
  )

  pub is_same : (from to : VType) → from ≡ to → IsTrue true ↔ IsAssignable headers from to
  is_same from to is = (λ yes. subst (IsAssignable headers from) is (to_same from), λ whole. refl)

  pub is_top : (from to : VType) → to ≡ Top → IsTrue true ↔ IsAssignable headers from to
  is_top from to is = (λ yes. subst (IsAssignable headers from) (sym is) (to_top from), λ whole. refl)

-- the types that are ints to the type checker
pub int_types : (type : FieldType) → (type ≡ fields.Byte) ⊎ ((type ≡ fields.Char) ⊎ ((type ≡ fields.Short) ⊎ ((type ≡ fields.Bool) ⊎ (type ≡ fields.Int)))) → verification_type type ≡ Int
int_types type (inl is) = ap verification_type is
int_types type (inr (inl is)) = ap verification_type is
int_types type (inr (inr (inl is))) = ap verification_type is
int_types type (inr (inr (inr (inl is)))) = ap verification_type is
int_types type (inr (inr (inr (inr is)))) = ap verification_type is
