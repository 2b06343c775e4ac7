-- A static field that is written is found, and all else is as it was.
use Rattle.std.proofs.Common.{◌≡◌, ◌==◌, ◌&&◌, ℕ, Bool, true, false, List, [], ◌∷◌, Some, if◌then◌else◌, refl, ap, ◌∙◌}
use Rattle.std.proofs.lemmas.Bool.{and_parts, eq-eqb, eqb-true}
use Rattle.machine_values.specs.declared.value.Value.{Value}
use Rattle.member_link.specs.Machine.Worlds.{StaticValue, is_static_of, put_static_in, written_static}

pub written_here : (statics : List StaticValue) (class field : ℕ) (value : Value)
    → written_static (put_static_in statics class field value) class field ≡ Some value
written_here [] class field value = rw (eq-eqb class class refl, eq-eqb field field refl) refl
written_here (first ∷ statics) class field value = by (is_static_of class field first) refl (written_here statics class field value) where
  by : (b : Bool) → is_static_of class field first ≡ b → written_static (put_static_in statics class field value) class field ≡ Some value
      → written_static (if b then record first { value = value } ∷ statics else first ∷ put_static_in statics class field value) class field ≡ Some value
  by true e rest = rw (e) refl
  by false e rest = rw (e) rest

pub written_elsewhere : (statics : List StaticValue) (class field : ℕ) (value : Value) (at index : ℕ)
    → ((class == at) && (field == index)) ≡ false
    → written_static (put_static_in statics class field value) at index ≡ written_static statics at index
written_elsewhere [] class field value at index differ = rw (differ) refl
written_elsewhere (first ∷ statics) class field value at index differ = by (is_static_of class field first) refl
    (written_elsewhere statics class field value at index differ) where
      by : (b : Bool) → is_static_of class field first ≡ b
          → written_static (put_static_in statics class field value) at index ≡ written_static statics at index
          → written_static (if b then record first { value = value } ∷ statics else first ∷ put_static_in statics class field value) at index
          ≡ written_static (first ∷ statics) at index
      by false e rest = rw (rest) refl
      by true e rest =
          let parts = and_parts (first.class == class) (first.field == field) e in
          let other_one : is_static_of at index first ≡ false =
          ap (λ (n : ℕ). (n == at) && (first.field == index)) (eqb-true first.class class parts.0)
          ∙ ap (λ (n : ℕ). (class == at) && (n == index)) (eqb-true first.field field parts.1) ∙ differ in
          rw (other_one) refl
