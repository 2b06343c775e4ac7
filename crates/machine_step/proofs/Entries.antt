-- Static fields in a map.
use Rattle.std.proofs.Common.{◌≡◌, ◌↔◌, IsTrue, ℕ, Bool, true, false, List, [], ◌∷◌, map, if◌then◌else◌, ◌&&◌, ◌==◌, refl, sym, ap, ◌∙◌, eqb-true, eq-eqb}
use Rattle.std.specs.Cmp.Derive.{both_true}
use Rattle.std.specs.Map.{lookup}
use Rattle.indexmap.specs.IndexMap.{insert_entry}
use Rattle.machine_values.specs.declared.value.Value.{Value}
use Rattle.member_link.specs.Machine.Worlds.{StaticValue, is_static_of, written_static, put_static_in}
use Rattle.machine_step.specs.Inner.Statics.{static_of}
use Rattle.machine_step.specs.declared.statics.StaticField.{StaticField}
use Rattle.machine_step.proofs.Firsts.{same-bool}

both-parts : (one other : Bool) → (one && other) ≡ true → (one ≡ true) × (other ≡ true)
both-parts true true is = (refl, refl)
both-parts true false is = absurd cc
both-parts false other is = absurd cc

module _ (eq : StaticField → StaticField → Bool) (same : (one other : StaticField) → IsTrue (eq one other) ↔ (one ≡ other)) where
  test-same : (class field : ℕ) (entry : StaticField × Value) → is_static_of class field (static_of entry) ≡ eq (record { class = class; field = field }) entry.0
  test-same class field entry = same-bool _ _ to from
    where
      to : IsTrue (entry.0.class == class && entry.0.field == field) → IsTrue (eq (record { class = class; field = field }) entry.0)
      to is =
          let parts = both-parts (entry.0.class == class) (entry.0.field == field) is in
          let one : entry.0.class ≡ class = eqb-true _ _ parts.0 in
          let other : entry.0.field ≡ field = eqb-true _ _ parts.1 in
          let of : ℕ → ℕ → StaticField = λ c f. record { class = c; field = f } in
          let all : of class field ≡ entry.0 = ap (λ (c : ℕ). of c field) (sym one) ∙ ap (λ (f : ℕ). of entry.0.class f) (sym other) in
          (same (record { class = class; field = field }) entry.0).1 all

      from : IsTrue (eq (record { class = class; field = field }) entry.0) → IsTrue (entry.0.class == class && entry.0.field == field)
      from is =
          let all = (same (record { class = class; field = field }) entry.0).0 is in
          both_true (eq-eqb entry.0.class class (sym (ap (λ (f : StaticField). f.class) all))) (eq-eqb entry.0.field field (sym (ap (λ (f : StaticField). f.field) all)))

  pub written-lookup : (class field : ℕ) (entries : List (StaticField × Value)) → written_static (map static_of entries) class field ≡ lookup (eq (record { class = class; field = field })) entries
  written-lookup class field [] = refl
  written-lookup class field (entry ∷ entries) = rw (test-same class field entry, written-lookup class field entries) refl

  put-step : (here : Bool) (class field : ℕ) (value : Value) (entry : StaticField × Value) (entries inserted : List (StaticField × Value)) (put : List StaticValue) → map static_of inserted ≡ put
      → map static_of (if here then ((entry.0, value) ∷ entries) else (entry ∷ inserted))
      ≡ (if here then (record { class = entry.0.class; field = entry.0.field; value = value } ∷ map static_of entries) else (static_of entry ∷ put))
  put-step true class field value entry entries inserted put is = refl
  put-step false class field value entry entries inserted put is = ap (λ (all : List StaticValue). static_of entry ∷ all) is

  pub put-insert : (class field : ℕ) (value : Value) (entries : List (StaticField × Value))
      → map static_of (insert_entry eq entries (record { class = class; field = field }) value) ≡ put_static_in (map static_of entries) class field value
  put-insert class field value [] = refl
  put-insert class field value (entry ∷ entries) =
      rw (test-same class field entry)
      (put-step (eq (record { class = class; field = field }) entry.0) class field value entry entries (insert_entry eq entries (record { class = class; field = field }) value) (put_static_in (map static_of entries) class field value) (put-insert class field value entries))
