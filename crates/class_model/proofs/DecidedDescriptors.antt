-- Method descriptors are decided.
use Rattle.std.proofs.Common.{◌≡◌, ◌≢◌, ◌⊎◌, inl, inr, ℕ, suc, zero, ◌+◌, ◌≤◌, List, [], ◌∷◌, ◌++◌, length, Option, Some, None, IfSome, refl, sym, ap, subst, ◌∙◌, arith, append_assoc, length-append}
use Rattle.std.specs.List.{flat_map}
use Rattle.std.proofs.lemmas.Bool.{cases_eq}
use Rattle.std.proofs.lemmas.List.{append-nil}
use Rattle.class_model.specs.Descriptors.{field_type_text, parameter_units, result_text, IsDescriptor, SpellsDescriptor}
use Rattle.class_model.specs.Inner.DescriptorParts.{TypeAt, TypesAt}
use Rattle.class_model.specs.Laws.Descriptors.{bytes_spell}
use Rattle.class_model.specs.Methods.{this_units, IsDescriptorOf}
use Rattle.class_model.specs.Names.{init}
use Rattle.class_model.specs.PoolChecks.{IsTypeName, IsFieldDescriptor, BytesSpell, IsMethodDescriptor, ReturnsVoid, InitIsVoid}
use Rattle.class_model.specs.declared.descriptor.FieldType.{FieldType}
use Rattle.class_model.specs.declared.descriptor.Descriptor.{Descriptor}
use Rattle.class_model.specs.Laws.Decisions.{Decision, mapped, both, either, implied}
use Rattle.class_model.proofs.Decisions.{three, at_most, equal_bytes, each, if_some}
use Rattle.class_model.proofs.DecidedTypes.{one_type, no_type, type_shorter, type_front, field_descriptor, field_type}
use Rattle.class_model.proofs.Parameters.{one_descriptor}

-- ---- what is said of the only one

-- where there is at most one of a kind, and whether there is one is decided, what is said of it is decided
module _ {A : Type 0} (P : A → Type 0) (same : (a b : A) → P a → P b → a ≡ b) (Q : A → Type 0) (decides : (a : A) → Decision (Q a)) where
  pub some_one : Decision ((a : A) × P a) → Decision ((a : A) × P a × Q a)
  some_one (inr none) = inr (λ h. none (h.0, h.1))
  some_one (inl found) = elim (decides found.0) [
    | inl holds ↦ inl (found.0, found.1, holds)
    | inr fails ↦ inr (λ h. fails (subst Q (same h.0 found.0 h.1 found.1) h.2))
  ]

  pub each_one : Decision ((a : A) × P a) → Decision ((a : A) → P a → Q a)
  each_one (inr none) = inl (λ a h. absurd (none (a, h)))
  each_one (inl found) = elim (decides found.0) [
    | inl holds ↦ inl (λ a h. subst Q (same found.0 a found.1 h) holds)
    | inr fails ↦ inr (λ h. fails (h found.0 found.1))
  ]

-- ---- parameters

-- a first parameter, and those behind it
pub first_at : (bytes : List ℕ) (type : FieldType) (types : List FieldType) (rest : List ℕ) → TypesAt bytes (type ∷ types) rest → TypeAt bytes type (flat_map field_type_text types ++ 41 ∷ rest)
first_at bytes type types rest p = record { is_type = p.each.0; spelled = p.spelled ∙ append_assoc (field_type_text type) (flat_map field_type_text types) (41 ∷ rest) }

pub others_at : (bytes : List ℕ) (type : FieldType) (types : List FieldType) (rest after : List ℕ) (first : FieldType) → TypesAt bytes (type ∷ types) rest → TypeAt bytes first after → (type ≡ first) × TypesAt after types rest
others_at bytes type types rest after first p at =
    let same = one_type bytes type first _ after (first_at bytes type types rest p) at in
    (same.0, record { each = p.each.1; spelled = sym same.1 })

pub put_first : (bytes after : List ℕ) (type : FieldType) (types : List FieldType) (rest : List ℕ) → TypeAt bytes type after → TypesAt after types rest → TypesAt bytes (type ∷ types) rest
put_first bytes after type types rest at p = record {
  each = (at.is_type, p.each);
  spelled = at.spelled ∙ ap (λ (t : List ℕ). field_type_text type ++ t) p.spelled ∙ sym (append_assoc (field_type_text type) (flat_map field_type_text types) (41 ∷ rest));
}

pub one_params : (types others : List FieldType) (bytes rest last : List ℕ) → TypesAt bytes types rest → TypesAt bytes others last → (types ≡ others) × (rest ≡ last)
one_params [] [] bytes rest last p q = (refl, let e = sym p.spelled ∙ q.spelled in cc)
one_params [] (type ∷ others) bytes rest last p q = absurd (no_type 41 rest bytes _ type refl p.spelled (first_at bytes type others last q))
one_params (type ∷ types) [] bytes rest last p q = absurd (no_type 41 last bytes _ type refl q.spelled (first_at bytes type types rest p))
one_params (type ∷ types) (other ∷ others) bytes rest last p q =
    let first = others_at bytes type types rest _ other p (first_at bytes other others last q) in
    let tails = one_params types others (flat_map field_type_text others ++ 41 ∷ last) rest last first.1 (record { each = q.each.1; spelled = refl }) in
    (cc (first.0, tails.0), tails.1)

abbrev ParamsFront : List ℕ → Type 0
ParamsFront bytes = ((types : List FieldType) × (rest : List ℕ) × TypesAt bytes types rest) ⊎ ((types : List FieldType) (rest : List ℕ) → ¬ TypesAt bytes types rest)

no_params_at_end : (types : List FieldType) (rest : List ℕ) → ¬ TypesAt [] types rest
no_params_at_end types rest p = omega (arith, ap length p.spelled, length-append (flat_map field_type_text types) (41 ∷ rest))

pub no_first : (first : ℕ) (bytes : List ℕ) → first ≢ 41 → ((type : FieldType) (rest : List ℕ) → ¬ TypeAt (first ∷ bytes) type rest) → (types : List FieldType) (rest : List ℕ) → ¬ TypesAt (first ∷ bytes) types rest
no_first first bytes other never [] rest p = other (let e = p.spelled in cc)
no_first first bytes other never (type ∷ types) rest p = never type _ (first_at (first ∷ bytes) type types rest p)

behind_first : (first : ℕ) (bytes after : List ℕ) (type : FieldType) → first ≢ 41 → TypeAt (first ∷ bytes) type after → ((types : List FieldType) (rest : List ℕ) → ¬ TypesAt after types rest) → (types : List FieldType) (rest : List ℕ) → ¬ TypesAt (first ∷ bytes) types rest
behind_first first bytes after type other at never [] rest p = other (let e = p.spelled in cc)
behind_first first bytes after type other at never (one ∷ types) rest p = never types rest (others_at (first ∷ bytes) one types rest after type p at).1

more_params : (first : ℕ) (bytes after : List ℕ) (type : FieldType) → first ≢ 41 → TypeAt (first ∷ bytes) type after → ParamsFront after → ParamsFront (first ∷ bytes)
more_params first bytes after type other at (inl p) = inl (type ∷ p.0, p.1, put_first (first ∷ bytes) after type p.0 p.1 at p.2)
more_params first bytes after type other at (inr never) = inr (behind_first first bytes after type other at never)

params_within : (left : ℕ) (bytes : List ℕ) → length bytes ≤ left → ParamsFront bytes
params_within left [] fits = inr no_params_at_end
params_within zero (first ∷ bytes) fits = absurd (omega (arith, fits))
params_within (suc left) (first ∷ bytes) fits = elim (cases_eq first 41) [
  | inl same ↦ inl ([], bytes, record { each = tt; spelled = cc })
  | inr other ↦ elim (type_front (first ∷ bytes)) [
    | inl f ↦ more_params first bytes f.1 f.0 other f.2 (params_within left f.1 (omega (arith, fits, type_shorter (first ∷ bytes) f.1 f.0 f.2)))
    | inr never ↦ inr (no_first first bytes other never)
  ]
]

params_front : (bytes : List ℕ) → ParamsFront bytes
params_front bytes = params_within (length bytes) bytes (omega arith)

-- ---- results

pub record Outcome (bytes : List ℕ) (type : Option FieldType) : Type 0 where
  pub named : IfSome type IsTypeName
  pub spelled : bytes ≡ result_text type

pub no_void : (bytes : List ℕ) → bytes ≡ 86 ∷ [] → ¬ IsFieldDescriptor bytes
no_void bytes e d = no_type 86 [] bytes [] d.type refl e (record { is_type = d.named; spelled = d.spelled ∙ sym (append-nil (field_type_text d.type)) })

pub type_outcome : (bytes : List ℕ) (type : FieldType) → Outcome bytes (Some type) → IsFieldDescriptor bytes
type_outcome bytes type o = record { type = type; named = o.named; spelled = o.spelled }

pub outcome_form : (bytes : List ℕ) (type : Option FieldType) → Outcome bytes type → (bytes ≡ 86 ∷ []) ⊎ IsFieldDescriptor bytes
outcome_form bytes None o = inl o.spelled
outcome_form bytes (Some type) o = inr (type_outcome bytes type o)

outcome : (bytes : List ℕ) → Decision ((type : Option FieldType) × Outcome bytes type)
outcome bytes = mapped
    (λ h. elim h [ inl void ↦ (None, record { named = tt; spelled = void }) | inr d ↦ (Some d.type, record { named = d.named; spelled = d.spelled }) ])
    (λ o. outcome_form bytes o.0 o.1)
    (either (equal_bytes bytes (86 ∷ [])) (field_descriptor bytes))

pub one_outcome : (bytes : List ℕ) (one other : Option FieldType) → Outcome bytes one → Outcome bytes other → one ≡ other
one_outcome bytes None None a b = refl
one_outcome bytes None (Some type) a b = absurd (no_void bytes a.spelled (type_outcome bytes type b))
one_outcome bytes (Some type) None a b = absurd (no_void bytes b.spelled (type_outcome bytes type a))
one_outcome bytes (Some type) (Some other) a b = ap Some (one_type bytes type other [] []
    (record { is_type = a.named; spelled = a.spelled ∙ sym (append-nil (field_type_text type)) })
    (record { is_type = b.named; spelled = b.spelled ∙ sym (append-nil (field_type_text other)) })).0

-- ---- method descriptors

pub params_of : (bytes after : List ℕ) (d : Descriptor) → bytes ≡ 40 ∷ after → BytesSpell bytes d → TypesAt after d.params (result_text d.result)
params_of bytes after d e b = record { each = b.params; spelled = let g = sym e ∙ b.spelled in cc }

pub one_spelled : (bytes : List ℕ) (one other : Descriptor) → BytesSpell bytes one → BytesSpell bytes other → one ≡ other
one_spelled bytes one other a b =
    let after = flat_map field_type_text one.params ++ 41 ∷ result_text one.result in
    let params = one_params one.params other.params after _ _ (params_of bytes after one a.spelled a) (params_of bytes after other a.spelled b) in
    let result = one_outcome (result_text one.result) one.result other.result (record { named = a.result; spelled = refl }) (record { named = b.result; spelled = params.1 }) in
    let same_params : one ≡ record { params = other.params; result = one.result } = ap (λ (p : List FieldType). let d : Descriptor = record { params = p; result = one.result } in d) params.0 in
    same_params ∙ ap (λ (r : Option FieldType). let d : Descriptor = record { params = other.params; result = r } in d) result

module _ (after : List ℕ) (types : List FieldType) (rest : List ℕ) (p : TypesAt after types rest) where
  pub made : (parameter_units types ≤ 255) × ((type : Option FieldType) × Outcome rest type) → IsMethodDescriptor (40 ∷ after)
  made h = (record { params = types; result = h.1.0 }, record { params = p.each; units = h.0; result = h.1.1.named; spelled = ap (λ (t : List ℕ). 40 ∷ t) (p.spelled ∙ ap (λ (t : List ℕ). flat_map field_type_text types ++ 41 ∷ t) h.1.1.spelled) })

  pub taken_apart : IsMethodDescriptor (40 ∷ after) → (parameter_units types ≤ 255) × ((type : Option FieldType) × Outcome rest type)
  taken_apart d =
      let same = one_params d.0.params types after _ rest (params_of (40 ∷ after) after d.0 refl d.1) p in
      (subst (λ (t : List FieldType). parameter_units t ≤ 255) same.0 d.1.units, (d.0.result, record { named = d.1.result; spelled = sym same.1 }))

of_params : (after : List ℕ) → ParamsFront after → Decision (IsMethodDescriptor (40 ∷ after))
of_params after (inl p) = mapped (made after p.0 p.1 p.2) (taken_apart after p.0 p.1 p.2) (both (at_most (parameter_units p.0) 255) (outcome p.1))
of_params after (inr never) = inr (λ d. never d.0.params _ (params_of (40 ∷ after) after d.0 refl d.1))

pub method_descriptor : (bytes : List ℕ) → Decision (IsMethodDescriptor bytes)
method_descriptor [] = inr (λ d. absurd (let e = d.1.spelled in cc))
method_descriptor (first ∷ after) = elim (cases_eq first 40) [
  | inl same ↦ rw same (of_params after (params_front after))
  | inr other ↦ inr (λ d. other (let e = d.1.spelled in cc))
]

-- ---- what is said of them

no_result : (result : Option FieldType) → Decision (result ≡ None)
no_result None = inl refl
no_result (Some type) = inr (λ e. absurd cc)

returns_void : (bytes : List ℕ) → Decision (ReturnsVoid bytes)
returns_void bytes = mapped
    (λ h. record { descriptor = h.0; spelled = h.1; no_result = h.2 })
    (λ r. (r.descriptor, r.spelled, r.no_result))
    (some_one (BytesSpell bytes) (one_spelled bytes) (λ d. d.result ≡ None) (λ d. no_result d.result) (method_descriptor bytes))

pub init_is_void : (name : List ℕ) (descriptor : Option (List ℕ)) → Decision (InitIsVoid name descriptor)
init_is_void name descriptor = if_some (λ bytes. implied (equal_bytes name init) (implied (method_descriptor bytes) (returns_void bytes))) descriptor

-- texts

is_descriptor : (d : Descriptor) → Decision (IsDescriptor d)
is_descriptor d = mapped
    (λ h. record { params = h.0; units = h.1; result = h.2 })
    (λ i. (i.params, i.units, i.result))
    (three (each field_type d.params) (at_most (parameter_units d.params) 255) (if_some field_type d.result))

pub spelled_descriptor : (bytes : List ℕ) → Decision ((d : Descriptor) × SpellsDescriptor bytes d)
spelled_descriptor bytes = mapped
    (λ h. (h.0, record { is_descriptor = h.2; spelled = h.1.spelled }))
    (λ s. (s.0, bytes_spell bytes s.0 s.1, s.1.is_descriptor))
    (some_one (BytesSpell bytes) (one_spelled bytes) IsDescriptor is_descriptor (method_descriptor bytes))

pub descriptor_of : (flags : ℕ) (bytes : List ℕ) → Decision (IsDescriptorOf flags bytes)
descriptor_of flags bytes = mapped
    (λ h. record { descriptor = h.0; spelled = h.1; units = h.2 })
    (λ d. (d.descriptor, d.spelled, d.units))
    (some_one (SpellsDescriptor bytes) (one_descriptor bytes) (λ d. parameter_units d.params + this_units flags ≤ 255) (λ d. at_most (parameter_units d.params + this_units flags) 255) (spelled_descriptor bytes))
