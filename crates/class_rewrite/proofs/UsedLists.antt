-- Lists of fields of which something holds, as they grow.
use Rattle.std.proofs.Common.{◌≡◌, ◌⊎◌, ◌++◌, inl, inr, ℕ, zero, suc, List, [], ◌∷◌, slice_get, Some, refl, sym, ap, subst, ◌∙◌}
use Rattle.std.proofs.lemmas.Option.{none-some, same_Some}
use Rattle.class_model.specs.declared.instr.Instr.{Instr}
use Rattle.class_rewrite.specs.Inner.Outcomes.{AreFieldsOf}
use Rattle.class_rewrite.specs.Inner.UsedFields.{Adds, OfSome}
use Rattle.class_rewrite.specs.declared.outcome.FieldAt.{FieldAt}
use Rattle.code_layout.specs.declared.emitted.EmitItem.{EmitItem}

-- ---- lists that are joined

module _ {A : Type 0} where
  pub in_left : (xs ys : List A) (place : ℕ) (x : A) → slice_get xs place ≡ Some x → (at : ℕ) × (slice_get (xs ++ ys) at ≡ Some x)
  in_left [] ys place x is = absurd (none-some x is)
  in_left (first ∷ xs) ys zero x is = (zero, is)
  in_left (first ∷ xs) ys (suc place) x is = let rest = in_left xs ys place x is in (suc rest.0, rest.1)

  pub in_right : (xs ys : List A) (place : ℕ) (x : A) → slice_get ys place ≡ Some x → (at : ℕ) × (slice_get (xs ++ ys) at ≡ Some x)
  in_right [] ys place x is = (place, is)
  in_right (first ∷ xs) ys place x is = let rest = in_right xs ys place x is in (suc rest.0, rest.1)

  pub in_either : (xs ys : List A) (place : ℕ) (x : A) → slice_get (xs ++ ys) place ≡ Some x
      → ((at : ℕ) × (slice_get xs at ≡ Some x)) ⊎ ((at : ℕ) × (slice_get ys at ≡ Some x))
  in_either [] ys place x is = inr (place, is)
  in_either (first ∷ xs) ys zero x is = inl (zero, is)
  in_either (first ∷ xs) ys (suc place) x is = elim (in_either xs ys place x is) [
    | inl left ↦ inl (suc left.0, left.1)
    | inr right ↦ inr right
  ]

-- ---- fields of which something holds

pub fields_none : (Is : ℕ → ℕ → Type 0) → ((class number : ℕ) → ¬ Is class number) → AreFieldsOf Is []
fields_none Is none = record {
  each = λ place at is. absurd (none-some at is);
  all = λ class number is. absurd (none class number is);
}

abbrev field_at : ℕ → ℕ → FieldAt
field_at class number = record { class = class; field = number }

pub fields_one : (Is : ℕ → ℕ → Type 0) (one : FieldAt) → Is one.class one.field
    → ((class number : ℕ) → Is class number → (class ≡ one.class) × (number ≡ one.field))
    → AreFieldsOf Is (one ∷ [])
fields_one Is one holds only = record { each = each; all = all } where
  each : (place : ℕ) (at : FieldAt) → slice_get (one ∷ []) place ≡ Some at → Is at.class at.field
  each zero at is = subst (λ (f : FieldAt). Is f.class f.field) (same_Some one at is) holds
  each (suc place) at is = absurd (none-some at is)

  all : (class number : ℕ) → Is class number → (place : ℕ) × (slice_get (one ∷ []) place ≡ Some (record { class = class; field = number }))
  all class number is =
      let same = only class number is in
      (zero, ap Some (sym (ap (λ (c : ℕ). field_at c number) same.0 ∙ ap (λ (n : ℕ). field_at one.class n) same.1)))

pub fields_same : (Is Also : ℕ → ℕ → Type 0) (fields : List FieldAt)
    → ((class number : ℕ) → Is class number → Also class number)
    → ((class number : ℕ) → Also class number → Is class number)
    → AreFieldsOf Is fields
    → AreFieldsOf Also fields
fields_same Is Also fields to back are = record {
  each = λ place at is. to at.class at.field (are.each place at is);
  all = λ class number is. are.all class number (back class number is);
}

pub fields_more : (Is Also : ℕ → ℕ → Type 0) (fields others : List FieldAt) → AreFieldsOf Is fields → AreFieldsOf Also others
    → AreFieldsOf (λ class number. Is class number ⊎ Also class number) (fields ++ others)
fields_more Is Also fields others are more = record {
  each = λ place at is. elim (in_either fields others place at is) [
    | inl left ↦ inl (are.each left.0 at left.1)
    | inr right ↦ inr (more.each right.0 at right.1)
  ];
  all = λ class number is. by class number is;
} where
  by : (class number : ℕ) → Is class number ⊎ Also class number
      → (place : ℕ) × (slice_get (fields ++ others) place ≡ Some (record { class = class; field = number }))
  by class number (inl is) = let at = are.all class number is in in_left fields others at.0 (record { class = class; field = number }) at.1
  by class number (inr is) = let at = more.all class number is in in_right fields others at.0 (record { class = class; field = number }) at.1

-- ---- fields that are added

nothing_behind : {A : Type 0} (xs : List A) → xs ≡ xs ++ []
nothing_behind [] = refl
nothing_behind (x ∷ xs) = ap (λ (rest : List _). x ∷ rest) (nothing_behind xs)

pub adds_none : (Is : ℕ → ℕ → Type 0) (before : List FieldAt) → ((class number : ℕ) → ¬ Is class number) → Adds Is before before
adds_none Is before none = record { more = []; is = nothing_behind before; are = fields_none Is none }

pub adds_one : (Is : ℕ → ℕ → Type 0) (before after : List FieldAt) (one : FieldAt) → after ≡ before ++ one ∷ [] → Is one.class one.field
    → ((class number : ℕ) → Is class number → (class ≡ one.class) × (number ≡ one.field))
    → Adds Is before after
adds_one Is before after one is holds only = record { more = one ∷ []; is = is; are = fields_one Is one holds only }

pub adds_same : (Is Also : ℕ → ℕ → Type 0) (before after : List FieldAt)
    → ((class number : ℕ) → Is class number → Also class number)
    → ((class number : ℕ) → Also class number → Is class number)
    → Adds Is before after
    → Adds Also before after
adds_same Is Also before after to back adds = record { more = adds.more; is = adds.is; are = fields_same Is Also adds.more to back adds.are }

-- ---- item by item

pub of_none : (Is : Instr → ℕ → ℕ → Type 0) → AreFieldsOf (OfSome Is []) []
of_none Is = fields_none (OfSome Is []) (λ class number some. none-some some.item some.is_item)

pub of_more : (Is : Instr → ℕ → ℕ → Type 0) (items : List EmitItem) (item : EmitItem) (before after : List FieldAt)
    → AreFieldsOf (OfSome Is items) before
    → Adds (Is item.instr) before after
    → AreFieldsOf (OfSome Is (items ++ item ∷ [])) after
of_more Is items item before after are adds =
    subst (AreFieldsOf (OfSome Is (items ++ item ∷ []))) (sym adds.is)
    (fields_same (λ class number. OfSome Is items class number ⊎ Is item.instr class number) (OfSome Is (items ++ item ∷ [])) (before ++ adds.more) to back
    (fields_more (OfSome Is items) (Is item.instr) before adds.more are adds.are)) where
      to : (class number : ℕ) → OfSome Is items class number ⊎ Is item.instr class number → OfSome Is (items ++ item ∷ []) class number
      to class number (inl some) =
          let at = in_left items (item ∷ []) some.place some.item some.is_item in
          record { place = at.0; item = some.item; is_item = at.1; holds = some.holds }
      to class number (inr holds) =
          let at = in_right items (item ∷ []) 0 item refl in
          record { place = at.0; item = item; is_item = at.1; holds = holds }

      last : (place : ℕ) (one : EmitItem) → slice_get (item ∷ []) place ≡ Some one → one ≡ item
      last zero one is = sym (same_Some item one is)
      last (suc place) one is = absurd (none-some one is)

      back : (class number : ℕ) → OfSome Is (items ++ item ∷ []) class number → OfSome Is items class number ⊎ Is item.instr class number
      back class number some = elim (in_either items (item ∷ []) some.place some.item some.is_item) [
        | inl left ↦ inl (record { place = left.0; item = some.item; is_item = left.1; holds = some.holds })
        | inr right ↦ inr (subst (λ (i : EmitItem). Is i.instr class number) (last right.0 some.item right.1) some.holds)
      ]
