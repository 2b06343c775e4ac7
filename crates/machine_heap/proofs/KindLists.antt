-- Values that are of the kinds of a list, from one place on.
use Rattle.std.proofs.Common.{◌≡◌, ℕ, zero, suc, ◌<◌, ◌≤◌, Bool, true, false, List, [], ◌∷◌, length, map, drop, get_or, refl, ap, sym, ◌∙◌, arith}
use Rattle.class_model.specs.Descriptors.{kind_of}
use Rattle.class_model.specs.declared.descriptor.FieldType.{FieldType}
use Rattle.class_model.specs.declared.descriptor.Kind.{Kind}
use Rattle.machine_values.specs.Values.{has_kind, have_kinds}
use Rattle.machine_values.specs.declared.value.Value.{Value}
use Rattle.machine_heap.specs.Inner.Kinds.{are_of_kinds}

of_types :
    (types : List FieldType) (values : List Value)
    → are_of_kinds (map kind_of types) values ≡ have_kinds types values
of_types [] [] = refl
of_types [] (value ∷ values) = refl
of_types (type ∷ types) [] = refl
of_types (type ∷ types) (value ∷ values) = grind (arith, of_types types values)

-- the answer is that of the definition, over types of these kinds
pub answers :
    (kinds : List Kind) (values : List Value) {found : Bool} → found ≡ are_of_kinds kinds values
    → (types : List FieldType) → map kind_of types ≡ kinds → found ≡ have_kinds types values
answers kinds values found_is types kinds_are =
    found_is ∙ ap (λ kinds. are_of_kinds kinds values) (sym kinds_are) ∙ of_types types values

pub unequal :
    (kinds : List Kind) (values : List Value) → (length kinds ≡ length values → ⊥)
    → false ≡ are_of_kinds kinds values
unequal [] [] differs = absurd (differs refl)
unequal [] (value ∷ values) differs = refl
unequal (kind ∷ kinds) [] differs = refl
unequal (kind ∷ kinds) (value ∷ values) differs =
    grind (arith, unequal kinds values (λ same. differs (ap suc same)))

-- none is left
pub none_left :
    (kinds : List Kind) (values : List Value) (at : ℕ) → length kinds ≡ length values
    → length kinds ≤ at → true ≡ are_of_kinds (drop at kinds) (drop at values)
none_left [] [] zero same past = refl
none_left [] [] (suc at) same past = refl
none_left [] (value ∷ values) at same past = absurd (omega arith)
none_left (kind ∷ kinds) [] at same past = absurd (omega arith)
none_left (kind ∷ kinds) (value ∷ values) zero same past = absurd (omega arith)
none_left (kind ∷ kinds) (value ∷ values) (suc at) same past =
    none_left kinds values at (omega arith) (omega arith)

-- one is of another kind
pub one_differs :
    (kinds : List Kind) (values : List Value) (at : ℕ) (kind : Kind) (value : Value)
    → at < length kinds → at < length values
    → has_kind (get_or kinds at kind) (get_or values at value) ≡ false
    → false ≡ are_of_kinds (drop at kinds) (drop at values)
one_differs [] values at kind value below below' differs = absurd (omega arith)
one_differs (k ∷ kinds) [] at kind value below below' differs = absurd (omega arith)
one_differs (k ∷ kinds) (v ∷ values) zero kind value below below' differs = grind arith
one_differs (k ∷ kinds) (v ∷ values) (suc at) kind value below below' differs =
    one_differs kinds values at kind value (omega arith) (omega arith) differs
