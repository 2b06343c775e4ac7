-- A map that knows where the constants of a pool stand first, entry by entry.
use Rattle.std.proofs.Common.{◌≡◌, ◌≢◌, ◌↔◌, IsTrue, ℕ, zero, suc, ◌+◌, ◌<◌, Bool, true, false, [], ◌∷◌, ◌++◌, length, slice_get, take, Option, Some, None, is_some, refl, ap, subst, arith}
use Rattle.std.specs.HashMap.{get, Updates}
use Rattle.std.proofs.lemmas.List.{length-take-le}
use Rattle.std.proofs.lemmas.Option.{slice_get_within}
use Rattle.class_model.specs.Laws.Lists.{take_item}
use Rattle.class_model.specs.Pool.{Constants, constant_at}
use Rattle.class_model.specs.declared.pool.Const.{Const}
use Rattle.pool_edit.specs.Edits.{IsAbsent, IsFirstIndex}
use Rattle.pool_edit.specs.Inner.Known.{Indices, Says}
use Rattle.pool_edit.proofs.Slots.{out-append, first-append, first-seam}

-- what is found is not none
none-found : (found : Option ℕ) → is_some found ≡ true → found ≡ None → ⊥
none-found None found none = cc
none-found (Some index) found none = cc

pub none-if-not : (found : Option ℕ) → false ≡ is_some found → found ≡ None
none-if-not None lost = refl
none-if-not (Some index) lost = absurd cc

-- the entry at an index, by the constant that the index names
pub const-slot : (pool : Constants) (index : ℕ) (constant : Const) → constant_at pool index ≡ Some constant → slice_get pool index ≡ Some (Some constant)
const-slot [] index constant is = absurd cc
const-slot (entry ∷ pool) zero constant is = ap (λ (e : Option Const). Some e) is
const-slot (entry ∷ pool) (suc index) constant is = const-slot pool index constant is

pub none-slot : (pool : Constants) (index : ℕ) → constant_at pool index ≡ None → index < length pool → slice_get pool index ≡ Some None
none-slot [] index is within = absurd (omega arith)
none-slot (entry ∷ pool) zero is within = ap (λ (e : Option Const). Some e) is
none-slot (entry ∷ pool) (suc index) is within = none-slot pool index is (omega arith)

-- what a look-up says stays, if the next entry is not what it did not find
pub says-more : (pool : Constants) (entry : Option Const) (constant : Const) (found : Option ℕ) → Says pool constant found → (found ≡ None → entry ≢ Some constant) → Says (pool ++ entry ∷ []) constant found
says-more pool entry constant None said other = out-append pool (entry ∷ []) (Some constant) said (alone (other refl))
  where
    alone : entry ≢ Some constant → IsAbsent (entry ∷ []) constant
    alone differs zero is = differs (cc)
    alone differs (suc i) is = absurd cc
says-more pool entry constant (Some index) said other = first-append pool (entry ∷ []) constant index said

module _ (eq : Const → Const → Bool) (same : (one other : Const) → IsTrue (eq one other) ↔ (one ≡ other)) (pool : Constants) (at : ℕ) (known : Indices)
    (knows : (constant : Const) → Says (take at pool) constant (get eq known constant)) where
  -- an index that has no constant
  pub knows-none : slice_get pool at ≡ Some None → (constant : Const) → Says (take (at + 1) pool) constant (get eq known constant)
  knows-none is constant = rw (take_item pool at None is) (says-more (take at pool) None constant (get eq known constant) (knows constant) (λ _ e. cc))

  -- a constant that is known
  pub knows-again : (here : Const) → slice_get pool at ≡ Some (Some here) → is_some (get eq known here) ≡ true → (constant : Const) → Says (take (at + 1) pool) constant (get eq known constant)
  knows-again here is found constant =
      rw (take_item pool at (Some here) is)
      (says-more (take at pool) (Some here) constant (get eq known constant) (knows constant)
      (λ none e. let same_one : here ≡ constant = cc in let f : is_some (get eq known constant) ≡ true = subst (λ (c : Const). is_some (get eq known c) ≡ true) same_one found in absurd (let none' : get eq known constant ≡ None = none in none-found (get eq known constant) f none')))

  -- a constant that is new
  pub knows-new : (here : Const) (more : Indices) → slice_get pool at ≡ Some (Some here) → get eq known here ≡ None → Updates eq known more here (Some at)
      → (constant : Const) → Says (take (at + 1) pool) constant (get eq more constant)
  knows-new here more is none updates constant = by (eq here constant) refl
    where
      long : length (take at pool) ≡ at
      long = length-take-le at pool (let within : at < length pool = slice_get_within pool at (Some here) is in omega arith)

      absent : IsAbsent (take at pool) here
      absent = let said = knows here in rw none at said

      first : IsFirstIndex (take at pool ++ Some here ∷ []) here at
      first = subst (λ (n : ℕ). IsFirstIndex (take at pool ++ Some here ∷ []) here n) long (first-seam (take at pool) [] here absent)

      by : (b : Bool) → eq here constant ≡ b → Says (take (at + 1) pool) constant (get eq more constant)
      by true e =
          let one : here ≡ constant = (same here constant).0 e in
          rw (take_item pool at (Some here) is) (subst (λ (c : Const). Says (take at pool ++ Some here ∷ []) c (get eq more c)) one (rw updates.1 first))
      by false e =
          rw (take_item pool at (Some here) is, updates.2 constant e)
          (says-more (take at pool) (Some here) constant (get eq known constant) (knows constant)
          (λ _ i. let one : here ≡ constant = cc in let t : eq here constant ≡ true = (same here constant).1 one in cc))
