-- Local units that get offsets in place of numbers, one after the other.
use Rattle.std.proofs.Common.{◌≡◌, ◌+◌, ◌-◌, ◌<◌, ℕ, zero, suc, List, [], ◌∷◌, ◌++◌, length, map, take, drop, replicate, slice_get, slice_set, Some, refl, sym, ap, subst, ◌∙◌, append_assoc, arith}
use Rattle.class_model.specs.Laws.Lists.{drop_item}
use Rattle.class_model.specs.declared.frame.VType.{VType}
use Rattle.class_model.specs.declared.frame.VType.TheVariants.{Top}
use Rattle.stackmap_emit.specs.Inner.PlacedUnits.{ArePlacedBefore}
use Rattle.stackmap_emit.specs.PlacedFrames.{type_at}

-- ---- lists

take_drop : (types : List VType) (at : ℕ) → take at types ++ drop at types ≡ types
take_drop [] zero = refl
take_drop [] (suc at) = refl
take_drop (type ∷ types) zero = refl
take_drop (type ∷ types) (suc at) = ap (λ (rest : List VType). type ∷ rest) (take_drop types at)

first_left : (types : List VType) (at : ℕ) (type : VType) (rest : List VType) → drop at types ≡ type ∷ rest → slice_get types at ≡ Some type
first_left [] zero type rest is = absurd cc
first_left [] (suc at) type rest is = absurd cc
first_left (first ∷ types) zero type rest is = let same : first ≡ type = cc is in ap Some same
first_left (first ∷ types) (suc at) type rest is = first_left types at type rest is

rest_left : (types : List VType) (at : ℕ) (type : VType) (rest : List VType) → drop at types ≡ type ∷ rest → drop (suc at) types ≡ rest
rest_left [] zero type rest is = absurd cc
rest_left [] (suc at) type rest is = absurd cc
rest_left (first ∷ types) zero type rest is = cc is
rest_left (first ∷ types) (suc at) type rest is = rest_left types at type rest is

set_same : (types : List VType) (at : ℕ) (type : VType) → slice_get types at ≡ Some type → slice_set types at type ≡ types
set_same [] zero type is = refl
set_same [] (suc at) type is = refl
set_same (first ∷ types) zero type is = let same : first ≡ type = cc is in ap (λ (one : VType). one ∷ types) (sym same)
set_same (first ∷ types) (suc at) type is = ap (λ (rest : List VType). first ∷ rest) (set_same types at type is)

set_length : (types : List VType) (at : ℕ) (type : VType) → length (slice_set types at type) ≡ length types
set_length [] zero type = refl
set_length [] (suc at) type = refl
set_length (first ∷ types) zero type = refl
set_length (first ∷ types) (suc at) type = ap suc (set_length types at type)

set_taken : (types : List VType) (at : ℕ) (type : VType) → at < length types → take (suc at) (slice_set types at type) ≡ take at types ++ type ∷ []
set_taken [] at type within = absurd (omega (arith, within))
set_taken (first ∷ types) zero type within = refl
set_taken (first ∷ types) (suc at) type within = ap (λ (rest : List VType). first ∷ rest) (set_taken types at type (omega (arith, within)))

set_left : (types : List VType) (at : ℕ) (type : VType) → drop (suc at) (slice_set types at type) ≡ drop (suc at) types
set_left [] zero type = refl
set_left [] (suc at) type = refl
set_left (first ∷ types) zero type = refl
set_left (first ∷ types) (suc at) type = set_left types at type

-- ---- units

pub placed_next : (start : ℕ → ℕ) (units : List VType) (at : ℕ) (placed new : List VType) (type unit : VType)
    → slice_get units at ≡ Some type
    → at < length units
    → unit ≡ type_at start type
    → new ≡ slice_set placed at unit
    → ArePlacedBefore start units at placed
    → ArePlacedBefore start units (at + 1) new
placed_next start units at placed new type unit is within same new_is before =
    let next : suc at ≡ at + 1 = omega arith in
    let rest = map (type_at start) (drop (at + 1) units) in
    let inside : at < length placed = omega (arith, within, before.many) in
    let taken : take (at + 1) new ≡ take at placed ++ unit ∷ [] = subst (λ (n : ℕ). take n new ≡ take at placed ++ unit ∷ []) next (ap (take (suc at)) new_is ∙ set_taken placed at unit inside) in
    let left : drop (suc at) placed ≡ drop (at + 1) units = rest_left placed at type (drop (at + 1) units) (before.left ∙ drop_item units at type is) in
    record {
      many = ap length new_is ∙ set_length placed at unit ∙ before.many;
      done = ap (λ (list : List VType). list ++ rest) taken
          ∙ append_assoc (take at placed) (unit ∷ []) rest
          ∙ ap (λ (one : VType). take at placed ++ one ∷ rest) same
          ∙ ap (λ (list : List VType). take at placed ++ map (type_at start) list) (sym (drop_item units at type is))
          ∙ before.done;
      left = subst (λ (n : ℕ). drop n new ≡ drop (at + 1) units) next (ap (drop (suc at)) new_is ∙ set_left placed at unit ∙ left);
    }

-- one that is no uninitialised object
pub placed_same : (start : ℕ → ℕ) (units : List VType) (at : ℕ) (placed : List VType) (type : VType)
    → slice_get units at ≡ Some type
    → at < length units
    → type ≡ type_at start type
    → ArePlacedBefore start units at placed
    → ArePlacedBefore start units (at + 1) placed
placed_same start units at placed type is within same before =
    placed_next start units at placed placed type type is within same
    (sym (set_same placed at type (first_left placed at type (drop (at + 1) units) (before.left ∙ drop_item units at type is)))) before

tops_stay : (start : ℕ → ℕ) (n : ℕ) → map (type_at start) (replicate n Top) ≡ replicate n Top
tops_stay start zero = refl
tops_stay start (suc n) = ap (λ (rest : List VType). Top ∷ rest) (tops_stay start n)

pub placed_all : (start : ℕ → ℕ) (units : List VType) (at : ℕ) (placed : List VType)
    → drop at units ≡ replicate (length units - at) Top
    → ArePlacedBefore start units at placed
    → placed ≡ map (type_at start) units
placed_all start units at placed tops before =
    sym (take_drop placed at)
    ∙ ap (λ (list : List VType). take at placed ++ list)
    (before.left ∙ tops ∙ sym (tops_stay start (length units - at)) ∙ ap (map (type_at start)) (sym tops))
    ∙ before.done
