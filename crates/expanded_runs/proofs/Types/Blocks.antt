-- Units in the place of a block of others.
use Rattle.std.proofs.Common.{◌≡◌, ◌+◌, ◌≤◌, ◌<◌, ℕ, zero, suc, List, [], ◌∷◌, ◌++◌, length, map, take, drop, slice_get, slice_set, refl, sym, ap, ◌∙◌, arith, append-nil}
use Rattle.std.proofs.lemmas.List.{drop-map, length-append, length-drop, length-map, length-set}
use Rattle.class_model.specs.declared.frame.VType.{VType}
use Rattle.expanded_code.specs.Expanded.{overlaid}

-- ---- unit by unit

-- the same as `overlaid`
abbrev laid : ℕ → List VType → List VType → List VType
laid zero own units = own ++ drop (length own) units
laid (suc unit) own [] = own
laid (suc unit) own (first ∷ units) = first ∷ laid unit own units

drop_nil : (n : ℕ) → drop {A = VType} n [] ≡ []
drop_nil zero = refl
drop_nil (suc n) = refl

laid_is : (unit : ℕ) (own units : List VType) → overlaid unit own units ≡ laid unit own units
laid_is zero own units = let same : 0 + length own ≡ length own = omega arith in ap (λ (n : ℕ). own ++ drop n units) same
laid_is (suc unit) own [] = ap (λ (rest : List VType). own ++ rest) (drop_nil (suc unit + length own)) ∙ append-nil own
laid_is (suc unit) own (first ∷ units) =
    let next : suc unit + length own ≡ suc (unit + length own) = omega arith in
    ap (λ (n : ℕ). (first ∷ take unit units) ++ own ++ drop n (first ∷ units)) next
    ∙ ap (λ (rest : List VType). first ∷ rest) (laid_is unit own units)

-- ---- a unit of the block

get_front : (own rest : List VType) (at : ℕ) → at < length own → slice_get (own ++ rest) at ≡ slice_get own at
get_front [] rest at within = absurd (omega (arith, within))
get_front (first ∷ own) rest zero within = refl
get_front (first ∷ own) rest (suc at) within = get_front own rest at (omega (arith, within))

get_laid : (unit : ℕ) (own units : List VType) (at : ℕ) → unit ≤ length units → at < length own
    → slice_get (laid unit own units) (unit + at) ≡ slice_get own at
get_laid zero own units at few within =
    let same : 0 + at ≡ at = omega arith in
    ap (λ (n : ℕ). slice_get (own ++ drop (length own) units) n) same ∙ get_front own (drop (length own) units) at within
get_laid (suc unit) own [] at few within = absurd (omega (arith, few))
get_laid (suc unit) own (first ∷ units) at few within =
    let next : suc unit + at ≡ suc (unit + at) = omega arith in
    ap (λ (n : ℕ). slice_get (first ∷ laid unit own units) n) next ∙ get_laid unit own units at (omega (arith, few)) within

pub get_in_block : (unit : ℕ) (own units : List VType) (at : ℕ) → unit + length own ≤ length units → at < length own
    → slice_get (overlaid unit own units) (unit + at) ≡ slice_get own at
get_in_block unit own units at few within =
    ap (λ (all : List VType). slice_get all (unit + at)) (laid_is unit own units)
    ∙ get_laid unit own units at (omega (arith, few)) within

set_front : (own rest : List VType) (at : ℕ) (type : VType) → at < length own
    → slice_set (own ++ rest) at type ≡ slice_set own at type ++ rest
set_front [] rest at type within = absurd (omega (arith, within))
set_front (first ∷ own) rest zero type within = refl
set_front (first ∷ own) rest (suc at) type within =
    ap (λ (all : List VType). first ∷ all) (set_front own rest at type (omega (arith, within)))

set_laid : (unit : ℕ) (own units : List VType) (at : ℕ) (type : VType) → unit ≤ length units → at < length own
    → slice_set (laid unit own units) (unit + at) type ≡ laid unit (slice_set own at type) units
set_laid zero own units at type few within =
    let same : 0 + at ≡ at = omega arith in
    ap (λ (n : ℕ). slice_set (own ++ drop (length own) units) n type) same
    ∙ set_front own (drop (length own) units) at type within
    ∙ ap (λ (n : ℕ). slice_set own at type ++ drop n units) (sym (length-set own at type))
set_laid (suc unit) own [] at type few within = absurd (omega (arith, few))
set_laid (suc unit) own (first ∷ units) at type few within =
    let next : suc unit + at ≡ suc (unit + at) = omega arith in
    ap (λ (n : ℕ). slice_set (first ∷ laid unit own units) n type) next
    ∙ ap (λ (all : List VType). first ∷ all) (set_laid unit own units at type (omega (arith, few)) within)

pub set_in_block : (unit : ℕ) (own units : List VType) (at : ℕ) (type : VType) → unit + length own ≤ length units → at < length own
    → slice_set (overlaid unit own units) (unit + at) type ≡ overlaid unit (slice_set own at type) units
set_in_block unit own units at type few within =
    ap (λ (all : List VType). slice_set all (unit + at) type) (laid_is unit own units)
    ∙ set_laid unit own units at type (omega (arith, few)) within
    ∙ sym (laid_is unit (slice_set own at type) units)

-- ---- a unit before it

get_before : (unit : ℕ) (own units : List VType) (at : ℕ) → at < unit → unit ≤ length units
    → slice_get (laid unit own units) at ≡ slice_get units at
get_before zero own units at before few = absurd (omega (arith, before))
get_before (suc unit) own [] at before few = absurd (omega (arith, few))
get_before (suc unit) own (first ∷ units) zero before few = refl
get_before (suc unit) own (first ∷ units) (suc at) before few =
    get_before unit own units at (omega (arith, before)) (omega (arith, few))

pub get_before_block : (unit : ℕ) (own units : List VType) (at : ℕ) → at < unit → unit ≤ length units
    → slice_get (overlaid unit own units) at ≡ slice_get units at
get_before_block unit own units at before few =
    ap (λ (all : List VType). slice_get all at) (laid_is unit own units) ∙ get_before unit own units at before few

-- ---- all units

map_front : (f : VType → VType) (own rest : List VType) → map f (own ++ rest) ≡ map f own ++ map f rest
map_front f [] rest = refl
map_front f (first ∷ own) rest = ap (λ (all : List VType). f first ∷ all) (map_front f own rest)

map_laid : (f : VType → VType) (unit : ℕ) (own units : List VType)
    → map f (laid unit own units) ≡ laid unit (map f own) (map f units)
map_laid f zero own units =
    map_front f own (drop (length own) units)
    ∙ ap (λ (rest : List VType). map f own ++ rest) (sym (drop-map f (length own) units))
    ∙ ap (λ (n : ℕ). map f own ++ drop n (map f units)) (sym (length-map own f))
map_laid f (suc unit) own [] = refl
map_laid f (suc unit) own (first ∷ units) = ap (λ (all : List VType). f first ∷ all) (map_laid f unit own units)

pub map_block : (f : VType → VType) (unit : ℕ) (own units : List VType)
    → map f (overlaid unit own units) ≡ overlaid unit (map f own) (map f units)
map_block f unit own units =
    ap (map f) (laid_is unit own units) ∙ map_laid f unit own units ∙ sym (laid_is unit (map f own) (map f units))

-- ---- how many there are

length_laid : (unit : ℕ) (own units : List VType) → unit + length own ≤ length units → length (laid unit own units) ≡ length units
length_laid zero own units few =
    omega (arith, few, length-append own (drop (length own) units), length-drop (length own) units)
length_laid (suc unit) own [] few = absurd (omega (arith, few))
length_laid (suc unit) own (first ∷ units) few = ap suc (length_laid unit own units (omega (arith, few)))

pub length_block : (unit : ℕ) (own units : List VType) → unit + length own ≤ length units
    → length (overlaid unit own units) ≡ length units
length_block unit own units few = ap length (laid_is unit own units) ∙ length_laid unit own units few
