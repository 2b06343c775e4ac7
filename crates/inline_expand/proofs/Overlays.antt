-- Units laid over others.
use Rattle.std.proofs.Common.{◌⊎◌, ◌≡◌, ◌+◌, ◌-◌, ◌<◌, ◌≤◌, ℕ, zero, suc, List, [], ◌∷◌, ◌++◌, length, map, take, drop, replicate, slice_set, inl, inr, refl, sym, ap, subst, ◌∙◌, arith, append-nil, append_assoc, length-append}
use Rattle.std.proofs.lemmas.List.{drop-drop, drop-replicate, length-map, length-replicate, map-append, replicate-append-replicate, take-append-drop, length-take-le, take_all}
use Rattle.class_model.specs.declared.frame.VType.{VType}
use Rattle.expanded_code.specs.Expanded.{overlaid}
use Rattle.inline_expand.specs.Inner.Frames.{put_at}

pub le-cases : (m n : ℕ) → (m ≤ n) ⊎ (n < m)
le-cases zero n = inl (omega arith)
le-cases (suc m) zero = inr (omega arith)
le-cases (suc m) (suc n) = of-less (le-cases m n) where
  of-less : (m ≤ n) ⊎ (n < m) → (suc m ≤ suc n) ⊎ (suc n < suc m)
  of-less (inl less) = inl (omega arith)
  of-less (inr more) = inr (omega arith)

same-count : (count more : ℕ) → count ≤ more → count + (more - count) ≡ more
same-count count more few = omega arith

-- ---- an item that is put

pub put-set : (items : List VType) (at : ℕ) (item : VType) → at < length items → put_at items at item ≡ slice_set items at item
put-set [] at item within = absurd (omega arith)
put-set (first ∷ items) zero item within = refl
put-set (first ∷ items) (suc at) item within = ap (λ (rest : List VType). first ∷ rest) (put-set items at item (omega arith))

pub put-push : (items : List VType) (at : ℕ) (item : VType) → length items ≤ at → put_at items at item ≡ items ++ item ∷ []
put-push [] at item behind = refl
put-push (first ∷ items) zero item behind = absurd (omega arith)
put-push (first ∷ items) (suc at) item behind = ap (λ (rest : List VType). first ∷ rest) (put-push items at item (omega arith))

-- ---- units over others, one by one

abbrev laid : ℕ → List VType → List VType → List VType
laid zero own units = own ++ drop (length own) units
laid (suc unit) own [] = own
laid (suc unit) own (first ∷ units) = first ∷ laid unit own units

drop-nil : (n : ℕ) → drop {A = VType} n [] ≡ []
drop-nil zero = refl
drop-nil (suc n) = refl

laid-is : (unit : ℕ) (own units : List VType) → overlaid unit own units ≡ laid unit own units
laid-is zero own units = let same : 0 + length own ≡ length own = omega arith in ap (λ (n : ℕ). own ++ drop n units) same
laid-is (suc unit) own [] = ap (λ (rest : List VType). own ++ rest) (drop-nil (suc unit + length own)) ∙ append-nil own
laid-is (suc unit) own (first ∷ units) =
    let next : suc unit + length own ≡ suc (unit + length own) = omega arith in
    ap (λ (n : ℕ). (first ∷ take unit units) ++ own ++ drop n (first ∷ units)) next ∙ ap (λ (rest : List VType). first ∷ rest) (laid-is unit own units)

front-more : (own units : List VType) (item : VType) → put_at (own ++ drop (length own) units) (length own) item ≡ (own ++ item ∷ []) ++ drop (suc (length own)) units
front-more [] [] item = refl
front-more [] (unit ∷ units) item = refl
front-more (first ∷ own) [] item =
    ap (λ (rest : List VType). first ∷ rest) (ap (λ (all : List VType). put_at all (length own) item) (append-nil own) ∙ put-push own (length own) item (omega arith) ∙ sym (append-nil (own ++ item ∷ [])))
front-more (first ∷ own) (unit ∷ units) item = ap (λ (rest : List VType). first ∷ rest) (front-more own units item)

one-longer : (own : List VType) (item : VType) → length (own ++ item ∷ []) ≡ suc (length own)
one-longer own item = omega (arith, length-append own (item ∷ []))

laid-next : (unit : ℕ) (own units : List VType) (item : VType) → put_at (laid unit own units) (unit + length own) item ≡ laid unit (own ++ item ∷ []) units
laid-next zero own units item =
    let same : 0 + length own ≡ length own = omega arith in
    ap (λ (n : ℕ). put_at (own ++ drop (length own) units) n item) same
    ∙ front-more own units item
    ∙ ap (λ (n : ℕ). (own ++ item ∷ []) ++ drop n units) (sym (one-longer own item))
laid-next (suc unit) own [] item = put-push own (suc unit + length own) item (omega arith)
laid-next (suc unit) own (first ∷ units) item =
    let next : suc unit + length own ≡ suc (unit + length own) = omega arith in
    ap (λ (n : ℕ). put_at (first ∷ laid unit own units) n item) next ∙ ap (λ (rest : List VType). first ∷ rest) (laid-next unit own units item)

-- one more unit
pub laid-more : (unit : ℕ) (own units : List VType) (item : VType) → put_at (overlaid unit own units) (unit + length own) item ≡ overlaid unit (own ++ item ∷ []) units
laid-more unit own units item =
    ap (λ (all : List VType). put_at all (unit + length own) item) (laid-is unit own units) ∙ laid-next unit own units item ∙ sym (laid-is unit (own ++ item ∷ []) units)

pub laid-none : (unit : ℕ) (units : List VType) → overlaid unit [] units ≡ units
laid-none unit units = let same : unit + 0 ≡ unit = omega arith in ap (λ (n : ℕ). take unit units ++ [] ++ drop n units) same ∙ ap (λ (all : List VType). all ++ drop unit units) (append-nil (take unit units)) ∙ take-append-drop unit units

-- ---- where all behind are alike

laid-alike : (unit : ℕ) (own units : List VType) (item : VType) (count more : ℕ) → count ≤ more → drop (unit + length own) units ≡ replicate more item → laid unit own units ≡ laid unit (own ++ replicate count item) units
laid-alike zero own units item count more few are =
    let same : 0 + length own ≡ length own = omega arith in
    let behind : drop (length own) units ≡ replicate more item = subst (λ (n : ℕ). drop n units ≡ replicate more item) same are in
    let long : length (own ++ replicate count item) ≡ length own + count = length-append own (replicate count item) ∙ ap (λ (n : ℕ). length own + n) (length-replicate count item) in
    let cut : drop (length (own ++ replicate count item)) units ≡ replicate (more - count) item =
    ap (λ (n : ℕ). drop n units) long ∙ sym (drop-drop count (length own) units) ∙ ap (drop count) behind ∙ drop-replicate count more item in
    ap (λ (rest : List VType). own ++ rest) (behind ∙ ap (λ (n : ℕ). replicate n item) (sym (same-count count more few)) ∙ sym (replicate-append-replicate count (more - count) item))
    ∙ sym (append_assoc own (replicate count item) (replicate (more - count) item))
    ∙ ap (λ (rest : List VType). (own ++ replicate count item) ++ rest) (sym cut)
laid-alike (suc unit) own [] item count more few are =
    let none : length (replicate more item) ≡ 0 = ap length (sym are ∙ drop-nil (suc unit + length own)) in
    let no : count ≡ 0 = omega (arith, few, none, length-replicate more item) in
    sym (ap (λ (n : ℕ). own ++ replicate n item) no ∙ append-nil own)
laid-alike (suc unit) own (first ∷ units) item count more few are =
    let next : suc unit + length own ≡ suc (unit + length own) = omega arith in
    ap (λ (rest : List VType). first ∷ rest) (laid-alike unit own units item count more few (subst (λ (n : ℕ). drop n (first ∷ units) ≡ replicate more item) next are))

-- ---- what is written of units whose end is alike

dropped : (items : List VType) (item : VType) (from at count : ℕ) → from ≤ at → drop from items ≡ replicate count item → drop at items ≡ replicate (count - (at - from)) item
dropped items item from at count less are =
    let same : from + (at - from) ≡ at = omega arith in
    ap (λ (n : ℕ). drop n items) (sym same) ∙ sym (drop-drop (at - from) from items) ∙ ap (drop (at - from)) are ∙ drop-replicate (at - from) count item

mapped-tops : (f : VType → VType) (item : VType) (count : ℕ) → f item ≡ item → map f (replicate count item) ≡ replicate count item
mapped-tops f item zero same = refl
mapped-tops f item (suc count) same = λ i. same i ∷ mapped-tops f item count same i

pub written-alike : (f : VType → VType) (item : VType) (own below : List VType) (unit own_listed below_listed count : ℕ)
    → f item ≡ item
    → drop own_listed own ≡ replicate (length own - own_listed) item
    → drop below_listed below ≡ replicate (length below - below_listed) item
    → count ≤ length own
    → (count < length own → (own_listed ≤ count) × (below_listed ≤ unit + count) × (unit + length own ≤ length below))
    → overlaid unit (map f (take count own)) below ≡ overlaid unit (map f own) below
written-alike f item own below unit own_listed below_listed count same own_tops below_tops few more = of-order (le-cases (length own) count) where
  of-order : (length own ≤ count) ⊎ (count < length own) → overlaid unit (map f (take count own)) below ≡ overlaid unit (map f own) below
  of-order (inl all) = ap (λ (items : List VType). overlaid unit (map f items) below) (take_all count own all)
  of-order (inr less) =
      let facts = more less in
      let left : ℕ = length own - own_listed - (count - own_listed) in
      let tops : drop count own ≡ replicate left item = dropped own item own_listed count (length own - own_listed) facts.0 own_tops in
      let first : List VType = map f (take count own) in
      let long : length first ≡ count = length-map (take count own) f ∙ length-take-le count own few in
      let behind : drop (unit + length first) below ≡ replicate (length below - below_listed - (unit + length first - below_listed)) item =
      dropped below item below_listed (unit + length first) (length below - below_listed) (omega (arith, facts.1, long)) below_tops in
      let split : map f own ≡ first ++ replicate left item =
      ap (map f) (sym (take-append-drop count own)) ∙ map-append f (take count own) (drop count own) ∙ ap (λ (rest : List VType). first ++ rest) (ap (map f) tops ∙ mapped-tops f item left same) in
      laid-is unit first below
      ∙ laid-alike unit first below item left (length below - below_listed - (unit + length first - below_listed)) (omega (arith, facts.0, facts.1, facts.2, long, less)) behind
      ∙ sym (laid-is unit (first ++ replicate left item) below)
      ∙ ap (λ (items : List VType). overlaid unit items below) (sym split)
