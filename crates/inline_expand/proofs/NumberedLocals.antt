-- Local units that are numbered one after the other.
use Rattle.std.proofs.Common.{◌≡◌, ◌+◌, ◌<◌, ℕ, zero, suc, List, [], ◌∷◌, ◌++◌, length, map, take, drop, replicate, slice_get, slice_set, Option, Some, None, refl, sym, ap, ◌∙◌, arith}
use Rattle.std.proofs.lemmas.Option.{same_Some}
use Rattle.class_model.specs.Laws.Lists.{none_behind}
use Rattle.class_model.specs.declared.frame.VType.{VType}
use Rattle.class_model.specs.declared.frame.VType.TheVariants.{Top, Uninit}
use Rattle.expanded_code.specs.Alone.{numbered_type}
use Rattle.inline_expand.specs.Inner.Hosts.{uninit_of}

module _ {A : Type 0} (f : A → A) where
  -- so many of these items changed, and the others as they are
  abbrev pub some-changed : ℕ → List A → List A
  some-changed count items = map f (take count items) ++ drop count items

  pub next-item : (items : List A) (at : ℕ) → slice_get (some-changed at items) at ≡ slice_get items at
  next-item [] zero = refl
  next-item [] (suc at) = refl
  next-item (item ∷ items) zero = refl
  next-item (item ∷ items) (suc at) = next-item items at

  next-changed-suc : (items : List A) (at : ℕ) (item : A) → slice_get items at ≡ Some item → slice_set (some-changed at items) at (f item) ≡ some-changed (suc at) items
  next-changed-suc [] at item is = absurd cc
  next-changed-suc (first ∷ items) zero item is = ap (λ (one : A). f one ∷ items) (sym (same_Some first item is))
  next-changed-suc (first ∷ items) (suc at) item is = ap (λ (rest : List A). f first ∷ rest) (next-changed-suc items at item is)

  pub next-changed : (items : List A) (at : ℕ) (item : A) → slice_get items at ≡ Some item → slice_set (some-changed at items) at (f item) ≡ some-changed (at + 1) items
  next-changed items at item is = let next : suc at ≡ at + 1 = omega arith in next-changed-suc items at item is ∙ ap (λ (n : ℕ). some-changed n items) next

  pub one-changed : (items list new : List A) (at : ℕ) → at < length items → list ≡ some-changed at items → ((item : A) → slice_get list at ≡ Some item → new ≡ slice_set list at (f item)) → new ≡ some-changed (at + 1) items
  one-changed items list new at within list_is told = of-item (slice_get items at) refl where
    of-item : (found : Option A) → slice_get items at ≡ found → new ≡ some-changed (at + 1) items
    of-item None none = let behind = none_behind items at none in absurd (omega (arith, within, behind))
    of-item (Some item) is =
        told item (ap (λ (all : List A). slice_get all at) list_is ∙ (next-item items at ∙ is))
        ∙ (ap (λ (all : List A). slice_set all at (f item)) list_is ∙ next-changed items at item is)

  pub length-changed : (items : List A) (at : ℕ) → length (some-changed at items) ≡ length items
  length-changed items zero = refl
  length-changed [] (suc at) = refl
  length-changed (item ∷ items) (suc at) = ap suc (length-changed items at)

  all-changed : (items : List A) (at : ℕ) → map f (drop at items) ≡ drop at items → some-changed at items ≡ map f items
  all-changed items zero same = sym same
  all-changed [] (suc at) same = refl
  all-changed (item ∷ items) (suc at) same = ap (λ (rest : List A). f item ∷ rest) (all-changed items at same)

  tops-kept : (top : A) → f top ≡ top → (count : ℕ) → map f (replicate count top) ≡ replicate count top
  tops-kept top same zero = refl
  tops-kept top same (suc count) = λ i. same i ∷ tops-kept top same count i

-- the others are no uninitialised objects
pub all-numbered : (number : ℕ → ℕ) (items : List VType) (listed count : ℕ) → drop listed items ≡ replicate count Top → some-changed (numbered_type number) listed items ≡ map (numbered_type number) items
all-numbered number items listed count tops =
    let kept = tops-kept (numbered_type number) Top refl count in
    all-changed (numbered_type number) items listed (ap (map (numbered_type number)) tops ∙ (kept ∙ sym tops))

-- ---- a unit

-- what stands there is put there
set-same : (items : List VType) (at : ℕ) (item : VType) → slice_get items at ≡ Some item → items ≡ slice_set items at item
set-same [] at item is = absurd cc
set-same (first ∷ items) zero item is = ap (λ (one : VType). one ∷ items) (same_Some first item is)
set-same (first ∷ items) (suc at) item is = ap (λ (rest : List VType). first ∷ rest) (set-same items at item is)

none-uninit : (number : ℕ → ℕ) (type : VType) → uninit_of (Some type) ≡ None → numbered_type number type ≡ type
none-uninit number (Uninit at) is = absurd cc
none-uninit number type is = refl

some-uninit : (number : ℕ → ℕ) (type : VType) (at : ℕ) → uninit_of (Some type) ≡ Some at → numbered_type number type ≡ Uninit (number at)
some-uninit number (Uninit own) at is = ap (λ (n : ℕ). Uninit (number n)) (same_Some own at is)
some-uninit number type at is = absurd cc

pub unit-kept : (number : ℕ → ℕ) (items : List VType) (at : ℕ) → uninit_of (slice_get items at) ≡ None → (type : VType) → slice_get items at ≡ Some type → items ≡ slice_set items at (numbered_type number type)
unit-kept number items at none type is =
    set-same items at type is ∙ ap (slice_set items at) (sym (none-uninit number type (ap uninit_of (sym is) ∙ none)))

pub unit-set : (number : ℕ → ℕ) (items new : List VType) (at place : ℕ) → uninit_of (slice_get items at) ≡ Some place → new ≡ slice_set items at (Uninit (number place)) → (type : VType) → slice_get items at ≡ Some type
    → new ≡ slice_set items at (numbered_type number type)
unit-set number items new at place some set type is =
    set ∙ ap (slice_set items at) (sym (some-uninit number type place (ap uninit_of (sym is) ∙ some)))
