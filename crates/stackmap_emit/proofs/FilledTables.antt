-- Tables of blocks are filled one after the other.
use Rattle.std.proofs.Common.{◌≡◌, ◌==◌, ◌<◌, ◌≤◌, ℕ, zero, suc, Bool, List, [], ◌∷◌, ◌++◌, get_or, length, replicate, slice_set, Option, Some, None, refl, sym, ap, ◌∙◌, inl, inr, arith, if◌then◌else◌}
use Rattle.std.specs.Borrow.{Bor}
use Rattle.std.specs.Option.{option_copied}
use Rattle.std.proofs.lemmas.Bool.{eq-eqb, ne_eqb}
use Rattle.stackmap_emit.proofs.BlockPlaces.{same_or_other}
use Rattle.stackmap_emit.specs.Inner.BlockTables.{AreFilled, first_item, is_of, last_block}
use Rattle.stackmap_emit.specs.Inner.PlacedUnits.{number_by}
use Rattle.written_frames.specs.declared.starts.BlockStart.{BlockStart}

-- ---- lists

module _ {A : Type 0} where
  pub set_many : (items : List A) (at : ℕ) (item : A) → length (slice_set items at item) ≡ length items
  set_many [] zero item = refl
  set_many [] (suc at) item = refl
  set_many (first ∷ items) zero item = refl
  set_many (first ∷ items) (suc at) item = ap suc (set_many items at item)

  pub set_here : (items : List A) (at : ℕ) (item other : A) → at < length items → get_or (slice_set items at item) at other ≡ item
  set_here [] at item other inside = absurd (omega (arith, inside))
  set_here (first ∷ items) zero item other inside = refl
  set_here (first ∷ items) (suc at) item other inside = set_here items at item other (omega (arith, inside))

  pub set_other : (items : List A) (at place : ℕ) (item other : A) → (at ≡ place → ⊥)
      → get_or (slice_set items at item) place other ≡ get_or items place other
  set_other [] zero place item other differ = refl
  set_other [] (suc at) place item other differ = refl
  set_other (first ∷ items) zero zero item other differ = absurd (differ refl)
  set_other (first ∷ items) zero (suc place) item other differ = refl
  set_other (first ∷ items) (suc at) zero item other differ = refl
  set_other (first ∷ items) (suc at) (suc place) item other differ = set_other items at place item other (λ same. differ (ap suc same))

  pub blank : (count at : ℕ) (item : A) → get_or (replicate count item) at item ≡ item
  blank zero zero item = refl
  blank zero (suc at) item = refl
  blank (suc count) zero item = refl
  blank (suc count) (suc at) item = blank count at item

-- ---- blocks by items

module _ (place : ℕ → ℕ) (end : ℕ) (starts : List BlockStart) where
  pub filled_none : (blocks : List (Option (Bor BlockStart))) → length blocks ≡ end
      → ((number : ℕ) → get_or blocks number None ≡ None)
      → AreFilled place end starts starts blocks
  filled_none blocks many none =
      (many, λ number inside. ap (λ (found : Option (Bor BlockStart)). last_block place number (option_copied found) starts) (none number))

  pub filled_here : (left rest : List BlockStart) (blocks new : List (Option (Bor BlockStart))) (start : Bor BlockStart) (item : ℕ)
      → left ≡ start.now ∷ rest
      → item ≡ place start.now.item
      → item < length blocks
      → new ≡ slice_set blocks item (Some start)
      → AreFilled place end starts left blocks
      → AreFilled place end starts rest new
  filled_here left rest blocks new start item left_is item_is inside new_is filled =
      (ap length new_is ∙ set_many blocks item (Some start) ∙ filled.0, each) where
        found : (number : ℕ) → number < end → last_block place number (option_copied (get_or blocks number None)) (start.now ∷ rest)
            ≡ last_block place number None starts
        found number low =
            ap (last_block place number (option_copied (get_or blocks number None))) (sym left_is) ∙ filled.1 number low

        each : (number : ℕ) → number < end
            → last_block place number (option_copied (get_or new number None)) rest ≡ last_block place number None starts
        each number low = elim (same_or_other item number) [
          | inl same ↦
              ap (λ (list : List (Option (Bor BlockStart))). last_block place number (option_copied (get_or list number None)) rest) new_is
              ∙ ap (λ (one : Option (Bor BlockStart)). last_block place number (option_copied one) rest)
              (ap (λ (n : ℕ). get_or (slice_set blocks item (Some start)) n None) (sym same) ∙ set_here blocks item (Some start) None inside)
              ∙ sym (ap (λ (b : Bool). last_block place number (if b then Some start.now else option_copied (get_or blocks number None)) rest)
              (eq-eqb (place start.now.item) number (sym item_is ∙ same)))
              ∙ found number low
          | inr differ ↦
              ap (λ (list : List (Option (Bor BlockStart))). last_block place number (option_copied (get_or list number None)) rest) new_is
              ∙ ap (λ (one : Option (Bor BlockStart)). last_block place number (option_copied one) rest)
              (set_other blocks item number (Some start) None differ)
              ∙ sym (ap (λ (b : Bool). last_block place number (if b then Some start.now else option_copied (get_or blocks number None)) rest)
              (ne_eqb (place start.now.item) number (λ same. differ (item_is ∙ same))))
              ∙ found number low
        ]

  pub filled_past : (left rest : List BlockStart) (blocks : List (Option (Bor BlockStart))) (start : BlockStart)
      → left ≡ start ∷ rest
      → length blocks ≤ place start.item
      → AreFilled place end starts left blocks
      → AreFilled place end starts rest blocks
  filled_past left rest blocks start left_is past filled = (
    filled.0,
    λ number low.
        sym (ap (λ (b : Bool). last_block place number (if b then Some start else option_copied (get_or blocks number None)) rest)
        (ne_eqb (place start.item) number (λ same. absurd (omega (arith, past, same, low, filled.0)))))
        ∙ ap (last_block place number (option_copied (get_or blocks number None))) (sym left_is)
        ∙ filled.1 number low,
  )

-- ---- items by points

pub number_set : (items : List ℕ) (other point item at : ℕ) → point < length items
    → number_by (slice_set items point item) other at ≡ (if point == at then item else number_by items other at)
number_set items other point item at inside = elim (same_or_other point at) [
  | inl same ↦
      ap (λ (n : ℕ). number_by (slice_set items point item) other n) (sym same)
      ∙ here items point inside
      ∙ sym (ap (λ (b : Bool). if b then item else number_by items other at) (eq-eqb point at same))
  | inr differ ↦
      beside items point at differ
      ∙ sym (ap (λ (b : Bool). if b then item else number_by items other at) (ne_eqb point at differ))
] where
  here : (list : List ℕ) (index : ℕ) → index < length list → number_by (slice_set list index item) other index ≡ item
  here [] index low = absurd (omega (arith, low))
  here (first ∷ list) zero low = refl
  here (first ∷ list) (suc index) low = here list index (omega (arith, low))

  beside : (list : List ℕ) (index place : ℕ) → (index ≡ place → ⊥) → number_by (slice_set list index item) other place ≡ number_by list other place
  beside [] zero place differ = refl
  beside [] (suc index) place differ = refl
  beside (first ∷ list) zero zero differ = absurd (differ refl)
  beside (first ∷ list) zero (suc place) differ = refl
  beside (first ∷ list) (suc index) zero differ = refl
  beside (first ∷ list) (suc index) (suc place) differ = beside list index place (λ same. differ (ap suc same))

pub number_more : (items : List ℕ) (other at : ℕ) → number_by (items ++ other ∷ []) other at ≡ number_by items other at
number_more [] other zero = refl
number_more [] other (suc zero) = refl
number_more [] other (suc (suc at)) = refl
number_more (item ∷ items) other zero = refl
number_more (item ∷ items) other (suc at) = number_more items other at

pub no_number : (other at : ℕ) → number_by [] other at ≡ other
no_number other zero = refl
no_number other (suc at) = refl

-- the block of a point's instruction comes first
pub first_some : (place : ℕ → ℕ) (other point of : ℕ) (start : BlockStart) (rest : List BlockStart) → start.of ≡ Some of
    → first_item place other point (start ∷ rest) ≡ (if of == point then place start.item else first_item place other point rest)
first_some place other point of start rest is =
    ap (λ (one : Option ℕ). if is_of point one then place start.item else first_item place other point rest) is

pub first_none : (place : ℕ → ℕ) (other point : ℕ) (start : BlockStart) (rest : List BlockStart) → start.of ≡ None
    → first_item place other point (start ∷ rest) ≡ first_item place other point rest
first_none place other point start rest is =
    ap (λ (one : Option ℕ). if is_of point one then place start.item else first_item place other point rest) is
