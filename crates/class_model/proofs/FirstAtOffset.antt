-- The first instruction at an offset, by an index.
use Rattle.std.proofs.Common.{◌≡◌, ℕ, zero, suc, Bool, true, false, ◌||◌, cond, List, [], ◌∷◌, map, slice_get, Option, Some, None, option_and_then, option_map, refl, sym, ap, ◌∙◌}
use Rattle.std.specs.Prelude.{◌==◌, if◌then◌else◌}
use Rattle.std.specs.Option.{is_some}
use Rattle.std.proofs.lemmas.Bool.{eqb-true}
use Rattle.class_model.specs.Frames.{is_new, is_new_at}
use Rattle.class_model.specs.Inner.FirstPlaced.{first_placed}
use Rattle.class_model.specs.Instructions.{is_start}
use Rattle.class_model.specs.OffsetIndexes.{IsIndexOf, first_at, number_in}
use Rattle.class_model.specs.declared.instr.Placed.{Placed}

abbrev offsets : List Placed → List ℕ
offsets code = map (λ placed. placed.at) code

-- ---- what is known of it

-- the offset of an instruction
abbrev pub start_of : Option Placed → Option ℕ
start_of None = None
start_of (Some placed) = Some placed.at

-- it is a new, or any is
abbrev new_or : Option Placed → Bool → Bool
new_or None any = false
new_or (Some placed) any = is_new placed.instr || any

record IsFirst (code : List Placed) (at : ℕ) (first : Option Placed) : Type 0 where
  place : start_of first ≡ cond (is_start code at) (Some at) None
  new : new_or first (is_new_at code at) ≡ is_new_at code at

twice : (one other : Bool) → (one || (one || other)) ≡ (one || other)
twice true other = refl
twice false other = refl

first_is : (code : List Placed) (at : ℕ) → IsFirst code at (first_placed code at)
first_is [] at = record { place = refl; new = refl }
first_is (placed ∷ code) at = by (placed.at == at) refl (first_at (offsets code) at) (first_is code at) where
  by : (here : Bool) → (placed.at == at) ≡ here → (number : Option ℕ) → IsFirst code at (option_and_then (slice_get code) number) → IsFirst (placed ∷ code) at (option_and_then (slice_get (placed ∷ code)) (if here then Some 0 else option_map suc number))
  by true e number below = record { place = rw e (ap Some (eqb-true placed.at at e)); new = rw e (twice (is_new placed.instr) (is_new_at code at)) }
  by false e None below = record { place = rw e below.place; new = rw e below.new }
  by false e (Some number) below = record { place = rw e below.place; new = rw e below.new }

pub start_found : (code : List Placed) (at : ℕ) → start_of (first_placed code at) ≡ cond (is_start code at) (Some at) None
start_found code at = (first_is code at).place

new_found : (code : List Placed) (at : ℕ) → new_or (first_placed code at) (is_new_at code at) ≡ is_new_at code at
new_found code at = (first_is code at).new

pub new_told : (code : List Placed) (at : ℕ) (placed : Placed) → Some placed ≡ first_placed code at → is_new placed.instr ≡ true → true ≡ is_new_at code at
new_told code at placed first new =
    ap (λ (test : Bool). test || is_new_at code at) (sym new) ∙ ap (λ (found : Option Placed). new_or found (is_new_at code at)) first ∙ new_found code at

pub no_new : (code : List Placed) (at : ℕ) → None ≡ first_placed code at → false ≡ is_new_at code at
no_new code at none = ap (λ (found : Option Placed). new_or found (is_new_at code at)) none ∙ new_found code at

-- ---- by an index

some_starts : (here starts : Bool) (others : Option ℕ) → is_some others ≡ starts → is_some (if here then Some 0 else option_map suc others) ≡ (here || starts)
some_starts true starts others same = refl
some_starts false starts (Some number) same = same
some_starts false starts None same = same

starts_at : (code : List Placed) (at : ℕ) → is_some (first_at (offsets code) at) ≡ is_start code at
starts_at [] at = refl
starts_at (placed ∷ code) at = some_starts (placed.at == at) (is_start code at) (first_at (offsets code) at) (starts_at code at)

module _ (code : List Placed) (index : List ℕ) (indexed : IsIndexOf (offsets code) index) (at : ℕ) where
  pub start_told : is_some (number_in index at) ≡ is_start code at
  start_told = ap is_some (indexed at) ∙ starts_at code at

  pub none_placed : None ≡ number_in index at → None ≡ first_placed code at
  none_placed none = ap (option_and_then (slice_get code)) (none ∙ indexed at)

  pub one_placed : (number : ℕ) (found : Option Placed) → Some number ≡ number_in index at → found ≡ slice_get code number → found ≡ first_placed code at
  one_placed number found is there = there ∙ ap (option_and_then (slice_get code)) (is ∙ indexed at)
