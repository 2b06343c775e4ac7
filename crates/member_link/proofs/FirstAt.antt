-- What is found of a list by an index of offsets is the first item at the offset.
use Rattle.std.proofs.Common.{◌≡◌, ◌∙◌, ℕ, suc, Bool, true, false, List, [], ◌∷◌, map, slice_get, Option, Some, None, option_and_then, option_map, refl, ap}
use Rattle.std.specs.Prelude.{◌==◌, if◌then◌else◌}
use Rattle.class_model.specs.Stated.{frame_for}
use Rattle.class_model.specs.declared.frame.Frame.{Frame}
use Rattle.class_model.specs.declared.frame.PlacedFrame.{PlacedFrame}
use Rattle.class_model.specs.declared.instr.Placed.{Placed}
use Rattle.class_model.specs.OffsetIndexes.{first_at, number_in, IsIndexOf}
use Rattle.member_link.specs.CodedMethods.{placed_at}

-- a search that gives of the first item at an offset what an item gives
record Searches {X Y : Type 0} (offset : X → ℕ) (gives : Option X → Option Y) (at : ℕ) (found_in : List X → Option Y) : Type 0 where
  ends : gives None ≡ found_in []
  goes_on : (x : X) (others : List X) → (if offset x == at then gives (Some x) else found_in others) ≡ found_in (x ∷ others)

module _ {X Y : Type 0} (offset : X → ℕ) (gives : Option X → Option Y) (at : ℕ) (found_in : List X → Option Y) (searches : Searches offset gives at found_in) where
  -- what the item of a number gives
  abbrev by_number : List X → Option ℕ → Option Y
  by_number xs number = gives (option_and_then (slice_get xs) number)

  next_by_number : (x : X) (others : List X) (number : Option ℕ) → by_number (x ∷ others) (option_map suc number) ≡ by_number others number
  next_by_number x others None = refl
  next_by_number x others (Some number) = refl

  one_more : (here : Bool) (x : X) (others : List X) (number : Option ℕ) (y : Option Y) → by_number others number ≡ y
      → by_number (x ∷ others) (if here then Some 0 else option_map suc number) ≡ (if here then gives (Some x) else y)
  one_more true x others number y is = refl
  one_more false x others number y is = next_by_number x others number ∙ is

  first_found : (xs : List X) → by_number xs (first_at (map offset xs) at) ≡ found_in xs
  first_found [] = searches.ends
  first_found (x ∷ others) = one_more (offset x == at) x others (first_at (map offset others) at) (found_in others) (first_found others) ∙ searches.goes_on x others

  module _ (xs : List X) (index : List ℕ) (indexed : IsIndexOf (map offset xs) index) where
    none_found : None ≡ number_in index at → gives None ≡ found_in xs
    none_found number = ap (by_number xs) number ∙ ap (by_number xs) (indexed at) ∙ first_found xs

    item_found : (number : ℕ) (item : Option X) → Some number ≡ number_in index at → item ≡ slice_get xs number → gives item ≡ found_in xs
    item_found number item is there = ap gives there ∙ ap (by_number xs) is ∙ ap (by_number xs) (indexed at) ∙ first_found xs

-- ---- stated frames

abbrev pub frame_in : Option PlacedFrame → Option Frame
frame_in placed = option_map (λ p. p.frame) placed

module _ (at : ℕ) where
  abbrev frame_at : List PlacedFrame → Option Frame
  frame_at frames = frame_for frames at

  frames_searched : Searches (λ placed. placed.at) frame_in at frame_at
  frames_searched = record { ends = refl; goes_on = λ placed others. refl }

  module _ (frames : List PlacedFrame) (index : List ℕ) (indexed : IsIndexOf (map (λ placed. placed.at) frames) index) where
    pub no_frame : None ≡ number_in index at → None ≡ frame_for frames at
    no_frame number = none_found (λ placed. placed.at) frame_in at frame_at frames_searched frames index indexed number

    pub frame_found : (number : ℕ) (found : Option PlacedFrame) → Some number ≡ number_in index at → found ≡ slice_get frames number → frame_in found ≡ frame_for frames at
    frame_found number found is there = item_found (λ placed. placed.at) frame_in at frame_at frames_searched frames index indexed number found is there

  -- ---- instructions

  abbrev instr_at : List Placed → Option Placed
  instr_at instrs = placed_at instrs at

  instrs_searched : Searches (λ placed. placed.at) (λ found. found) at instr_at
  instrs_searched = record { ends = refl; goes_on = λ placed others. refl }

  module _ (instrs : List Placed) (index : List ℕ) (indexed : IsIndexOf (map (λ placed. placed.at) instrs) index) where
    pub no_instr : None ≡ number_in index at → None ≡ placed_at instrs at
    no_instr number = none_found (λ placed. placed.at) (λ found. found) at instr_at instrs_searched instrs index indexed number

    pub instr_found : (number : ℕ) (found : Option Placed) → Some number ≡ number_in index at → found ≡ slice_get instrs number → found ≡ placed_at instrs at
    instr_found number found is there = item_found (λ placed. placed.at) (λ found. found) at instr_at instrs_searched instrs index indexed number found is there
