-- The line of an instruction, part behind part.
use Rattle.std.proofs.Common.{◌≡◌, ◌++◌, ◌∷◌, [], ℕ, ◌<◌, List, codes, decimal, drop, take, w16, Ok, ap, ◌∙◌, arith, append_assoc}
use Rattle.std.specs.Int.{from_be_bytes}
use Rattle.class_model.specs.Cutting.{IsBytes}
use Rattle.class_model.specs.Instructions.{instr_at, u1_in}
use Rattle.class_model.specs.Laws.Cuts.{IsBytes-drop}
use Rattle.class_model.specs.declared.instr.Placed.{Placed}
use Rattle.script_text.specs.Events.{spaced}
use Rattle.script_text.specs.Scripts.{Word}
use Rattle.class_listing.specs.Inner.InstrWords.{instr_words}
use Rattle.class_listing.specs.Inner.ListingTexts.{name_word, pad_in, placed_text}
use Rattle.class_listing.proofs.ShownOperands.{instr_shown}

first_small : (bytes : List ℕ) → IsBytes bytes → from_be_bytes w16 (0 ∷ take 1 bytes) < 256
first_small [] all = omega arith
first_small (byte ∷ bytes) all = omega (arith, all.0)

u1_small : (bytes : List ℕ) → IsBytes bytes → (at : ℕ) → u1_in bytes at < 256
u1_small bytes all at = first_small (drop at bytes) (IsBytes-drop at bytes all)

-- the parts of the line
op_is : (at : ℕ) (name : Word) (words : List Word) → codes "op" ++ spaced (decimal at ∷ name ∷ words) ++ 10 ∷ [] ≡ codes "op " ++ decimal at ++ (32 ∷ name) ++ spaced words ++ 10 ∷ []
op_is at name words = simp append_assoc

five : (o a b c d e : List ℕ) → o ++ a ++ b ++ c ++ d ++ e ≡ o ++ (a ++ b ++ c ++ d ++ e)
five o a b c d e = simp append_assoc

module _ (code : List ℕ) (placed : Placed) (all : IsBytes code) (is : instr_at placed.at (drop placed.at code) ≡ Ok (placed.instr, placed.len)) where
  abbrev words_in : List ℕ → List Word
  words_in bytes = instr_words placed.at (pad_in placed.at bytes) placed.len placed.instr

  placed_is : placed_text code placed ≡ codes "op " ++ decimal placed.at ++ (32 ∷ name_word (drop placed.at code)) ++ spaced (words_in (drop placed.at code)) ++ 10 ∷ []
  placed_is =
      let bytes = drop placed.at code in
      let small = u1_small bytes (IsBytes-drop placed.at code all) in
      ap (λ (words : List Word). codes "op" ++ spaced (decimal placed.at ∷ words) ++ 10 ∷ [])
      (instr_shown placed.at bytes (placed.instr, placed.len) (small 0) (small 1) is)
      ∙ op_is placed.at (name_word bytes) (words_in bytes)

  pub placed_pushed : (before one two three four after bytes : List ℕ)
      → bytes ≡ drop placed.at code
      → one ≡ before ++ codes "op "
      → two ≡ one ++ decimal placed.at
      → three ≡ two ++ (32 ∷ name_word bytes)
      → four ≡ three ++ spaced (words_in bytes)
      → after ≡ four ++ 10 ∷ []
      → after ≡ before ++ placed_text code placed
  placed_pushed before one two three four after bytes behind e1 e2 e3 e4 e5 =
      rw (e5, e4, e3, e2, e1, behind, placed_is)
      (five before (codes "op ") (decimal placed.at) (32 ∷ name_word (drop placed.at code)) (spaced (words_in (drop placed.at code))) (10 ∷ []))
