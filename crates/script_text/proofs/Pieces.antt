-- The first piece ends at the first mark.
use Rattle.std.proofs.Common.{◌≡◌, ◌≢◌, ◌∷◌, [], ◌==◌, ◌+◌, ◌<◌, ◌≤◌, ℕ, zero, suc, Bool, true, false, List, Option, Some, None, length, take, drop, get_or, ◌-◌, length-drop, ap, sym, refl, subst, ◌∙◌, arith}
use Rattle.std.proofs.lemmas.Bool.{eqb-true}
use Rattle.script_text.specs.Scripts.{pieces}
use Rattle.std.specs.Borrow.{Bor}
use Rattle.std.specs.Option.{option_copied, is_some}
use Rattle.script_text.specs.Inner.Reading.{words_left}

-- a list without the mark in front of pieces
pub unmarked_first : (mark byte : ℕ) (bytes piece : List ℕ) (others : List (List ℕ)) → byte ≢ mark → pieces mark bytes ≡ piece ∷ others → pieces mark (byte ∷ bytes) ≡ (byte ∷ piece) ∷ others
unmarked_first mark byte bytes piece others other is = by (byte == mark) refl where
  apart : byte ≡ mark → ⊥
  apart e = other e

  by : (test : Bool) → (byte == mark) ≡ test → pieces mark (byte ∷ bytes) ≡ (byte ∷ piece) ∷ others
  by true same = absurd (other (eqb-true byte mark same))
  by false differs = rw (differs, is) refl

pub mark_first : (mark : ℕ) (bytes : List ℕ) → pieces mark (mark ∷ bytes) ≡ [] ∷ pieces mark bytes
mark_first mark bytes = grind arith

pub cut_found : (mark at : ℕ) (bytes : List ℕ) → at < length bytes → get_or bytes at 0 ≡ mark → ((k : ℕ) → k < at → get_or bytes k 0 ≢ mark) → pieces mark bytes ≡ take at bytes ∷ pieces mark (drop (suc at) bytes)
cut_found mark at [] within found before = absurd (omega (arith, within))
cut_found mark zero (byte ∷ bytes) within found before =
    subst (λ (n : ℕ). pieces mark (n ∷ bytes) ≡ [] ∷ pieces mark bytes) (sym found) (mark_first mark bytes)
cut_found mark (suc at) (byte ∷ bytes) within found before =
    unmarked_first mark byte bytes (take at bytes) (pieces mark (drop (suc at) bytes)) (before zero (omega arith))
    (cut_found mark at bytes (omega (arith, within)) found (λ k below. before (suc k) (omega (arith, below))))

pub uncut : (mark : ℕ) (bytes : List ℕ) → ((k : ℕ) → k < length bytes → get_or bytes k 0 ≢ mark) → pieces mark bytes ≡ bytes ∷ []
uncut mark [] before = refl
uncut mark (byte ∷ bytes) before =
    unmarked_first mark byte bytes bytes [] (before zero (omega arith)) (uncut mark bytes (λ k below. before (suc k) (omega (arith, below))))

take_all : (n : ℕ) (bytes : List ℕ) → length bytes ≤ n → take n bytes ≡ bytes
take_all zero [] few = refl
take_all zero (byte ∷ bytes) few = absurd (omega (arith, few))
take_all (suc n) [] few = refl
take_all (suc n) (byte ∷ bytes) few = ap (λ (t : List ℕ). byte ∷ t) (take_all n bytes (omega (arith, few)))

pub rest_behind : (at : ℕ) (bytes : List ℕ) → take (length bytes - (at + 1)) (drop (at + 1) bytes) ≡ drop (suc at) bytes
rest_behind at bytes =
    take_all (length bytes - (at + 1)) (drop (at + 1) bytes) (omega (arith, length-drop (at + 1) bytes))
    ∙ ap (λ (n : ℕ). drop n bytes) {x = at + 1} {y = suc at} (omega arith)

-- there is a first piece
pub some_piece : (mark : ℕ) (bytes : List ℕ) → (piece : List ℕ) × ((others : List (List ℕ)) × (pieces mark bytes ≡ piece ∷ others))
some_piece mark [] = ([], ([], refl))
some_piece mark (byte ∷ bytes) = by (byte == mark) refl (some_piece mark bytes) where
  by : (test : Bool) → (byte == mark) ≡ test → (piece : List ℕ) × ((others : List (List ℕ)) × (pieces mark bytes ≡ piece ∷ others)) → (piece : List ℕ) × ((others : List (List ℕ)) × (pieces mark (byte ∷ bytes) ≡ piece ∷ others))
  by true same first = ([], (pieces mark bytes, rw same refl))
  by false differs first = (byte ∷ first.0, (first.1.0, rw (differs, first.1.1) refl))

pub none_left : (words : Option (List ℕ)) → words ≡ None → words_left words ≡ []
none_left words is = rw is refl

pub some_left : (words : Option (List ℕ)) (bytes : List ℕ) → words ≡ Some bytes → words_left words ≢ []
some_left words bytes some alone =
    let piece = some_piece 32 bytes in
    no_piece (sym piece.1.1 ∙ subst (λ (o : Option (List ℕ)). words_left o ≡ []) some alone) where
      no_piece : {piece : List ℕ} {others : List (List ℕ)} → piece ∷ others ≡ [] → ⊥
      no_piece h = cc

pub two_words : (words : List (List ℕ)) (first bytes : List ℕ) (rest : Option (List ℕ)) → words ≡ first ∷ words_left rest → rest ≡ Some bytes → (word : List ℕ) → words ≢ word ∷ []
two_words words first bytes rest is some word alone =
    let piece = some_piece 32 bytes in
    let left : first ∷ pieces 32 bytes ≡ word ∷ [] = subst (λ (o : Option (List ℕ)). first ∷ words_left o ≡ word ∷ []) some (sym is ∙ alone) in
    no_others (subst (λ (others : List (List ℕ)). first ∷ others ≡ word ∷ []) piece.1.1 left) where
      no_others : {piece : List ℕ} {others : List (List ℕ)} → first ∷ piece ∷ others ≡ word ∷ [] → ⊥
      no_others h = cc

pub words_none : (words : Option (Bor (List ℕ))) → is_some words ≡ false → words_left (option_copied words) ≡ []
words_none None is = refl
words_none (Some rest) is = absurd (differ is) where
  differ : true ≡ false → ⊥
  differ h = cc

pub words_some : (words : Option (Bor (List ℕ))) → is_some words ≡ true → words_left (option_copied words) ≢ []
words_some None is = absurd (differ is) where
  differ : false ≡ true → ⊥
  differ h = cc
words_some (Some rest) is = some_left (Some rest.now) rest.now refl
