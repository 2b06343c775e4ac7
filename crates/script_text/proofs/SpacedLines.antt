-- Words with a space between them are cut into these words again.
use Rattle.std.proofs.Common.{◌≡◌, ◌≢◌, ◌++◌, ◌∷◌, [], ◌<◌, ◌≤◌, ℕ, List, ap, sym, refl, ◌∙◌, arith}
use Rattle.std.specs.List.{AllByRecursion, join_with_byte}
use Rattle.std.proofs.lemmas.List.{append-nil}
use Rattle.script_text.specs.Events.{spaced}
use Rattle.script_text.specs.Inner.SpacedWords.{spaced_line}
use Rattle.script_text.specs.Scripts.{Word, pieces, words_of}
use Rattle.script_text.proofs.Pieces.{mark_first, unmarked_first}

pub joined : (words : List Word) → join_with_byte 32 words ≡ spaced_line words
joined [] = refl
joined (word ∷ []) = sym (append-nil word)
joined (word ∷ next ∷ words) = ap (λ (t : List ℕ). word ++ (32 ∷ t)) (joined (next ∷ words))

-- ---- bytes above a mark

abbrev pub Above : ℕ → List ℕ → Type 0
Above mark bytes = AllByRecursion (λ byte. mark < byte) bytes

pub above-append : (mark : ℕ) (one other : List ℕ) → Above mark one → Above mark other → Above mark (one ++ other)
above-append mark [] other above also = also
above-append mark (byte ∷ one) other above also = (above.0, above-append mark one other above.1 also)

pub above-less : (mark less : ℕ) (bytes : List ℕ) → less ≤ mark → Above mark bytes → Above less bytes
above-less mark less [] below above = tt
above-less mark less (byte ∷ bytes) below above = (omega (arith, below, above.0), above-less mark less bytes below above.1)

-- ---- the pieces

pub first_piece : (mark : ℕ) (piece rest : List ℕ) → Above mark piece → pieces mark (piece ++ mark ∷ rest) ≡ piece ∷ pieces mark rest
first_piece mark [] rest above = mark_first mark rest
first_piece mark (byte ∷ piece) rest above =
    unmarked_first mark byte (piece ++ mark ∷ rest) piece (pieces mark rest) (λ e. omega (arith, above.0, e)) (first_piece mark piece rest above.1)

one_piece : (mark : ℕ) (piece : List ℕ) → Above mark piece → pieces mark piece ≡ piece ∷ []
one_piece mark [] above = refl
one_piece mark (byte ∷ piece) above =
    unmarked_first mark byte piece piece [] (λ e. omega (arith, above.0, e)) (one_piece mark piece above.1)

some_back : (first : Word) (words : List Word)
    → Above 32 first
    → AllByRecursion (Above 32) words
    → words_of (spaced_line (first ∷ words)) ≡ first ∷ words
some_back first [] above others = ap (λ (t : List ℕ). pieces 32 t) (append-nil first) ∙ one_piece 32 first above
some_back first (second ∷ words) above others =
    first_piece 32 first (second ++ spaced words) above
    ∙ ap (λ (t : List Word). first ∷ t) (some_back second words others.0 others.1)

pub words_back : (words : List Word) → words ≢ [] → AllByRecursion (Above 32) words → words_of (spaced_line words) ≡ words
words_back [] some above = absurd (some refl)
words_back (first ∷ words) some above = some_back first words above.0 above.1

spaced_above : (words : List Word) → AllByRecursion (Above 32) words → Above 10 (spaced words)
spaced_above [] above = tt
spaced_above (word ∷ words) above =
    (omega arith, above-append 10 word (spaced words) (above-less 32 10 word (omega arith) above.0) (spaced_above words above.1))

-- no line feed stands in a line
pub line_above : (words : List Word) → AllByRecursion (Above 32) words → Above 10 (spaced_line words)
line_above [] above = tt
line_above (word ∷ words) above =
    above-append 10 word (spaced words) (above-less 32 10 word (omega arith) above.0) (spaced_above words above.1)
