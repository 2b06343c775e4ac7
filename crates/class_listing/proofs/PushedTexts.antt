-- Text that is appended part behind part, and item by item.
use Rattle.std.proofs.Common.{◌≡◌, ◌++◌, ◌∷◌, [], ℕ, ◌+◌, ◌<◌, List, length, take, get_or, ap, sym, ◌∙◌, append_assoc}
use Rattle.std.specs.List.{flat_map}
use Rattle.std.proofs.lemmas.List.{flat_map_more, take_more}

-- the line of a member, and its attributes
pub member_pushed : (before one two after word words attrs : List ℕ)
    → one ≡ before ++ word
    → two ≡ one ++ (words ++ 10 ∷ [])
    → after ≡ two ++ attrs
    → after ≡ before ++ ((word ++ words ++ 10 ∷ []) ++ attrs)
member_pushed before one two after word words attrs e1 e2 e3 = rw (e3, e2, e1) (simp append_assoc)

-- the seven parts of a class file
pub class_pushed : (before one two three four five six after a b c d e f g : List ℕ)
    → one ≡ before ++ a
    → two ≡ one ++ b
    → three ≡ two ++ c
    → four ≡ three ++ d
    → five ≡ four ++ e
    → six ≡ five ++ f
    → after ≡ six ++ g
    → after ≡ before ++ (a ++ b ++ c ++ d ++ e ++ f ++ g)
class_pushed before one two three four five six after a b c d e f g e1 e2 e3 e4 e5 e6 e7 =
    rw (e7, e6, e5, e4, e3, e2, e1) (simp append_assoc)

-- one more item of a list
pub one_more : {X : Type 0} (text : X → List ℕ) (xs : List X) (i : ℕ) (x : X) (old before after : List ℕ)
    → i < length xs
    → x ≡ get_or xs i x
    → before ≡ old ++ flat_map text (take i xs)
    → after ≡ before ++ text x
    → after ≡ old ++ flat_map text (take (i + 1) xs)
one_more {X} text xs i x old before after within is so_far pushed =
    let longer : take i xs ++ x ∷ [] ≡ take (i + 1) xs = ap (λ (y : X). take i xs ++ y ∷ []) is ∙ sym (take_more xs i x within) in
    pushed
    ∙ (ap (λ (t : List ℕ). t ++ text x) so_far
    ∙ (flat_map_more text old (take i xs) x
    ∙ ap (λ (l : List X). old ++ flat_map text l) longer))
