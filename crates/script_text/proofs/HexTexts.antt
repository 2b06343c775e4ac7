-- Hexadecimal digits, one by one.
use Rattle.std.proofs.Common.{◌≡◌, ◌≢◌, ◌++◌, ◌∷◌, [], ◌-◌, ◌+◌, ◌*◌, ◌/◌, ◌%◌, ◌^◌, ◌<◌, ◌≤◌, ℕ, zero, suc, List, length, take, get_or, ap, sym, refl, subst, ◌∙◌, arith}
use Rattle.std.proofs.Math.Nat.{pow-suc, pow-le-pow_right}
use Rattle.std.proofs.lemmas.Grind.{common_steps}
use Rattle.std.proofs.lemmas.List.{length-append}
use Rattle.script_text.specs.Scripts.{SpellsBits}
use Rattle.script_text.specs.PrintedTexts.{hex_text, hex_digit}

pub more_digits : (count number : ℕ) → 0 < count → hex_text count number ≡ hex_text (count - 1) (number / 16) ++ hex_digit (number % 16) ∷ []
more_digits zero number some = absurd (omega (arith, some))
more_digits (suc count) number some = ap (λ (n : ℕ). hex_text n (number / 16) ++ hex_digit (number % 16) ∷ []) {x = count} {y = suc count - 1} (omega arith)

-- the last of two lists, and what stands before it
pub last_split : (xs ys : List ℕ) (x y : ℕ) → xs ++ x ∷ [] ≡ ys ++ y ∷ [] → (xs ≡ ys) × (x ≡ y)
last_split [] [] x y e = (refl, cc)
last_split [] (b ∷ []) x y e = absurd (no_nil e) where
  no_nil : x ∷ [] ≡ b ∷ y ∷ [] → ⊥
  no_nil h = cc
last_split [] (b ∷ c ∷ ys) x y e = absurd (no_nil e) where
  no_nil : x ∷ [] ≡ b ∷ c ∷ (ys ++ y ∷ []) → ⊥
  no_nil h = cc
last_split (a ∷ []) [] x y e = absurd (no_nil e) where
  no_nil : a ∷ x ∷ [] ≡ y ∷ [] → ⊥
  no_nil h = cc
last_split (a ∷ c ∷ xs) [] x y e = absurd (no_nil e) where
  no_nil : a ∷ c ∷ (xs ++ x ∷ []) ≡ y ∷ [] → ⊥
  no_nil h = cc
last_split (a ∷ xs) (b ∷ ys) x y e =
    let same : a ≡ b = cc in
    let tails = last_split xs ys x y (cc) in
    (cc (tails.0), tails.1)

-- one more digit
pub more_spelled : (count : ℕ) (word front : List ℕ) (last high digit : ℕ) → count ≡ suc (length front) → word ≡ front ++ last ∷ [] → SpellsBits (length front) high front → digit < 16 → last ≡ hex_digit digit → SpellsBits count (high * 16 + digit) word
more_spelled count word front last high digit len is front_is small last_is =
    let quotient : (high * 16 + digit) / 16 ≡ high = omega (arith, small) in
    let remainder : (high * 16 + digit) % 16 ≡ digit = omega (arith, small) in
    subst (λ (n : ℕ). SpellsBits n (high * 16 + digit) word) (sym len) (record {
      spelled =
          is ∙ (ap (λ (t : List ℕ). t ++ last ∷ []) front_is.spelled
          ∙ (ap (λ (d : ℕ). hex_text (length front) high ++ d ∷ []) last_is
          ∙ (ap (λ (n : ℕ). hex_text (length front) n ++ hex_digit digit ∷ []) (sym quotient)
          ∙ ap (λ (d : ℕ). hex_text (length front) ((high * 16 + digit) / 16) ++ hex_digit d ∷ []) (sym remainder))));
      fits = omega (arith, small, front_is.fits, pow-suc (length front) 16);
    })

spelled_split : (count : ℕ) (word front : List ℕ) (last bits : ℕ) → count ≡ suc (length front) → word ≡ front ++ last ∷ [] → SpellsBits count bits word → SpellsBits (length front) (bits / 16) front × (last ≡ hex_digit (bits % 16))
spelled_split count word front last bits len is spelled =
    let whole = subst (λ (n : ℕ). SpellsBits n bits word) len spelled in
    let parts = last_split front (hex_text (length front) (bits / 16)) last (hex_digit (bits % 16)) (sym is ∙ whole.spelled) in
    (record { spelled = parts.0; fits = omega (arith, whole.fits, pow-suc (length front) 16) }, parts.1)

-- where the first digits or the last one is none, nothing is spelled
pub front_unspelled : (count : ℕ) (word front : List ℕ) (last : ℕ) → count ≡ suc (length front) → word ≡ front ++ last ∷ [] → ((bits : ℕ) → ¬ SpellsBits (length front) bits front) → (bits : ℕ) → ¬ SpellsBits count bits word
front_unspelled count word front last len is never bits spelled =
    never (bits / 16) (spelled_split count word front last bits len is spelled).0

pub last_unspelled : (count : ℕ) (word front : List ℕ) (last : ℕ) → count ≡ suc (length front) → word ≡ front ++ last ∷ [] → ((digit : ℕ) → digit < 16 → last ≢ hex_digit digit) → (bits : ℕ) → ¬ SpellsBits count bits word
last_unspelled count word front last len is never bits spelled =
    never (bits % 16) (omega arith) (spelled_split count word front last bits len is spelled).1

-- a list that is not empty, by its last item
pub by_last : (word : List ℕ) → 1 ≤ length word → word ≡ take (length word - 1) word ++ get_or word (length word - 1) 0 ∷ []
by_last word some = grind (arith, common_steps)

pub by_last_length : (word : List ℕ) → 1 ≤ length word → length word ≡ suc (length (take (length word - 1) word))
by_last_length word some = grind (arith, common_steps)

-- at most 15 digits leave room for one more
pub room : (count high : ℕ) → count ≤ 15 → high < 16 ^ count → high < 2 ^ 60
room count high few fits = omega (arith, fits, pow-le-pow_right {n = 16} (omega arith) {i = count} {j = 15} few)

pub hex_length : (count number : ℕ) → length (hex_text count number) ≡ count
hex_length zero number = refl
hex_length (suc count) number = omega (arith, length-append (hex_text count (number / 16)) (hex_digit (number % 16) ∷ []), hex_length count (number / 16))
