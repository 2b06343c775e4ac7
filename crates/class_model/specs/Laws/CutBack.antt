-- What spells items is cut as those items, wherever it stands.
use Rattle.std.proofs.Common.{◌≡◌, ℕ, ◌+◌, ◌^◌, ◌<◌, ◌≤◌, Bool, true, false, cond, List, [], ◌∷◌, ◌++◌, length, map, Some, None, Result, Ok, Err, refl, sym, ap, subst, ◌∙◌, append_assoc, length-append, zero-add, arith}
use Rattle.std.specs.Int.{Width, w16, w32, w64, byte_len, to_be_bytes, from_be_bytes}
use Rattle.std.specs.List.{flat_map, AllByRecursion}
use Rattle.std.proofs.Math.Seq.{take-append_seam, drop-append_seam}
use Rattle.std.proofs.lemmas.Bool.{le-ltb}
use Rattle.std.proofs.lemmas.List.{append-nil}
use Rattle.std.proofs.lemmas.Nat.{from_be_bytes-to_be_bytes_2, from_be_bytes-to_be_bytes_4, from_be_bytes-to_be_bytes_8}
use Rattle.class_model.specs.Checks.{Fault, fault, ◌>>=◌}
use Rattle.class_model.specs.Cutting.{Rest, Cut, bytes_at, number_at, u1_at, u2_at, u4_at, u2_pair_at, many_at, counted_at, whole}
use Rattle.class_model.specs.Spelling.{u2, u4}
use Rattle.class_model.specs.declared.fault.FileRule.TheVariants as rules

abbrev pub rest_of : ℕ → List ℕ → Rest
rest_of at bytes = record { at = at; bytes = bytes }

-- Wherever the text stands, the part cuts it off as this value.
pub record CutsAs {X : Type 0} (part : Rest → Cut X) (text : List ℕ) (x : X) : Type 0 where
  pub cut :
      (at : ℕ) (after : List ℕ)
      → part (rest_of at (text ++ after)) ≡ Ok (x, rest_of (at + length text) after)

-- ---- steps

-- a step that did not fail, and the next
pub next :
    {A B : Type 0} {r : Result A Fault} {x : A} (f : A → Result B Fault) {y : Result B Fault}
    → r ≡ Ok x
    → f x ≡ y
    → (r >>= f) ≡ y
next f e g = ap (λ r. r >>= f) e ∙ g

-- a test that holds, or does not
pub on_true : {A : Type 0} {b : Bool} {x z : A} (y : A) → b ≡ true → x ≡ z → cond b x y ≡ z
on_true {x = x} y e g = ap (λ b. cond b x y) e ∙ g

pub on_false : {A : Type 0} {b : Bool} (x : A) {y z : A} → b ≡ false → y ≡ z → cond b x y ≡ z
on_false x {y = y} e g = ap (λ b. cond b x y) e ∙ g

-- one part, and then what it leads to
pub then_cut :
    {X Y : Type 0} {part : Rest → Cut X} {text : List ℕ} {x : X} (f : X × Rest → Cut Y)
    {more : List ℕ} {y : Y}
    → CutsAs part text x
    → CutsAs (λ rest. f (x, rest)) more y
    → CutsAs (λ rest. part rest >>= f) (text ++ more) y
then_cut {part = part} {text = text} {x = x} f {more = more} {y = y} a b = record {
  cut = λ at after.
      let place : (at + length text) + length more ≡ at + length (text ++ more) = omega (arith, length-append text more) in
      rw append_assoc (next f (a.cut at (more ++ after)) (b.cut (at + length text) after ∙ ap (λ (n : ℕ). Ok (y, rest_of n after)) place));
}

-- one part that is made into a value
pub made_cut :
    {X Y : Type 0} {part : Rest → Cut X} {text : List ℕ} {x : X} (make : X → Y)
    → CutsAs part text x
    → CutsAs (λ rest. part rest >>= λ n. Ok (make n.0, n.1)) text (make x)
made_cut make a = record { cut = λ at after. next (λ n. Ok (make n.0, n.1)) (a.cut at after) refl }

-- a part that takes all
pub whole_cut :
    {X : Type 0} {part : Rest → Cut X} {text : List ℕ} {x : X}
    → CutsAs part text x
    → whole (part (rest_of 0 text)) ≡ Some x
whole_cut {part = part} {text = text} {x = x} a = ap (λ (t : List ℕ). whole (part (rest_of 0 t))) (sym (append-nil text)) ∙ ap whole (a.cut 0 [])

-- ---- items

pub bytes_cut : (text : List ℕ) → CutsAs (bytes_at (length text)) text text
bytes_cut text = record {
  cut = λ at after.
      on_false (Err (fault at rules.Short)) (le-ltb (length (text ++ after)) (length text) (omega (arith, length-append text after)))
      (rw (take-append_seam text after, drop-append_seam text after) refl);
}

-- a number that is found again in its bytes
number_cut :
    (w : Width) (n : ℕ)
    → length (to_be_bytes w n) ≡ byte_len w
    → from_be_bytes w (to_be_bytes w n) ≡ n
    → CutsAs (number_at w) (to_be_bytes w n) n
number_cut w n len back =
    let text : CutsAs (bytes_at (byte_len w)) (to_be_bytes w n) (to_be_bytes w n) = subst (λ (k : ℕ). CutsAs (bytes_at k) (to_be_bytes w n) (to_be_bytes w n)) len (bytes_cut (to_be_bytes w n)) in
    subst (λ (m : ℕ). CutsAs (number_at w) (to_be_bytes w n) m) back (made_cut (from_be_bytes w) text)

pub u2_cut : (n : ℕ) → n < 2 ^ 16 → CutsAs u2_at (u2 n) n
u2_cut n lt = number_cut w16 n refl (from_be_bytes-to_be_bytes_2 n lt)

pub u4_cut : (n : ℕ) → n < 2 ^ 32 → CutsAs u4_at (u4 n) n
u4_cut n lt = number_cut w32 n refl (from_be_bytes-to_be_bytes_4 n lt)

pub u8_cut : (n : ℕ) → n < 2 ^ 64 → CutsAs (number_at w64) (to_be_bytes w64 n) n
u8_cut n lt = number_cut w64 n refl (from_be_bytes-to_be_bytes_8 n lt)

pub u1_cut : (n : ℕ) → CutsAs u1_at (n ∷ []) n
u1_cut n =
    let same : from_be_bytes w16 (0 ∷ n ∷ []) ≡ n = omega arith in
    subst (λ (m : ℕ). CutsAs u1_at (n ∷ []) m) same (made_cut (λ (bytes : List ℕ). from_be_bytes w16 (0 ∷ bytes)) (bytes_cut (n ∷ [])))

pub u2_pair_cut : (a b : ℕ) → a < 2 ^ 16 → b < 2 ^ 16 → CutsAs u2_pair_at (u2 a ++ u2 b) (a, b)
u2_pair_cut a b la lb = then_cut (λ first. u2_at first.1 >>= λ second. Ok ((first.0, second.0), second.1)) (u2_cut a la) (made_cut (λ n. (a, n)) (u2_cut b lb))

-- ---- lists of parts

-- parts, each of which is cut as what it is seen as
pub many_cut :
    {X Y : Type 0} (part : Rest → Cut Y) (spell : X → List ℕ) (seen : X → Y) (Fits : X → Type 0)
    → ((x : X) → Fits x → CutsAs part (spell x) (seen x))
    → (xs : List X)
    → AllByRecursion Fits xs
    → CutsAs (many_at part (length xs)) (flat_map spell xs) (map seen xs)
unfolding many_at
many_cut part spell seen Fits each [] all = record { cut = λ at after. ap (λ (n : ℕ). Ok ([], rest_of n after)) (omega arith) }
many_cut part spell seen Fits each (x ∷ xs) all =
    then_cut (λ first. many_at part (length xs) first.1 >>= λ others. Ok (first.0 ∷ others.0, others.1)) (each x all.0)
    (made_cut (λ others. seen x ∷ others) (many_cut part spell seen Fits each xs all.1))

pub counted_cut :
    {X Y : Type 0} (part : Rest → Cut Y) (spell : X → List ℕ) (seen : X → Y) (Fits : X → Type 0)
    → ((x : X) → Fits x → CutsAs part (spell x) (seen x))
    → (xs : List X)
    → length xs ≤ 65535
    → AllByRecursion Fits xs
    → CutsAs (counted_at part) (u2 (length xs) ++ flat_map spell xs) (map seen xs)
counted_cut part spell seen Fits each xs few all =
    then_cut (λ count. many_at part count.0 count.1) (u2_cut (length xs) (omega arith)) (many_cut part spell seen Fits each xs all)

-- parts as they are
seen_alike : {X : Type 0} (xs : List X) → map (λ x. x) xs ≡ xs
seen_alike [] = refl
seen_alike (x ∷ xs) = ap (λ (rest : List _). x ∷ rest) (seen_alike xs)

pub counted_alike :
    {X : Type 0} (part : Rest → Cut X) (spell : X → List ℕ) (Fits : X → Type 0)
    → ((x : X) → Fits x → CutsAs part (spell x) x)
    → (xs : List X)
    → length xs ≤ 65535
    → AllByRecursion Fits xs
    → CutsAs (counted_at part) (u2 (length xs) ++ flat_map spell xs) xs
counted_alike part spell Fits each xs few all =
    subst (λ (ys : List _). CutsAs (counted_at part) (u2 (length xs) ++ flat_map spell xs) ys) (seen_alike xs) (counted_cut part spell (λ x. x) Fits each xs few all)
