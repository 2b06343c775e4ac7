-- The operand stack with its top first, over a list with its top last.
use Rattle.std.proofs.Common.{◌≡◌, ℕ, ◌-◌, ◌≤◌, List, ◌++◌, length, take, drop, reverse, ap, sym, ◌∙◌, arith, inl, inr}
use Rattle.std.proofs.Math.Seq.{drop-append_seam, take-append_seam}
use Rattle.std.proofs.Math.ListN.{drop_of_length-le}
use Rattle.std.proofs.lemmas.Bool.{cases_lt}
use Rattle.std.proofs.lemmas.List.{reverse-append, reverse-reverse, length-reverse, length-drop, take-append-drop, take_rest}

front_dropped :
    {X : Type 0} (front rest : List X) (n : ℕ) → n ≡ length front → drop n (front ++ rest) ≡ rest
front_dropped front rest n is = rw is (drop-append_seam front rest)

many_dropped :
    {X : Type 0} (xs : List X) (count : ℕ) → length xs ≤ count
    → drop count (reverse xs) ≡ reverse (take (length xs - count) xs)
many_dropped xs count past =
    drop_of_length-le (reverse xs) (rw length-reverse past)
    ∙ ap (λ n. reverse (take n xs)) (let none : 0 ≡ length xs - count = omega arith in none)

few_dropped :
    {X : Type 0} (xs : List X) (count : ℕ) → count ≤ length xs
    → drop count (reverse xs) ≡ reverse (take (length xs - count) xs)
few_dropped xs count within =
    ap (λ xs. drop count (reverse xs)) (sym (take-append-drop (length xs - count) xs))
    ∙ ap (drop count) (reverse-append (take (length xs - count) xs) (drop (length xs - count) xs))
    ∙ front_dropped (reverse (drop (length xs - count) xs))
    (reverse (take (length xs - count) xs)) count
    (let e : count ≡ length (drop (length xs - count) xs) = simp length-drop (omega arith) in
    e ∙ sym (length-reverse (drop (length xs - count) xs)))

pub drop_reverse :
    {X : Type 0} (xs : List X) (count : ℕ)
    → drop count (reverse xs) ≡ reverse (take (length xs - count) xs)
drop_reverse xs count =
    elim (cases_lt count (length xs)) [
      | inl within ↦ few_dropped xs count (omega arith)
      | inr past ↦ many_dropped xs count past
    ]

pub drop_top_is :
    {X : Type 0} (stack items after : List X) (left len count : ℕ) → items ≡ stack
    → after ≡ take left items → left ≡ len - count → len ≡ length stack
    → reverse after ≡ drop count (reverse stack)
drop_top_is stack items after left len count stack_is after_is left_is len_is =
    ap reverse
    (after_is
    ∙ ap (take left) stack_is
    ∙ ap (λ n. take n stack) (left_is ∙ ap (λ n. n - count) len_is))
    ∙ sym (drop_reverse stack count)

-- the topmost entries stand at the end of the list
front_taken :
    {X : Type 0} (front rest : List X) (n : ℕ) → n ≡ length front → take n (front ++ rest) ≡ front
front_taken front rest n is = rw is (take-append_seam front rest)

pub topmost_is :
    {X : Type 0} (xs : List X) (count : ℕ) → count ≤ length xs
    → drop (length xs - count) xs ≡ reverse (take count (reverse xs))
topmost_is xs count within =
    sym
    (ap (λ xs. reverse (take count (reverse xs))) (sym (take-append-drop (length xs - count) xs))
    ∙ ap (λ xs. reverse (take count xs))
    (reverse-append (take (length xs - count) xs) (drop (length xs - count) xs))
    ∙ ap reverse
    (front_taken (reverse (drop (length xs - count) xs))
    (reverse (take (length xs - count) xs)) count
    (let e : count ≡ length (drop (length xs - count) xs) = simp length-drop (omega arith) in
    e ∙ sym (length-reverse (drop (length xs - count) xs))))
    ∙ reverse-reverse (drop (length xs - count) xs))

pub operands_are :
    {X : Type 0} (values stack : List X) (count : ℕ) → values ≡ stack → count ≤ length values
    → take (length values - (length values - count)) (drop (length values - count) values)
    ≡ reverse (take count (reverse stack))
operands_are values stack count values_are within =
    take_rest values (length values - count)
    ∙ topmost_is values count within
    ∙ ap (λ values. reverse (take count (reverse values))) values_are
