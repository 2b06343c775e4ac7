-- What is known of a reader and a writer after several calls.
use Rattle.std.proofs.Common.{◌≡◌, inl, inr, ℕ, ◌+◌, ◌-◌, ◌<◌, ◌≤◌, List, ◌++◌, length, take, drop, Option, Some, None, sym, ap, subst, ◌∙◌, append_assoc, arith, length-drop, length-take, length-append}
use Rattle.std.proofs.Math.Seq.{take-add, take-length, take-append-add}
use Rattle.std.proofs.lemmas.Bool.{cases_lt}
use Rattle.std.proofs.lemmas.List.{append-nil, take_at, take_all, take-append-le, take-append-drop}
use borrow.Rule.Slice.PartMut.{put_mid, post_of}
use Rattle.std.specs.Prelude.{IfSome}
use Rattle.std.specs.Io.{StartsWith, appended_bytes}
use Rattle.std.specs.Io.KnownBytes.{Appends, Consumes, IsAtEnd}

-- what `&xs[n..]` is
pub rest_whole : (n : ℕ) (xs : List ℕ) → take (length xs - n) (drop n xs) ≡ drop n xs
rest_whole n xs = rw (← length-drop n xs) (take-length (drop n xs))

-- one write after another
Appends-then : (a b c : Option (List ℕ)) (xs ys : List ℕ) → Appends a b xs → Appends b c ys → Appends a c (xs ++ ys)
Appends-then None b c xs ys first second = tt
Appends-then (Some a) None c xs ys first second = absurd first
Appends-then (Some a) (Some b) None xs ys first second = absurd second
Appends-then (Some a) (Some b) (Some c) xs ys first second = second ∙ ap (λ z. z ++ ys) first ∙ append_assoc a xs ys

-- m more bytes were written after the first n
pub Appends-more : (a b c : Option (List ℕ)) (n m : ℕ) (bytes : List ℕ) → Appends a b (take n bytes) → Appends b c (take m (take (length bytes - n) (drop n bytes))) → Appends a c (take (n + m) bytes)
Appends-more a b c n m bytes first second =
    rw (take-add n m bytes) (Appends-then a b c (take n bytes) (take m (drop n bytes)) first (rw rest_whole at second))

-- one read after another
Consumes-then : (a b c : Option (List ℕ)) (xs ys : List ℕ) → Consumes a b xs → Consumes b c ys → Consumes a c (xs ++ ys)
Consumes-then None b c xs ys first second = tt
Consumes-then (Some a) None c xs ys first second = absurd first
Consumes-then (Some a) (Some b) None xs ys first second = absurd second
Consumes-then (Some a) (Some b) (Some c) xs ys first second = first ∙ ap (λ z. xs ++ z) second ∙ sym (append_assoc xs ys c)

-- the first a + n of a buffer whose part from a on was read anew
take_filled : (a n k : ℕ) (xs ys : List ℕ) → a ≤ length xs → n ≤ length ys → take (a + n) (put_mid a k xs ys) ≡ take a xs ++ take n ys
take_filled a n k xs ys old new =
    let front : length (take a xs) ≡ a = simp length-take (omega arith) in
    let rest = ys ++ post_of a k xs in
    subst (λ m. take (m + n) (take a xs ++ rest) ≡ take a xs ++ take n rest) front (take-append-add (take a xs) rest n) ∙ ap (λ z. take a xs ++ z) (take-append-le n ys (post_of a k xs) new)

-- the buffer has room for them
pub within_filled : (a n k : ℕ) (xs ys : List ℕ) → a ≤ length xs → n ≤ length ys → a + n ≤ length (put_mid a k xs ys)
within_filled a n k xs ys old new = simp (length-append, length-take) (omega arith)

-- n more bytes were read into a buffer after the first a
pub Consumes-more : (p q r : Option (List ℕ)) (a n k : ℕ) (xs ys : List ℕ) → a ≤ length xs → n ≤ length ys → Consumes p q (take a xs) → Consumes q r (take n ys) → Consumes p r (take (a + n) (put_mid a k xs ys))
Consumes-more p q r a n k xs ys old new first second =
    rw (take_filled a n k xs ys old new) (Consumes-then p q r (take a xs) (take n ys) first second)

-- nothing more was read
pub Consumes-none : (p q r : Option (List ℕ)) (a n k : ℕ) (xs ys : List ℕ) → a ≤ length xs → n ≤ length ys → n ≡ 0 → Consumes p q (take a xs) → Consumes q r (take n ys) → Consumes p r (take a (put_mid a k xs ys))
Consumes-none p q r a n k xs ys old new none first second =
    subst (λ m. Consumes p r (take m (put_mid a k xs ys))) (omega arith) (Consumes-more p q r a n k xs ys old new first second)

-- what a reader appended to what was read before
pub Consumes-appended : (p q r : Option (List ℕ)) (old new : List ℕ) → StartsWith new old → Consumes p q old → Consumes q r (appended_bytes old new) → Consumes p r new
Consumes-appended p q r old new kept first second =
    let whole : old ++ appended_bytes old new ≡ new = ap (λ z. z ++ appended_bytes old new) (sym kept) ∙ take-append-drop (length old) new in
    subst (Consumes p r) whole (Consumes-then p q r old (appended_bytes old new) first second)

-- what was read has room, before and after one more read
pub room_for : (n len wanted limit : ℕ) → len ≡ n → len + wanted ≤ limit → n ≤ limit
room_for n len wanted limit len_is room = omega arith

pub room_after : (n len more count wanted limit : ℕ) → more ≡ n → more ≡ len + count → count ≤ wanted → len + wanted ≤ limit → n ≤ limit
room_after n len more count wanted limit len_is more_is few room = omega arith

pub none_left : {P : Type 0} (n len wanted limit : ℕ) → len ≡ n → (wanted ≡ 0 → len ≡ limit) → wanted ≤ 0 → n < limit → P
none_left n len wanted limit len_is full none fewer = absurd (let all = full (omega arith) in omega arith)

-- so many bytes were read, or all
pub first_read : (p q : Option (List ℕ)) (most limit : ℕ) (bytes read : List ℕ) → limit ≡ most → read ≡ bytes → Consumes p q bytes → length bytes ≤ limit → (length bytes < limit → IsAtEnd q) → IfSome p (λ all. read ≡ take most all)
first_read None q most limit bytes read limit_is read_is consumed within ended = tt
first_read (Some all) None most limit bytes read limit_is read_is consumed within ended = absurd consumed
first_read (Some all) (Some rest) most limit bytes read limit_is read_is consumed within ended =
    let first : bytes ≡ take limit all = elim (cases_lt (length bytes) limit) [
      | inl fewer ↦
          let whole : all ≡ bytes = consumed ∙ ap (λ z. bytes ++ z) (ended fewer) ∙ append-nil bytes in
          sym whole ∙ sym (take_all limit all (rw whole within))
      | inr enough ↦ sym (take_at bytes rest limit (omega arith)) ∙ ap (take limit) (sym consumed)
    ] in
    read_is ∙ first ∙ ap (λ n. take n all) limit_is
