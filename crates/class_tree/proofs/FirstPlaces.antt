-- The first place of a list where a test is passed.
use Rattle.std.proofs.Common.{◌≡◌, ◌+◌, ◌≤◌, ℕ, zero, suc, Bool, true, false, cond, List, [], ◌∷◌, ◌++◌, length, slice_get, count_by, Option, Some, None, option_map, refl, ap, ◌∙◌, arith}
use Rattle.std.proofs.lemmas.List.Sums.{sum_by-cons}
use Rattle.class_tree.specs.Laws.FirstPlaces.{Passes}
use Rattle.class_tree.specs.Order.{first_place}

-- no item passes
pub record NonePasses {X : Type 0} (test : X → Bool) (xs : List X) : Type 0 where
  pub at : (place : ℕ) (item : X) → slice_get xs place ≡ Some item → test item ≡ false

-- the first place of a list from those of its front and its back
abbrev pub in_either : ℕ → Option ℕ → Option ℕ → Option ℕ
in_either len (Some place) other = Some place
in_either len None other = option_map (λ place. len + place) other

one_if : (b : Bool) → b ≡ true → cond b 1 0 ≡ (1 + 0)
one_if b e = rw e refl

none_if : (b : Bool) → b ≡ false → cond b 1 0 ≡ (0 + 0)
none_if b e = rw e refl

module _ {X : Type 0} (test : X → Bool) where
  -- where no item passes, there is no first place
  pub is_none : (xs : List X) → NonePasses test xs → first_place test xs ≡ None
  is_none [] h = refl
  is_none (x ∷ xs) h = rw (h.at 0 x refl) (rw (is_none xs (record { at = λ place item there. h.at (suc place) item there })) refl)

  -- an item that passes is counted
  pub counted : (xs : List X) (place : ℕ) → Passes test xs place → 1 ≤ count_by test xs
  counted [] place p = absurd (cc p.there)
  counted (x ∷ xs) zero p =
      let same : x ≡ p.item = cc p.there in
      omega (arith, sum_by-cons (λ y. cond (test y) 1 0) x xs, one_if (test x) (ap test same ∙ p.passes))
  counted (x ∷ xs) (suc place) p =
      let later = counted xs place (record { item = p.item; there = p.there; passes = p.passes }) in
      omega (arith, sum_by-cons (λ y. cond (test y) 1 0) x xs, later)

  -- where no item passes, none is counted
  pub none_counted : (xs : List X) → NonePasses test xs → count_by test xs ≡ 0
  none_counted [] h = refl
  none_counted (x ∷ xs) h = omega (arith, sum_by-cons (λ y. cond (test y) 1 0) x xs, none_if (test x) (h.at 0 x refl), none_counted xs (record { at = λ place item there. h.at (suc place) item there }))

  only_later : (x : X) (xs : List X) (place : ℕ) → count_by test (x ∷ xs) ≤ 1 → Passes test xs place → (count_by test xs ≤ 1 → first_place test xs ≡ Some place) → first_place test (x ∷ xs) ≡ Some (suc place)
  only_later x xs place once later more = by (test x) (sum_by-cons (λ y. cond (test y) 1 0) x xs)
    where
      by : (b : Bool) → count_by test (x ∷ xs) ≡ cond b 1 0 + count_by test xs → cond b (Some 0) (option_map (λ at. at + 1) (first_place test xs)) ≡ Some (suc place)
      by true e = absurd (omega (arith, counted xs place later))
      by false e = rw (more (omega arith)) (ap Some (omega arith))

  -- where no two items pass, one that passes is the first
  pub is_only : (xs : List X) (place : ℕ) → count_by test xs ≤ 1 → Passes test xs place → first_place test xs ≡ Some place
  is_only [] place once p = absurd (cc p.there)
  is_only (x ∷ xs) zero once p = rw (let same : x ≡ p.item = cc p.there in ap test same ∙ p.passes) refl
  is_only (x ∷ xs) (suc place) once p =
      let later : Passes test xs place = record { item = p.item; there = p.there; passes = p.passes } in
      only_later x xs place once later (λ few. is_only xs place few later)

  -- the first place of a list is that of its front, or else that of its back
  pub first_place-append : (xs ys : List X) → first_place test (xs ++ ys) ≡ in_either (length xs) (first_place test xs) (first_place test ys)
  first_place-append [] ys = by (first_place test ys)
    where
      by : (found : Option ℕ) → found ≡ option_map (λ place. 0 + place) found
      by None = refl
      by (Some place) = ap Some (omega arith)
  first_place-append (x ∷ xs) ys = rw (first_place-append xs ys) (by (test x) (first_place test xs) (first_place test ys))
    where
      by : (b : Bool) (front back : Option ℕ) → cond b (Some 0) (option_map (λ at. at + 1) (in_either (length xs) front back)) ≡ in_either (suc (length xs)) (cond b (Some 0) (option_map (λ at. at + 1) front)) back
      by true front back = refl
      by false (Some place) back = refl
      by false None None = refl
      by false None (Some place) = ap Some (omega arith)
