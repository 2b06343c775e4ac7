-- A list whose keys are names that stand in it once each has one order by them.
use Rattle.std.proofs.Common.{◌≡◌, ◌+◌, ◌<◌, ◌≤◌, ℕ, zero, suc, false, List, [], ◌∷◌, length, get_or, slice_get, count_by, bytes_eq, Some, refl, sym, ap, subst, ◌∙◌, ◌⊎◌, inl, inr, arith, true≢false}
use Rattle.std.proofs.lemmas.Cmp.{nat_list_cmp_total, on_total, tied_itself}
use Rattle.std.proofs.lemmas.List.Elements.{All-contains, All-from_recursion, Contains-append_right}
use Rattle.std.proofs.lemmas.List.Sorted.{IsPermutation-sym, Contains-permutation}
use Rattle.std.proofs.lemmas.Map.Keys.{sorted_head, sorted_tail, sorted_from_all_adjacent}
use Rattle.std.proofs.lemmas.Option.{same_Some, slice_get_cases, get_or_from_slice_get}
use Rattle.std.proofs.lemmas.Slice.Eq.{bytes_eq-Decides}
use Rattle.std.specs.Cmp.{IsTotalOrder}
use Rattle.std.specs.Cmp.Lexicographic.{slice_cmp}
use Rattle.std.specs.FinMap.{nat_cmp-IsAntisymmetric, slice_cmp-IsAntisymmetric}
use Rattle.std.specs.List.{Contains}
use Rattle.std.specs.List.Sorted.{IsPermutation, IsSortedByKey, IsStrictlySortedBy}
use Rattle.std.specs.Ordering.{nat_cmp, is_lt, on, ordering_reverse}
use Rattle.std.specs.declared.cmp.Ordering.{Ordering}
use Rattle.std.specs.declared.cmp.Ordering.TheVariants.{Less, Equal, Greater}
use Rattle.class_tree.specs.Headers.{Name}
use Rattle.class_tree.proofs.FirstPlaces.{is_only}

-- ---- what a list has

in_first : {X : Type 0} (x : X) (xs : List X) → Contains (x ∷ xs) x
in_first x xs = (0, omega arith, refl)

in_rest : {X : Type 0} (x : X) (xs : List X) (z : X) → Contains xs z → Contains (x ∷ xs) z
in_rest x xs z h = Contains-append_right (x ∷ []) xs z h

in_cases : {X : Type 0} (x : X) (xs : List X) (z : X) → Contains (x ∷ xs) z → (x ≡ z) ⊎ Contains xs z
in_cases {X} x xs z h = by h.0 h.1 h.2
  where
    by : (k : ℕ) → k < length (x ∷ xs) → get_or (x ∷ xs) k z ≡ z → (x ≡ z) ⊎ Contains xs z
    by zero within is = inl is
    by (suc k) within is = inr (k, omega arith, is)

in_none : {X : Type 0} (z : X) → Contains [] z → ⊥
in_none z h = omega (arith, h.1)

module _ {X : Type 0} (key : X → Name) where
  abbrev compare : X → X → Ordering
  compare = on key (slice_cmp nat_cmp)

  total : IsTotalOrder compare
  total = on_total key nat_list_cmp_total

  -- ---- neighbours rise

  rises : (xs : List X) → ((name : Name) → count_by (λ x. bytes_eq name (key x)) xs ≤ 1) → (k : ℕ) (one other : X) → slice_get xs k ≡ Some one → slice_get xs (k + 1) ≡ Some other
      → (order : Ordering) → compare one other ≡ order → is_lt (compare other one) ≡ false → order ≡ Less
  rises xs once k one other here next Less e falls = refl
  rises xs once k one other here next Equal e falls =
      let same : key one ≡ key other = slice_cmp-IsAntisymmetric nat_cmp-IsAntisymmetric (key one) (key other) e in
      let first = is_only (λ x. bytes_eq (key one) (key x)) xs k (once (key one)) (record { item = one; there = here; passes = (bytes_eq-Decides (key one) (key one)).1 refl }) in
      let second = is_only (λ x. bytes_eq (key one) (key x)) xs (k + 1) (once (key one)) (record { item = other; there = next; passes = (bytes_eq-Decides (key one) (key other)).1 same }) in
      absurd (omega (arith, same_Some k (k + 1) (sym first ∙ second)))
  rises xs once k one other here next Greater e falls =
      let back : compare other one ≡ Less = total.antisymm other one ∙ ap ordering_reverse e in
      absurd (true≢false (ap is_lt (sym back) ∙ falls))

  adjacent : (xs : List X) (d : X) → IsSortedByKey key (slice_cmp nat_cmp) xs → ((name : Name) → count_by (λ x. bytes_eq name (key x)) xs ≤ 1) → (k : ℕ) → k + 1 < length xs → compare (get_or xs k d) (get_or xs (k + 1) d) ≡ Less
  adjacent xs d sorted once k within = elim (slice_get_cases xs k).1 [
    | inl here ↦ elim (slice_get_cases xs (k + 1)).1 [
      | inl next ↦
          let one = get_or_from_slice_get xs k here.0 d here.2 in
          let other = get_or_from_slice_get xs (k + 1) next.0 d next.2 in
          rw (one, other) (rises xs once k here.0 next.0 here.2 next.2 (compare here.0 next.0) refl (subst (λ (x : X). is_lt (compare next.0 x) ≡ false) one (subst (λ (x : X). is_lt (compare x (get_or xs k d)) ≡ false) other (sorted k d (omega arith) within))))
      | inr past ↦ absurd (omega (arith, past.0))
    ]
    | inr past ↦ absurd (omega (arith, past.0))
  ]

  rising : (xs : List X) → IsSortedByKey key (slice_cmp nat_cmp) xs → ((name : Name) → count_by (λ x. bytes_eq name (key x)) xs ≤ 1) → IsStrictlySortedBy compare xs
  unfolding IsStrictlySortedBy
  rising [] sorted once = tt
  rising (x ∷ xs) sorted once = sorted_from_all_adjacent total (x ∷ xs) x (adjacent (x ∷ xs) x sorted once)

  -- ---- rising lists of the same items

  above : (x : X) (xs : List X) (z : X) → IsStrictlySortedBy compare (x ∷ xs) → Contains xs z → compare x z ≡ Less
  above x xs z sorted h = All-contains (λ y. compare x y ≡ Less) xs z (All-from_recursion (λ y. compare x y ≡ Less) xs (sorted_head compare x xs sorted)) h

  -- the first items of both are one
  one_first : (x y : X) (xs ys : List X) → IsStrictlySortedBy compare (x ∷ xs) → IsStrictlySortedBy compare (y ∷ ys) → Contains (y ∷ ys) x → Contains (x ∷ xs) y → x ≡ y
  one_first x y xs ys up upper there back = elim (in_cases y ys x there) [
    | inl same ↦ sym same
    | inr later ↦ elim (in_cases x xs y back) [
      | inl same ↦ same
      | inr also ↦
          let greater : compare x y ≡ Greater = total.antisymm x y ∙ ap ordering_reverse (above y ys x upper later) in
          absurd (cc (greater, above x xs y up also))
    ]
  ]

  -- behind one first item the items of the one are those of the other
  also_later : (x : X) (xs ys : List X) → IsStrictlySortedBy compare (x ∷ xs) → ((z : X) → Contains (x ∷ xs) z → Contains (x ∷ ys) z) → (z : X) → Contains xs z → Contains ys z
  also_later x xs ys up there z h = elim (in_cases x ys z (there z (in_rest x xs z h))) [
    | inl same ↦
        let less : compare x x ≡ Less = subst (λ (w : X). compare x w ≡ Less) (sym same) (above x xs z up h) in
        absurd (cc (less, tied_itself total x))
    | inr later ↦ later
  ]

  same_rising : (xs ys : List X) → IsStrictlySortedBy compare xs → IsStrictlySortedBy compare ys → ((z : X) → Contains xs z → Contains ys z) → ((z : X) → Contains ys z → Contains xs z) → xs ≡ ys
  same_rising [] [] up upper there back = refl
  same_rising [] (y ∷ ys) up upper there back = absurd (in_none y (back y (in_first y ys)))
  same_rising (x ∷ xs) [] up upper there back = absurd (in_none x (there x (in_first x xs)))
  same_rising (x ∷ xs) (y ∷ ys) up upper there back =
      let first = one_first x y xs ys up upper (there x (in_first x xs)) (back y (in_first y ys)) in
      let over : IsStrictlySortedBy compare (x ∷ ys) = subst (λ (z : X). IsStrictlySortedBy compare (z ∷ ys)) (sym first) upper in
      let forth = subst (λ (w : X). (z : X) → Contains (x ∷ xs) z → Contains (w ∷ ys) z) (sym first) there in
      let return = subst (λ (w : X). (z : X) → Contains (w ∷ ys) z → Contains (x ∷ xs) z) (sym first) back in
      let rest = same_rising xs ys (sorted_tail compare x xs up) (sorted_tail compare y ys upper) (also_later x xs ys up forth) (also_later x ys xs over return) in
      ap (λ (z : X). z ∷ xs) first ∙ ap (λ (zs : List X). y ∷ zs) rest

  pub one_order : (xs ys : List X) → IsPermutation xs ys → IsSortedByKey key (slice_cmp nat_cmp) xs → IsSortedByKey key (slice_cmp nat_cmp) ys
      → ((name : Name) → count_by (λ x. bytes_eq name (key x)) xs ≤ 1) → ((name : Name) → count_by (λ x. bytes_eq name (key x)) ys ≤ 1) → xs ≡ ys
  one_order xs ys same sorted also once once_also =
      same_rising xs ys (rising xs sorted once) (rising ys also once_also) (λ z. Contains-permutation xs ys z same) (λ z. Contains-permutation ys xs z (IsPermutation-sym xs ys same))
