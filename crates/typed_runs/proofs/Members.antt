use Rattle.std.specs.Prelude.{◌≡◌, ◌⊎◌, refl, ℕ, zero, suc, Bool, true, false, List, [], ◌∷◌, ◌++◌, map, reverse, filter, flat_map, slice_get, Some}
use Rattle.std.proofs.Common.{inl, inr, ap, sym, ◌∙◌, subst}
use Rattle.std.proofs.lemmas.List.{reverse-append}
use Rattle.member_link.specs.Machine.Programs.{number_of_first}
use Rattle.typed_runs.proofs.Basics.{some_of}

-- ---- what is one of a list

abbrev pub IsIn : {A : Type 0} → A → List A → Type 0
IsIn x [] = ⊥
IsIn x (y ∷ ys) = (y ≡ x) ⊎ IsIn x ys

pub in_front : {A : Type 0} (x : A) (xs ys : List A) → IsIn x xs → IsIn x (xs ++ ys)
in_front x [] ys is = absurd is
in_front x (y ∷ xs) ys (inl same) = inl same
in_front x (y ∷ xs) ys (inr is) = inr (in_front x xs ys is)

pub in_back : {A : Type 0} (x : A) (xs ys : List A) → IsIn x ys → IsIn x (xs ++ ys)
in_back x [] ys is = is
in_back x (y ∷ xs) ys is = inr (in_back x xs ys is)

pub in_reverse : {A : Type 0} (x : A) (xs : List A) → IsIn x xs → IsIn x (reverse xs)
in_reverse x [] is = absurd is
in_reverse x (y ∷ xs) is = subst (IsIn x) (sym (reverse-append (y ∷ []) xs)) (by is (λ more. in_reverse x xs more)) where
  by : (y ≡ x) ⊎ IsIn x xs → (IsIn x xs → IsIn x (reverse xs)) → IsIn x (reverse xs ++ y ∷ [])
  by (inl same) others = in_back x (reverse xs) (y ∷ []) (inl same)
  by (inr more) others = in_front x (reverse xs) (y ∷ []) (others more)

pub in_map : {A B : Type 0} (f : A → B) (x : A) (xs : List A) → IsIn x xs → IsIn (f x) (map f xs)
in_map f x [] is = absurd is
in_map f x (y ∷ xs) (inl same) = inl (ap f same)
in_map f x (y ∷ xs) (inr is) = inr (in_map f x xs is)

pub in_filter : {A : Type 0} (keeps : A → Bool) (x : A) (xs : List A) → keeps x ≡ true → IsIn x xs → IsIn x (filter keeps xs)
in_filter keeps x [] kept is = absurd is
in_filter keeps x (y ∷ xs) kept is = by (keeps y) refl is (λ more. in_filter keeps x xs kept more) where
  by : (b : Bool) → keeps y ≡ b → (y ≡ x) ⊎ IsIn x xs → (IsIn x xs → IsIn x (filter keeps xs)) → IsIn x (filter keeps (y ∷ xs))
  by true e (inl same) others = rw e (inl same)
  by true e (inr more) others = rw e (inr (others more))
  by false e (inl same) others = let no : true ≡ false = sym kept ∙ sym (ap keeps same) ∙ e in cc
  by false e (inr more) others = rw e (others more)

pub in_flat_map : {A B : Type 0} (f : A → List B) (x : A) (y : B) (xs : List A) → IsIn x xs → IsIn y (f x) → IsIn y (flat_map f xs)
in_flat_map f x y [] is also = absurd is
in_flat_map f x y (z ∷ xs) (inl same) also = in_front y (f z) (flat_map f xs) (subst (λ a. IsIn y (f a)) (sym same) also)
in_flat_map f x y (z ∷ xs) (inr is) also = in_back y (f z) (flat_map f xs) (in_flat_map f x y xs is also)

pub in_at : {A : Type 0} (x : A) (xs : List A) (n : ℕ) → slice_get xs n ≡ Some x → IsIn x xs
in_at x [] n is = cc
in_at x (y ∷ xs) zero is = inl (some_of is)
in_at x (y ∷ xs) (suc n) is = inr (in_at x xs n is)

-- ---- the first that passes a test

pub record Passes {A : Type 0} (passes : A → Bool) (xs : List A) : Type 0 where
  pub number : ℕ
  pub is_number : number_of_first passes xs ≡ Some number
  pub item : A
  pub is_there : slice_get xs number ≡ Some item
  pub passed : passes item ≡ true

pub one_passes : {A : Type 0} (passes : A → Bool) (x : A) (xs : List A) → passes x ≡ true → IsIn x xs → Passes passes xs
one_passes passes x [] holds is = absurd is
one_passes passes x (y ∷ xs) holds is = by (passes y) refl is (λ more. one_passes passes x xs holds more) where
  by : (b : Bool) → passes y ≡ b → (y ≡ x) ⊎ IsIn x xs → (IsIn x xs → Passes passes xs) → Passes passes (y ∷ xs)
  by true e is others = record { number = zero; is_number = rw e refl; item = y; is_there = refl; passed = e }
  by false e (inl same) others = let no : true ≡ false = sym holds ∙ sym (ap passes same) ∙ e in cc
  by false e (inr more) others =
      let o = others more in
      record { number = suc o.number; is_number = rw e (rw o.is_number refl); item = o.item; is_there = o.is_there; passed = o.passed }
