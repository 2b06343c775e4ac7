-- What holds of each item of a list, and what stands at an index.
use Rattle.std.proofs.Common.{◌≡◌, ◌+◌, ◌<◌, ◌≤◌, ℕ, zero, suc, Bool, true, List, [], ◌∷◌, ◌++◌, length, map, take, drop, get_or, slice_get, Some, None, inl, inr, sym, ap, subst, ◌∙◌}
use Rattle.std.specs.List.{AllByRecursion, list_all}
use Rattle.std.proofs.lemmas.List.{drop_more, take_more}
use Rattle.std.proofs.lemmas.List.Elements.{All-get_or}
use Rattle.std.proofs.lemmas.List.Folds.{list_all-map}
use Rattle.std.proofs.lemmas.List.Sums.{AllPass-from_list_all}
use Rattle.std.proofs.lemmas.Option.{get_or_from_slice_get, same_Some, slice_get_cases, slice_get_within}

-- what follows of each item
pub AllByRecursion-weaker :
    {X : Type 0} (P Q : X → Type 0)
    → ((x : X) → P x → Q x)
    → (xs : List X)
    → AllByRecursion P xs
    → AllByRecursion Q xs
AllByRecursion-weaker P Q to [] all = tt
AllByRecursion-weaker P Q to (x ∷ xs) all = (to x all.0, AllByRecursion-weaker P Q to xs all.1)

-- one of them
pub at_index :
    {X : Type 0} (P : X → Type 0) (xs : List X) (i : ℕ) (x : X)
    → AllByRecursion P xs
    → slice_get xs i ≡ Some x
    → P x
at_index P [] i x all is = absurd cc
at_index P (first ∷ xs) zero x all is = subst P (same_Some first x is) all.0
at_index P (first ∷ xs) (suc i) x all is = at_index P xs i x all.1 is

-- a test that each passes, of what items are seen as
pub passes_at :
    {X Y : Type 0} (test : Y → Bool) (f : X → Y) (items : List X) (i : ℕ) (d : X)
    → list_all test (map f items) ≡ true
    → i < length items
    → test (f (get_or items i d)) ≡ true
passes_at test f items i d all within =
    All-get_or (λ x. test (f x) ≡ true) items i d within (AllPass-from_list_all (λ x. test (f x)) items (sym (list_all-map test f items) ∙ all))

-- what is left from an item on
pub drop_item :
    {X : Type 0} (xs : List X) (i : ℕ) (x : X)
    → slice_get xs i ≡ Some x
    → drop i xs ≡ x ∷ drop (i + 1) xs
drop_item xs i x is = drop_more xs i x (slice_get_within xs i x is) ∙ ap (λ y. y ∷ drop (i + 1) xs) (get_or_from_slice_get xs i x x is)

-- up to an item and with it
pub take_item :
    {X : Type 0} (xs : List X) (i : ℕ) (x : X)
    → slice_get xs i ≡ Some x
    → take (i + 1) xs ≡ take i xs ++ x ∷ []
take_item xs i x is = take_more xs i x (slice_get_within xs i x is) ∙ ap (λ y. take i xs ++ y ∷ []) (get_or_from_slice_get xs i x x is)

-- where there is none, all are before
pub none_behind : {X : Type 0} (xs : List X) (i : ℕ) → slice_get xs i ≡ None → length xs ≤ i
none_behind xs i none =
    elim (slice_get_cases xs i).1 [
      | inl here ↦ absurd cc
      | inr behind ↦ behind.0
    ]
