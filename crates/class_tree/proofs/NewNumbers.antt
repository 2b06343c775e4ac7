-- Numbers appended to a list that does not have them yet.
use Rattle.std.proofs.Common.{◌≡◌, ◌+◌, ◌<◌, ◌≤◌, ◌==◌, ◌||◌, ◌∙◌, ℕ, Bool, true, false, List, [], ◌∷◌, ◌++◌, length, get_or, take, drop, set, Option, Some, None, unwrap_or, option_map, refl, sym, ap, subst, inl, inr}
use Rattle.std.specs.List.{All, list_any}
use Rattle.std.proofs.lemmas.Bool.{cases_Bool, or_left, or_right, or_cases, eqb-true, eq-eqb, cases_eq, false_from_ne_true, false≢true}
use Rattle.std.proofs.lemmas.List.{append-nil, flat_map_more, take_more, drop_more, drop_all, length-set, get_or-set_same, get_or-set_other}
use Rattle.std.proofs.lemmas.List.Elements.{All-append, All-cons, All-head, All-tail, All-nil}
use Rattle.std.proofs.lemmas.List.Folds.{list_any-append}
use Rattle.class_tree.specs.Inner.InterfaceNumbers.{with_number, with_numbers, with_lists, AreMarks, IsOnce}

-- the list has the number
abbrev pub has : List ℕ → ℕ → Bool
has list number = list_any (λ one. one == number) list

pub with_numbers-append : (list a b : List ℕ) → with_numbers list (a ++ b) ≡ with_numbers (with_numbers list a) b
with_numbers-append list [] b = refl
with_numbers-append list (number ∷ a) b = with_numbers-append (with_number list number) a b

pub known : (list : List ℕ) (number : ℕ) → has list number ≡ true → with_number list number ≡ list
known list number h = rw h refl

pub new : (list : List ℕ) (number : ℕ) → has list number ≡ false → with_number list number ≡ list ++ number ∷ []
new list number h = rw h refl

number_keeps : (list : List ℕ) (one number : ℕ) → has list number ≡ true → has (with_number list one) number ≡ true
number_keeps list one number h = elim (cases_Bool (has list one)) [
  | inl got ↦ ap (λ l. has l number) (known list one got) ∙ h
  | inr lacks ↦ ap (λ l. has l number) (new list one lacks) ∙ list_any-append (λ other. other == number) list (one ∷ []) ∙ or_left _ _ h
]

number_has : (list : List ℕ) (number : ℕ) → has (with_number list number) number ≡ true
number_has list number = elim (cases_Bool (has list number)) [
  | inl got ↦ ap (λ l. has l number) (known list number got) ∙ got
  | inr lacks ↦ ap (λ l. has l number) (new list number lacks) ∙ list_any-append (λ other. other == number) list (number ∷ []) ∙ or_right _ _ (or_left _ _ (eq-eqb number number refl))
]

numbers_keep : (list numbers : List ℕ) (number : ℕ) → has list number ≡ true → has (with_numbers list numbers) number ≡ true
numbers_keep list [] number h = h
numbers_keep list (one ∷ numbers) number h = numbers_keep (with_number list one) numbers number (number_keeps list one number h)

numbers_have : (list numbers : List ℕ) (number : ℕ) → has numbers number ≡ true → has (with_numbers list numbers) number ≡ true
numbers_have list [] number h = absurd cc
numbers_have list (one ∷ numbers) number h = elim (or_cases (one == number) (has numbers number) h) [
  | inl here ↦ numbers_keep (with_number list one) numbers number (subst (λ n. has (with_number list one) n ≡ true) (eqb-true one number here) (number_has list one))
  | inr later ↦ numbers_have (with_number list one) numbers number later
]

one_behind : (list first : List ℕ) (number : ℕ) → with_numbers list (with_number first number) ≡ with_number (with_numbers list first) number
one_behind list first number = elim (cases_Bool (has first number)) [
  | inl got ↦ ap (with_numbers list) (known first number got) ∙ sym (known (with_numbers list first) number (numbers_have list first number got))
  | inr lacks ↦ ap (with_numbers list) (new first number lacks) ∙ with_numbers-append list first (number ∷ [])
]

behind : (list first numbers : List ℕ) → with_numbers list (with_numbers first numbers) ≡ with_numbers (with_numbers list first) numbers
behind list first [] = refl
behind list first (number ∷ numbers) = behind list (with_number first number) numbers ∙ ap (λ l. with_numbers l numbers) (one_behind list first number)

-- what a list was made of may stand for it
pub as_made : (list numbers : List ℕ) → with_numbers list (with_numbers [] numbers) ≡ with_numbers list numbers
as_made list numbers = behind list [] numbers

pub all_with_number : (P : ℕ → Type 0) (list : List ℕ) (number : ℕ) → All P list → P number → All P (with_number list number)
all_with_number P list number all one = elim (cases_Bool (has list number)) [
  | inl got ↦ subst (All P) (sym (known list number got)) all
  | inr lacks ↦ subst (All P) (sym (new list number lacks)) (All-append P list (number ∷ []) all (All-cons P number [] one (All-nil P)))
]

-- what holds of a list and of the numbers
pub all_with_numbers : (P : ℕ → Type 0) (list numbers : List ℕ) → All P list → All P numbers → All P (with_numbers list numbers)
all_with_numbers P list [] all more = all
all_with_numbers P list (number ∷ numbers) all more =
    all_with_numbers P (with_number list number) numbers (all_with_number P list number all (All-head P number numbers more)) (All-tail P number numbers more)

-- one more of the numbers, as at a step of a loop
pub one_more : (list numbers : List ℕ) (index : ℕ) → index < length numbers → with_number (with_numbers list (take index numbers)) (get_or numbers index 0) ≡ with_numbers list (take (index + 1) numbers)
one_more list numbers index within = rw (take_more numbers index 0 within) (sym (with_numbers-append list (take index numbers) (get_or numbers index 0 ∷ [])))

-- ---- marks

-- no number is marked but those of a list
pub record MarkOnly (marks : List Bool) (list : List ℕ) : Type 0 where
  pub marked : (number : ℕ) → number < length marks → get_or marks number false ≡ true → has list number ≡ true

pub mark_only : (marks : List Bool) (list : List ℕ) → AreMarks marks list → MarkOnly marks list
mark_only marks list marks_are = record { marked = λ number within is. sym (marks_are.told number within) ∙ is }

pub none_marked : (marks : List Bool) (list : List ℕ) (index : ℕ) → length list ≤ index → MarkOnly marks (drop index list) → AreMarks marks []
none_marked marks list index past only = record {
  within = All-nil (λ number. number < length marks);
  told = λ number within. false_from_ne_true _ (λ is. let left = only.marked number within is in absurd (false≢true (rw (drop_all index list past) at left)));
}

left_marked : (marks : List Bool) (one : ℕ) (rest : List ℕ) → MarkOnly marks (one ∷ rest) → (number : ℕ) → number < length marks → get_or (set marks one false) number false ≡ true → has rest number ≡ true
left_marked marks one rest only number within is = elim (cases_eq number one) [
  | inl same ↦ absurd (false≢true (sym (get_or-set_same marks one false false (subst (λ n. n < length marks) same within)) ∙ subst (λ n. get_or (set marks one false) n false ≡ true) same is))
  | inr differs ↦ elim (or_cases (one == number) (has rest number) (only.marked number within (sym (get_or-set_other marks one number false false differs) ∙ is))) [
    | inl here ↦ absurd (differs (sym (eqb-true one number here)))
    | inr later ↦ later
  ]
]

pub one_cleared : (marks : List Bool) (list : List ℕ) (index : ℕ) → index < length list → MarkOnly marks (drop index list) → MarkOnly (set marks (get_or list index 0) false) (drop (index + 1) list)
one_cleared marks list index before only = record {
  marked = λ number within. left_marked marks (get_or list index 0) (drop (index + 1) list) (subst (MarkOnly marks) (drop_more list index 0 before) only) number (subst (λ n. number < n) (length-set marks (get_or list index 0) false) within);
}

-- ---- lists of numbers

-- one more number and its list, as at a step of a loop
pub one_more_list : (lists : List (List ℕ)) (numbers : List ℕ) (index : ℕ) → index < length numbers → with_numbers (with_number (with_numbers [] (with_lists lists (take index numbers))) (get_or numbers index 0)) (get_or lists (get_or numbers index 0) []) ≡ with_numbers [] (with_lists lists (take (index + 1) numbers))
one_more_list lists numbers index within =
    let one = get_or numbers index 0 in
    let listed : ℕ → List ℕ = λ number. number ∷ get_or lists number [] in
    sym (with_numbers-append [] (with_lists lists (take index numbers)) (listed one))
    ∙ ap (with_numbers []) (flat_map_more listed [] (take index numbers) one)
    ∙ ap (λ front. with_numbers [] (with_lists lists front)) (sym (take_more numbers index 0 within))

-- the list of a superclass, and none where there is none
pub list_above : (lists : List (List ℕ)) (walk : List ℕ) (superclass : Option ℕ) (number : ℕ) → superclass ≡ Some number → with_numbers (with_numbers [] walk) (get_or lists number []) ≡ with_numbers [] (walk ++ unwrap_or (option_map (λ one. get_or lists one []) superclass) [])
list_above lists walk superclass number is = rw is (sym (with_numbers-append [] walk (get_or lists number [])))

pub none_above : (lists : List (List ℕ)) (walk : List ℕ) (superclass : Option ℕ) → superclass ≡ None → with_numbers [] walk ≡ with_numbers [] (walk ++ unwrap_or (option_map (λ one. get_or lists one []) superclass) [])
none_above lists walk superclass is = rw is (ap (with_numbers []) (sym (append-nil walk)))

-- ---- lists that have each number once

in_front : (one : ℕ) (list : List ℕ) (number : ℕ) → (one == number) ≡ false → with_number (one ∷ list) number ≡ one ∷ with_number list number
in_front one list number differs = elim (cases_Bool (has list number)) [
  | inl got ↦ known (one ∷ list) number (or_right _ _ got) ∙ ap (λ l. one ∷ l) (sym (known list number got))
  | inr lacks ↦ new (one ∷ list) number (ap (λ b. b || has list number) differs ∙ lacks) ∙ ap (λ l. one ∷ l) (sym (new list number lacks))
]

all_in_front : (one : ℕ) (list numbers : List ℕ) → ¬ (has numbers one ≡ true) → with_numbers (one ∷ list) numbers ≡ one ∷ with_numbers list numbers
all_in_front one list [] none = refl
all_in_front one list (number ∷ numbers) none = elim (cases_Bool (one == number)) [
  | inl same ↦ absurd (none (or_left _ _ (eq-eqb number one (sym (eqb-true one number same)))))
  | inr differs ↦ ap (λ l. with_numbers l numbers) (in_front one list number differs) ∙ all_in_front one (with_number list number) numbers (λ later. none (or_right _ _ later))
]

pub made_once : (met list : List ℕ) → list ≡ with_numbers [] met → IsOnce list
made_once met list is = ap (with_numbers []) is ∙ as_made [] met ∙ sym is

-- and with one more in front
pub made_behind : (one : ℕ) (met list : List ℕ) → list ≡ with_numbers [] met → ¬ (has met one ≡ true) → IsOnce (one ∷ list)
made_behind one met list is none =
    ap (with_numbers (one ∷ [])) is ∙ as_made (one ∷ []) met ∙ all_in_front one [] met none ∙ ap (λ l. one ∷ l) (sym is)
