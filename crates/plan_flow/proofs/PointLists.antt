-- States of points, in a list: a state that is put in, and how many are missing.
use Rattle.std.proofs.Common.{◌≡◌, ℕ, ◌<◌, ◌≤◌, ◌+◌, zero, suc, List, [], ◌∷◌, ◌++◌, take, length, replicate, slice_get, slice_set, Option, Some, None, refl, sym, ap, subst, ◌∙◌, inl, inr, ◌⊎◌, arith}
use Rattle.std.specs.Option.{option_flatten}
use Rattle.std.proofs.lemmas.Option.{none-some, same_Some}
use Rattle.std.proofs.lemmas.List.{replicate-append-replicate}
use Rattle.plan_flow.specs.Inner.Reaching.{reached_in, unreached_in, objects_in}
use Rattle.virtual_state.specs.States.{State}
use Rattle.virtual_state.specs.Laws.Objects.{same_or_not}
use Rattle.plan_flow.proofs.Iterating.{put, put_here, put_other}
use Rattle.plan_flow.proofs.LeastPlans.{nothing, nothing_at}
use mathlib.Core.Path.{fun_ext}

-- ---- an item that is put into a list

pub set_here : {A : Type 0} (list : List A) (at : ℕ) (item : A) → at < length list → slice_get (slice_set list at item) at ≡ Some item
set_here [] at item inside = absurd (omega (arith, inside))
set_here (first ∷ list) zero item inside = refl
set_here (first ∷ list) (suc at) item inside = set_here list at item (omega (arith, inside))

pub set_other :
    {A : Type 0} (list : List A) (at other : ℕ) (item : A)
    → (at ≡ other → ⊥)
    → slice_get (slice_set list at item) other ≡ slice_get list other
set_other [] at other item differ = refl
set_other (first ∷ list) zero zero item differ = absurd (differ refl)
set_other (first ∷ list) zero (suc other) item differ = refl
set_other (first ∷ list) (suc at) zero item differ = refl
set_other (first ∷ list) (suc at) (suc other) item differ = set_other list at other item (λ same. differ (ap suc same))

-- ---- the first items of a list

pub took_more :
    {A : Type 0} (list : List A) (number at : ℕ) (item one : A)
    → slice_get list number ≡ Some item
    → slice_get (take (suc number) list) at ≡ Some one
    → (slice_get (take number list) at ≡ Some one) ⊎ (item ≡ one)
took_more [] number at item one is found = absurd (none-some item is)
took_more (first ∷ list) zero zero item one is found = inr (same_Some item one (sym is ∙ found))
took_more (first ∷ list) zero (suc at) item one is found = absurd (none-some one found)
took_more (first ∷ list) (suc number) zero item one is found = inl found
took_more (first ∷ list) (suc number) (suc at) item one is found = took_more list number at item one is found

pub took_all : {A : Type 0} (list : List A) (number : ℕ) → slice_get list number ≡ None → take number list ≡ list
took_all [] zero none = refl
took_all [] (suc number) none = refl
took_all (first ∷ list) zero none = absurd (none-some first (sym none))
took_all (first ∷ list) (suc number) none = ap (λ rest. first ∷ rest) (took_all list number none)

-- ---- an item that is appended

pub appended_before :
    {A : Type 0} (list : List A) (at : ℕ) (item : A)
    → at < length list
    → slice_get (list ++ item ∷ []) at ≡ slice_get list at
appended_before [] at item inside = absurd (omega (arith, inside))
appended_before (first ∷ list) zero item inside = refl
appended_before (first ∷ list) (suc at) item inside = appended_before list at item (omega (arith, inside))

pub appended_here : {A : Type 0} (list : List A) (item : A) → slice_get (list ++ item ∷ []) (length list) ≡ Some item
appended_here [] item = refl
appended_here (first ∷ list) item = appended_here list item

-- ---- states of points

pub put_is :
    (states : List (Option State)) (to : ℕ) (state : State)
    → to < length states
    → reached_in (slice_set states to (Some state)) ≡ put (reached_in states) to state
put_is states to state inside = fun_ext (λ at. elim (same_or_not to at) [
  | inl same ↦
      subst (λ (where_ : ℕ). reached_in (slice_set states to (Some state)) where_ ≡ put (reached_in states) to state where_) same
      (ap option_flatten (set_here states to (Some state) inside) ∙ sym (put_here (reached_in states) to state))
  | inr differ ↦ ap option_flatten (set_other states to at (Some state) differ) ∙ sym (put_other (reached_in states) to at state differ)
])

none_at : (count at : ℕ) → reached_in (replicate count None) at ≡ None
none_at zero zero = refl
none_at zero (suc at) = refl
none_at (suc count) zero = refl
none_at (suc count) (suc at) = none_at count at

pub none_reached : (count : ℕ) → reached_in (replicate count None) ≡ nothing
none_reached count = fun_ext (λ at. none_at count at ∙ sym (nothing_at at))

-- so many points of which none is reached, as far as they are listed
pub record AreNone (states : List (Option State)) (at count : ℕ) : Type 0 where
  pub same : states ≡ replicate at None
  pub few : at ≤ count

pub none_first : (count : ℕ) → AreNone [] 0 count
none_first count = record { same = refl; few = omega arith }

pub none_more :
    (states : List (Option State)) (at count : ℕ)
    → AreNone states at count
    → at < count
    → AreNone (states ++ None ∷ []) (at + 1) count
none_more states at count none inside = record {
  same = ap (λ (list : List (Option State)). list ++ None ∷ []) none.same ∙ replicate-append-replicate at 1 None;
  few = omega (arith, inside);
}

pub none_all : (states : List (Option State)) (at count : ℕ) → AreNone states at count → count ≤ at → states ≡ replicate count None
none_all states at count none past =
    let few = none.few in
    let all : at ≡ count = omega (arith, few, past) in
    none.same ∙ ap (λ (n : ℕ). replicate {A = Option State} n None) all

-- ---- how many points are not reached, and how many objects are left

pub unreached_new :
    (states : List (Option State)) (to : ℕ) (state : State)
    → to < length states
    → reached_in states to ≡ None
    → unreached_in (slice_set states to (Some state)) < unreached_in states
unreached_new [] to state inside none = absurd (omega (arith, inside))
unreached_new (None ∷ states) zero state inside none = omega arith
unreached_new (Some old ∷ states) zero state inside none = absurd (none-some old (sym none))
unreached_new (None ∷ states) (suc to) state inside none =
    let rest = unreached_new states to state (omega (arith, inside)) none in
    omega (arith, rest)
unreached_new (Some old ∷ states) (suc to) state inside none = unreached_new states to state (omega (arith, inside)) none

pub unreached_old :
    (states : List (Option State)) (to : ℕ) (state old : State)
    → reached_in states to ≡ Some old
    → unreached_in (slice_set states to (Some state)) ≡ unreached_in states
unreached_old [] to state old is = refl
unreached_old (None ∷ states) zero state old is = absurd (none-some old is)
unreached_old (Some one ∷ states) zero state old is = refl
unreached_old (None ∷ states) (suc to) state old is = ap (λ (n : ℕ). 1 + n) (unreached_old states to state old is)
unreached_old (Some one ∷ states) (suc to) state old is = unreached_old states to state old is

pub objects_old :
    (states : List (Option State)) (to : ℕ) (state old : State)
    → reached_in states to ≡ Some old
    → objects_in (slice_set states to (Some state)) + length old.objects ≡ objects_in states + length state.objects
objects_old [] to state old is = absurd (none-some old is)
objects_old (None ∷ states) zero state old is = absurd (none-some old is)
objects_old (Some one ∷ states) zero state old is =
    let same = ap (λ (s : State). length s.objects) (same_Some one old is) in
    omega (arith, same)
objects_old (None ∷ states) (suc to) state old is = objects_old states to state old is
objects_old (Some one ∷ states) (suc to) state old is =
    let rest = objects_old states to state old is in
    omega (arith, rest)
