-- Walks over locals, which end where all that is left is Top.
use Rattle.std.proofs.Common.{◌≡◌, ◌∙◌, ◌<◌, ◌≤◌, ◌-◌, ◌+◌, get_or, ℕ, zero, suc, true, false, List, [], ◌∷◌, Some, None, length, take, drop, replicate, sym, refl, ap, subst, arith, add-one}
use Rattle.std.specs.List.{list_any, slice_get}
use Rattle.std.proofs.lemmas.Bool.{or_from}
use Rattle.std.proofs.lemmas.List.{length-take, take-append-drop}
use Rattle.std.proofs.lemmas.List.Folds.{list_any-append, list_any_at, list_any_more}
use Rattle.std.proofs.lemmas.Option.{get_or_from_slice_get, slice_get-get_or, slice_get_within}
use Rattle.class_model.specs.declared.frame.VType.{VType}
use Rattle.class_model.specs.declared.frame.VType.TheVariants.{Top, UninitThis}
use Rattle.class_tree.specs.Headers.{Headers}
use Rattle.member_link.specs.Assignability.{IsAssignable}
use Rattle.member_link.specs.Assignability.IsAssignable.{to_top}
use Rattle.member_link.specs.Rows.FrameAssignability.{AreAssignable, is_uninit_this}
use Rattle.type_rules.proofs.Pairwise.{are_as_long}

-- one unit more
assignable_next : (headers : Headers) (lows highs : List VType) (i : ℕ) (low high : VType) → slice_get lows i ≡ Some low → slice_get highs i ≡ Some high → AreAssignable headers (take i lows) (take i highs) → IsAssignable headers low high → AreAssignable headers (take (suc i) lows) (take (suc i) highs)
assignable_next headers [] highs zero low high here there all one = absurd cc
assignable_next headers [] highs (suc i) low high here there all one = absurd cc
assignable_next headers (x ∷ lows) [] zero low high here there all one = absurd cc
assignable_next headers (x ∷ lows) [] (suc i) low high here there all one = absurd cc
assignable_next headers (x ∷ lows) (y ∷ highs) zero low high here there all one =
    let first : x ≡ low = cc in
    let second : y ≡ high = cc in
    (rw (first, second) one, tt)
assignable_next headers (x ∷ lows) (y ∷ highs) (suc i) low high here there all one = (all.0, assignable_next headers lows highs i low high here there all.1 one)

pub assignable_more : (headers : Headers) (lows highs : List VType) (i : ℕ) (low high : VType) → Some low ≡ slice_get lows i → Some high ≡ slice_get highs i → AreAssignable headers (take i lows) (take i highs) → IsAssignable headers low high → AreAssignable headers (take (i + 1) lows) (take (i + 1) highs)
assignable_more headers lows highs i low high here there all one =
    rw (add-one i) (assignable_next headers lows highs i low high (sym here) (sym there) all one)

-- a unit among those that are walked
pub assignable_at : (headers : Headers) (lows highs : List VType) (i n : ℕ) (low high : VType) → i < n → Some low ≡ slice_get lows i → Some high ≡ slice_get highs i → AreAssignable headers (take n lows) (take n highs) → IsAssignable headers low high
assignable_at headers lows highs i zero low high below here there all = absurd (omega (arith, below))
assignable_at headers [] highs zero (suc n) low high below here there all = absurd cc
assignable_at headers [] highs (suc i) (suc n) low high below here there all = absurd cc
assignable_at headers (x ∷ lows) [] zero (suc n) low high below here there all = absurd cc
assignable_at headers (x ∷ lows) [] (suc i) (suc n) low high below here there all = absurd cc
assignable_at headers (x ∷ lows) (y ∷ highs) zero (suc n) low high below here there all =
    let first : low ≡ x = cc in
    let second : high ≡ y = cc in
    rw (first, second) all.0
assignable_at headers (x ∷ lows) (y ∷ highs) (suc i) (suc n) low high below here there all = assignable_at headers lows highs i n low high (omega (arith, below)) here there all.1

missing_behind : (types : List VType) (i : ℕ) → slice_get types i ≡ None → length types ≤ i
missing_behind [] i none = omega arith
missing_behind (x ∷ types) zero none = absurd cc
missing_behind (x ∷ types) (suc i) none =
    let rest : length types ≤ i = missing_behind types i none in
    omega (arith, rest)

-- Units that are walked are as many in both.
pub as_many_walked : (headers : Headers) (lows highs : List VType) (i n : ℕ) → None ≡ slice_get lows i → i < n → n ≤ length highs → AreAssignable headers (take n lows) (take n highs) → ⊥
as_many_walked headers lows highs i n none below few all =
    let walked : length (take n lows) ≡ length (take n highs) = are_as_long headers (take n lows) (take n highs) all in
    let fewer : length lows ≤ i = missing_behind lows i (sym none) in
    let first = length-take n lows in
    let second = length-take n highs in
    omega (arith, below, few, walked, first, second, fewer)

-- the units that are walked, and those behind them
pub walked_assignable : (headers : Headers) (lows highs : List VType) (n : ℕ) → AreAssignable headers lows highs → AreAssignable headers (take n lows) (take n highs)
walked_assignable headers lows highs zero all = tt
walked_assignable headers [] [] (suc n) all = tt
walked_assignable headers [] (high ∷ highs) (suc n) all = absurd all
walked_assignable headers (low ∷ lows) [] (suc n) all = absurd all
walked_assignable headers (low ∷ lows) (high ∷ highs) (suc n) all = (all.0, walked_assignable headers lows highs n all.1)

all_to_tops : (headers : Headers) (lows : List VType) → AreAssignable headers lows (replicate (length lows) Top)
all_to_tops headers [] = tt
all_to_tops headers (low ∷ lows) = (to_top low, all_to_tops headers lows)

pub rest_assignable : (headers : Headers) (lows highs : List VType) (n : ℕ) → length lows ≡ length highs → drop n highs ≡ replicate (length highs - n) Top → AreAssignable headers (take n lows) (take n highs) → AreAssignable headers lows highs
rest_assignable headers lows highs zero same tops all =
    let ends : highs ≡ replicate (length lows) Top = tops ∙ ap (λ k. replicate k Top) (omega (arith, same)) in
    subst (AreAssignable headers lows) (sym ends) (all_to_tops headers lows)
rest_assignable headers [] [] (suc n) same tops all = tt
rest_assignable headers [] (high ∷ highs) (suc n) same tops all = absurd (omega (arith, same))
rest_assignable headers (low ∷ lows) [] (suc n) same tops all = absurd (omega (arith, same))
rest_assignable headers (low ∷ lows) (high ∷ highs) (suc n) same tops all = (all.0, rest_assignable headers lows highs n (omega (arith, same)) (tops ∙ ap (λ k. replicate k Top) (omega arith)) all.1)

-- A type that is not an uninitialised this.
not_this : (type : VType) → (type ≡ UninitThis → ⊥) → is_uninit_this type ≡ false
not_this UninitThis other = absurd (other refl)
not_this type other = refl

-- one unit more that is no uninitialised this
pub any_more : (locals : List VType) (i : ℕ) → i < length locals → (slice_get locals i ≡ Some UninitThis → ⊥) → list_any is_uninit_this (take i locals) ≡ false → list_any is_uninit_this (take (i + 1) locals) ≡ false
any_more locals i below other none =
    list_any_more is_uninit_this locals i Top below ∙ or_from _ _ none (not_this (get_or locals i Top) (λ is. other (slice_get-get_or locals i Top below ∙ ap (λ type. Some type) is)))

pub any_found : (locals : List VType) (i : ℕ) → slice_get locals i ≡ Some UninitThis → list_any is_uninit_this locals ≡ true
any_found locals i is =
    list_any_at is_uninit_this locals i Top (slice_get_within locals i UninitThis is) (ap is_uninit_this (get_or_from_slice_get locals i UninitThis Top is))

none_of_tops : (n : ℕ) → list_any is_uninit_this (replicate n Top) ≡ false
none_of_tops zero = refl
none_of_tops (suc n) = none_of_tops n

-- none is among those that are walked, and none is behind them
pub none_behind : (locals : List VType) (i n : ℕ) → n ≤ i → i ≤ n → drop n locals ≡ replicate (length locals - n) Top → list_any is_uninit_this (take i locals) ≡ false → list_any is_uninit_this locals ≡ false
none_behind locals i n low high tops none =
    let same : i ≡ n = omega (arith, low, high) in
    let walked : list_any is_uninit_this (take n locals) ≡ false = rw same at none in
    let rest : list_any is_uninit_this (drop n locals) ≡ false = ap (list_any is_uninit_this) tops ∙ none_of_tops (length locals - n) in
    ap (list_any is_uninit_this) (sym (take-append-drop n locals)) ∙ (list_any-append is_uninit_this (take n locals) (drop n locals) ∙ or_from _ _ walked rest)
