-- Units of locals one by one: in a block that is laid over others, and where locals are assignable to others.
use Rattle.std.proofs.Common.{◌≡◌, ◌+◌, ◌-◌, ◌≤◌, ◌<◌, ℕ, zero, suc, Bool, true, false, List, [], ◌∷◌, ◌++◌, ◌⊎◌, length, take, drop, replicate, slice_get, Some, None, IsTrue, refl, sym, ap, subst, ◌∙◌, arith, inl, inr}
use Rattle.std.specs.List.{list_any}
use Rattle.std.proofs.lemmas.List.{length-append, length-drop, length-take-le}
use Rattle.std.proofs.lemmas.Option.{none-some, same_Some}
use Rattle.class_model.specs.declared.frame.VType.{VType}
use Rattle.class_model.specs.declared.frame.VType.TheVariants as types
use Rattle.class_tree.specs.Headers.{Headers}
use Rattle.expanded_code.specs.Expanded.{overlaid}
use Rattle.member_link.specs.Assignability.{IsAssignable, to_same}
use Rattle.member_link.specs.Rows.FrameAssignability.{AreAssignable, is_uninit_this}

-- ---- items of lists

pub le_cases : (m n : ℕ) → (m ≤ n) ⊎ (n < m)
le_cases zero n = inl (omega arith)
le_cases (suc m) zero = inr (omega arith)
le_cases (suc m) (suc n) = of_less (le_cases m n) where
  of_less : (m ≤ n) ⊎ (n < m) → (suc m ≤ suc n) ⊎ (suc n < suc m)
  of_less (inl less) = inl (omega (arith, less))
  of_less (inr more) = inr (omega (arith, more))

pub item_there : {A : Type 0} (items : List A) (n : ℕ) → n < length items → (item : A) × (slice_get items n ≡ Some item)
item_there [] n within = absurd (omega (arith, within))
item_there (item ∷ items) zero within = (item, refl)
item_there (item ∷ items) (suc n) within = item_there items n (omega (arith, within))

pub get_front : {A : Type 0} (ones others : List A) (n : ℕ) → n < length ones → slice_get (ones ++ others) n ≡ slice_get ones n
get_front [] others n within = absurd (omega (arith, within))
get_front (one ∷ ones) others zero within = refl
get_front (one ∷ ones) others (suc n) within = get_front ones others n (omega (arith, within))

pub get_back : {A : Type 0} (ones others : List A) (n : ℕ) → slice_get (ones ++ others) (length ones + n) ≡ slice_get others n
get_back [] others n = ap (slice_get others) (omega arith)
get_back (one ∷ ones) others n =
    let next : suc (length ones) + n ≡ suc (length ones + n) = omega arith in
    ap (slice_get (one ∷ ones ++ others)) next ∙ get_back ones others n

get_nil : {A : Type 0} (n : ℕ) → slice_get {X = A} [] n ≡ None
get_nil n = refl

pub get_take : {A : Type 0} (count : ℕ) (items : List A) (n : ℕ) → n < count → slice_get (take count items) n ≡ slice_get items n
get_take zero items n within = absurd (omega (arith, within))
get_take (suc count) [] n within = refl
get_take (suc count) (item ∷ items) zero within = refl
get_take (suc count) (item ∷ items) (suc n) within = get_take count items n (omega (arith, within))

pub get_drop : {A : Type 0} (count : ℕ) (items : List A) (n : ℕ) → slice_get (drop count items) n ≡ slice_get items (count + n)
get_drop zero items n = ap (slice_get items) (omega arith)
get_drop (suc count) [] n = refl
get_drop (suc count) (item ∷ items) n =
    let next : suc count + n ≡ suc (count + n) = omega arith in
    get_drop count items n ∙ ap (slice_get (item ∷ items)) (sym next)

pub get_replicate : {A : Type 0} (count : ℕ) (item : A) (n : ℕ) → n < count → slice_get (replicate count item) n ≡ Some item
get_replicate zero item n within = absurd (omega (arith, within))
get_replicate (suc count) item zero within = refl
get_replicate (suc count) item (suc n) within = get_replicate count item n (omega (arith, within))

-- lists with the same items are one
pub same_lists : {A : Type 0} (ones others : List A) → ((n : ℕ) → slice_get ones n ≡ slice_get others n) → ones ≡ others
same_lists [] [] same = refl
same_lists [] (other ∷ others) same = absurd (none-some other (same 0))
same_lists (one ∷ ones) [] same = absurd (none-some one (sym (same 0)))
same_lists (one ∷ ones) (other ∷ others) same = λ i. same_Some one other (same 0) i ∷ same_lists ones others (λ n. same (suc n)) i

-- ---- a block over other units

-- a unit stands in a block, or outside
pub data Where (unit size n : ℕ) : Type 0 where
  outside : (n < unit) ⊎ (unit + size ≤ n) → Where unit size n
  inside : (m : ℕ) → n ≡ unit + m → m < size → Where unit size n

pub where_is : (unit size n : ℕ) → Where unit size n
where_is unit size n = elim (le_cases unit n) [
  | inr before ↦ outside (inl before)
  | inl behind ↦ elim (le_cases (unit + size) n) [
    | inl after ↦ outside (inr after)
    | inr within ↦ inside (n - unit) (omega (arith, behind)) (omega (arith, behind, within))
  ]
]

module _ (unit : ℕ) (own units : List VType) (fits : unit + length own ≤ length units) where
  abbrev front : List VType
  front = take unit units

  front_long : length front ≡ unit
  front_long = length-take-le unit units (omega (arith, fits))

  both_long : length (front ++ own) ≡ unit + length own
  both_long = omega (arith, length-append front own, front_long)

  pub block_long : length (overlaid unit own units) ≡ length units
  block_long =
      let rest = drop (unit + length own) units in
      omega (arith, fits, length-append (front ++ own) rest, both_long, length-drop (unit + length own) units)

  pub get_inside : (m : ℕ) → m < length own → slice_get (overlaid unit own units) (unit + m) ≡ slice_get own m
  get_inside m within =
      get_front (front ++ own) (drop (unit + length own) units) (unit + m) (omega (arith, both_long, within))
      ∙ ap (λ (n : ℕ). slice_get (front ++ own) (n + m)) (sym front_long)
      ∙ get_back front own m

  pub get_outside : (n : ℕ) → (n < unit) ⊎ (unit + length own ≤ n) → slice_get (overlaid unit own units) n ≡ slice_get units n
  get_outside n (inl before) =
      get_front (front ++ own) (drop (unit + length own) units) n (omega (arith, both_long, before))
      ∙ get_front front own n (omega (arith, front_long, before))
      ∙ get_take unit units n before
  get_outside n (inr behind) =
      let there : n ≡ length (front ++ own) + (n - (unit + length own)) = omega (arith, both_long, behind) in
      let back : unit + length own + (n - (unit + length own)) ≡ n = omega (arith, behind) in
      ap (slice_get (overlaid unit own units)) there
      ∙ get_back (front ++ own) (drop (unit + length own) units) (n - (unit + length own))
      ∙ get_drop (unit + length own) units (n - (unit + length own))
      ∙ ap (slice_get units) back

-- ---- tops

-- from a unit on each is Top
pub record TopsFrom (from : ℕ) (units : List VType) : Type 0 where
  pub each : (n : ℕ) → from ≤ n → n < length units → slice_get units n ≡ Some types.Top

-- units laid over are the same where both are Top
pub tops_over : (unit : ℕ) (own units : List VType) → unit + length own ≤ length units → TopsFrom 0 own → TopsFrom unit units
    → overlaid unit own units ≡ units
tops_over unit own units fits own_tops tops = same_lists (overlaid unit own units) units (λ n. by n (where_is unit (length own) n)) where
  by : (n : ℕ) → Where unit (length own) n → slice_get (overlaid unit own units) n ≡ slice_get units n
  by n (outside out) = get_outside unit own units fits n out
  by n (inside m is within) =
      ap (slice_get (overlaid unit own units)) is
      ∙ get_inside unit own units fits m within
      ∙ own_tops.each m (omega arith) within
      ∙ sym (tops.each n (omega (arith, is)) (omega (arith, is, within, fits)))

-- ---- locals that are assignable to others

pub as_long : (headers : Headers) (ones others : List VType) → AreAssignable headers ones others → length ones ≡ length others
as_long headers [] [] are = refl
as_long headers [] (high ∷ highs) are = absurd are
as_long headers (low ∷ lows) [] are = absurd are
as_long headers (low ∷ lows) (high ∷ highs) are = ap suc (as_long headers lows highs are.1)

pub each_assignable : (headers : Headers) (ones others : List VType) → AreAssignable headers ones others
    → (n : ℕ) (low high : VType) → slice_get ones n ≡ Some low → slice_get others n ≡ Some high
    → IsAssignable headers low high
each_assignable headers [] others are n low high is is_also = absurd cc
each_assignable headers (one ∷ ones) [] are n low high is is_also = absurd cc
each_assignable headers (one ∷ ones) (other ∷ others) are zero low high is is_also =
    subst (IsAssignable headers low) (same_Some other high is_also)
    (subst (λ (t : VType). IsAssignable headers t other) (same_Some one low is) are.0)
each_assignable headers (one ∷ ones) (other ∷ others) are (suc n) low high is is_also =
    each_assignable headers ones others are.1 n low high is is_also

pub all_assignable : (headers : Headers) (ones others : List VType) → length ones ≡ length others
    → ((n : ℕ) (low high : VType) → slice_get ones n ≡ Some low → slice_get others n ≡ Some high → IsAssignable headers low high)
    → AreAssignable headers ones others
all_assignable headers [] [] long each = tt
all_assignable headers [] (other ∷ others) long each = absurd (omega (arith, long))
all_assignable headers (one ∷ ones) [] long each = absurd (omega (arith, long))
all_assignable headers (one ∷ ones) (other ∷ others) long each =
    (each 0 one other refl refl, all_assignable headers ones others (omega (arith, long)) (λ n. each (suc n)))

pub to_themselves : (headers : Headers) (entries : List VType) → AreAssignable headers entries entries
to_themselves headers [] = tt
to_themselves headers (entry ∷ entries) = (to_same entry, to_themselves headers entries)

pub append_assignable : (headers : Headers) (ones others more also : List VType) → AreAssignable headers ones others
    → AreAssignable headers more also
    → AreAssignable headers (ones ++ more) (others ++ also)
append_assignable headers [] [] more also are are_also = are_also
append_assignable headers [] (high ∷ highs) more also are are_also = absurd are
append_assignable headers (low ∷ lows) [] more also are are_also = absurd are
append_assignable headers (low ∷ lows) (high ∷ highs) more also are are_also =
    (are.0, append_assignable headers lows highs more also are.1 are_also)

-- ---- an uninitialised this among them

is_this : (type : VType) → is_uninit_this type ≡ true → type ≡ types.UninitThis
is_this types.UninitThis is = refl
is_this types.Top is = absurd cc
is_this types.Int is = absurd cc
is_this types.Float is = absurd cc
is_this types.Long is = absurd cc
is_this types.Double is = absurd cc
is_this types.Null is = absurd cc
is_this (types.Object name) is = absurd cc
is_this (types.Uninit at) is = absurd cc

pub record ThisAt (units : List VType) : Type 0 where
  pub n : ℕ
  pub is : slice_get units n ≡ Some types.UninitThis

pub this_at : (units : List VType) → IsTrue (list_any is_uninit_this units) → ThisAt units
this_at [] has = absurd cc
this_at (unit ∷ units) has = by (is_uninit_this unit) refl (this_at units) where
  by : (this : Bool) → is_uninit_this unit ≡ this → (IsTrue (list_any is_uninit_this units) → ThisAt units) → ThisAt (unit ∷ units)
  by true is later = record { n = 0; is = ap Some (is_this unit is) }
  by false is later =
      let found = later (rw (is) at has) in
      record { n = suc found.n; is = found.is }

pub has_this : (units : List VType) (n : ℕ) → slice_get units n ≡ Some types.UninitThis → IsTrue (list_any is_uninit_this units)
has_this [] n is = absurd cc
has_this (unit ∷ units) zero is = rw (same_Some unit types.UninitThis is) refl
has_this (unit ∷ units) (suc n) is = by (is_uninit_this unit) refl (has_this units n is) where
  by : (this : Bool) → is_uninit_this unit ≡ this → IsTrue (list_any is_uninit_this units) → IsTrue (list_any is_uninit_this (unit ∷ units))
  by true is later = rw (is) refl
  by false is later = rw (is) later
