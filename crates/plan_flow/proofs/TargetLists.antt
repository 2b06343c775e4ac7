-- The points to which handlers lead are found.
use Rattle.std.proofs.Common.{◌≡◌, ℕ, ◌<◌, ◌≤◌, ◌+◌, ◌==◌, ◌||◌, zero, suc, Bool, true, false, List, [], ◌∷◌, ◌++◌, drop, length, slice_get, Option, Some, None, refl, sym, ap, subst, ◌∙◌, inl, inr, arith}
use Rattle.std.specs.BTreeSet.{insert_key}
use Rattle.std.specs.Option.{option_map_or}
use Rattle.std.specs.Ordering.{match_ordering, nat_cmp}
use Rattle.std.specs.declared.cmp.Ordering.{Ordering}
use Rattle.std.specs.declared.cmp.Ordering.TheVariants.{Less, Equal, Greater}
use Rattle.std.proofs.lemmas.Option.{none-some}
use Rattle.flow_code.specs.FlatCode.{FlatCode}
use Rattle.flow_code.specs.declared.handlers.FlatHandler.{FlatHandler}
use Rattle.flow_code.specs.declared.point.Point.{Point}
use Rattle.plan_flow.specs.Inner.Sharing.{AreTargets, AreTargetsOf, AreTargetsUpTo, handlers_in, points_of, targets_in}
use Rattle.virtual_state.specs.Laws.Objects.{same_or_not}
use Rattle.virtual_state.specs.Sites.{has}
use Rattle.plan_flow.proofs.Opening.{dropped, dropped_all, got_inside}
use Rattle.plan_flow.proofs.PointLists.{appended_before, appended_here}
use Rattle.plan_flow.proofs.WorkLists.{equal_numbers}

-- ---- each point once

or_swapped : (a b c : Bool) → (a || (b || c)) ≡ (b || (a || c))
or_swapped true true c = refl
or_swapped true false c = refl
or_swapped false true c = refl
or_swapped false false c = refl

or_same : (a b : Bool) → (a || b) ≡ (a || (a || b))
or_same true b = refl
or_same false b = refl

or_both : (a b c : Bool) → (a || (b || c)) ≡ ((b || a) || c)
or_both true true c = refl
or_both true false c = refl
or_both false true c = refl
or_both false false c = refl

or_none : (a : Bool) → (a || false) ≡ a
or_none true = refl
or_none false = refl

has_inserted : (list : List ℕ) (at to : ℕ) → has (insert_key nat_cmp list at) to ≡ ((at == to) || has list to)
has_inserted [] at to = refl
has_inserted (first ∷ list) at to = by (nat_cmp at first) refl (has_inserted list at to) where
  by :
      (order : Ordering)
      → nat_cmp at first ≡ order
      → has (insert_key nat_cmp list at) to ≡ ((at == to) || has list to)
      → has (match_ordering order (at ∷ first ∷ list) (first ∷ list) (first ∷ insert_key nat_cmp list at)) to ≡ ((at == to) || has (first ∷ list) to)
  by Less is rest = refl
  by Equal is rest =
      let same = equal_numbers at first is in
      or_same (first == to) (has list to) ∙ ap (λ (n : ℕ). (n == to) || ((first == to) || has list to)) (sym same)
  by Greater is rest = ap (λ (b : Bool). (first == to) || b) rest ∙ or_swapped (first == to) (at == to) (has list to)

-- the first points are listed
pub record AreSeen (points : List ℕ) (number : ℕ) (keys : List ℕ) : Type 0 where
  pub each : (to : ℕ) → has points to ≡ (has keys to || has (drop number points) to)

pub seen_start : (points keys : List ℕ) → keys ≡ [] → AreSeen points 0 keys
seen_start points keys none = record { each = λ to. ap (λ (list : List ℕ). has list to || has points to) (sym none) }

pub seen_next :
    (points : List ℕ) (number : ℕ) (keys more : List ℕ) (one : ℕ)
    → AreSeen points number keys
    → slice_get points number ≡ Some one
    → more ≡ insert_key nat_cmp keys one
    → AreSeen points (number + 1) more
seen_next points number keys more one seen is is_more = record {
  each = λ to.
      let rest = has (drop (number + 1) points) to in
      seen.each to
      ∙ ap (λ (list : List ℕ). has keys to || has list to) (dropped points number one is)
      ∙ or_both (has keys to) (one == to) rest
      ∙ ap (λ (b : Bool). b || rest) (sym (has_inserted keys one to))
      ∙ ap (λ (list : List ℕ). has list to || rest) (sym is_more);
}

pub seen_end :
    (handlers : List FlatHandler) (number : ℕ) (keys targets : List ℕ)
    → AreSeen (points_of handlers) number keys
    → slice_get (points_of handlers) number ≡ None
    → targets ≡ keys
    → AreTargetsOf handlers targets
seen_end handlers number keys targets seen none same = record {
  same = λ to.
      sym (seen.each to
      ∙ ap (λ (list : List ℕ). has keys to || has list to) (dropped_all (points_of handlers) number none)
      ∙ or_none (has keys to)
      ∙ ap (λ (list : List ℕ). has list to) (sym same));
}

-- ---- handlers that lead to the same points

-- lists are the same, if what is left of them is
pub record AreAlike (one other : List ℕ) (number : ℕ) : Type 0 where
  pub then : drop number one ≡ drop number other → one ≡ other

pub alike_start : (one other : List ℕ) → AreAlike one other 0
alike_start one other = record { then = λ same. same }

pub alike_next :
    (one other : List ℕ) (number to : ℕ)
    → AreAlike one other number
    → slice_get one number ≡ Some to
    → slice_get other number ≡ Some to
    → AreAlike one other (number + 1)
alike_next one other number to alike is also = record {
  then = λ same. alike.then (dropped one number to is ∙ ap (λ (list : List ℕ). to ∷ list) same ∙ sym (dropped other number to also));
}

none_both : (one other : List ℕ) (number : ℕ) → length one ≡ length other → slice_get one number ≡ None → slice_get other number ≡ None
none_both [] [] number len none = refl
none_both [] (first ∷ other) number len none = absurd (omega (arith, len))
none_both (first ∷ one) [] number len none = absurd (omega (arith, len))
none_both (first ∷ one) (second ∷ other) zero len none = absurd (none-some first (sym none))
none_both (first ∷ one) (second ∷ other) (suc number) len none = none_both one other number (omega (arith, len)) none

pub length_points : (handlers : List FlatHandler) → length (points_of handlers) ≡ length handlers
length_points [] = refl
length_points (handler ∷ handlers) = let rest = length_points handlers in omega (arith, rest)

pub alike_end :
    (one other : List FlatHandler) (number : ℕ)
    → AreAlike (points_of one) (points_of other) number
    → length one ≡ length other
    → slice_get (points_of one) number ≡ None
    → points_of one ≡ points_of other
alike_end one other number alike len none =
    let same = length_points one ∙ len ∙ sym (length_points other) in
    alike.then (dropped_all (points_of one) number none ∙ sym (dropped_all (points_of other) number (none_both (points_of one) (points_of other) number same none)))

pub alike_targets : (one other : List FlatHandler) (targets : List ℕ) → points_of one ≡ points_of other → AreTargetsOf other targets → AreTargetsOf one targets
alike_targets one other targets alike are = record { same = λ to. are.same to ∙ ap (λ (list : List ℕ). has list to) (sym alike) }

-- ---- points of flat code

pub known_none : (flat : FlatCode) (table : List (List ℕ)) → table ≡ [] → AreTargetsUpTo flat table 0
known_none flat table none = record { len = ap (λ (list : List (List ℕ)). length list) none; each = λ at low. absurd (omega (arith, low)) }

length_more : (table : List (List ℕ)) (targets : List ℕ) → length (table ++ targets ∷ []) ≡ length table + 1
length_more [] targets = refl
length_more (first ∷ table) targets = let rest = length_more table targets in omega (arith, rest)

pub known_more :
    (flat : FlatCode) (table : List (List ℕ)) (count : ℕ) (targets : List ℕ)
    → AreTargetsUpTo flat table count
    → AreTargetsOf (handlers_in flat count) targets
    → AreTargetsUpTo flat (table ++ targets ∷ []) (count + 1)
known_more flat table count targets known are = record {
  len = let more = length_more table targets in let len = known.len in omega (arith, len, more);
  each = λ at within. elim (same_or_not count at) [
    | inl here ↦
        let len : length table ≡ at = known.len ∙ here in
        let got = subst (λ (n : ℕ). slice_get (table ++ targets ∷ []) n ≡ Some targets) len (appended_here table targets) in
        subst (AreTargetsOf (handlers_in flat at)) (sym (ap (λ (found : Option (List ℕ)). option_map_or (λ one. one) found []) got))
        (subst (λ (n : ℕ). AreTargetsOf (handlers_in flat n) targets) here are)
    | inr differ ↦
        let len = known.len in
        let low : at < count = omega (arith, within, differ) in
        let there : at < length table = omega (arith, low, len) in
        subst (AreTargetsOf (handlers_in flat at))
        (sym (ap (λ (found : Option (List ℕ)). option_map_or (λ one. one) found []) (appended_before table at targets there))) (known.each at low)
  ];
}

pub known_all :
    (flat : FlatCode) (table : List (List ℕ)) (count : ℕ)
    → AreTargetsUpTo flat table count
    → length flat.points ≤ count
    → AreTargets flat table
known_all flat table count known past = record {
  each = λ at point is.
      let low = got_inside flat.points at point is in
      subst (λ (handlers : List FlatHandler). AreTargetsOf handlers (targets_in table at))
      (ap (λ (found : Option Point). option_map_or (λ one. one.handlers) found []) is)
      (known.each at (omega (arith, low, past)));
}
