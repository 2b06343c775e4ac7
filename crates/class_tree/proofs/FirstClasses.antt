-- The first class in byte order of names, of two lists in that order.
use Rattle.std.proofs.lemmas.Bool.{false_from_ne_true}
use Rattle.std.proofs.Common.{◌≡◌, ◌+◌, ◌-◌, ◌<◌, ℕ, suc, true, false, List, [], ◌∷◌, length, get_or, take, drop, count_by, refl, sym, ap, subst, ◌∙◌, arith, true≢false}
use Rattle.std.proofs.lemmas.Cmp.{nat_list_cmp_total, upto}
use Rattle.std.proofs.lemmas.List.{get_or_default, take_all}
use Rattle.std.proofs.lemmas.List.Sorted.{ranks_by, sorted_far}
use Rattle.std.proofs.lemmas.Option.{slice_get_within, get_or_from_slice_get}
use Rattle.std.specs.Cmp.Lexicographic.{slice_cmp}
use Rattle.std.specs.Ordering.{nat_cmp, is_lt, is_gt, ordering_reverse}
use Rattle.std.specs.declared.cmp.Ordering.{Ordering}
use Rattle.std.specs.declared.cmp.Ordering.TheVariants.{Less, Equal, Greater}
use Rattle.class_model.specs.declared.header.Header.{Header}
use Rattle.class_tree.specs.Headers.{Name, Headers}
use Rattle.class_tree.specs.Trees.{AreHeadersInOrder, IsBefore, times}
use Rattle.class_tree.proofs.FirstPlaces.{none_counted}
use Rattle.class_tree.proofs.Places.{has_name, same_name, times_in_parts}

-- no class stands before this name
pub record AreFrom (low : Name) (headers : List Header) : Type 0 where
  pub at : (k : ℕ) (d : Header) → k < length headers → is_gt (slice_cmp nat_cmp low (get_or headers k d).name) ≡ false

turned : (order : Ordering) → is_lt order ≡ false → is_gt (ordering_reverse order) ≡ false
turned Less h = absurd (true≢false h)
turned Equal h = refl
turned Greater h = refl

turned_back : (order : Ordering) → is_gt order ≡ true → is_gt (ordering_reverse order) ≡ false
turned_back Less h = absurd (true≢false (sym h))
turned_back Equal h = refl
turned_back Greater h = refl

-- the later of two is not before the other
pub not_after : (one other : Name) → is_gt (slice_cmp nat_cmp one other) ≡ true → is_gt (slice_cmp nat_cmp other one) ≡ false
not_after one other h = ap is_gt (nat_list_cmp_total.antisymm other one) ∙ turned_back (slice_cmp nat_cmp one other) h

-- the first of a list in order
pub from_first : (headers : List Header) (first : Header) → AreHeadersInOrder headers → first ≡ get_or headers 0 first → AreFrom first.name headers
from_first headers first sorted is = record {
  at = λ k d within.
      let far = sorted_far (λ (one other : Header). is_lt (slice_cmp nat_cmp one.name other.name)) (ranks_by nat_list_cmp_total (λ (header : Header). header.name)) headers sorted 0 k d (omega arith) within in
      let same : get_or headers 0 d ≡ first = get_or_default headers 0 d first (omega arith) ∙ sym is in
      ap is_gt (nat_list_cmp_total.antisymm first.name (get_or headers k d).name) ∙ turned _ (subst (λ (header : Header). is_lt (slice_cmp nat_cmp (get_or headers k d).name header.name) ≡ false) same far);
}

pub from_none : (low : Name) (headers : List Header) → length headers ≡ 0 → AreFrom low headers
from_none low headers none = record { at = λ k d within. absurd (omega arith) }

-- what stands before is no later
pub from_lower : (low high : Name) (headers : List Header) → is_gt (slice_cmp nat_cmp low high) ≡ false → AreFrom high headers → AreFrom low headers
from_lower low high headers before from = record { at = λ k d within. upto nat_list_cmp_total low high (get_or headers k d).name before (from.at k d within) }

-- a list in order without its first
pub rest_in_order : (headers rest : List Header) → rest ≡ take (length headers - 1) (drop 1 headers) → AreHeadersInOrder headers → AreHeadersInOrder rest
rest_in_order [] rest is sorted = λ k d low within. absurd (omega (arith, ap length is))
rest_in_order (header ∷ headers) rest is sorted =
    let same : rest ≡ headers = is ∙ take_all (length (header ∷ headers) - 1) headers (omega arith) in
    subst AreHeadersInOrder (sym same) (λ k d low within. subst (λ n. is_lt (slice_cmp nat_cmp (get_or (header ∷ headers) n d).name (get_or headers k d).name) ≡ false) {x = suc k + 1} {y = suc (k + 1)} (omega arith) (sorted (suc k) d (omega arith) (omega arith)))

other_name : (name low : Name) (header : Header) → IsBefore name low → is_gt (slice_cmp nat_cmp low header.name) ≡ false → has_name name header ≡ false
other_name name low header before later = false_from_ne_true (has_name name header) (λ e.
    let greater : slice_cmp nat_cmp low name ≡ Greater = nat_list_cmp_total.antisymm low name ∙ ap ordering_reverse before in
    true≢false (sym (ap is_gt greater) ∙ subst (λ (found : Name). is_gt (slice_cmp nat_cmp low found) ≡ false) (same_name name header e) later))

-- what stands before all of a list is not in it
none_before : (name low : Name) (headers : List Header) → AreFrom low headers → IsBefore name low → count_by (has_name name) headers ≡ 0
none_before name low headers from before = none_counted (has_name name) headers (record {
  at = λ k header there.
      let within = slice_get_within headers k header there in
      let is = get_or_from_slice_get headers k header header there in
      other_name name low header before (subst (λ (found : Header). is_gt (slice_cmp nat_cmp low found.name) ≡ false) is (from.at k header within));
})

-- where no class of either list stands before a name, what stands before it has no class
pub none_earlier : (folder library : List Header) (headers : Headers) → record { folder = folder; library = library } ≡ headers → (low : Name) → AreFrom low folder → AreFrom low library → (name : Name) → IsBefore name low → times name headers ≡ 0
none_earlier folder library headers view low in_folder in_library name before =
    subst (λ (h : Headers). times name h ≡ 0) view
    (times_in_parts name (record { folder = folder; library = library }) ∙ omega (arith, none_before name low folder in_folder before, none_before name low library in_library before))
