-- Where a name stands among names in byte order.
use Rattle.std.proofs.Common.{◌≡◌, ◌≢◌, ℕ, zero, suc, ◌+◌, ◌<◌, Bool, true, false, List, [], ◌∷◌, ◌++◌, length, get_or, cond, bytes_eq, Decides, refl, sym, ap, ◌∙◌, arith}
use Rattle.std.specs.Cmp.{IsStrictWeakOrder}
use Rattle.std.specs.Cmp.Lexicographic.{slice_cmp}
use Rattle.std.specs.List.Sorted.{IsSorted}
use Rattle.std.specs.Ordering.{nat_cmp, is_lt}
use Rattle.std.proofs.lemmas.Bool.{false≢true}
use Rattle.std.proofs.lemmas.Cmp.{nat_list_cmp_total, tied_itself}
use Rattle.std.proofs.lemmas.List.{get_or_at, get_or-append-add, get_or_append_left, length-append}
use Rattle.std.proofs.lemmas.List.Sorted.{ranks_by, sorted_far}
use Rattle.std.proofs.lemmas.Slice.Eq.{bytes_eq-Decides}
use Rattle.host_tree.specs.Host.{Bytes, times}
use Rattle.host_tree.specs.Laws.Names.{times-cons}
use Rattle.pea_top.specs.Folders.{IsBytesBefore}

-- by whether it is the first
found_at : (same : Bool) (name other : Bytes) (names : List Bytes) (d : Bytes) → Decides same (name ≡ other) → 0 < cond same 1 0 + times name names
    → (0 < times name names → (k : ℕ) × (k < length names) × (get_or names k d ≡ name)) → (k : ℕ) × (k < length (other ∷ names)) × (get_or (other ∷ names) k d ≡ name)
found_at true name other names d is some rest = (zero, omega arith, sym (is.0 refl))
found_at false name other names d is some rest =
    let there = rest (omega arith) in
    (suc there.0, omega (arith, there.1), there.2)

-- a name that stands in a list stands at an index
found : (names : List Bytes) (name d : Bytes) → 0 < times name names → (k : ℕ) × (k < length names) × (get_or names k d ≡ name)
found [] name d some = absurd (omega arith)
found (other ∷ names) name d some =
    let counted : 0 < cond (bytes_eq name other) 1 0 + times name names = omega (arith, times-cons name other names) in
    found_at (bytes_eq name other) name other names d (bytes_eq-Decides name other) counted (found names name d)

pub IsBytesBefore-other : (name other : Bytes) → IsBytesBefore name other → name ≢ other
IsBytesBefore-other name other before same =
    let tied = tied_itself nat_list_cmp_total other in
    let less : slice_cmp nat_cmp other other ≡ slice_cmp nat_cmp name other = ap (λ n. slice_cmp nat_cmp n other) (sym same) in
    false≢true (ap is_lt (sym tied ∙ less ∙ before))

ranked : IsStrictWeakOrder (λ x y. is_lt (slice_cmp nat_cmp x y))
ranked = ranks_by nat_list_cmp_total (λ (x : Bytes). x)

-- around a name in a list in byte order
module _ (front : List Bytes) (middle : Bytes) (back : List Bytes) (in_order : IsSorted (slice_cmp nat_cmp) (front ++ middle ∷ back)) where
  all_length : length (front ++ middle ∷ back) ≡ length front + suc (length back)
  all_length = length-append front (middle ∷ back)

  all_middle : get_or (front ++ middle ∷ back) (length front) middle ≡ middle
  all_middle = get_or_at front middle back middle (length front) refl

  -- no later name stands before it
  pub later_not_before : (name : Bytes) → 0 < times name back → ¬ IsBytesBefore name middle
  later_not_before name some before =
      let at = found back name middle some in
      let far = sorted_far _ ranked (front ++ middle ∷ back) in_order (length front) (length front + suc at.0) middle (omega arith) (omega (arith, all_length, at.1)) in
      let there : get_or (front ++ middle ∷ back) (length front + suc at.0) middle ≡ name = get_or-append-add front (middle ∷ back) (suc at.0) middle ∙ at.2 in
      false≢true (sym far ∙ rw (there, all_middle) (ap is_lt before))

  -- it stands before no earlier name
  pub earlier_not_after : (name : Bytes) → 0 < times name front → ¬ IsBytesBefore middle name
  earlier_not_after name some before =
      let at = found front name middle some in
      let far = sorted_far _ ranked (front ++ middle ∷ back) in_order at.0 (length front) middle (omega (arith, at.1)) (omega (arith, all_length)) in
      let there : get_or (front ++ middle ∷ back) at.0 middle ≡ name = get_or_append_left front (middle ∷ back) middle at.0 at.1 ∙ at.2 in
      false≢true (sym far ∙ rw (there, all_middle) (ap is_lt before))
