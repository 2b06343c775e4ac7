-- The names of a folder are one list.
use Rattle.std.proofs.Common.{◌≡◌, ℕ, suc, ◌+◌, ◌<◌, List, [], ◌∷◌, cond, bytes_eq, refl, sym, ap, ◌∙◌, arith}
use Rattle.std.specs.Cmp.Lexicographic.{slice_cmp}
use Rattle.std.specs.FinMap.{nat_cmp-IsAntisymmetric, slice_cmp-IsAntisymmetric}
use Rattle.std.specs.List.Sorted.{IsSorted}
use Rattle.std.specs.Ordering.{nat_cmp, ordering_reverse}
use Rattle.std.specs.declared.cmp.Ordering.{Ordering}
use Rattle.std.specs.declared.cmp.Ordering.TheVariants.{Less, Equal, Greater}
use Rattle.std.proofs.lemmas.Bool.{false_from_ne_true}
use Rattle.std.proofs.lemmas.Cmp.{nat_list_cmp_total}
use Rattle.std.proofs.lemmas.Slice.Eq.{bytes_eq-Decides}
use Rattle.host_tree.specs.Host.{Bytes, Folder, times}
use Rattle.host_tree.specs.Laws.Names.{times-cons, times-first}
use Rattle.pea_top.specs.Folders.{IsBytesBefore, AreNames}
use Rattle.pea_top.proofs.NamesInOrder.{IsBytesBefore-other, later_not_before}

-- names of which neither stands before the other are one name
pub one_name : (name other : Bytes) → ¬ IsBytesBefore name other → ¬ IsBytesBefore other name → name ≡ other
one_name name other not_before not_after = by (slice_cmp nat_cmp name other) refl
  where
    by : (order : Ordering) → slice_cmp nat_cmp name other ≡ order → name ≡ other
    by Less e = absurd (not_before e)
    by Equal e = slice_cmp-IsAntisymmetric nat_cmp-IsAntisymmetric name other e
    by Greater e = absurd (not_after (nat_list_cmp_total.antisymm other name ∙ ap ordering_reverse e))

-- no name of a list in byte order stands before the first
not_before_first : (first : Bytes) (names : List Bytes) (name : Bytes) → IsSorted (slice_cmp nat_cmp) (first ∷ names) → 0 < times name (first ∷ names) → ¬ IsBytesBefore name first
not_before_first first names name in_order some before =
    let apart = false_from_ne_true (bytes_eq name first) (λ e. IsBytesBefore-other name first before ((bytes_eq-Decides name first).0 e)) in
    later_not_before [] first names in_order name (omega (arith, some, times-cons name first names, ap {B = ℕ} (λ b. cond b 1 0) apart)) before

in_order_behind : (first : Bytes) (names : List Bytes) → IsSorted (slice_cmp nat_cmp) (first ∷ names) → IsSorted (slice_cmp nat_cmp) names
in_order_behind first names in_order k d low high =
    let next : suc k + 1 ≡ suc (k + 1) = omega arith in
    rw next at (in_order (suc k) d (omega arith) (omega arith))

-- lists in byte order that have each name equally often are one list
one_list : (xs ys : List Bytes) → IsSorted (slice_cmp nat_cmp) xs → IsSorted (slice_cmp nat_cmp) ys → ((name : Bytes) → times name xs ≡ times name ys) → xs ≡ ys
one_list [] [] h i same = refl
one_list [] (y ∷ ys) h i same = absurd (omega (arith, same y, times-first y ys))
one_list (x ∷ xs) [] h i same = absurd (omega (arith, same x, times-first x xs))
one_list (x ∷ xs) (y ∷ ys) h i same =
    let first : x ≡ y = one_name x y (not_before_first y ys x i (omega (arith, same x, times-first x xs))) (not_before_first x xs y h (omega (arith, same y, times-first y ys))) in
    let rest : xs ≡ ys = one_list xs ys (in_order_behind x xs h) (in_order_behind y ys i) (λ name. omega (arith, same name, times-cons name x xs, times-cons name y ys, ap {B = ℕ} (λ n. cond (bytes_eq name n) 1 0) first)) in
    cc (first, rest)

pub one_list_of_names : (folder : Folder) (names others : List Bytes) → AreNames folder names → AreNames folder others → names ≡ others
one_list_of_names folder names others h i = one_list names others h.in_order i.in_order (λ name. h.once name ∙ sym (i.once name))
