-- The classes of generated work and of its library are in byte order of their names, none of which stands twice.
use Rattle.std.proofs.Common.{◌≡◌, ◌+◌, ◌≤◌, ◌&&◌, not, ℕ, zero, suc, Bool, true, false, List, [], ◌∷◌, cond, count_by, get_or, bytes_eq, refl, sym, subst, arith}
use Rattle.std.specs.Cmp.Lexicographic.{slice_cmp}
use Rattle.std.specs.List.{list_any}
use Rattle.std.specs.Ordering.{is_lt, nat_cmp}
use Rattle.std.proofs.lemmas.Bool.{and_parts, false≢true}
use Rattle.std.proofs.lemmas.List.Recursion.{is_count_by}
use Rattle.std.proofs.lemmas.Slice.Eq.{bytes_eq-Decides}
use Rattle.std.specs.List.Sorted.{IsPermutation}
use Rattle.class_model.specs.declared.header.Header.{Header}
use Rattle.class_model.specs.declared.header.Member.{Member}
use Rattle.class_tree.specs.Headers.{Name, all_headers}
use Rattle.class_tree.specs.Trees.{AreHeadersInOrder, IsInOrder}
use Rattle.work_gen.specs.BaseLibrary.{base_headers}
use Rattle.verified_work.proofs.WorkHeaders.{headers, library}

-- ---- by tests

-- no header stands before the one in front of it
abbrev ascend : List Header → Bool
ascend [] = true
ascend (header ∷ []) = true
ascend (header ∷ next ∷ others) = not (is_lt (slice_cmp nat_cmp next.name header.name)) && ascend (next ∷ others)

not_false : (test : Bool) → not test ≡ true → test ≡ false
not_false true is = absurd (false≢true is)
not_false false is = refl

in_order : (list : List Header) → ascend list ≡ true → AreHeadersInOrder list
in_order [] test k d low within = absurd (omega (arith, within))
in_order (header ∷ []) test k d low within = absurd (omega (arith, within))
in_order (header ∷ next ∷ others) test zero d low within =
    not_false _ (and_parts (not (is_lt (slice_cmp nat_cmp next.name header.name))) (ascend (next ∷ others)) test).0
in_order (header ∷ next ∷ others) test (suc k) d low within =
    let rest = (and_parts (not (is_lt (slice_cmp nat_cmp next.name header.name))) (ascend (next ∷ others)) test).1 in
    let one : suc k + 1 ≡ suc (k + 1) = omega arith in
    subst (λ (n : ℕ). is_lt (slice_cmp nat_cmp (get_or (header ∷ next ∷ others) n d).name (get_or (next ∷ others) k d).name) ≡ false) (sym one)
    (in_order (next ∷ others) rest k d (omega arith) (omega (arith, within)))

-- each name is another than those behind it
abbrev differ : List Header → Bool
differ [] = true
differ (header ∷ others) = not (list_any (λ other. bytes_eq header.name other.name) others) && differ others

-- how many have a name
abbrev counted : Name → List Header → ℕ
counted name [] = 0
counted name (header ∷ others) = cond (bytes_eq name header.name) (1 + counted name others) (counted name others)

none_of : (name : Name) (list : List Header) → list_any (λ other. bytes_eq name other.name) list ≡ false → counted name list ≡ 0
none_of name [] none = refl
none_of name (header ∷ others) none = by (bytes_eq name header.name) refl none (none_of name others)
  where
    by : (test : Bool) → bytes_eq name header.name ≡ test → list_any (λ other. bytes_eq name other.name) (header ∷ others) ≡ false
        → (list_any (λ other. bytes_eq name other.name) others ≡ false → counted name others ≡ 0)
        → counted name (header ∷ others) ≡ 0
    by true is none later = absurd (false≢true (sym (rw is at none)))
    by false is none later = rw is (later (rw is at none))

once : (name : Name) (list : List Header) → differ list ≡ true → counted name list ≤ 1
once name [] test = omega arith
once name (header ∷ others) test = by (bytes_eq name header.name) refl (once name others)
  where
    parts : (not (list_any (λ other. bytes_eq header.name other.name) others) ≡ true) × (differ others ≡ true)
    parts = and_parts (not (list_any (λ other. bytes_eq header.name other.name) others)) (differ others) test

    by : (test : Bool) → bytes_eq name header.name ≡ test → (differ others ≡ true → counted name others ≤ 1) → counted name (header ∷ others) ≤ 1
    by true is later =
        let same : name ≡ header.name = (bytes_eq-Decides name header.name).0 is in
        let none = none_of name others (subst (λ (n : Name). list_any (λ other. bytes_eq n other.name) others ≡ false) (sym same) (not_false _ parts.0)) in
        rw is (omega (arith, none))
    by false is later = rw is (later parts.1)

at_most_once : (name : Name) (list : List Header) → differ list ≡ true → count_by (λ header. bytes_eq name header.name) list ≤ 1
at_most_once name list test = subst (λ (n : ℕ). n ≤ 1) (is_count_by (counted name) (λ header. bytes_eq name header.name) refl (λ header others. refl) list) (once name list test)

-- ---- the headers

pub are_in_order : (methods : List Member) → IsInOrder (headers methods)
are_in_order methods = record {
  folder = in_order (headers methods).folder refl;
  library = in_order library refl;
  once = λ name. at_most_once name (all_headers (headers methods)) refl;
}

pub library_sorted : AreHeadersInOrder library
library_sorted = in_order library refl

pub folder_sorted : (methods : List Member) → AreHeadersInOrder (headers methods).folder
folder_sorted methods = in_order (headers methods).folder refl

-- the library, in the order in which it is made
pub library_same : IsPermutation base_headers library
library_same = record {
  moves =
      (16, 18) ∷ (14, 18) ∷ (13, 18) ∷ (12, 17) ∷ (11, 16) ∷ (10, 15) ∷ (9, 14) ∷ (8, 9)
      ∷ (7, 13) ∷ (6, 11) ∷ (5, 12) ∷ (4, 11) ∷ (3, 10) ∷ (2, 9) ∷ (1, 2) ∷ (0, 7) ∷ [];
  below = (omega arith, omega arith, (omega arith, omega arith, (omega arith, omega arith, (omega arith, omega arith, (omega arith, omega arith, (omega arith, omega arith, (omega arith, omega arith, (omega arith, omega arith, (omega arith, omega arith, (omega arith, omega arith, (omega arith, omega arith, (omega arith, omega arith, (omega arith, omega arith, (omega arith, omega arith, (omega arith, omega arith, (omega arith, omega arith, tt))))))))))))))));
  is = refl;
}
