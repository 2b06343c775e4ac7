-- Classes in byte order of their names: sorting and searching.
use Rattle.std.proofs.Common.{◌≡◌, ◌≤◌, ℕ, ◌+◌, map, true, false, List, length, count_by, Result, Ok, Err, refl, sym, ap, subst, ◌∙◌, inl, inr, arith, true≢false}
use Rattle.std.proofs.lemmas.Bool.{cases_lt, false_from_ne_true}
use Rattle.std.proofs.lemmas.Cmp.{nat_list_cmp_total}
use Rattle.std.proofs.lemmas.List.{length-map, get_or-map}
use Rattle.std.proofs.lemmas.List.Elements.{All-from_recursion, recursion_from_All}
use Rattle.std.proofs.lemmas.List.Sorted.{All-permutation, searchable_from_sorted}
use Rattle.std.proofs.lemmas.Map.Text.{is_eq-slice_cmp}
use Rattle.std.proofs.lemmas.Option.{slice_get_within, slice_get_cases, get_or_from_slice_get}
use Rattle.std.proofs.lemmas.Slice.Eq.{bytes_eq-Decides}
use Rattle.std.specs.Cmp.Lexicographic.{slice_cmp}
use Rattle.std.specs.List.{AllByRecursion}
use Rattle.std.specs.List.Sorted.{IsPermutation, IsSortedByKey, IsBinarySearchResult, IsSearchInRange}
use Rattle.std.specs.Ordering.{nat_cmp, is_eq}
use Rattle.std.specs.Result.{result_ok}
use Rattle.std.specs.declared.cmp.Ordering.{Ordering}
use Rattle.std.specs.declared.cmp.Ordering.TheVariants.{Less, Equal, Greater}
use Rattle.class_model.specs.Header.{header_of}
use Rattle.class_model.specs.declared.class_file.ClassFile.{ClassFile}
use Rattle.class_model.specs.declared.header.Header.{Header}
use Rattle.class_tree.specs.Headers.{Name}
use Rattle.class_tree.specs.Order.{first_place}
use Rattle.class_tree.specs.Trees.{AreHeadersInOrder}
use Rattle.class_tree.proofs.FirstPlaces.{is_none, is_only}
use Rattle.class_tree.proofs.Places.{has_name}

-- how the name of a class compares with a name
abbrev pub compared : Name → Header → Ordering
compared name header = slice_cmp nat_cmp header.name name

equal_named : (name : Name) (header : Header) → compared name header ≡ Equal → has_name name header ≡ true
equal_named name header e =
    (bytes_eq-Decides name header.name).1 (sym ((bytes_eq-Decides header.name name).0 (sym (is_eq-slice_cmp header.name name) ∙ ap is_eq e)))

other_named : (name : Name) (header : Header) (order : Ordering) → is_eq order ≡ false → compared name header ≡ order → has_name name header ≡ false
other_named name header order other e = false_from_ne_true (has_name name header) (λ t.
    let same : header.name ≡ name = sym ((bytes_eq-Decides name header.name).0 t) in
    let equal : is_eq (compared name header) ≡ true = is_eq-slice_cmp header.name name ∙ (bytes_eq-Decides header.name name).1 same in
    true≢false (sym equal ∙ ap is_eq e ∙ other))

-- What a search for a name finds is its first place.
pub searched : (headers : List Header) (name : Name) → AreHeadersInOrder headers → count_by (has_name name) headers ≤ 1 → (result : Result ℕ ℕ) → IsSearchInRange result (length headers) → IsBinarySearchResult (compared name) headers result → result_ok result ≡ first_place (has_name name) headers
searched headers name sorted once (Ok place) within equal = elim (slice_get_cases headers place).1 [
  | inl there ↦ sym (is_only (has_name name) headers place once (record { item = there.0; there = there.2; passes = equal_named name there.0 (subst (λ header. compared name header ≡ Equal) there.3 (equal there.0)) }))
  | inr past ↦ absurd (omega (arith, past.0))
]
searched headers name sorted once (Err place) within parted =
    let parts = parted (searchable_from_sorted nat_list_cmp_total (λ (header : Header). header.name) headers name sorted) in
    sym (is_none (has_name name) headers (record {
      at = λ at header there.
          let inside = slice_get_within headers at header there in
          let is = get_or_from_slice_get headers at header header there in
          elim (cases_lt at place) [
            | inl below ↦ other_named name header Less refl (subst (λ found. compared name found ≡ Less) is (parts.0 at header (omega arith) below))
            | inr above ↦ other_named name header Greater refl (subst (λ found. compared name found ≡ Greater) is (parts.1 at header above inside))
          ];
    }))

-- ---- sorting

-- class files in byte order of their names have headers in that order
pub sorted_by_names : (classes : List ClassFile) → IsSortedByKey (λ class. (header_of class).name) (slice_cmp nat_cmp) classes → AreHeadersInOrder (map header_of classes)
sorted_by_names classes sorted k header low within = elim (slice_get_cases classes k).1 [
  | inl there ↦ let len = length-map classes header_of in rw (get_or-map header_of classes (k + 1) there.0 header (omega arith), get_or-map header_of classes k there.0 header there.1) (sorted k there.0 low (omega arith))
  | inr past ↦ absurd (omega (arith, past.0, length-map classes header_of))
]

-- what each of a list is, each of the same in another order is
pub kept_by_order : {X : Type 0} (Is : X → Type 0) (xs ys : List X) → IsPermutation xs ys → AllByRecursion Is xs → AllByRecursion Is ys
kept_by_order Is xs ys same all = recursion_from_All Is ys (All-permutation Is xs ys same (All-from_recursion Is xs all))
