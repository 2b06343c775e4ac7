-- A folder and its library are arranged in one way where no name stands twice, and have one first problem.
use Rattle.std.proofs.Common.{◌≡◌, ◌+◌, ◌≤◌, ℕ, List, [], ◌∷◌, ◌++◌, map, count_by, bytes_eq, Bool, false, get_or, refl, sym, ap, subst, ◌∙◌, ◌⊎◌, inl, inr, cond, arith}
use Rattle.std.proofs.lemmas.Cmp.{nat_list_cmp_total}
use Rattle.std.proofs.lemmas.List.{get_or-map, length-map}
use Rattle.std.proofs.lemmas.List.Sorted.{IsPermutation-sym, IsPermutation-trans, IsPermutation-map, IsPermutation-append, sum_by-IsPermutation}
use Rattle.std.proofs.lemmas.List.Sums.{sum_by-cons}
use Rattle.std.specs.Cmp.Lexicographic.{slice_cmp}
use Rattle.std.specs.FinMap.{nat_cmp-IsAntisymmetric, slice_cmp-IsAntisymmetric}
use Rattle.std.specs.List.Sorted.{IsPermutation, IsSortedByKey}
use Rattle.std.specs.Ordering.{nat_cmp, is_lt, ordering_reverse}
use Rattle.std.specs.declared.cmp.Ordering.{Ordering}
use Rattle.std.specs.declared.cmp.Ordering.TheVariants.{Less, Equal, Greater}
use Rattle.class_model.specs.Checks.{IsFirstFault}
use Rattle.class_model.specs.Header.{header_of}
use Rattle.class_model.specs.Laws.Checks.{one_fault}
use Rattle.class_model.specs.declared.class_file.ClassFile.{ClassFile}
use Rattle.class_model.specs.declared.header.Header.{Header}
use Rattle.class_tree.specs.Headers.{Name, Classes, headers_of}
use Rattle.class_tree.specs.Problems.{Problem, of_class}
use Rattle.class_tree.specs.Steps.{step_checks}
use Rattle.class_tree.specs.Trees.{AreHeadersInOrder, IsArranged, IsBefore, IsInOrder, IsProblem, IsProblemOf, times}
use Rattle.class_tree.specs.Trees.IsProblemOf.{duplicate, step}
use Rattle.class_tree.specs.declared.fault.LinkRule.TheVariants.{Duplicate}
use Rattle.class_tree.proofs.Places.{has_name, times_in_parts}
use Rattle.class_tree.proofs.SortedOnce.{one_order}

-- ---- counts

-- what passes among the images of items is counted among the items
count_mapped : {A B : Type 0} (f : A → B) (test : B → Bool) (items : List A) → count_by test (map f items) ≡ count_by (λ x. test (f x)) items
count_mapped f test [] = refl
count_mapped f test (x ∷ items) =
    sum_by-cons (λ y. cond (test y) 1 0) (f x) (map f items)
    ∙ ap (λ (n : ℕ). cond (test (f x)) 1 0 + n) (count_mapped f test items)
    ∙ sym (sum_by-cons (λ y. cond (test (f y)) 1 0) x items)

module _ (folder : List ClassFile) (library : List Header) where
  same_folder : (one other : Classes) → IsArranged folder library one → IsArranged folder library other → IsPermutation one.folder other.folder
  same_folder one other a b = IsPermutation-trans one.folder folder other.folder (IsPermutation-sym folder one.folder a.folder_same) b.folder_same

  same_library : (one other : Classes) → IsArranged folder library one → IsArranged folder library other → IsPermutation one.library other.library
  same_library one other a b = IsPermutation-trans one.library library other.library (IsPermutation-sym library one.library a.library_same) b.library_same

  -- each name stands as often in the one arrangement as in the other
  same_times : (one other : Classes) → IsArranged folder library one → IsArranged folder library other → (name : Name) → times name (headers_of other) ≡ times name (headers_of one)
  same_times one other a b name =
      sum_by-IsPermutation (λ header. cond (has_name name header) 1 0) (map header_of one.folder ++ one.library) (map header_of other.folder ++ other.library)
      (IsPermutation-append (map header_of one.folder) (map header_of other.folder) one.library other.library (IsPermutation-map header_of one.folder other.folder (same_folder one other a b)) (same_library one other a b))

-- ---- one arrangement

class_name : ClassFile → Name
class_name class = (header_of class).name

header_name : Header → Name
header_name header = header.name

-- class files whose headers are in byte order of their names are so themselves
classes_sorted : (classes : List ClassFile) → AreHeadersInOrder (map header_of classes) → IsSortedByKey class_name (slice_cmp nat_cmp) classes
unfolding class_name
classes_sorted classes sorted k class low within =
    let len = length-map classes header_of in
    let later = get_or-map header_of classes (k + 1) class (header_of class) (omega arith) in
    let here = get_or-map header_of classes k class (header_of class) (omega arith) in
    subst (λ (header : Header). is_lt (slice_cmp nat_cmp header.name (header_of (get_or classes k class)).name) ≡ false) later
    (subst (λ (header : Header). is_lt (slice_cmp nat_cmp (get_or (map header_of classes) (k + 1) (header_of class)).name header.name) ≡ false) here (sorted k (header_of class) low (omega arith)))

folder_once : (classes : Classes) (name : Name) → times name (headers_of classes) ≤ 1 → count_by (λ class. bytes_eq name (class_name class)) classes.folder ≤ 1
unfolding class_name
folder_once classes name once = omega (arith, times_in_parts name (headers_of classes), count_mapped header_of (has_name name) classes.folder)

library_once : (classes : Classes) (name : Name) → times name (headers_of classes) ≤ 1 → count_by (λ header. bytes_eq name (header_name header)) classes.library ≤ 1
unfolding header_name
library_once classes name once = omega (arith, times_in_parts name (headers_of classes))

library_sorted : (library : List Header) → AreHeadersInOrder library → IsSortedByKey header_name (slice_cmp nat_cmp) library
unfolding header_name
library_sorted library sorted = sorted

same_classes : (one other : Classes) → one.folder ≡ other.folder → one.library ≡ other.library → one ≡ other
same_classes one other folder library =
    let first : one ≡ record { folder = other.folder; library = one.library } = ap (λ (classes : List ClassFile). record one { folder = classes }) folder in
    let second : record { folder = other.folder; library = one.library } ≡ other = ap (λ (headers : List Header). record other { library = headers }) library in
    first ∙ second

pub one_arrangement : (folder : List ClassFile) (library : List Header) (one other : Classes) → IsArranged folder library one → IsInOrder (headers_of one) → IsArranged folder library other → one ≡ other
one_arrangement folder library one other a in_order b =
    let also : (name : Name) → times name (headers_of other) ≤ 1 = λ name. subst (λ (n : ℕ). n ≤ 1) (sym (same_times folder library one other a b name)) (in_order.once name) in
    same_classes one other
    (one_order class_name one.folder other.folder (same_folder folder library one other a b) (classes_sorted one.folder a.folder_sorted) (classes_sorted other.folder b.folder_sorted) (λ name. folder_once one name (in_order.once name)) (λ name. folder_once other name (also name)))
    (one_order header_name one.library other.library (same_library folder library one other a b) (library_sorted one.library a.library_sorted) (library_sorted other.library b.library_sorted) (λ name. library_once one name (in_order.once name)) (λ name. library_once other name (also name)))

-- ---- one problem

-- a first name that stands twice
record Twice (classes : Classes) (problem : Problem) : Type 0 where
  pub name : Name
  pub is : problem ≡ of_class name Duplicate
  pub twice : 2 ≤ times name (headers_of classes)
  pub first : (other : Name) → IsBefore other name → times other (headers_of classes) ≤ 1

-- a first check that fails, where no name stands twice
record Fails (classes : Classes) (problem : Problem) : Type 0 where
  pub in_order : IsInOrder (headers_of classes)
  pub first : IsFirstFault (step_checks classes) problem

problem_form : (classes : Classes) (problem : Problem) → IsProblemOf classes problem → Twice classes problem ⊎ Fails classes problem
problem_form classes _ (duplicate name twice first) = inl (record { name = name; is = refl; twice = twice; first = first })
problem_form classes _ (step problem in_order first) = inr (record { in_order = in_order; first = first })

module _ (one other : Classes) (same : (name : Name) → times name (headers_of other) ≡ times name (headers_of one)) where
  -- by where the one name stands beside the other
  one_name_by : (p q : Problem) (a : Twice one p) (b : Twice other q) (order : Ordering) → slice_cmp nat_cmp a.name b.name ≡ order → a.name ≡ b.name
  one_name_by p q a b Less e = absurd (omega (arith, a.twice, b.first a.name e, same a.name))
  one_name_by p q a b Equal e = slice_cmp-IsAntisymmetric nat_cmp-IsAntisymmetric a.name b.name e
  one_name_by p q a b Greater e =
      let before : IsBefore b.name a.name = nat_list_cmp_total.antisymm b.name a.name ∙ ap ordering_reverse e in
      absurd (omega (arith, b.twice, a.first b.name before, same b.name))

  one_duplicate : (p q : Problem) → Twice one p → Twice other q → p ≡ q
  one_duplicate p q a b = a.is ∙ ap (λ (name : Name). of_class name Duplicate) (one_name_by p q a b (slice_cmp nat_cmp a.name b.name) refl) ∙ sym b.is

-- no name stands twice in classes whose checks are asked
not_both : (one other : Classes) → ((name : Name) → times name (headers_of other) ≡ times name (headers_of one)) → (p q : Problem) → Twice one p → ¬ Fails other q
not_both one other same p q a b = omega (arith, a.twice, b.in_order.once a.name, same a.name)

pub one_problem : (folder : List ClassFile) (library : List Header) (one other : Problem) → IsProblem folder library one → IsProblem folder library other → one ≡ other
one_problem folder library one other a b =
    let same = same_times folder library a.classes b.classes a.arranged b.arranged in
    elim (problem_form a.classes one a.first) [
      | inl twice ↦ elim (problem_form b.classes other b.first) [
        | inl also ↦ one_duplicate a.classes b.classes same one other twice also
        | inr fails ↦ absurd (not_both a.classes b.classes same one other twice fails)
      ]
      | inr fails ↦ elim (problem_form b.classes other b.first) [
        | inl twice ↦ absurd (not_both b.classes a.classes (λ name. sym (same name)) other one twice fails)
        | inr also ↦
            let classes = one_arrangement folder library a.classes b.classes a.arranged fails.in_order b.arranged in
            one_fault (step_checks a.classes) one other fails.first (subst (λ (c : Classes). IsFirstFault (step_checks c) other) (sym classes) also.first)
      ]
    ]
