-- A class of the chain of a class that is made has its field constructor added in the program, and another one has nothing added.
use Rattle.std.proofs.Common.{◌≡◌, ◌≤◌, ◌+◌, ◌++◌, ◌||◌, ℕ, zero, suc, Bool, true, false, cond, List, [], ◌∷◌, bytes_eq, map, slice_get, Some, count_by, option_map, refl, sym, ap, subst, ◌∙◌, arith}
use Rattle.std.specs.List.{AllByRecursion, list_any}
use Rattle.std.proofs.lemmas.Bool.{false≢true}
use Rattle.std.proofs.lemmas.List.Sums.{sum_by-append, sum_by-cons}
use Rattle.std.proofs.lemmas.Option.{none-some, same_Some, slice_get-map}
use Rattle.std.proofs.lemmas.Slice.Eq.{bytes_eq-Decides}
use Rattle.class_model.specs.Header.{header_of}
use Rattle.class_model.specs.declared.class_file.ClassFile.{ClassFile}
use Rattle.class_model.specs.declared.header.Header.{Header}
use Rattle.class_rewrite.specs.Rewriting.Folders.{IsFolderWritten, IsMade}
use Rattle.class_rewrite.specs.Rewriting.Methods.{Rewriting}
use Rattle.class_tree.specs.Headers.{headers_of}
use Rattle.class_tree.specs.Layouts.{chain}
use Rattle.class_tree.specs.Trees.{IsInOrder}
use Rattle.plan_flow.specs.Written.WrittenPrograms.{HasConstructor, constructor_method}

-- ---- what passes a test that one item passes

counts_first : {A : Type 0} (test : A → Bool) (x : A) (xs : List A) → count_by test (x ∷ xs) ≡ cond (test x) 1 0 + count_by test xs
counts_first test x xs = sum_by-cons (λ y. cond (test y) 1 0) x xs

counts_one : {A : Type 0} (test : A → Bool) (x : A) (xs : List A) → test x ≡ true → count_by test (x ∷ xs) ≡ 1 + count_by test xs
counts_one test x xs passes = counts_first test x xs ∙ ap (λ (b : Bool). cond b 1 0 + count_by test xs) passes

there_counts : {A : Type 0} (test : A → Bool) (xs : List A) (n : ℕ) (x : A) → slice_get xs n ≡ Some x → test x ≡ true → 1 ≤ count_by test xs
there_counts test [] n x is passes = absurd (none-some x is)
there_counts test (y ∷ xs) zero x is passes =
    let same : test y ≡ true = ap test (same_Some y x is) ∙ passes in
    let counts = counts_one test y xs same in
    omega (arith, counts)
there_counts test (y ∷ xs) (suc n) x is passes =
    let rest = there_counts test xs n x is passes in
    let counts = counts_first test y xs in
    omega (arith, rest, counts)

one_place : {A : Type 0} (test : A → Bool) (xs : List A) → count_by test xs ≤ 1
    → (m n : ℕ) (x y : A)
    → slice_get xs m ≡ Some x
    → test x ≡ true
    → slice_get xs n ≡ Some y
    → test y ≡ true
    → m ≡ n
one_place test [] once m n x y is passes is_also passes_also = absurd (none-some x is)
one_place test (z ∷ xs) once zero zero x y is passes is_also passes_also = refl
one_place test (z ∷ xs) once zero (suc n) x y is passes is_also passes_also =
    let same : test z ≡ true = ap test (same_Some z x is) ∙ passes in
    let counts = counts_one test z xs same in
    let more = there_counts test xs n y is_also passes_also in
    absurd (omega (arith, once, counts, more))
one_place test (z ∷ xs) once (suc m) zero x y is passes is_also passes_also =
    let same : test z ≡ true = ap test (same_Some z y is_also) ∙ passes_also in
    let counts = counts_one test z xs same in
    let more = there_counts test xs m x is passes in
    absurd (omega (arith, once, counts, more))
one_place test (z ∷ xs) once (suc m) (suc n) x y is passes is_also passes_also =
    let counts = counts_first test z xs in
    let rest : count_by test xs ≤ 1 = omega (arith, once, counts) in
    ap suc (one_place test xs rest m n x y is passes is_also passes_also)

counts_both : {A : Type 0} (test : A → Bool) (xs ys : List A) → count_by test (xs ++ ys) ≡ count_by test xs + count_by test ys
counts_both test xs ys = sum_by-append (λ y. cond (test y) 1 0) xs ys

-- ---- field constructors

any_holds : {A : Type 0} (test : A → Bool) (P : A → Type 0) (xs : List A) → list_any test xs ≡ true → AllByRecursion P xs
    → (x : A) × (test x ≡ true) × P x
any_holds test P [] any all = absurd (false≢true any)
any_holds {A} test P (x ∷ xs) any all = by (test x) refl any (any_holds test P xs) where
  by : (b : Bool) → test x ≡ b → (b || list_any test xs) ≡ true
      → (list_any test xs ≡ true → AllByRecursion P xs → (x : A) × (test x ≡ true) × P x)
      → (x : A) × (test x ≡ true) × P x
  by true passes any rest = (x, passes, all.0)
  by false fails any rest = rest any all.1

module _ (r : Rewriting) (files : List ClassFile) (w : IsFolderWritten r files) (in_order : IsInOrder (headers_of r.classes)) where
  -- classes of one name have one number
  number_is_one : (class number : ℕ) (file also : ClassFile) → slice_get r.classes.folder class ≡ Some file
      → slice_get r.classes.folder number ≡ Some also
      → (header_of also).name ≡ (header_of file).name
      → class ≡ number
  number_is_one class number file also is is_also same =
      let test : Header → Bool = λ header. bytes_eq (header_of file).name header.name in
      let folder : List Header = map header_of r.classes.folder in
      let both : count_by test (folder ++ r.classes.library) ≡ count_by test folder + count_by test r.classes.library =
      counts_both test folder r.classes.library in
      let all : count_by test (folder ++ r.classes.library) ≤ 1 = in_order.once (header_of file).name in
      let once : count_by test folder ≤ 1 = omega (arith, both, all) in
      let there : slice_get folder class ≡ Some (header_of file) =
      slice_get-map header_of r.classes.folder class ∙ ap (option_map header_of) is in
      let there_also : slice_get folder number ≡ Some (header_of also) =
      slice_get-map header_of r.classes.folder number ∙ ap (option_map header_of) is_also in
      one_place test folder once class number (header_of file) (header_of also) there
      ((bytes_eq-Decides (header_of file).name (header_of file).name).1 refl) there_also
      ((bytes_eq-Decides (header_of file).name (header_of also).name).1 (sym same))

  -- What is added to a class that is made is its field constructor.
  pub made_is_added : (class : ℕ) (file : ClassFile) → slice_get r.classes.folder class ≡ Some file → IsMade r w.written (header_of file).name
      → w.s.added class ≡ constructor_method r.classes r.links r.constructor file ∷ []
  made_is_added class file is made =
      let all = w.replaces.made made.class made.makes in
      let one = any_holds (bytes_eq (header_of file).name) (HasConstructor r.classes r.links r.constructor w.s)
      (chain (headers_of r.classes) made.class) made.of_chain all in
      let named : (header_of file).name ≡ one.0 = (bytes_eq-Decides (header_of file).name one.0).0 one.1 in
      let has = one.2 in
      let number : class ≡ has.number = number_is_one class has.number file has.file is has.is_file (has.named ∙ sym named) in
      let files_same : has.file ≡ file = same_Some has.file file (sym has.is_file ∙ subst (λ (n : ℕ). slice_get r.classes.folder n ≡ Some file) number is) in
      ap (λ (n : ℕ). w.s.added n) number ∙ has.added
      ∙ ap (λ (x : ClassFile). constructor_method r.classes r.links r.constructor x ∷ []) files_same
