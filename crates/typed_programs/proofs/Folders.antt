use Rattle.std.specs.Prelude.{◌≡◌, ◌≤◌, ◌+◌, refl, ℕ, zero, suc, Bool, true, false, List, [], ◌∷◌, ◌++◌, map, bytes_eq, cond, count_by, slice_get, Option, Some, None, IsSome, option_map}
use Rattle.std.proofs.Common.{arith, ap, sym, ◌∙◌, subst}
use Rattle.std.proofs.lemmas.List.Recursion.{is_count_by}
use Rattle.std.proofs.lemmas.Option.{slice_get-map}
use Rattle.class_model.specs.Header.{header_of}
use Rattle.class_model.specs.declared.class_file.ClassFile.{ClassFile}
use Rattle.class_model.specs.declared.header.Header.{Header}
use Rattle.class_tree.specs.Headers.{Name, Classes, Headers, headers_of, named}
use Rattle.member_link.specs.Machine.Classes.{program_of, run_class_of}
use Rattle.member_link.specs.Machine.Programs.{RunClass, Links, number_of_first, folder_number}

pub some_of : {A : Type 0} {a b : A} → Some a ≡ Some b → a ≡ b
some_of e = cc

-- ---- classes by name

pub named_behind : (name : Name) (xs ys : List Header) → IsSome (named name ys) → IsSome (named name (xs ++ ys))
named_behind name [] ys there = there
named_behind name (x ∷ xs) ys there = by (bytes_eq name x.name) refl (named_behind name xs ys there) where
  by : (b : Bool) → bytes_eq name x.name ≡ b → IsSome (named name (xs ++ ys)) → IsSome (named name (x ∷ (xs ++ ys)))
  by true e next = rw e refl
  by false e next = rw e next

-- how often a name stands, by recursion
abbrev pub how_many : Name → List Header → ℕ
how_many name [] = 0
how_many name (x ∷ xs) = cond (bytes_eq name x.name) (1 + how_many name xs) (how_many name xs)

pub counted : (name : Name) (xs : List Header) → how_many name xs ≡ count_by (λ header. bytes_eq name header.name) xs
counted name xs = is_count_by (how_many name) (λ header. bytes_eq name header.name) refl (λ x rest. refl) xs

pub one_there : (name : Name) (xs : List Header) → IsSome (named name xs) → 1 ≤ how_many name xs
one_there name [] there = cc
one_there name (x ∷ xs) there = by (bytes_eq name x.name) refl (one_there name xs) where
  by : (b : Bool) → bytes_eq name x.name ≡ b → (IsSome (named name xs) → 1 ≤ how_many name xs) → 1 ≤ how_many name (x ∷ xs)
  by true e next = rw e (omega arith)
  by false e next = rw e (next (rw e at there))

pub counts_append : (name : Name) (xs ys : List Header) → how_many name (xs ++ ys) ≡ how_many name xs + how_many name ys
counts_append name [] ys = omega arith
counts_append name (x ∷ xs) ys = by (bytes_eq name x.name) refl (counts_append name xs ys) where
  by : (b : Bool) → bytes_eq name x.name ≡ b → how_many name (xs ++ ys) ≡ how_many name xs + how_many name ys
      → how_many name (x ∷ (xs ++ ys)) ≡ how_many name (x ∷ xs) + how_many name ys
  by true e next = rw e (omega (arith, next))
  by false e next = rw e next

-- a class of the library is none of the folder, where no name stands twice
pub apart : (name : Name) (folder library : List Header) → count_by (λ header. bytes_eq name header.name) (folder ++ library) ≤ 1
    → IsSome (named name library) → named name folder ≡ None
apart name folder library once there = by (named name folder) refl where
  by : (o : Option Header) → named name folder ≡ o → named name folder ≡ None
  by None e = e
  by (Some h) e =
      let one : 1 ≤ how_many name folder = one_there name folder (rw e refl) in
      let other : 1 ≤ how_many name library = one_there name library there in
      let all : how_many name (folder ++ library) ≡ how_many name folder + how_many name library = counts_append name folder library in
      let few : how_many name (folder ++ library) ≤ 1 = subst (λ n. n ≤ 1) (sym (counted name (folder ++ library))) once in
      absurd (omega (arith, one, other, all, few))

-- a class by its number
pub not_numbered : (links : Links) (headers : Headers) (name : Name) (folder : List ClassFile) → named name (map header_of folder) ≡ None
    → number_of_first (λ (class : RunClass). bytes_eq name class.header.name) (map (run_class_of links headers) folder) ≡ None
not_numbered links headers name [] none = refl
not_numbered links headers name (class ∷ folder) none = by (bytes_eq name (header_of class).name) refl
    (not_numbered links headers name folder) where
      by : (b : Bool) → bytes_eq name (header_of class).name ≡ b
          → (named name (map header_of folder) ≡ None → number_of_first (λ (c : RunClass). bytes_eq name c.header.name)
          (map (run_class_of links headers) folder) ≡ None)
          → number_of_first (λ (c : RunClass). bytes_eq name c.header.name) (map (run_class_of links headers) (class ∷ folder)) ≡ None
      by true e next = let no : Some (header_of class) ≡ None = rw e at none in cc
      by false e next = rw e (ap (option_map suc) (next (rw e at none)))

pub not_there : (links : Links) (headers : Headers) (name : Name) (folder : List ClassFile)
    → number_of_first (λ (class : RunClass). bytes_eq name class.header.name) (map (run_class_of links headers) folder) ≡ None
    → named name (map header_of folder) ≡ None
not_there links headers name [] none = refl
not_there links headers name (class ∷ folder) none =
    by (bytes_eq name (header_of class).name) refl (number_of_first (λ (c : RunClass). bytes_eq name c.header.name)
    (map (run_class_of links headers) folder)) refl (not_there links headers name folder) where
      by : (b : Bool) → bytes_eq name (header_of class).name ≡ b → (n : Option ℕ)
          → number_of_first (λ (c : RunClass). bytes_eq name c.header.name) (map (run_class_of links headers) folder) ≡ n
          → (number_of_first (λ (c : RunClass). bytes_eq name c.header.name) (map (run_class_of links headers) folder) ≡ None
          → named name (map header_of folder) ≡ None) → named name (map header_of (class ∷ folder)) ≡ None
      by true e n d next = let no : Some zero ≡ None = rw e at none in cc
      by false e None d next = rw e (next d)
      by false e (Some n) d next = let no : Some (suc n) ≡ None = rw d at (rw e at none) in cc

-- ---- the program

module _ (classes : Classes) (links : Links) where
  pub outside_folder : (name : Name) → named name (headers_of classes).folder ≡ None → folder_number (program_of classes links) name ≡ None
  outside_folder name none = not_numbered links (headers_of classes) name classes.folder none

  pub no_folder_class : (name : Name) → folder_number (program_of classes links) name ≡ None → named name (headers_of classes).folder ≡ None
  no_folder_class name none = not_there links (headers_of classes) name classes.folder none

  pub class_at : (number : ℕ) (class : RunClass) → slice_get (program_of classes links).classes number ≡ Some class
      → (file : ClassFile) × (slice_get classes.folder number ≡ Some file) × (run_class_of links (headers_of classes) file ≡ class)
  class_at number class at = by (slice_get classes.folder number) refl mapped where
    mapped : option_map (run_class_of links (headers_of classes)) (slice_get classes.folder number) ≡ Some class
    mapped = sym (slice_get-map (run_class_of links (headers_of classes)) classes.folder number) ∙ at

    by : (o : Option ClassFile) → slice_get classes.folder number ≡ o
        → option_map (run_class_of links (headers_of classes)) o ≡ Some class
        → (file : ClassFile) × (slice_get classes.folder number ≡ Some file) × (run_class_of links (headers_of classes) file ≡ class)
    by None e m = cc
    by (Some file) e m = (file, e, some_of m)
