-- What a hierarchy of classes is, and what building one answers.
use Rattle.std.specs.Prelude.{◌≡◌, ◌≤◌, ℕ, List, map, count_by, bytes_eq, Result, Ok, Err, IsPermutation, IsSortedByKey}
use Rattle.std.specs.List.{AllByRecursion}
use Rattle.std.specs.Ordering.{nat_cmp}
use Rattle.std.specs.Cmp.Lexicographic.{slice_cmp}
use Rattle.std.specs.declared.cmp.Ordering.TheVariants.{Less}
use Rattle.class_model.specs.Checks.{AllHold, IsFirstFault}
use Rattle.class_model.specs.Header.{header_of}
use Rattle.class_model.specs.declared.class_file.ClassFile.{ClassFile}
use Rattle.class_model.specs.declared.header.Header.{Header}
use Rattle.class_tree.specs.Headers.{Name, Classes, Headers, headers_of, all_headers, IsClassFile, IsLibraryClass}
use Rattle.class_tree.specs.Problems.{Problem, of_class}
use Rattle.class_tree.specs.Steps.{step_checks}
use Rattle.class_tree.specs.declared.fault.LinkFault.{LinkFault}
use Rattle.class_tree.specs.declared.fault.LinkFault.TheVariants.{Unlinked, NoMemory}
use Rattle.class_tree.specs.declared.fault.LinkRule.TheVariants.{Duplicate}

-- the one name stands before the other in byte order
abbrev pub IsBefore : Name → Name → Type 0
IsBefore one other = slice_cmp nat_cmp one other ≡ Less

abbrev pub AreHeadersInOrder : List Header → Type 0
AreHeadersInOrder headers = IsSortedByKey (λ header. header.name) (slice_cmp nat_cmp) headers

-- how many classes have this name
abbrev pub times : Name → Headers → ℕ
times name headers = count_by (λ header. bytes_eq name header.name) (all_headers headers)

-- classes in byte order of their names, none of which stands twice
pub record IsInOrder (headers : Headers) : Type 0 where
  pub folder : AreHeadersInOrder headers.folder
  pub library : AreHeadersInOrder headers.library
  pub once : (name : Name) → times name headers ≤ 1

-- A hierarchy: classes with names of their own, of which all that is asked holds.
pub record IsTree (classes : Classes) : Type 0 where
  pub folder : AllByRecursion IsClassFile classes.folder
  pub library : AllByRecursion IsLibraryClass classes.library
  pub in_order : IsInOrder (headers_of classes)
  pub holds : AllHold (step_checks classes)

-- the same classes in byte order of their names
pub record IsArranged (folder : List ClassFile) (library : List Header) (classes : Classes)
    : Type 0 where
  pub folder_same : IsPermutation folder classes.folder
  pub library_same : IsPermutation library classes.library
  pub folder_sorted : AreHeadersInOrder (map header_of classes.folder)
  pub library_sorted : AreHeadersInOrder classes.library

-- The first problem of classes in byte order of names: the first name that stands twice, or where no name does the first
-- check that fails.
pub data IsProblemOf (classes : Classes) : Problem → Type 0 where
  duplicate : (name : Name)
      → 2 ≤ times name (headers_of classes)
      → ((other : Name) → IsBefore other name → times other (headers_of classes) ≤ 1)
      → IsProblemOf classes (of_class name Duplicate)
  step : (problem : Problem)
      → IsInOrder (headers_of classes)
      → IsFirstFault (step_checks classes) problem
      → IsProblemOf classes problem

-- the first problem of a folder and its library, in any order
pub record IsProblem (folder : List ClassFile) (library : List Header) (problem : Problem)
    : Type 0 where
  pub classes : Classes
  pub arranged : IsArranged folder library classes
  pub first : IsProblemOf classes problem

-- what building a hierarchy answers
abbrev pub IsTreeOf : List ClassFile → List Header → Result Classes LinkFault → Type 0
IsTreeOf folder library (Ok classes) = IsArranged folder library classes × IsTree classes
IsTreeOf folder library (Err (Unlinked class member rule)) =
    IsProblem folder library (record { class = class; member = member; rule = rule })
IsTreeOf folder library (Err NoMemory) = Unit {0}
