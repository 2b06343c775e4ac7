-- The program of a tree's classes has their headers, and asks the same of them.
use Rattle.std.proofs.Common.{◌≡◌, ℕ, Bool, true, false, IsTrue, List, [], ◌∷◌, map, bytes_eq, slice_get, Option, Some, None, option_map, option_and_then, refl, sym, ap, subst, ◌∙◌}
use Rattle.std.specs.Option.{option_map_or}
use Rattle.std.proofs.lemmas.Option.{slice_get-map}
use Rattle.class_model.specs.Header.{header_of}
use Rattle.class_model.specs.declared.class_file.ClassFile.{ClassFile}
use Rattle.class_model.specs.declared.header.Header.{Header}
use Rattle.class_tree.specs.Headers.{Name, Classes, Headers, class_named, headers_of}
use Rattle.class_tree.specs.Names.{is_interface}
use Rattle.class_tree.specs.Order.{first_place, place_of}
use Rattle.class_tree.specs.declared.place.Place.{Place}
use Rattle.member_link.specs.Machine.Classes.{program_of, run_class_of}
use Rattle.member_link.specs.Machine.Links.{AreLinksOf}
use Rattle.member_link.specs.Machine.Programs.{Program, Links, RunClass, folder_number, header_named, headers_in, is_interface_named, name_of_class}
use Rattle.member_link.specs.TreePrograms.{IsProgram}
use Rattle.member_link.specs.Laws.FirstNumbers.{number_is_place, number_of_mapped}
use Rattle.member_link.specs.Laws.FolderNumbers.{number_at, number_of_place}

-- ---- headers

pub folder_headers :
    (links : Links) (headers : Headers) (folder : List ClassFile)
    → map (λ (class : RunClass). class.header) (map (run_class_of links headers) folder)
    ≡ map header_of folder
folder_headers links headers [] = refl
folder_headers links headers (class ∷ folder) = ap (λ (rest : List Header). header_of class ∷ rest) (folder_headers links headers folder)

found_with :
    (class : Option RunClass) (header : Header)
    → option_map (λ (class : RunClass). class.header) class ≡ Some header
    → (found : RunClass) × (class ≡ Some found) × (found.header ≡ header)
found_with None header is = absurd cc
found_with (Some class) header is = (class, refl, cc)

module _ (classes : Classes) (P : Program) (is : IsProgram classes P) where
  pub headers_are : headers_in P ≡ headers_of classes
  headers_are =
      ap headers_in is.same
      ∙ ap (λ (folder : List Header). let headers : Headers = record { folder = folder; library = classes.library } in headers) (folder_headers is.links (headers_of classes) classes.folder)

  pub folder_are : map (λ (class : RunClass). class.header) P.classes ≡ map header_of classes.folder
  folder_are = ap (λ (headers : Headers). headers.folder) headers_are

  -- its links are those of the hierarchy
  pub links_are : AreLinksOf (headers_of classes) P.links
  links_are = subst (AreLinksOf (headers_of classes)) (sym (ap (λ (p : Program). p.links) is.same)) is.are_links

  -- ---- classes of the folder

  pub number_is :
      (name : Name)
      → folder_number P name
      ≡ first_place (λ header. bytes_eq name header.name) (headers_of classes).folder
  number_is name =
      number_of_mapped (λ (header : Header). bytes_eq name header.name) (λ (class : RunClass). class.header) P.classes
      ∙ number_is_place (λ (header : Header). bytes_eq name header.name) (map (λ (class : RunClass). class.header) P.classes)
      ∙ ap (first_place (λ (header : Header). bytes_eq name header.name)) folder_are

  -- what stands at a number
  pub class_at_number :
      (number : ℕ)
      → option_map (λ (class : RunClass). class.header) (slice_get P.classes number)
      ≡ slice_get (headers_of classes).folder number
  class_at_number number =
      sym (slice_get-map (λ (class : RunClass). class.header) P.classes number)
      ∙ ap (λ (folder : List Header). slice_get folder number) folder_are

  pub class_with :
      (number : ℕ) (header : Header)
      → slice_get (headers_of classes).folder number ≡ Some header
      → (found : RunClass) × (slice_get P.classes number ≡ Some found) × (found.header ≡ header)
  class_with number header at =
      found_with (slice_get P.classes number) header (class_at_number number ∙ at)

  -- ---- classes by name

  pub header_is :
      (name : Name) (found : Option Header)
      → class_named (headers_of classes) name ≡ found
      → header_named P name ≡ found
  header_is name found at = ap (λ (headers : Headers). class_named headers name) headers_are ∙ at

  pub interface_is :
      (name : Name) (found : Option Header)
      → class_named (headers_of classes) name ≡ found
      → option_map_or is_interface found false ≡ is_interface_named P name
  interface_is name None at = rw (header_is name None at) refl
  interface_is name (Some header) at = rw (header_is name (Some header) at) refl

-- ---- the number of a place

pub number_by_place :
    (classes : Classes) (P : Program)
    → IsProgram classes P
    → (name : Name) (place : Option Place)
    → place_of (headers_of classes) name ≡ place
    → number_at place ≡ folder_number P name
number_by_place classes P is name place at =
    sym (ap number_at at) ∙ number_of_place (headers_of classes) name ∙ sym (number_is classes P is name)

-- ---- the name of a number

pub name_at_number :
    (classes : Classes) (P : Program)
    → IsProgram classes P
    → (number : ℕ) (header : Header)
    → slice_get (headers_of classes).folder number ≡ Some header
    → header.name ≡ name_of_class P number
name_at_number classes P is number header at =
    let found = class_with classes P is number header at in
    rw found.1 (ap (λ (h : Header). h.name) (sym found.2))

pub none_at_number :
    (classes : Classes) (P : Program)
    → IsProgram classes P
    → (number : ℕ)
    → slice_get (headers_of classes).folder number ≡ None
    → slice_get P.classes number ≡ None
none_at_number classes P is number at = by (slice_get P.classes number) (class_at_number classes P is number ∙ at)
  where
    by : (class : Option RunClass) → option_map (λ (class : RunClass). class.header) class ≡ None → class ≡ None
    by None none = refl
    by (Some class) none = absurd cc

-- where there is no class the name is empty
pub no_name : (P : Program) (number : ℕ) → slice_get P.classes number ≡ None → [] ≡ name_of_class P number
no_name P number none = rw none refl
