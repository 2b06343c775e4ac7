-- The classes that come before a class are the same in programs that are the same, if these are of a hierarchy: instance initialisers that
-- classes have besides stand in no interface.
use Rattle.std.proofs.Common.{◌≡◌, ◌++◌, ℕ, zero, suc, Bool, true, false, List, [], ◌∷◌, map, length, bytes_eq, slice_get, Option, Some, None, if◌then◌else◌, IsTrue, refl, ap, subst, ◌∙◌}
use Rattle.std.specs.Option.{IfSome}
use Rattle.std.specs.List.{AllByRecursion, filter, list_any}
use Rattle.std.proofs.lemmas.List.{map-append}
use Rattle.std.proofs.lemmas.Option.{none-some}
use Rattle.class_model.specs.declared.header.Header.{Header}
use Rattle.class_model.specs.declared.header.Member.{Member}
use Rattle.class_tree.specs.Headers.{Name, all_headers, named}
use Rattle.class_tree.specs.Hierarchy.{IsHierarchy}
use Rattle.class_tree.specs.Names.{is_interface}
use Rattle.class_tree.specs.declared.place.Place.TheVariants.{Folder}
use Rattle.member_link.specs.Machine.Beginnings.{come_first, has_defaults, interfaces_up, is_default}
use Rattle.member_link.specs.Machine.Programs.{Program, RunClass, RunMethod, header_named, headers_in}
use Rattle.same_runs.specs.SamePrograms.{SameClass, SameClasses, SameMethods, SamePrograms}
use Rattle.same_runs.specs.Laws.Programs.{SameAt, SameNamed, at_both, at_number, named_none, named_both, same_header}

-- ---- lists

-- what holds of the elements of both lists holds of those of the two together
pub all_appended : {A : Type 0} (Holds : A → Type 0) (xs ys : List A) → AllByRecursion Holds xs → AllByRecursion Holds ys
    → AllByRecursion Holds (xs ++ ys)
all_appended Holds [] ys all also = also
all_appended Holds (x ∷ xs) ys all also = (all.0, all_appended Holds xs ys all.1 also)

filter_alike : {A : Type 0} (test also : A → Bool) (xs : List A) → AllByRecursion (λ x. also x ≡ test x) xs
    → filter also xs ≡ filter test xs
filter_alike test also [] all = refl
filter_alike test also (x ∷ xs) all = rw (all.0, filter_alike test also xs all.1) refl

headers_length : (P : Program) (library : List Header) (ones others : List RunClass) → SameClasses P ones others
    → length (map (λ (class : RunClass). class.header) others ++ library)
    ≡ length (map (λ (class : RunClass). class.header) ones ++ library)
headers_length P library [] [] same = refl
headers_length P library [] (other ∷ others) same = absurd same
headers_length P library (one ∷ ones) [] same = absurd same
headers_length P library (one ∷ ones) (other ∷ others) same = ap suc (headers_length P library ones others same.1)

-- ---- methods of interfaces

members_alike : (ones others : List RunMethod) → SameMethods ones others
    → map (λ (method : RunMethod). method.member) others ≡ map (λ (method : RunMethod). method.member) ones
members_alike [] [] same = refl
members_alike [] (other ∷ others) same = absurd same
members_alike (one ∷ ones) [] same = absurd same
members_alike (one ∷ ones) (other ∷ others) same = rw (same.0, members_alike ones others same.2) refl

methods_alike : {P : Program} {one other : RunClass} → SameClass P one other → IsTrue (is_interface one.header)
    → other.header.methods ≡ one.header.methods
methods_alike {P = P} {one = one} {other = other} same is =
    same.header_methods
    ∙ map-append (λ (method : RunMethod). method.member) same.same same.added
    ∙ ap (λ (added : List RunMethod). map (λ (method : RunMethod). method.member) same.same ++ map (λ
    (method : RunMethod). method.member) added) (same.of_interface is)
    ∙ ap (λ (members : List Member). members ++ []) (members_alike one.methods same.same same.are_same ∙ same.members)
    ∙ empty one.header.methods where
      empty : (members : List Member) → members ++ [] ≡ members
      empty [] = refl
      empty (member ∷ members) = ap (λ (others : List Member). member ∷ others) (empty members)

defaults_named : (P : Program) (name : Name) (library : List Header) (ones others : List RunClass) → SameClasses P ones others
    → IfSome (named name (map (λ (class : RunClass). class.header) ones ++ library)) (λ (above : Header). IsTrue (is_interface above))
    → has_defaults (named name (map (λ (class : RunClass). class.header) others ++ library))
    ≡ has_defaults (named name (map (λ (class : RunClass). class.header) ones ++ library))
defaults_named P name library [] [] same is = refl
defaults_named P name library [] (other ∷ others) same is = absurd same
defaults_named P name library (one ∷ ones) [] same is = absurd same
defaults_named P name library (one ∷ ones) (other ∷ others) same is =
    ap (λ (n : Name). has_defaults (if bytes_eq name n then Some other.header else named name (map (λ
    (class : RunClass). class.header) others ++ library))) same.0.name
    ∙ by (bytes_eq name one.header.name) is (defaults_named P name library ones others same.1) where
      by : (b : Bool)
          → IfSome (if b then Some one.header else named name (map (λ (class : RunClass). class.header) ones ++ library)) (λ
          (above : Header). IsTrue (is_interface above))
          → (IfSome (named name (map (λ (class : RunClass). class.header) ones ++ library)) (λ (above : Header). IsTrue
          (is_interface above))
          → has_defaults (named name (map (λ (class : RunClass). class.header) others ++ library))
          ≡ has_defaults (named name (map (λ (class : RunClass). class.header) ones ++ library)))
          → has_defaults (if b then Some other.header else named name (map (λ (class : RunClass). class.header) others ++ library))
          ≡ has_defaults (if b then Some one.header else named name (map (λ (class : RunClass). class.header) ones ++ library))
      by true is rest = ap (list_any is_default) (methods_alike same.0 is)
      by false is rest = rest is

-- ---- superinterfaces

abbrev IsInterface : Program → Name → Type 0
IsInterface P name = IfSome (header_named P name) (λ (above : Header). IsTrue (is_interface above))

-- what a class names as its superinterfaces are interfaces
named_interfaces : (P : Program) → IsHierarchy (headers_in P) → (name : Name) (header : Header) → header_named P name ≡ Some header
    → AllByRecursion (IsInterface P) header.interfaces
named_interfaces P tree name header is = (tree.kinds name header is).interfaces

interfaces_above : (P : Program) → IsHierarchy (headers_in P) → (left : ℕ) (names : List Name) → AllByRecursion (IsInterface P) names
    → AllByRecursion (IsInterface P) (interfaces_up P left names)
interfaces_above P tree zero names all = tt
interfaces_above P tree (suc left) [] all = tt
interfaces_above P tree (suc left) (name ∷ names) all = by (header_named P name) refl (interfaces_above P tree left)
    (interfaces_above P tree (suc left) names all.1) where
      by : (found : Option Header) → header_named P name ≡ found
          → ((others : List Name) → AllByRecursion (IsInterface P) others → AllByRecursion (IsInterface P) (interfaces_up P left others))
          → AllByRecursion (IsInterface P) (interfaces_up P (suc left) names)
          → AllByRecursion (IsInterface P) (interfaces_up P (suc left) (name ∷ names))
      by None is above rest = rw (is) rest
      by (Some header) is above rest =
          rw (is) (all_appended (IsInterface P) (interfaces_up P left header.interfaces ++ name ∷ []) (interfaces_up P (suc left) names)
          (all_appended (IsInterface P) (interfaces_up P left header.interfaces) (name ∷ []) (above header.interfaces
          (named_interfaces P tree name header is)) (all.0, tt)) rest)

module _ {P Q : Program} (same : SamePrograms P Q) where
  up_alike : (left : ℕ) (names : List Name) → interfaces_up Q left names ≡ interfaces_up P left names
  up_alike zero names = refl
  up_alike (suc left) [] = refl
  up_alike (suc left) (name ∷ names) = by (header_named P name) (header_named Q name) refl refl (same_header same name) (up_alike left)
      (up_alike (suc left) names) where
        by : (one other : Option Header) → header_named P name ≡ one → header_named Q name ≡ other → SameNamed one other
            → ((others : List Name) → interfaces_up Q left others ≡ interfaces_up P left others)
            → interfaces_up Q (suc left) names ≡ interfaces_up P (suc left) names
            → interfaces_up Q (suc left) (name ∷ names) ≡ interfaces_up P (suc left) (name ∷ names)
        by None None is is_also named_none above rest = rw (is, is_also) rest
        by None (Some other) is is_also impossible above rest = elim impossible [ ]
        by (Some one) None is is_also impossible above rest = elim impossible [ ]
        by (Some one) (Some other) is is_also (named_both alike) above rest =
            let here : interfaces_up Q left other.interfaces
            ≡ interfaces_up P left one.interfaces = ap (interfaces_up Q left) alike.interfaces ∙ above one.interfaces in
            rw (is, is_also) (ap (λ (up : List Name). (up ++ name ∷ []) ++ interfaces_up Q (suc left) names) here
            ∙ ap (λ (others : List Name). (interfaces_up P left one.interfaces ++ name ∷ []) ++ others) rest)

  -- an interface has default methods in both or in none
  defaults_alike : (name : Name) → IsInterface P name → has_defaults (header_named Q name) ≡ has_defaults (header_named P name)
  defaults_alike name is =
      ap (λ (library : List Header). has_defaults (named name (map (λ (class : RunClass). class.header) Q.classes ++ library))) same.library
      ∙ defaults_named P name P.library P.classes Q.classes same.classes is

  all_alike : (names : List Name) → AllByRecursion (IsInterface P) names
      → AllByRecursion (λ (name : Name). has_defaults (header_named Q name) ≡ has_defaults (header_named P name)) names
  all_alike [] all = tt
  all_alike (name ∷ names) all = (defaults_alike name all.0, all_alike names all.1)

  as_many : length (all_headers (headers_in Q)) ≡ length (all_headers (headers_in P))
  as_many =
      ap (λ (library : List Header). length (map (λ (class : RunClass). class.header) Q.classes ++ library)) same.library
      ∙ headers_length P P.library P.classes Q.classes same.classes

  filtered_alike : IsHierarchy (headers_in P) → (names : List Name) → AllByRecursion (IsInterface P) names
      → filter (λ (name : Name). has_defaults (header_named Q name)) (interfaces_up Q (length (all_headers (headers_in Q))) names)
      ≡ filter (λ (name : Name). has_defaults (header_named P name)) (interfaces_up P (length (all_headers (headers_in P))) names)
  filtered_alike tree names all =
      ap (λ (count : ℕ). filter (λ (name : Name). has_defaults (header_named Q name)) (interfaces_up Q count names)) as_many
      ∙ ap (filter (λ (name : Name). has_defaults (header_named Q name))) (up_alike (length (all_headers (headers_in P))) names)
      ∙ filter_alike (λ (name : Name). has_defaults (header_named P name)) (λ (name : Name). has_defaults (header_named Q name))
      (interfaces_up P (length (all_headers (headers_in P))) names)
      (all_alike (interfaces_up P (length (all_headers (headers_in P))) names) (interfaces_above P tree (length (all_headers
      (headers_in P))) names all))

  -- ---- before a class

  headers_alike : IsHierarchy (headers_in P) → (one also : Header) → also.flags ≡ one.flags → also.super_name ≡ one.super_name
      → also.interfaces ≡ one.interfaces
      → AllByRecursion (IsInterface P) one.interfaces → come_first Q also ≡ come_first P one
  headers_alike tree one also flags superclass interfaces all = by (is_interface one) refl one.super_name refl where
    is_also : is_interface also ≡ is_interface one
    is_also = rw (flags) refl

    behind : filter (λ (name : Name). has_defaults (header_named Q name)) (interfaces_up Q (length (all_headers
        (headers_in Q))) also.interfaces)
        ≡ filter (λ (name : Name). has_defaults (header_named P name)) (interfaces_up P (length (all_headers
        (headers_in P))) one.interfaces)
    behind =
        ap (λ (names : List Name). filter (λ (name : Name). has_defaults (header_named Q name)) (interfaces_up Q (length (all_headers
        (headers_in Q))) names)) interfaces
        ∙ filtered_alike tree one.interfaces all

    by : (b : Bool) → is_interface one ≡ b → (o : Option Name) → one.super_name ≡ o → come_first Q also ≡ come_first P one
    by true is o is_super = rw (is_also ∙ is, is) refl
    by false is None is_super = rw (is_also ∙ is, is, superclass ∙ is_super, is_super) behind
    by false is (Some name) is_super = rw (
      is_also ∙ is,
      is,
      superclass
          ∙ is_super,
      is_super,
    ) (ap (λ (others : List Name). name ∷ others) behind)

  -- The same classes come before a class in both programs.
  pub same_come_first : IsHierarchy (headers_in P) → (class : ℕ) (one also : RunClass) → slice_get P.classes class ≡ Some one
      → slice_get Q.classes class ≡ Some also
      → come_first Q also.header ≡ come_first P one.header
  same_come_first tree class one also is is_also = by (subst (SameAt P (Some one)) is_also (subst (λ (o : Option RunClass). SameAt P o
      (slice_get Q.classes class)) is (at_number same class))) where
        placed : (classes : List RunClass) (number : ℕ) → slice_get classes number ≡ Some one
            → slice_get (map (λ (x : RunClass). x.header) classes) number ≡ Some one.header
        placed [] number here = absurd (none-some one here)
        placed (x ∷ xs) zero here = ap (λ (o : Option RunClass). header_in o) here where
          header_in : Option RunClass → Option Header
          header_in None = None
          header_in (Some found) = Some found.header
        placed (x ∷ xs) (suc number) here = placed xs number here

        stands : header_named P one.header.name ≡ Some one.header
        stands = (tree.of_place (Folder class) one.header (placed P.classes class is)).found

        by : SameAt P (Some one) (Some also) → come_first Q also.header ≡ come_first P one.header
        by (at_both alike) = headers_alike tree one.header also.header alike.flags alike.superclass alike.interfaces
            (named_interfaces P tree one.header.name one.header stands)
