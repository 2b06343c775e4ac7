-- What is above a class that comes before another is above that one as well, where classes are a hierarchy.
use Rattle.std.proofs.Common.{◌≡◌, ◌++◌, ℕ, zero, suc, Bool, true, false, List, [], ◌∷◌, map, length, bytes_eq, slice_get, Option, Some, None, IsTrue, refl, ap, subst}
use Rattle.std.specs.List.{AllByRecursion, filter, list_any}
use Rattle.std.proofs.lemmas.Bool.{or_left, or_right}
use Rattle.std.proofs.lemmas.Option.{none-some, same_Some}
use Rattle.std.proofs.lemmas.Slice.Eq.{bytes_eq-Decides}
use Rattle.class_model.specs.declared.header.Header.{Header}
use Rattle.class_tree.specs.Headers.{Headers, Name, all_headers}
use Rattle.class_tree.specs.Hierarchy.{IsHierarchy}
use Rattle.class_tree.specs.Names.{is_interface}
use Rattle.class_tree.specs.Subtype.{IsBelow, IsDirectlyBelow, IsSubtype, below, directly, interface, onwards, superclass}
use Rattle.class_tree.specs.declared.place.Place.TheVariants.{Folder}
use Rattle.member_link.specs.Machine.Beginnings.{come_first, has_defaults, interfaces_up}
use Rattle.member_link.specs.Machine.Links.{AreLinksOf}
use Rattle.member_link.specs.Machine.Programs.{Program, RunClass, header_named, headers_in}
use Rattle.same_runs.specs.Laws.ComeFirst.{all_appended}

-- ---- lists

-- what holds of each holds of the one at a place
pub all_there : {A : Type 0} (Holds : A → Type 0) (xs : List A) (number : ℕ) (x : A) → AllByRecursion Holds xs
    → slice_get xs number ≡ Some x → Holds x
all_there Holds [] number x all is = absurd (none-some x is)
all_there Holds (first ∷ xs) zero x all is = subst Holds (same_Some first x is) all.0
all_there Holds (first ∷ xs) (suc number) x all is = all_there Holds xs number x all.1 is

all_filtered : {A : Type 0} (Holds : A → Type 0) (test : A → Bool) (xs : List A) → AllByRecursion Holds xs
    → AllByRecursion Holds (filter test xs)
all_filtered Holds test [] all = tt
all_filtered Holds test (x ∷ xs) all = by (test x) refl (all_filtered Holds test xs all.1) where
  by : (b : Bool) → test x ≡ b → AllByRecursion Holds (filter test xs) → AllByRecursion Holds (filter test (x ∷ xs))
  by true e rest = rw (e) (all.0, rest)
  by false e rest = rw (e) rest

-- ---- superinterfaces are above

one_step_more : {headers : Headers} {low middle high : Name} → IsBelow headers low middle → IsDirectlyBelow headers middle high
    → IsBelow headers low high
one_step_more (directly low middle step) last = onwards low middle _ step (directly middle _ last)
one_step_more (onwards low other middle step more) last = onwards low other _ step (one_step_more more last)

-- each interface that a header names is directly above its class
each_directly : (headers : Headers) (names : List Name) (Above : Name → Type 0)
    → ((name : Name) → IsTrue (list_any (bytes_eq name) names) → Above name)
    → AllByRecursion Above names
each_directly headers [] Above step = tt
each_directly headers (name ∷ names) Above step = (
  step name (or_left (bytes_eq name name) (list_any (bytes_eq name) names) ((bytes_eq-Decides name name).1 refl)),
  each_directly headers names Above
      (λ other there. step other (or_right (bytes_eq other name) (list_any (bytes_eq other) names) there)),
)

module _ (P : Program) where
  abbrev IsAbove : Name → Name → Type 0
  IsAbove low high = IsBelow (headers_in P) low high

  interfaces_above : (low : Name) (left : ℕ) (names : List Name) → AllByRecursion (IsAbove low) names
      → AllByRecursion (IsAbove low) (interfaces_up P left names)
  interfaces_above low zero names all = tt
  interfaces_above low (suc left) [] all = tt
  interfaces_above low (suc left) (name ∷ names) all = by (header_named P name) refl (interfaces_above low left)
      (interfaces_above low (suc left) names all.1) where
        by : (found : Option Header) → header_named P name ≡ found
            → ((others : List Name) → AllByRecursion (IsAbove low) others → AllByRecursion (IsAbove low) (interfaces_up P left others))
            → AllByRecursion (IsAbove low) (interfaces_up P (suc left) names)
            → AllByRecursion (IsAbove low) (interfaces_up P (suc left) (name ∷ names))
        by None is up rest = rw (is) rest
        by (Some header) is up rest =
            rw (is) (all_appended (IsAbove low) (interfaces_up P left header.interfaces ++ name ∷ []) (interfaces_up P (suc left) names)
            (all_appended (IsAbove low) (interfaces_up P left header.interfaces) (name ∷ []) (up header.interfaces
            (each_directly (headers_in P) header.interfaces (IsAbove low)
            (λ other there. one_step_more all.0 (interface name other header is there)))) (all.0, tt)) rest)

  -- each class that comes first is above
  first_above : (low : Name) (header : Header) → header_named P low ≡ Some header
      → AllByRecursion (IsAbove low) (come_first P header)
  first_above low header is = by (is_interface header) refl header.super_name refl where
    behind : AllByRecursion (IsAbove low) (filter (λ (name : Name). has_defaults (header_named P name))
        (interfaces_up P (length (all_headers (headers_in P))) header.interfaces))
    behind = all_filtered (IsAbove low) (λ (name : Name). has_defaults (header_named P name))
        (interfaces_up P (length (all_headers (headers_in P))) header.interfaces)
        (interfaces_above low (length (all_headers (headers_in P))) header.interfaces
        (each_directly (headers_in P) header.interfaces (IsAbove low)
        (λ other there. directly low other (interface low other header is there))))

    by : (b : Bool) → is_interface header ≡ b → (o : Option Name) → header.super_name ≡ o
        → AllByRecursion (IsAbove low) (come_first P header)
    by true e o e_super = rw (e) tt
    by false e None e_super = rw (e, e_super) behind
    by false e (Some name) e_super = rw (e, e_super) (directly low name (superclass low name header is e_super), behind)

  below_then : {low middle high : Name} → IsBelow (headers_in P) low middle → IsSubtype (headers_in P) middle high
      → IsSubtype (headers_in P) low high
  below_then (directly low middle step) rest = below low middle _ step rest
  below_then (onwards low other middle step more) rest = below low other _ step (below_then more rest)

  -- What is above a class that comes before another is above that one.
  pub above_first : IsHierarchy (headers_in P) → AreLinksOf (headers_in P) P.links
      → (class number : ℕ) (one : RunClass) (name high : Name)
      → slice_get P.classes class ≡ Some one
      → slice_get (come_first P one.header) number ≡ Some name
      → IsTrue (P.links.below name high)
      → IsTrue (P.links.below one.header.name high)
  above_first tree links class number one name high is is_name above =
      (links.below one.header.name high).1
      (below_then
      (all_there (IsAbove one.header.name) (come_first P one.header) number name (first_above one.header.name one.header stands) is_name)
      ((links.below name high).0 above)) where
        placed : (classes : List RunClass) (at : ℕ) → slice_get classes at ≡ Some one
            → slice_get (map (λ (x : RunClass). x.header) classes) at ≡ Some one.header
        placed [] at here = absurd (none-some one here)
        placed (x ∷ xs) zero here = ap (λ (x : RunClass). Some x.header) (same_Some x one here)
        placed (x ∷ xs) (suc at) here = placed xs at here

        stands : header_named P one.header.name ≡ Some one.header
        stands = (tree.of_place (Folder class) one.header (placed P.classes class is)).found
