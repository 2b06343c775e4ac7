-- The numbers of the classes that a class names above it.
use Rattle.std.proofs.Common.{◌≡◌, ◌↔◌, ◌+◌, ◌≤◌, ◌==◌, ℕ, suc, Bool, true, leb, List, [], ◌∷◌, length, get_or, map, filter_map, slice_get, Option, Some, None, option_and_then, refl, sym, ap, ◌∙◌, arith}
use Rattle.std.specs.List.{AllByRecursion, list_all, cons_option}
use Rattle.std.specs.Option.{is_some, option_map_or, IfSome}
use Rattle.std.proofs.lemmas.Bool.{and_parts, and_from, eqb-true, eq-eqb, true≢false, leb-true, le-leb}
use Rattle.std.proofs.lemmas.List.{length-map}
use Rattle.std.proofs.lemmas.Option.{none-some, slice_get_within}
use Rattle.class_model.specs.declared.header.Header.{Header}
use Rattle.class_tree.specs.Headers.{Name, Headers, all_headers, named, class_named, IsThere}
use Rattle.class_tree.specs.Laws.FirstPlaces.{first_passes}
use Rattle.class_tree.specs.Names.{is_interface}
use Rattle.class_tree.specs.Inner.Nodes.{number_of}
use Rattle.class_tree.specs.Order.{first_place}
use Rattle.class_tree.specs.Steps.{supers, IsOutside}
use Rattle.class_tree.proofs.FirstPlaces.{in_either, first_place-append}
use Rattle.class_tree.proofs.Places.{has_name, named_at, class_of_number, class_of_no_number}

-- ---- names with and without numbers

fewer : (f : Name → Option ℕ) (names : List Name) → length (filter_map f names) ≤ length names
fewer f [] = omega arith
fewer f (name ∷ names) = by (f name) (fewer f names)
  where
    by : (found : Option ℕ) → length (filter_map f names) ≤ length names → length (cons_option found (filter_map f names)) ≤ suc (length names)
    by None few = omega arith
    by (Some number) few = omega arith

-- as many numbers as names: each name has one
all_numbered : (f : Name → Option ℕ) (names : List Name) → length (filter_map f names) ≡ length names → map f names ≡ map Some (filter_map f names)
all_numbered f [] same = refl
all_numbered f (name ∷ names) same = by (f name) (all_numbered f names) same
  where
    by : (found : Option ℕ) → (length (filter_map f names) ≡ length names → map f names ≡ map Some (filter_map f names)) → length (cons_option found (filter_map f names)) ≡ suc (length names) → found ∷ map f names ≡ map Some (cons_option found (filter_map f names))
    by None rest same = absurd (omega (arith, fewer f names))
    by (Some number) rest same = ap (λ (numbers : List (Option ℕ)). Some number ∷ numbers) (rest (omega arith))

as_many : (f : Name → Option ℕ) (names : List Name) (numbers : List ℕ) → map f names ≡ map Some numbers → length numbers ≡ length names
as_many f names numbers is = sym (length-map numbers Some) ∙ sym (ap length is) ∙ length-map names f

-- a fact of each name is a test of each number
each_number : (P : Name → Type 0) (test : ℕ → Bool) (f : Name → Option ℕ) → ((name : Name) (number : ℕ) → f name ≡ Some number → (test number ≡ true) ↔ P name) → (names : List Name) (numbers : List ℕ) → map f names ≡ map Some numbers → (list_all test numbers ≡ true) ↔ AllByRecursion P names
each_number P test f same [] [] is = (λ _. tt, λ _. refl)
each_number P test f same [] (number ∷ numbers) is = absurd cc
each_number P test f same (name ∷ names) [] is = absurd cc
each_number P test f same (name ∷ names) (number ∷ numbers) is =
    let here = same name number cc in
    let rest = each_number P test f same names numbers cc in (
      λ all. let parts = and_parts (test number) (list_all test numbers) all in (here.0 parts.0, rest.0 parts.1),
      λ all. and_from (test number) (list_all test numbers) (here.1 all.0) (rest.1 all.1),
    )

-- ---- names of classes that are there

pub class_at : (headers : Headers) (name : Name) (number : ℕ) → number_of headers name ≡ Some number → slice_get (all_headers headers) number ≡ class_named headers name
class_at headers name number is =
    let class = class_of_number headers name number is in
    class.1.there ∙ sym class.1.named

numbered_is_there : (headers : Headers) (name : Name) (number : ℕ) → number_of headers name ≡ Some number → IsThere headers name
numbered_is_there headers name number is = ap is_some (class_of_number headers name number is).1.named

all_there : (headers : Headers) (names : List Name) (numbers : List ℕ) → map (number_of headers) names ≡ map Some numbers → AllByRecursion (IsThere headers) names
all_there headers [] numbers is = tt
all_there headers (name ∷ names) [] is = absurd cc
all_there headers (name ∷ names) (number ∷ numbers) is = (numbered_is_there headers name number cc, all_there headers names numbers cc)

pub have_numbers : (headers : Headers) (names : List Name) → AllByRecursion (IsThere headers) names → map (number_of headers) names ≡ map Some (filter_map (number_of headers) names)
have_numbers headers [] there = refl
have_numbers headers (name ∷ names) there = by (number_of headers name) refl (have_numbers headers names there.1)
  where
    by : (found : Option ℕ) → number_of headers name ≡ found → map (number_of headers) names ≡ map Some (filter_map (number_of headers) names) → found ∷ map (number_of headers) names ≡ map Some (cons_option found (filter_map (number_of headers) names))
    by None is rest = let missing = ap is_some (class_of_no_number headers name is) in absurd (true≢false (sym there.0 ∙ missing))
    by (Some number) is rest = ap (λ (numbers : List (Option ℕ)). Some number ∷ numbers) rest

-- the numbers of all that are there
pub numbers_of_all : (headers : Headers) (names : List Name) (numbers : List ℕ) → numbers ≡ filter_map (number_of headers) names → AllByRecursion (IsThere headers) names → map (number_of headers) names ≡ map Some numbers
numbers_of_all headers names numbers is there = have_numbers headers names there ∙ ap (map Some) (sym is)

-- all names are there where there are as many numbers
pub there_decides : (headers : Headers) (names : List Name) (numbers : List ℕ) (test : Bool) → numbers ≡ filter_map (number_of headers) names → test ≡ (length numbers == length names) → (test ≡ true) ↔ AllByRecursion (IsThere headers) names
there_decides headers names numbers test is tests = (
  λ same. all_there headers names numbers (all_numbered (number_of headers) names (ap length (sym is) ∙ eqb-true _ _ (sym tests ∙ same)) ∙ ap (map Some) (sym is)),
  λ there. tests ∙ eq-eqb _ _ (as_many (number_of headers) names numbers (numbers_of_all headers names numbers is there)),
)

-- ---- names of classes outside of the folder

outside_decides : (headers : Headers) (name : Name) (number : ℕ) → number_of headers name ≡ Some number → (leb (length headers.folder) number ≡ true) ↔ IsOutside headers name
outside_decides headers name number is =
    by (first_place (has_name name) headers.folder) refl (first_place (has_name name) headers.library) (sym (first_place-append (has_name name) headers.folder headers.library) ∙ is)
  where
    by : (front : Option ℕ) → first_place (has_name name) headers.folder ≡ front → (back : Option ℕ) → in_either (length headers.folder) front back ≡ Some number → (leb (length headers.folder) number ≡ true) ↔ IsOutside headers name
    by (Some place) found back e =
        let h = first_passes (has_name name) headers.folder place found in
        let within = slice_get_within headers.folder place h.item h.there in
        let same : place ≡ number = cc in
        let there : named name headers.folder ≡ Some h.item = named_at name headers.folder ∙ rw found h.there in (
          λ behind. absurd (omega (arith, leb-true _ _ behind)),
          λ outside. absurd (none-some h.item (sym outside ∙ there)),
        )
    by None found None e = absurd cc
    by None found (Some place) e =
        let same : length headers.folder + place ≡ number = cc in (
          λ behind. named_at name headers.folder ∙ rw found refl,
          λ outside. le-leb _ _ (omega arith),
        )

-- no class of these names is in the folder
pub are_outside : (headers : Headers) (names : List Name) (numbers : List ℕ) → map (number_of headers) names ≡ map Some numbers → (list_all (λ number. leb (length headers.folder) number) numbers ≡ true) ↔ AllByRecursion (IsOutside headers) names
are_outside headers names numbers is = each_number (IsOutside headers) (λ number. leb (length headers.folder) number) (number_of headers) (outside_decides headers) names numbers is

-- ---- the superclass and the interfaces

-- the superclass is the class of the first number
pub superclass_at : (headers : Headers) (header : Header) (name : Name) (above : List ℕ) → map (number_of headers) (supers header) ≡ map Some above → header.super_name ≡ Some name → slice_get (all_headers headers) (get_or above 0 0) ≡ option_and_then (class_named headers) header.super_name
superclass_at headers header name above are is = by header.super_name above are is
  where
    by : (super : Option Name) (above : List ℕ) → map (number_of headers) (supers (record header { super_name = super })) ≡ map Some above → super ≡ Some name → slice_get (all_headers headers) (get_or above 0 0) ≡ option_and_then (class_named headers) super
    by None above are is = absurd cc
    by (Some first) [] are is = absurd cc
    by (Some first) (number ∷ numbers) are is = class_at headers first number cc

interface_decides : (headers : Headers) (name : Name) (number : ℕ) → number_of headers name ≡ Some number → (option_map_or is_interface (slice_get (all_headers headers) number) true ≡ true) ↔ IfSome (class_named headers name) (λ above. is_interface above ≡ true)
interface_decides headers name number is = rw (class_at headers name number is) (by (class_named headers name))
  where
    by : (found : Option Header) → (option_map_or is_interface found true ≡ true) ↔ IfSome found (λ above. is_interface above ≡ true)
    by None = (λ _. tt, λ _. refl)
    by (Some above) = (λ e. e, λ e. e)

-- each class of these names is an interface
pub are_interfaces : (headers : Headers) (names : List Name) (numbers : List ℕ) → map (number_of headers) names ≡ map Some numbers → (list_all (λ number. option_map_or is_interface (slice_get (all_headers headers) number) true) numbers ≡ true) ↔ AllByRecursion (λ name. IfSome (class_named headers name) (λ above. is_interface above ≡ true)) names
are_interfaces headers names numbers is =
    each_number (λ name. IfSome (class_named headers name) (λ above. is_interface above ≡ true)) (λ number. option_map_or is_interface (slice_get (all_headers headers) number) true) (number_of headers) (interface_decides headers) names numbers is
