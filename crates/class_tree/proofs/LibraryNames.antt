-- The classes that a library has by name.
use Rattle.std.proofs.Common.{◌≡◌, ◌↔◌, ◌+◌, ◌<◌, ℕ, Bool, true, false, leb, cond, List, [], ◌∷◌, ◌++◌, length, bytes_eq, slice_get, Option, Some, None, option_and_then, Result, Ok, Err, refl, sym, ap, subst, ◌∙◌, arith}
use Rattle.std.specs.Option.{is_some}
use Rattle.std.specs.Result.{IfOk}
use Rattle.std.proofs.lemmas.Bool.{false≢true, leb-true, le-leb}
use Rattle.std.proofs.lemmas.Option.{none-some, slice_get_within}
use Rattle.class_model.specs.declared.header.Header.{Header}
use Rattle.class_model.specs.declared.memory.NoMemory.{NoMemory}
use Rattle.class_tree.specs.Inner.Graphs.{Graph, IsPath}
use Rattle.class_tree.specs.Headers.{Name, Headers, all_headers, named, IsThere}
use Rattle.class_tree.specs.Laws.FirstPlaces.{first_passes}
use Rattle.class_tree.specs.Inner.Nodes.{number_of, graph_of}
use Rattle.class_tree.specs.Order.{first_place}
use Rattle.class_tree.specs.Subtype.{IsBelow}
use Rattle.class_tree.specs.Trees.{IsInOrder}
use Rattle.class_tree.proofs.FirstPlaces.{in_either, counted, first_place-append}
use Rattle.class_tree.proofs.GraphPaths.{below_from_path, path_from_below, low_is_there}
use Rattle.class_tree.proofs.HierarchyChecks.{as_many_nodes}
use Rattle.class_tree.proofs.Places.{has_name, named_at, times_in_parts, class_of_number}

-- ---- a name in the library

named_is_placed : (name : Name) (headers : List Header) → (is_some (first_place (has_name name) headers) ≡ true) ↔ (is_some (named name headers) ≡ true)
named_is_placed name headers = rw (named_at name headers) (by (first_place (has_name name) headers) refl)
  where
    by : (found : Option ℕ) → first_place (has_name name) headers ≡ found → (is_some found ≡ true) ↔ (is_some (option_and_then (slice_get headers) found) ≡ true)
    by None is = (λ e. e, λ e. e)
    by (Some place) is = let p = first_passes (has_name name) headers place is in (λ e. ap is_some p.there, λ e. refl)

-- a name that the folder has is none of the library
once : (headers : Headers) → IsInOrder headers → (name : Name) (place : ℕ) → first_place (has_name name) headers.folder ≡ Some place → ¬ (is_some (first_place (has_name name) headers.library) ≡ true)
once headers order name place is there = by (first_place (has_name name) headers.library) refl there
  where
    by : (found : Option ℕ) → first_place (has_name name) headers.library ≡ found → is_some found ≡ true → ⊥
    by None e there = false≢true there
    by (Some other) e there =
        omega (
          arith,
          order.once name,
          times_in_parts name headers,
          counted (has_name name) headers.folder place (first_passes (has_name name) headers.folder place is),
          counted (has_name name) headers.library other (first_passes (has_name name) headers.library other e),
        )

in_parts : (headers : Headers) (name : Name) (found : Option ℕ) → number_of headers name ≡ found → in_either (length headers.folder) (first_place (has_name name) headers.folder) (first_place (has_name name) headers.library) ≡ found
in_parts headers name found is = sym (first_place-append (has_name name) headers.folder headers.library) ∙ is

pub library_decides : (headers : Headers) → IsInOrder headers → (name : Name) (number : ℕ) → number_of headers name ≡ Some number → (leb (length headers.folder) number ≡ true) ↔ (is_some (named name headers.library) ≡ true)
library_decides headers order name number is =
    by (first_place (has_name name) headers.folder) refl (first_place (has_name name) headers.library) refl (in_parts headers name (Some number) is)
  where
    by : (front : Option ℕ) → first_place (has_name name) headers.folder ≡ front → (back : Option ℕ) → first_place (has_name name) headers.library ≡ back → in_either (length headers.folder) front back ≡ Some number → (leb (length headers.folder) number ≡ true) ↔ (is_some (named name headers.library) ≡ true)
    by (Some place) found back e is =
        let p = first_passes (has_name name) headers.folder place found in
        let within = slice_get_within headers.folder place p.item p.there in
        let same : place ≡ number = cc in (
          λ behind. absurd (omega (arith, leb-true _ _ behind)),
          λ there. absurd (once headers order name place found ((named_is_placed name headers.library).1 there)),
        )
    by None found None e is = absurd cc
    by None found (Some place) e is =
        let same : length headers.folder + place ≡ number = cc in
        (λ behind. (named_is_placed name headers.library).0 (ap is_some e), λ there. le-leb _ _ (omega arith))

pub none_in_library : (headers : Headers) (name : Name) → number_of headers name ≡ None → (false ≡ true) ↔ (is_some (named name headers.library) ≡ true)
none_in_library headers name is =
    by (first_place (has_name name) headers.folder) (first_place (has_name name) headers.library) refl (in_parts headers name None is)
  where
    by : (front back : Option ℕ) → first_place (has_name name) headers.library ≡ back → in_either (length headers.folder) front back ≡ None → (false ≡ true) ↔ (is_some (named name headers.library) ≡ true)
    by (Some place) back e is = absurd cc
    by None (Some place) e is = absurd cc
    by None None e is = (λ no. absurd (false≢true no), λ there. absurd (false≢true (sym (ap is_some e) ∙ (named_is_placed name headers.library).1 there)))

-- what the library has is there
pub in_library_is_there : (headers : Headers) (name : Name) → is_some (named name headers.library) ≡ true → IsThere headers name
in_library_is_there headers name there = behind headers.folder
  where
    behind : (folder : List Header) → is_some (named name (folder ++ headers.library)) ≡ true
    behind [] = there
    behind (header ∷ folder) = by (bytes_eq name header.name) (behind folder)
      where
        by : (test : Bool) → is_some (named name (folder ++ headers.library)) ≡ true → is_some (cond test (Some header) (named name (folder ++ headers.library))) ≡ true
        by true rest = refl
        by false rest = rest

-- ---- a name below another

pub below_decides : (headers : Headers) (graph : Graph) (name high : Name) (number above : ℕ) → graph ≡ graph_of headers → number_of headers name ≡ Some number → number_of headers high ≡ Some above → (result : Result Bool NoMemory) → IfOk result (λ yes. (yes ≡ true) ↔ IsPath graph number above) → IfOk result (λ yes. (yes ≡ true) ↔ IsBelow headers name high)
below_decides headers graph name high number above is low top (Err e) told = tt
below_decides headers graph name high number above is low top (Ok answer) told = (
  λ e. below_from_path headers (subst (λ (g : Graph). IsPath g number above) is (told.0 e)) name high low top,
  λ below. told.1 (subst (λ (g : Graph). IsPath g number above) (sym is) (path_from_below headers below number above low top)),
)

pub nothing_below : (headers : Headers) (name high : Name) → number_of headers name ≡ None → (false ≡ true) ↔ IsBelow headers name high
nothing_below headers name high missing = (λ no. absurd (false≢true no), λ below. let low = low_is_there headers below in absurd (none-some low.0 (sym missing ∙ low.1)))

pub node_of_number : (headers : Headers) (graph : Graph) (name : Name) (number : ℕ) → graph ≡ graph_of headers → number_of headers name ≡ Some number → number < length graph
node_of_number headers graph name number is at =
    let class = class_of_number headers name number at in
    let many : length graph ≡ length (all_headers headers) = ap length is ∙ as_many_nodes headers in
    omega (arith, class.1.within)
