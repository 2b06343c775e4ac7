-- The superclasses of a class, upwards.
use Rattle.std.proofs.Common.{◌≡◌, ◌<◌, ◌≤◌, ◌+◌, ℕ, zero, suc, false, eqb, List, [], ◌∷◌, ◌++◌, length, Option, Some, None, IsSome, IfSome, is_some, ◌⊎◌, refl, sym, ap, subst, ◌∙◌, append_assoc, inl, inr, arith}
use Rattle.std.specs.List.{AllByRecursion, IsDistinct}
use Rattle.std.proofs.lemmas.Bool.{ne_eqb}
use Rattle.std.proofs.lemmas.List.{append-nil}
use Rattle.std.proofs.lemmas.Map.Keys.{IsDistinct-cons}
use Rattle.std.proofs.lemmas.Map.Steps.{length-le_from_distinct_below}
use Rattle.class_model.specs.Laws.Lists.{AllByRecursion-weaker}
use Rattle.class_model.specs.declared.header.Header.{Header}
use Rattle.class_tree.specs.Inner.Graphs.{IsEdge, IsPath, edge}
use Rattle.class_tree.specs.Headers.{Name, Headers, all_headers, class_named, IsThere}
use Rattle.class_tree.specs.Hierarchy.{climb, height, superclass_of}
use Rattle.class_tree.specs.Laws.Headers.{super_is_there, no_superclass, superclass_is, superclass_there}
use Rattle.class_tree.specs.Names.{object}
use Rattle.class_tree.specs.Inner.Nodes.{number_of, graph_of}
use Rattle.class_tree.specs.Order.{header_at, place_of}
use Rattle.class_tree.specs.Subtype.{IsDirectlyBelow, superclass, IsBelow, directly, onwards, IsChain, root, below}
use Rattle.class_tree.specs.declared.place.Place.{Place}
use Rattle.class_tree.proofs.Acyclic.{path_and_edge, each_of}
use Rattle.class_tree.proofs.ClassHolds.{named_holds}
use Rattle.class_tree.proofs.GraphPaths.{edge_above, below_from_path}
use Rattle.class_tree.proofs.LinkedClasses.{IsAt, class_at}
use Rattle.class_tree.proofs.Places.{HasNumber, place_number, header_of_place, number_of_itself}
use Rattle.class_tree.proofs.Superclasses.{Placed, placed, place_of_itself}
use Rattle.class_tree.proofs.TreeClasses.{HoldsSteps}

-- a class that stands at a place, by its name
pub named_at_place : (headers : Headers) → HoldsSteps headers → (place : Place) (header : Header) → header_at headers place ≡ Some header → class_named headers header.name ≡ Some header
named_at_place headers tree place header at = (number_of_itself headers tree.in_order _ header (header_of_place headers place header at)).named

pub some_superclass : (headers : Headers) → HoldsSteps headers → (place : Place) (header : Header) → header_at headers place ≡ Some header → (name : Name) → header.super_name ≡ Some name → Placed headers name
some_superclass headers tree place header at name some = placed headers name (super_is_there headers header name (named_holds headers tree.hold header.name header (named_at_place headers tree place header at)).there some)

-- ---- heights

-- paths lead from each of these numbers to the class at a place
record AreMet (headers : Headers) (met : List ℕ) (place : Place) : Type 0 where
  there : IsSome (header_at headers place)
  paths : AllByRecursion (λ one. IsPath (graph_of headers) one (place_number headers place)) met

module _ (headers : Headers) (tree : HoldsSteps headers) where
  number_is : (place : Place) (header : Header) → header_at headers place ≡ Some header → HasNumber headers header.name (place_number headers place) header
  number_is place header at = number_of_itself headers tree.in_order _ header (header_of_place headers place header at)

  no_circle : (place : Place) (header : Header) → header_at headers place ≡ Some header → ¬ IsPath (graph_of headers) (place_number headers place) (place_number headers place)
  no_circle place header at path =
      let own = number_is place header at in
      (named_holds headers tree.hold header.name header own.named).circle (below_from_path headers path header.name header.name own.is own.is)

  edge_up : (place : Place) (header : Header) → header_at headers place ≡ Some header → (name : Name) → header.super_name ≡ Some name → (class : Placed headers name) → IsEdge (graph_of headers) (place_number headers place) (place_number headers class.place)
  edge_up place header at name some class =
      let own = number_is place header at in
      let above = number_is class.place class.header class.at in
      edge_above headers header.name name _ _ (superclass header.name name header own.named some) own.is (subst (λ n. number_of headers n ≡ Some (place_number headers class.place)) class.same above.is)

  met_more : (met : List ℕ) (place : Place) (header : Header) → header_at headers place ≡ Some header → AreMet headers met place → IfSome (superclass_of headers place) (AreMet headers (place_number headers place ∷ met))
  met_more met place header at are = by header.super_name refl
    where
      by : (super : Option Name) → header.super_name ≡ super → IfSome (superclass_of headers place) (AreMet headers (place_number headers place ∷ met))
      by None none = subst (λ (next : Option Place). IfSome next (AreMet headers (place_number headers place ∷ met))) (sym (no_superclass headers place header at none)) tt
      by (Some name) some =
          let class = some_superclass headers tree place header at name some in
          let up = edge_up place header at name some class in
          subst (λ (next : Option Place). IfSome next (AreMet headers (place_number headers place ∷ met))) (sym (superclass_is headers place header at name some ∙ class.is)) (record {
            there = ap is_some class.at;
            paths = (edge _ _ up, AllByRecursion-weaker (λ one. IsPath (graph_of headers) one (place_number headers place)) (λ one. IsPath (graph_of headers) one (place_number headers class.place)) (λ one path. path_and_edge path up) met are.paths);
          })

  distinct_more : (met : List ℕ) (place : Place) (header : Header) → header_at headers place ≡ Some header → AreMet headers met place → IsDistinct eqb met → IsDistinct eqb (place_number headers place ∷ met)
  distinct_more met place header at are distinct =
      IsDistinct-cons eqb (place_number headers place) met
      (AllByRecursion-weaker (λ one. IsPath (graph_of headers) one (place_number headers place)) (λ one. eqb (place_number headers place) one ≡ false) (λ one path. ne_eqb _ one (λ same. no_circle place header at (subst (λ (n : ℕ). IsPath (graph_of headers) n (place_number headers place)) (sym same) path))) met are.paths) distinct

  -- more fuel than there are classes left changes nothing
  steady : (fuel : ℕ) (next : Option Place) (met : List ℕ) → length (all_headers headers) ≤ length met + fuel → IsDistinct eqb met → AllByRecursion (λ one. one < length (all_headers headers)) met → IfSome next (AreMet headers met) → climb headers (suc fuel) next ≡ climb headers fuel next
  unfolding climb
  steady zero None met many distinct within are = refl
  steady (suc fuel) None met many distinct within are = refl
  steady zero (Some place) met many distinct within are =
      let class = class_at headers place (place_number headers place) (place_of_itself headers place are.there) are.there in
      let more = distinct_more met place class.header class.at are distinct in
      let few = length-le_from_distinct_below (place_number headers place ∷ met) (length (all_headers headers)) more (each_of (λ one. one < length (all_headers headers)) (place_number headers place ∷ met) (class.within, within)) in
      absurd (omega (arith, few, many))
  steady (suc fuel) (Some place) met many distinct within are =
      let class = class_at headers place (place_number headers place) (place_of_itself headers place are.there) are.there in
      ap suc (steady fuel (superclass_of headers place) (place_number headers place ∷ met) (omega (arith, many)) (distinct_more met place class.header class.at are distinct) (class.within, within) (met_more met place class.header class.at are))

  -- fewer classes are from the superclass upwards
  pub height_falls : (place : Place) (header : Header) → header_at headers place ≡ Some header → height headers (superclass_of headers place) < height headers (Some place)
  unfolding climb IsDistinct
  height_falls place header at = by (length (all_headers headers)) refl
    where
      class : IsAt headers place (place_number headers place)
      class = class_at headers place (place_number headers place) (place_of_itself headers place (ap is_some at)) (ap is_some at)

      by : (fuel : ℕ) → length (all_headers headers) ≡ fuel → climb headers fuel (superclass_of headers place) < climb headers fuel (Some place)
      by zero none = absurd (omega (arith, class.within, none))
      by (suc fuel) some =
          let same = steady fuel (superclass_of headers place) (place_number headers place ∷ []) (omega (arith, some)) (IsDistinct-cons eqb (place_number headers place) [] tt tt) (class.within, tt)
          (met_more [] place header at (record { there = ap is_some at; paths = tt })) in
          omega (arith, same)

  rooted_at : (fuel : ℕ) (place : Place) (header : Header) → header_at headers place ≡ Some header → height headers (Some place) ≤ fuel → (header.name ≡ object) ⊎ IsBelow headers header.name object
  rooted_at zero place header at low = absurd (omega (arith, low, height_falls place header at))
  rooted_at (suc fuel) place header at low = by (rooted_at fuel) header.super_name refl
    where
      named : class_named headers header.name ≡ Some header
      named = named_at_place headers tree place header at

      by : ((above : Place) (class : Header) → header_at headers above ≡ Some class → height headers (Some above) ≤ fuel → (class.name ≡ object) ⊎ IsBelow headers class.name object) → (super : Option Name) → header.super_name ≡ super → (header.name ≡ object) ⊎ IsBelow headers header.name object
      by more None none = inl ((named_holds headers tree.hold header.name header named).kinds.root none)
      by more (Some name) some =
          let class = some_superclass headers tree place header at name some in
          let falls = subst (λ (next : Option Place). height headers next < height headers (Some place)) (superclass_is headers place header at name some ∙ class.is) (height_falls place header at) in
          let step = superclass header.name name header named some in
          elim (more class.place class.header class.at (omega (arith, falls, low))) [
            | inl same ↦ inr (directly header.name object (subst (IsDirectlyBelow headers header.name) (sym class.same ∙ same) step))
            | inr up ↦ inr (onwards header.name name object step (subst (λ n. IsBelow headers n object) class.same up))
          ]

  -- upwards of each class is java/lang/Object
  pub rooted : (name : Name) → IsThere headers name → (name ≡ object) ⊎ IsBelow headers name object
  rooted name there =
      let class = placed headers name there in
      subst (λ n. (n ≡ object) ⊎ IsBelow headers n object) class.same (rooted_at (height headers (Some class.place)) class.place class.header class.at (omega arith))

-- ---- chains

-- the chain of the class at a place
abbrev pub IsChainFrom : Headers → Option Place → List Name → Type 0
IsChainFrom headers None names = names ≡ []
IsChainFrom headers (Some place) names = (header : Header) × (header_at headers place ≡ Some header) × IsChain headers header.name names

-- with each chain of what is next, the names are a chain
pub record IsClimbed (headers : Headers) (name : Name) (names : List Name) (next : Option Place) : Type 0 where
  pub joins : (rest : List Name) → IsChainFrom headers next rest → IsChain headers name (names ++ rest)
  pub there : IfSome next (λ place. IsSome (header_at headers place))

pub first_climbed : (headers : Headers) (name : Name) (next : Option Place) → IsThere headers name → next ≡ place_of headers name → IsClimbed headers name [] next
first_climbed headers name next there is =
    let class = placed headers name there in
    subst (IsClimbed headers name []) (sym (is ∙ class.is)) (record {
      joins = λ rest more. let same : more.0.name ≡ name = let e = class.at in let f = more.1 in let g = class.same in cc in subst (λ n. IsChain headers n rest) same more.2;
      there = ap is_some class.at;
    })

chain_more : (headers : Headers) → HoldsSteps headers → (place : Place) (header : Header) → header_at headers place ≡ Some header → (rest : List Name) → IsChainFrom headers (superclass_of headers place) rest → IsChain headers header.name (header.name ∷ rest)
chain_more headers tree place header at rest more = by header.super_name refl
  where
    named : class_named headers header.name ≡ Some header
    named = named_at_place headers tree place header at

    by : (super : Option Name) → header.super_name ≡ super → IsChain headers header.name (header.name ∷ rest)
    by None none =
        let nothing : rest ≡ [] = subst (λ (next : Option Place). IsChainFrom headers next rest) (no_superclass headers place header at none) more in
        subst (λ (names : List Name). IsChain headers header.name (header.name ∷ names)) (sym nothing) (root header.name header named none)
    by (Some name) some =
        let class = some_superclass headers tree place header at name some in
        let found = subst (λ (next : Option Place). IsChainFrom headers next rest) (superclass_is headers place header at name some ∙ class.is) more in
        let same : found.0.name ≡ name = let e = class.at in let f = found.1 in let g = class.same in cc in
        below header.name name header rest named some (subst (λ n. IsChain headers n rest) same found.2)

pub climbed_more : (headers : Headers) → HoldsSteps headers → (name : Name) (names : List Name) (place : Place) (header : Header) (next : Option Place) → IsClimbed headers name names (Some place) → header_at headers place ≡ Some header → next ≡ superclass_of headers place → IsClimbed headers name (names ++ header.name ∷ []) next
climbed_more headers tree name names place header next climbed at is = subst (IsClimbed headers name (names ++ header.name ∷ [])) (sym is) (record {
  joins = λ rest more. subst (IsChain headers name) (sym (append_assoc names (header.name ∷ []) rest)) (climbed.joins (header.name ∷ rest) (header, at, chain_more headers tree place header at rest more));
  there = superclass_there headers place;
})

pub all_climbed : (headers : Headers) (name : Name) (names : List Name) → IsClimbed headers name names None → IsChain headers name names
all_climbed headers name names climbed = subst (IsChain headers name) (append-nil names) (climbed.joins [] refl)
