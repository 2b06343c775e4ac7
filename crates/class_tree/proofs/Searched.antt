-- A search of what a node reaches, along a list of the nodes that were met.
use Rattle.std.proofs.Common.{◌≡◌, ◌⊎◌, ◌↔◌, ℕ, ◌+◌, ◌<◌, ◌≤◌, List, [], ◌∷◌, ◌++◌, length, get_or, take, slice_get, Some, refl, sym, ap, subst, ◌∙◌, inl, inr, arith, true≢false}
use Rattle.std.proofs.lemmas.Bool.{or_cases, or_left, or_right}
use Rattle.std.proofs.lemmas.List.{take_all, take-take, take_more}
use Rattle.std.proofs.lemmas.Option.{same_Some}
use Rattle.class_tree.specs.Inner.Graphs.{Graph, IsOneOf, IsEdge, IsPath, edge, onwards, IsWithin}
use Rattle.class_tree.specs.Inner.Placing.{HasAdded}
use Rattle.class_tree.proofs.Acyclic.{path_and_edge, ends_within}
use Rattle.class_tree.proofs.OneOf.{one_at, one_of_parts, one_of_single}

-- Each node that was met is reached, and the targets of the first node and of those before a place were met.
pub record IsSearched (graph : Graph) (from at : ℕ) (met : List ℕ) : Type 0 where
  pub reached : (node : ℕ) → IsOneOf met node → IsPath graph from node
  pub first : (to : ℕ) → IsEdge graph from to → IsOneOf met to
  pub further : (node to : ℕ) → IsOneOf (take at met) node → IsEdge graph node to → IsOneOf met to

pub targets_within : (graph : Graph) (node size : ℕ) (targets : List ℕ) → IsWithin graph → slice_get graph node ≡ Some targets → size ≡ length graph → (to : ℕ) → IsOneOf targets to → to < size
targets_within graph node size targets within there same to target = omega (arith, same, within node to (record { targets = targets; there = there; target = target }))

pub one_target : (graph : Graph) (node to : ℕ) (targets : List ℕ) → slice_get graph node ≡ Some targets → IsEdge graph node to → IsOneOf targets to
one_target graph node to targets there e = subst (λ (ts : List ℕ). IsOneOf ts to) (same_Some e.targets targets (sym e.there ∙ there)) e.target

pub search_begins : (graph : Graph) (from : ℕ) (met targets : List ℕ) → slice_get graph from ≡ Some targets → HasAdded [] met targets → IsSearched graph from 0 met
search_begins graph from met targets there has = record {
  reached = λ node one. edge from node (record { targets = targets; there = there; target = sym (has.added node) ∙ one });
  first = λ to e. has.added to ∙ one_target graph from to targets there e;
  further = λ node to one e. absurd (true≢false (sym one));
}

pub search_goes_on : (graph : Graph) (from at node : ℕ) (met more targets : List ℕ) → IsSearched graph from at met → at < length met → node ≡ get_or met at 0 → slice_get graph node ≡ Some targets → HasAdded met more targets → IsSearched graph from (at + 1) more
search_goes_on graph from at node met more targets searched low is there has =
    let front : take (at + 1) more ≡ take at met ++ get_or met at 0 ∷ [] =
    sym (take-take (at + 1) (length met) more (omega arith)) ∙ ap (take (at + 1)) has.kept ∙ take_more met at 0 low in
    let kept : (to : ℕ) → IsOneOf met to → IsOneOf more to = λ to one. has.added to ∙ or_left _ _ one in
    let one : IsOneOf met node = subst (IsOneOf met) (sym is) (one_at met at low) in
    record {
      reached = λ to among. elim (or_cases _ _ (sym (has.added to) ∙ among)) [
        | inl old ↦ searched.reached to old
        | inr target ↦ path_and_edge (searched.reached node one) (record { targets = targets; there = there; target = target })
      ];
      first = λ to e. kept to (searched.first to e);
      further = λ other to among e. elim (one_of_parts (take at met) (get_or met at 0 ∷ []) other (subst (λ (nodes : List ℕ). IsOneOf nodes other) front among)) [
        | inl before ↦ kept to (searched.further other to before e)
        | inr here ↦ has.added to ∙ or_right _ _ (one_target graph node to targets there (subst (λ (n : ℕ). IsEdge graph n to) (sym (is ∙ one_of_single (get_or met at 0) other here)) e))
      ];
    }

pub met_is_within : (graph : Graph) (from at : ℕ) (met : List ℕ) → IsWithin graph → IsSearched graph from at met → at < length met → get_or met at 0 < length graph
met_is_within graph from at met within searched low = ends_within (searched.reached (get_or met at 0) (one_at met at low)) within

reached_is_met : (graph : Graph) (from at : ℕ) (met : List ℕ) → IsSearched graph from at met → length met ≤ at → {node to : ℕ} → IsPath graph node to → (node ≡ from) ⊎ IsOneOf met node → IsOneOf met to
reached_is_met graph from at met searched past (edge node to e) (inl same) = searched.first to (subst (λ (n : ℕ). IsEdge graph n to) same e)
reached_is_met graph from at met searched past (edge node to e) (inr one) = searched.further node to (subst (λ (nodes : List ℕ). IsOneOf nodes node) (sym (take_all at met past)) one) e
reached_is_met graph from at met searched past (onwards node middle to e rest) (inl same) = reached_is_met graph from at met searched past rest (inr (searched.first middle (subst (λ (n : ℕ). IsEdge graph n middle) same e)))
reached_is_met graph from at met searched past (onwards node middle to e rest) (inr one) = reached_is_met graph from at met searched past rest (inr (searched.further node middle (subst (λ (nodes : List ℕ). IsOneOf nodes node) (sym (take_all at met past)) one) e))

pub search_ends : (graph : Graph) (from at to : ℕ) (met : List ℕ) → IsSearched graph from at met → length met ≤ at → IsOneOf met to ↔ IsPath graph from to
search_ends graph from at to met searched past = (searched.reached to, λ path. reached_is_met graph from at met searched past path (inl refl))
