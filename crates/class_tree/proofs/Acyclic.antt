-- Orders and paths: a node is in no topological order exactly where a path leads from it to a circle.
use Rattle.std.proofs.Common.{◌≡◌, ℕ, zero, suc, ◌+◌, ◌<◌, false, List, [], ◌∷◌, ◌++◌, length, eqb, sym, ap, subst, ◌∙◌, inl, inr, arith, append_assoc, true}
use Rattle.std.specs.List.{AllByRecursion, IsDistinct, list_any}
use Rattle.std.proofs.lemmas.Bool.{false≢true, or_cases, eqb-true, ne_eqb}
use Rattle.std.proofs.lemmas.Map.Keys.{IsDistinct-cons}
use Rattle.std.proofs.lemmas.Map.Steps.{length-le_from_distinct_below}
use Rattle.class_model.specs.Laws.Lists.{AllByRecursion-weaker}
use Rattle.class_tree.specs.Inner.Graphs.{Graph, IsOneOf, IsNoneOf, IsEdge, IsPath, edge, onwards, IsWithin, IsTopological}
use Rattle.class_tree.proofs.OneOf.{one_or_none, not_both, one_of_front, split_at}

-- ---- paths

-- a path and an edge behind it
pub path_and_edge : {graph : Graph} {from middle to : ℕ} → IsPath graph from middle → IsEdge graph middle to → IsPath graph from to
path_and_edge (edge from middle first) last = onwards from middle _ first (edge middle _ last)
path_and_edge (onwards from next middle first rest) last = onwards from next _ first (path_and_edge rest last)

pub ends_within : {graph : Graph} {from to : ℕ} → IsPath graph from to → IsWithin graph → to < length graph
ends_within (edge from to last) within = within from to last
ends_within (onwards from middle to first rest) within = ends_within rest within

-- ---- orders

-- a path from a node of the order ends before it
path_before : (graph : Graph) (order : List ℕ) → IsTopological graph order → {from to : ℕ} → IsPath graph from to → (before after : List ℕ) → order ≡ before ++ from ∷ after → IsOneOf before to
path_before graph order topological (edge from to first) before after is = topological.behind before after from to is first
path_before graph order topological (onwards from middle to first rest) before after is =
    let split = split_at before middle (topological.behind before after from middle is first) in
    let whole : order ≡ split.before ++ middle ∷ (split.after ++ from ∷ after) =
    is ∙ ap (λ (front : List ℕ). front ++ from ∷ after) split.is ∙ append_assoc split.before (middle ∷ split.after) (from ∷ after) in
    let there = path_before graph order topological rest split.before (split.after ++ from ∷ after) whole in
    subst (λ (front : List ℕ). IsOneOf front to) (sym split.is) (one_of_front split.before (middle ∷ split.after) to there)

-- a node of the order has no path to itself
pub placed_is_on_no_circle : (graph : Graph) (order : List ℕ) (node : ℕ) → IsTopological graph order → IsOneOf order node → ¬ IsPath graph node node
placed_is_on_no_circle graph order node topological placed path =
    let split = split_at order node placed in
    not_both split.before node (path_before graph order topological path split.before split.after split.is) (topological.once split.before split.after node split.is)

pub each_of : (P : ℕ → Type 0) (numbers : List ℕ) → AllByRecursion P numbers → (number : ℕ) → list_any (eqb number) numbers ≡ true → P number
each_of P [] all number one = absurd (false≢true one)
each_of P (first ∷ numbers) all number one =
    elim (or_cases _ _ one) [ inl here ↦ subst P (sym (eqb-true number first here)) all.0 | inr there ↦ each_of P numbers all.1 number there ]

-- Nodes that are met on a way from target to target outside of the order never end, unless one is met again.
some_met_again : (graph : Graph) (order : List ℕ) → IsWithin graph → IsTopological graph order → ((node : ℕ) → node < length graph → ¬ IsPath graph node node) → (fuel : ℕ) (met : List ℕ) (node : ℕ) → length graph < length met + fuel → node < length graph → IsNoneOf order node → IsDistinct eqb met → AllByRecursion (λ one. one < length graph) met → ¬ AllByRecursion (λ one. IsPath graph one node) met
some_met_again graph order within topological acyclic zero met node many low outside distinct below lead =
    omega (arith, length-le_from_distinct_below met (length graph) distinct (each_of (λ one. one < length graph) met below))
some_met_again graph order within topological acyclic (suc fuel) met node many low outside distinct below lead =
    let next = topological.others node low outside in
    let differ = AllByRecursion-weaker (λ one. IsPath graph one node) (λ one. eqb node one ≡ false) (λ one path. ne_eqb node one (λ same. acyclic node low (subst (λ (n : ℕ). IsPath graph n node) (sym same) path))) met lead in
    some_met_again graph order within topological acyclic fuel (node ∷ met) next.0 (omega arith) (within node next.0 next.1) next.2 (IsDistinct-cons eqb node met differ distinct) (low, below)
    (edge node next.0 next.1, AllByRecursion-weaker (λ one. IsPath graph one node) (λ one. IsPath graph one next.0) (λ one path. path_and_edge path next.1) met lead)

-- where no node has a path to itself, each stands in the order
pub all_are_placed : (graph : Graph) (order : List ℕ) → IsWithin graph → IsTopological graph order → ((node : ℕ) → node < length graph → ¬ IsPath graph node node) → (node : ℕ) → node < length graph → IsOneOf order node
unfolding IsDistinct
all_are_placed graph order within topological acyclic node low =
    elim (one_or_none order node) [
      | inl placed ↦ placed
      | inr outside ↦ absurd (some_met_again graph order within topological acyclic (suc (length graph)) [] node (omega arith) low outside tt tt tt)
    ]
