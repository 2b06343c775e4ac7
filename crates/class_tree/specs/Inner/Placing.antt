-- How nodes of a graph are collected and put in order.
use Rattle.std.specs.Prelude.{◌≡◌, ◌<◌, ◌==◌, ◌||◌, ℕ, Bool, false, List, ◌∷◌, ◌++◌, length, take, slice_index_or, count_by}
use Rattle.std.specs.List.{list_any}
use Rattle.class_tree.specs.Inner.Graphs.{Graph, IsOneOf, IsNoneOf, IsEdge}

-- nodes in the order in which they were added, out of the first numbers, as many as the size
pub record Collected : Type 0 where
  pub size : ℕ
  pub nodes : List ℕ

-- the marks of numbers, each of which stands once
pub record AreMarksOf (nodes : List ℕ) (marks : List Bool) : Type 0 where
  pub each : (node : ℕ) → slice_index_or marks node false ≡ list_any (λ one. one == node) nodes
  pub count : count_by (λ mark. mark) marks ≡ length nodes

-- the same nodes, and behind them those of a list that were not there
pub record HasAdded (old new list : List ℕ) : Type 0 where
  pub kept : take (length old) new ≡ old
  pub added : (node : ℕ)
      → list_any (λ one. one == node) new
      ≡ (list_any (λ one. one == node) old || list_any (λ one. one == node) list)

-- nodes in an order in which each stands once and behind its targets
pub record AreBehindTargets (graph : Graph) (order : List ℕ) : Type 0 where
  pub nodes : (node : ℕ) → IsOneOf order node → node < length graph
  pub behind : (before after : List ℕ) (node to : ℕ)
      → order ≡ before ++ node ∷ after
      → IsEdge graph node to
      → IsOneOf before to
  pub once : (before after : List ℕ) (node : ℕ)
      → order ≡ before ++ node ∷ after
      → IsNoneOf before node

-- the next in such an order: a node that is not there, with all its targets there
pub record CanFollow (graph : Graph) (order : List ℕ) (node : ℕ) : Type 0 where
  pub new : IsNoneOf order node
  pub targets : (to : ℕ) → IsEdge graph node to → IsOneOf order to

-- a node that is not there has a target that is not
abbrev pub CannotFollow : Graph → List ℕ → ℕ → Type 0
CannotFollow graph order node =
    IsNoneOf order node
    → (to : ℕ) × IsEdge graph node to × IsNoneOf order to
