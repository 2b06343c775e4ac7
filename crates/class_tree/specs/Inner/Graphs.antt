-- Directed graphs: the nodes are numbers from 0 on, and each has a list of targets.
use Rattle.std.specs.Prelude.{◌≡◌, ◌<◌, ◌==◌, ℕ, List, ◌∷◌, ◌++◌, length, slice_get, Some, IsTrue, IsFalse}
use Rattle.std.specs.List.{list_any}

abbrev pub Graph : Type 0
Graph = List (List ℕ)

-- a number is one of these
abbrev pub IsOneOf : List ℕ → ℕ → Type 0
IsOneOf numbers number = IsTrue (list_any (λ one. one == number) numbers)

abbrev pub IsNoneOf : List ℕ → ℕ → Type 0
IsNoneOf numbers number = IsFalse (list_any (λ one. one == number) numbers)

pub record IsEdge (graph : Graph) (from to : ℕ) : Type 0 where
  pub targets : List ℕ
  pub there : slice_get graph from ≡ Some targets
  pub target : IsOneOf targets to

-- a path of one edge or more
pub data IsPath (graph : Graph) : ℕ → ℕ → Type 0 where
  edge : (from to : ℕ) → IsEdge graph from to → IsPath graph from to
  onwards : (from middle to : ℕ)
      → IsEdge graph from middle
      → IsPath graph middle to
      → IsPath graph from to

-- each target is a node
abbrev pub IsWithin : Graph → Type 0
IsWithin graph = (from to : ℕ) → IsEdge graph from to → to < length graph

-- Nodes in an order in which each stands once and behind its targets. Each other node has a target that is another, so
-- that none can follow.
pub record IsTopological (graph : Graph) (order : List ℕ) : Type 0 where
  pub nodes : (node : ℕ) → IsOneOf order node → node < length graph
  pub behind : (before after : List ℕ) (node to : ℕ)
      → order ≡ before ++ node ∷ after
      → IsEdge graph node to
      → IsOneOf before to
  pub once : (before after : List ℕ) (node : ℕ)
      → order ≡ before ++ node ∷ after
      → IsNoneOf before node
  pub others : (node : ℕ)
      → node < length graph
      → IsNoneOf order node
      → (to : ℕ) × IsEdge graph node to × IsNoneOf order to
