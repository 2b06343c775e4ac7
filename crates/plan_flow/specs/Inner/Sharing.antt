-- Edges to handlers of which one stands for all that lead to one point, since the state behind them is the same.
use Rattle.std.specs.Prelude.{◌≡◌, ◌<◌, ◌+◌, ℕ, false, cond, List, [], ◌∷◌, ◌++◌, map, length, slice_get, Option, Some, None}
use Rattle.std.specs.BTreeMap.{BTreeMap, get, is_at}
use Rattle.std.specs.List.{filter, list_any}
use Rattle.std.specs.Option.{option_map_or}
use Rattle.std.specs.Ordering.{nat_cmp}
use Rattle.flow_code.specs.FlatCode.{FlatCode, point_at}
use Rattle.flow_code.specs.declared.handlers.FlatHandler.{FlatHandler}
use Rattle.flow_code.specs.declared.point.Point.{Point}
use Rattle.plan_flow.specs.Inner.Gaining.{is_normal}
use Rattle.plan_flow.specs.Inner.Planning.{made_edges, made_on}
use Rattle.plan_flow.specs.Inner.Reaching.{Reached}
use Rattle.plan_flow.specs.Must.{row_of_point}
use Rattle.plan_flow.specs.PlanRows.{Guard, PlanRow, RowEdge}
use Rattle.plan_flow.specs.PlanScope.{PlanScope}
use Rattle.plan_flow.specs.PlanSlots.{is_open}
use Rattle.plan_flow.specs.PlanTable.{falls_on, jump_edges, next_edges, targets_at, thrown_edges}
use Rattle.plan_flow.specs.Plans.{MadeEdge}
use Rattle.plan_flow.specs.declared.edge.Edge.{Edge}
use Rattle.plan_flow.specs.declared.edge.EdgeKind.TheVariants as kinds
use Rattle.virtual_state.specs.Sites.{has}
use Rattle.virtual_state.specs.States.{State}

-- ---- edges to shared points

-- one edge to each of these points, as if by handler 0
abbrev pub target_edges : Guard → List ℕ → List RowEdge
target_edges guard [] = []
target_edges guard (to ∷ others) =
    record { by = kinds.Handler 0; to = to; guard = guard } ∷ target_edges guard others

abbrev pub thrown_to : Option Guard → List ℕ → List RowEdge
thrown_to None targets = []
thrown_to (Some guard) targets = target_edges guard targets

-- the edges to handlers: all, or, where points are shared, one to each of these
abbrev pub caught_edges : Option (List ℕ) → Option Guard → List FlatHandler → List RowEdge
caught_edges None throws handlers = thrown_edges throws handlers
caught_edges (Some targets) throws handlers = thrown_to throws targets

abbrev pub edges_by : Option (List ℕ) → ℕ → Point → PlanRow → List RowEdge
edges_by shared at point row =
    next_edges at row (falls_on point.instr)
    ++ jump_edges row 0 (targets_at point.instr)
    ++ caught_edges shared row.throws point.handlers

-- those that control may take in a state
abbrev pub open_by : PlanScope → ℕ → Point → State → Option (List ℕ) → List RowEdge
open_by s at point state shared =
    filter (λ edge. is_open state edge.guard) (edges_by shared at point (row_of_point s at point))

-- ---- the points to which handlers lead

abbrev pub points_of : List FlatHandler → List ℕ
points_of handlers = map (λ handler. handler.to) handlers

pub record AreTargetsOf (handlers : List FlatHandler) (targets : List ℕ) : Type 0 where
  pub same : (to : ℕ) → has targets to ≡ has (points_of handlers) to

-- the handlers of a point, or none where there is no such point
abbrev pub handlers_in : FlatCode → ℕ → List FlatHandler
handlers_in flat at = option_map_or (λ point. point.handlers) (point_at flat at) []

-- those of a point, where they are listed for each
abbrev pub targets_in : List (List ℕ) → ℕ → List ℕ
targets_in table at = option_map_or (λ targets. targets) (slice_get table at) []

pub record AreTargets (flat : FlatCode) (table : List (List ℕ)) : Type 0 where
  pub each :
      (at : ℕ) (point : Point)
      → point_at flat at ≡ Some point
      → AreTargetsOf point.handlers (targets_in table at)

-- the same of the points below a number
pub record AreTargetsUpTo (flat : FlatCode) (table : List (List ℕ)) (count : ℕ) : Type 0 where
  pub len : length table ≡ count
  pub each :
      (at : ℕ)
      → at < count
      → AreTargetsOf (handlers_in flat at) (targets_in table at)

-- ---- plans of edges

-- the edges up to the first to a handler, and the others
abbrev pub own_part : List Edge → List Edge
own_part [] = []
own_part (edge ∷ edges) = cond (is_normal edge.by) (edge ∷ own_part edges) []

abbrev pub caught_part : List Edge → List Edge
caught_part [] = []
caught_part (edge ∷ edges) = cond (is_normal edge.by) (caught_part edges) (edge ∷ edges)

-- the edge, unless it leads to a handler
abbrev pub normal_one : Option Edge → Option Edge
normal_one None = None
normal_one (Some edge) = cond (is_normal edge.by) (Some edge) None

-- a set, or another one that isn't empty
abbrev pub kept_set : Option (List ℕ) → List ℕ → Option (List ℕ)
kept_set set [] = set
kept_set set (site ∷ sites) = Some (site ∷ sites)

-- where a set is put that is made on an edge to a point, unless it is empty
abbrev pub put_set : ℕ → List ℕ → ℕ → Option (List ℕ) → Option (List ℕ)
put_set to made at set = cond (is_at (nat_cmp to) at) (kept_set set made) set

-- the set that is made on edges to a point
abbrev pub last_set : Reached → List Edge → ℕ → Option (List ℕ) → Option (List ℕ)
last_set states [] at set = set
last_set states (edge ∷ edges) at set =
    last_set states edges at (put_set edge.to (made_on edge.state (states edge.to)) at set)

-- no site where there is no set
abbrev pub or_no_site : Option (List ℕ) → List ℕ
or_no_site set = option_map_or (λ sites. sites) set []

abbrev pub made_in : BTreeMap ℕ (List ℕ) → ℕ → List ℕ
made_in made to = or_no_site (get nat_cmp made to)

-- the edges to handlers, where the sets are given by target
abbrev pub caught_made : (ℕ → List ℕ) → ℕ → List FlatHandler → List MadeEdge
caught_made made number [] = []
caught_made made number (handler ∷ others) =
    record { by = kinds.Handler number; to = handler.to; made = made handler.to }
    ∷ caught_made made (number + 1) others

abbrev pub caught_plans : Reached → List FlatHandler → List Edge → List MadeEdge
caught_plans states handlers [] = []
caught_plans states handlers (edge ∷ edges) =
    caught_made (λ to. or_no_site (last_set states (edge ∷ edges) to None)) 0 handlers

-- the plans of all edges, by those of which some are shared
abbrev pub plans_of : Reached → List FlatHandler → List Edge → List MadeEdge
plans_of states handlers edges =
    made_edges states (own_part edges) ++ caught_plans states handlers (caught_part edges)

-- no edge where there are none to handlers
abbrev pub or_no_edge : Option (List MadeEdge) → List MadeEdge
or_no_edge edges = option_map_or (λ thrown. thrown) edges []

-- edges of a plan that lead to handlers
pub record AreThrown (edges : List MadeEdge) : Type 0 where
  pub none : list_any (λ edge. is_normal edge.by) edges ≡ false

-- edges of a plan of which those behind the first ones lead to handlers
pub record AreOwnOf (own all : List MadeEdge) : Type 0 where
  pub caught : List MadeEdge
  pub is : all ≡ own ++ caught
  pub thrown : AreThrown caught
