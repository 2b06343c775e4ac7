-- The blocks of points stand in the order of their points, and pads behind them all.
use Rattle.std.proofs.Common.{◌≡◌, ◌+◌, ◌<◌, ◌≤◌, ℕ, zero, suc, Bool, true, false, List, [], ◌∷◌, ◌++◌, length, slice_get, Option, Some, None, refl, sym, ap, subst, ◌∙◌, arith}
use Rattle.std.specs.List.{AllByRecursion, flat_map}
use Rattle.std.proofs.lemmas.List.{append_assoc}
use Rattle.std.proofs.lemmas.Option.{none-some}
use Rattle.flow_code.specs.declared.point.Point.{Point}
use Rattle.plan_flow.specs.Laws.WrittenBlocks.{before_blocks, finished_block, pads_of}
use Rattle.plan_flow.specs.PlanScope.{PlanScope}
use Rattle.plan_flow.specs.Written.Blocks.{Block, BlockOf, before_point, blocks_of, handler_pad, handler_pad_of, handler_pads, instruction_block, is_decided, jump_pad, jump_pad_of, jump_pads, make_block, next_block, of_point, of_reached, on_next_edge, point_blocks}
use Rattle.plan_flow.specs.Written.Finish.{Finished}
use Rattle.plan_flow.specs.Written.Routes.{Route, RouteEdge, Routes, edge_by}
use Rattle.plan_flow.specs.declared.edge.EdgeKind.{EdgeKind}
use Rattle.plan_flow.specs.declared.edge.EdgeKind.TheVariants as edges
use Rattle.virtual_state.specs.States.{State}
use Rattle.written_types.proofs.Given.{Given}
use Rattle.written_types.proofs.Standing.{all_at, all_joined}
use Rattle.written_types.specs.Writing.{Writing}

-- ---- the order

abbrev pub is_pad : BlockOf → Bool
is_pad (jump_pad at number) = true
is_pad (handler_pad at number) = true
is_pad other = false

abbrev pub three : ℕ → ℕ
three at = at + (at + at)

abbrev pub rank : BlockOf → ℕ
rank (before_point at) = three at
rank (of_point at) = suc (three at)
rank (on_next_edge at) = suc (suc (three at))
rank other = 0

abbrev pub AheadBy : Bool → Bool → ℕ → ℕ → Type 0
AheadBy one true low high = Unit {0}
AheadBy false false low high = low < high
AheadBy true false low high = ⊥

-- a block may stand before another
abbrev pub Ahead : BlockOf → BlockOf → Type 0
Ahead one other = AheadBy (is_pad one) (is_pad other) (rank one) (rank other)

abbrev AllAhead : BlockOf → List Block → Type 0
AllAhead one blocks = AllByRecursion (λ (other : Block). Ahead one other.of) blocks

abbrev Sorted : List Block → Type 0
Sorted [] = Unit {0}
Sorted (block ∷ blocks) = AllAhead block.of blocks × Sorted blocks

-- ---- sorted lists

sorted_joined : (ones others : List Block) → Sorted ones → Sorted others → AllByRecursion (λ (one : Block). AllAhead one.of others) ones
    → Sorted (ones ++ others)
sorted_joined [] others first second across = second
sorted_joined (one ∷ ones) others first second across = (
  all_joined (λ (other : Block). Ahead one.of other.of) ones others first.0 across.0,
  sorted_joined ones others first.1 second across.1,
)

ordered : (blocks : List Block) (number later : ℕ) (one other : Block) → Sorted blocks → slice_get blocks number ≡ Some one
    → slice_get blocks later ≡ Some other
    → number < later
    → Ahead one.of other.of
ordered [] number later one other sorted is also less = absurd (none-some one is)
ordered (first ∷ blocks) number zero one other sorted is also less = absurd (omega (arith, less))
ordered (first ∷ blocks) zero (suc later) one other sorted is also less =
    let same : first.of ≡ one.of = ap (λ (found : Option Block). of_found found) is in
    subst (λ (of : BlockOf). Ahead of other.of) same (all_at (λ (block : Block). Ahead first.of block.of) blocks later other sorted.0 also) where
      of_found : Option Block → BlockOf
      of_found None = first.of
      of_found (Some block) = block.of
ordered (first ∷ blocks) (suc number) (suc later) one other sorted is also less =
    ordered blocks number later one other sorted.1 is also (omega (arith, less))

-- ---- between two ranks

record Within (low high : ℕ) (block : Block) : Type 0 where
  no_pad : is_pad block.of ≡ false
  from : low ≤ rank block.of
  to : rank block.of < high

abbrev AllWithin : ℕ → ℕ → List Block → Type 0
AllWithin low high blocks = AllByRecursion (Within low high) blocks

by_ranks : (one other : BlockOf) → is_pad one ≡ false → is_pad other ≡ false → rank one < rank other → Ahead one other
by_ranks one other first second less =
    subst (λ (pad : Bool). AheadBy pad (is_pad other) (rank one) (rank other)) (sym first)
    (subst (λ (pad : Bool). AheadBy false pad (rank one) (rank other)) (sym second) less)

ahead_each : (low middle high : ℕ) (one : Block) (others : List Block) → Within low middle one → AllWithin middle high others → AllAhead one.of others
ahead_each low middle high one [] first second = tt
ahead_each low middle high one (other ∷ others) first second = (
  by_ranks one.of other.of first.no_pad second.0.no_pad
      (let less = first.to in let more = second.0.from in omega (arith, less, more)),
  ahead_each low middle high one others first second.1,
)

ahead_all : (low middle high : ℕ) (ones others : List Block) → AllWithin low middle ones → AllWithin middle high others
    → AllByRecursion (λ (one : Block). AllAhead one.of others) ones
ahead_all low middle high [] others first second = tt
ahead_all low middle high (one ∷ ones) others first second =
    (ahead_each low middle high one others first.0 second, ahead_all low middle high ones others first.1 second)

widened : (low high lower higher : ℕ) (blocks : List Block) → lower ≤ low → high ≤ higher → AllWithin low high blocks → AllWithin lower higher blocks
widened low high lower higher [] less more all = tt
widened low high lower higher (block ∷ blocks) less more all = (
  record {
    no_pad = all.0.no_pad;
    from = let at_least = all.0.from in omega (arith, less, at_least);
    to = let at_most = all.0.to in omega (arith, more, at_most);
  },
  widened low high lower higher blocks less more all.1,
)

-- blocks that are in order, between two ranks
record Ordered (low high : ℕ) (blocks : List Block) : Type 0 where
  sorted : Sorted blocks
  within : AllWithin low high blocks

both_ordered : (low middle high : ℕ) (ones others : List Block) → low ≤ middle → middle ≤ high → Ordered low middle ones → Ordered middle high others
    → Ordered low high (ones ++ others)
both_ordered low middle high ones others less more first second = record {
  sorted = sorted_joined ones others first.sorted second.sorted (ahead_all low middle high ones others first.within second.within);
  within =
      all_joined (Within low high) ones others
      (widened low middle low high ones (let n : low ≤ low = omega arith in n) more first.within)
      (widened middle high low high others less (let n : high ≤ high = omega arith in n) second.within);
}

-- ---- the blocks of points

made_ordered : (s : PlanScope) (of : BlockOf) (at : ℕ) (state : State) (made order : List ℕ) (leaves : Option ℕ) (low high : ℕ)
    → is_pad of ≡ false
    → low ≤ rank of
    → rank of < high
    → Ordered low high (make_block s of at state made order leaves)
made_ordered s of at state [] order leaves low high no_pad from to = record { sorted = tt; within = tt }
made_ordered s of at state (site ∷ sites) order leaves low high no_pad from to =
    record { sorted = (tt, tt); within = (record { no_pad = no_pad; from = from; to = to }, tt) }

next_ordered : (s : PlanScope) (at : ℕ) (edge : Option RouteEdge) → Ordered (suc (suc (three at))) (three (suc at)) (next_block s at edge)
next_ordered s at None = record { sorted = tt; within = tt }
next_ordered s at (Some edge) =
    made_ordered s (on_next_edge at) edge.to edge.state edge.made edge.order None (suc (suc (three at))) (three (suc at)) refl (omega arith) (omega arith)

point_ordered : (s : PlanScope) (at : ℕ) (point : Point) (route : Route) → Ordered (three at) (three (suc at)) (point_blocks s at point route)
point_ordered s at point route =
    both_ordered (three at) (suc (suc (three at))) (three (suc at)) (before_blocks s at route ++ (instruction_block s at point route ∷ []))
    (next_block s at (edge_by route edges.Next)) (omega arith) (omega arith)
    (both_ordered (three at) (suc (three at)) (suc (suc (three at))) (before_blocks s at route) (instruction_block s at point route ∷ []) (omega arith)
    (omega arith)
    (made_ordered s (before_point at) at route.state route.made route.order None (three at) (suc (three at)) refl (omega arith) (omega arith))
    (record { sorted = (tt, tt); within = (record { no_pad = refl; from = omega arith; to = omega arith }, tt) }))
    (next_ordered s at (edge_by route edges.Next))

points_ordered : (s : PlanScope) (from : ℕ) (points : List Point) (routes : Routes)
    → Ordered (three from) (three (from + length points)) (of_reached (point_blocks s) from points routes)
points_ordered s from [] routes = record { sorted = tt; within = tt }
points_ordered s from (point ∷ points) [] = record { sorted = tt; within = tt }
points_ordered s from (point ∷ points) (None ∷ routes) =
    let rest = points_ordered s (suc from) points routes in
    record {
      sorted = rest.sorted;
      within =
          widened (three (suc from)) (three (suc from + length points)) (three from) (three (from + length (point ∷ points)))
          (of_reached (point_blocks s) (suc from) points routes) (omega arith) (omega arith) rest.within;
    }
points_ordered s from (point ∷ points) (Some route ∷ routes) =
    let rest = points_ordered s (suc from) points routes in
    both_ordered (three from) (three (suc from)) (three (from + length (point ∷ points))) (point_blocks s from point route)
    (of_reached (point_blocks s) (suc from) points routes) (omega arith) (omega arith) (point_ordered s from point route)
    (record {
      sorted = rest.sorted;
      within =
          widened (three (suc from)) (three (suc from + length points)) (three (suc from)) (three (from + length (point ∷ points)))
          (of_reached (point_blocks s) (suc from) points routes) (omega arith) (omega arith) rest.within;
    })

-- ---- pads

abbrev IsPadBlock : Block → Type 0
IsPadBlock block = is_pad block.of ≡ true

each_reached : (P : Block → Type 0) (blocks : ℕ → Point → Route → List Block)
    → ((at : ℕ) (point : Point) (route : Route) → AllByRecursion P (blocks at point route))
    → (from : ℕ) (points : List Point) (routes : Routes)
    → AllByRecursion P (of_reached blocks from points routes)
each_reached P blocks each from [] routes = tt
each_reached P blocks each from (point ∷ points) [] = tt
each_reached P blocks each from (point ∷ points) (None ∷ routes) = each_reached P blocks each (suc from) points routes
each_reached P blocks each from (point ∷ points) (Some route ∷ routes) =
    all_joined P (blocks from point route) (of_reached blocks (suc from) points routes) (each from point route)
    (each_reached P blocks each (suc from) points routes)

each_edge : (P : Block → Type 0) (pad_of : RouteEdge → List Block) → ((edge : RouteEdge) → AllByRecursion P (pad_of edge)) → (all : List RouteEdge)
    → AllByRecursion P (flat_map pad_of all)
each_edge P pad_of each [] = tt
each_edge P pad_of each (edge ∷ others) = all_joined P (pad_of edge) (flat_map pad_of others) (each edge) (each_edge P pad_of each others)

made_pad : (s : PlanScope) (of : BlockOf) (edge : RouteEdge) (made : List ℕ) → is_pad of ≡ true
    → AllByRecursion IsPadBlock (make_block s of edge.to edge.state made edge.order (Some edge.to))
made_pad s of edge [] is = tt
made_pad s of edge (site ∷ sites) is = (is, tt)

jump_is_pad : (s : PlanScope) (at : ℕ) (edge : RouteEdge) (decided : Bool) (by : EdgeKind) → AllByRecursion IsPadBlock (jump_pad_of s at decided edge by)
jump_is_pad s at edge false (edges.Jump number) = made_pad s (jump_pad at number) edge edge.made refl
jump_is_pad s at edge true (edges.Jump number) = tt
jump_is_pad s at edge false edges.Next = tt
jump_is_pad s at edge true edges.Next = tt
jump_is_pad s at edge false (edges.Handler number) = tt
jump_is_pad s at edge true (edges.Handler number) = tt

handler_is_pad : (s : PlanScope) (at : ℕ) (edge : RouteEdge) (by : EdgeKind) → AllByRecursion IsPadBlock (handler_pad_of s at edge by)
handler_is_pad s at edge (edges.Handler number) = made_pad s (handler_pad at number) edge edge.made refl
handler_is_pad s at edge edges.Next = tt
handler_is_pad s at edge (edges.Jump number) = tt

all_pads : (s : PlanScope) (routes : Routes) → AllByRecursion IsPadBlock (pads_of s routes)
all_pads s routes =
    all_joined IsPadBlock (of_reached (jump_pads s) 0 s.flat.points routes) (of_reached (handler_pads s) 0 s.flat.points routes)
    (each_reached IsPadBlock (jump_pads s) (λ at point route.
    each_edge IsPadBlock (λ edge. jump_pad_of s at (is_decided point route) edge edge.by) (λ edge. jump_is_pad s at edge (is_decided point route) edge.by)
    route.edges) 0 s.flat.points routes)
    (each_reached IsPadBlock (handler_pads s) (λ at point route.
    each_edge IsPadBlock (λ edge. handler_pad_of s at edge edge.by) (λ edge. handler_is_pad s at edge edge.by) route.edges) 0 s.flat.points routes)

before_pads : (one : BlockOf) (pads : List Block) → AllByRecursion IsPadBlock pads → AllAhead one pads
before_pads one [] all = tt
before_pads one (pad ∷ pads) all = (
  subst (λ (is : Bool). AheadBy (is_pad one) is (rank one) (rank pad.of)) (sym all.0) tt,
  before_pads one pads all.1,
)

sorted_pads : (pads : List Block) → AllByRecursion IsPadBlock pads → Sorted pads
sorted_pads [] all = tt
sorted_pads (pad ∷ pads) all = (before_pads pad.of pads all.1, sorted_pads pads all.1)

all_before_pads : (ones pads : List Block) → AllByRecursion IsPadBlock pads → AllByRecursion (λ (one : Block). AllAhead one.of pads) ones
all_before_pads [] pads all = tt
all_before_pads (one ∷ ones) pads all = (before_pads one.of pads all, all_before_pads ones pads all)

-- ---- all

sorted_all : (s : PlanScope) (routes : Routes) → Sorted (blocks_of s routes)
sorted_all s routes =
    subst Sorted
    (sym (append_assoc (of_reached (point_blocks s) 0 s.flat.points routes) (of_reached (jump_pads s) 0 s.flat.points routes)
    (of_reached (handler_pads s) 0 s.flat.points routes)))
    (sorted_joined (of_reached (point_blocks s) 0 s.flat.points routes) (pads_of s routes) (points_ordered s 0 s.flat.points routes).sorted
    (sorted_pads (pads_of s routes) (all_pads s routes))
    (all_before_pads (of_reached (point_blocks s) 0 s.flat.points routes) (pads_of s routes) (all_pads s routes)))

-- Of two blocks that are written the first one may stand before the second.
pub in_order : (w : Writing) → Given w → (number later : ℕ) (one other : Finished) → slice_get w.blocks number ≡ Some one
    → slice_get w.blocks later ≡ Some other
    → number < later
    → Ahead one.block.of other.block.of
in_order w given number later one other is also less =
    ordered (blocks_of w.s given.setting.routes) number later one.block other.block (sorted_all w.s given.setting.routes)
    (finished_block w.s.flat (blocks_of w.s given.setting.routes) number one (ap (λ (all : List Finished). slice_get all number) (sym given.setting.blocks) ∙ is))
    (finished_block w.s.flat (blocks_of w.s given.setting.routes) later other (ap (λ (all : List Finished). slice_get all later) (sym given.setting.blocks) ∙ also))
    less
