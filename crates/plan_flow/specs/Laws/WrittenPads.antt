-- Where the pads of written code stand, and to which block control comes where a goto is not written.
use Rattle.std.proofs.Common.{◌≡◌, ◌≢◌, ◌+◌, ◌==◌, ◌&&◌, ◌≤◌, ◌<◌, ℕ, zero, suc, Bool, true, false, List, [], ◌∷◌, ◌++◌, length, drop, take, slice_get, Option, Some, None, refl, sym, ap, subst, ◌∙◌, arith}
use Rattle.std.specs.List.{AllByRecursion, find, flat_map}
use Rattle.std.proofs.lemmas.Bool.{eq-eqb, eqb-true, false≢true}
use Rattle.std.proofs.lemmas.Grind.{flat_map-append}
use Rattle.std.proofs.lemmas.List.{append_assoc}
use Rattle.std.proofs.lemmas.Option.{none-some, same_Some}
use Rattle.flow_code.specs.FlatCode.{FlatCode}
use Rattle.flow_code.specs.declared.point.Point.{Point}
use Rattle.plan_flow.specs.PlanScope.{PlanScope}
use Rattle.plan_flow.specs.Laws.WrittenBlocks.{holds_of_both, item_behind, reached_parts, take_left}
use Rattle.plan_flow.specs.Written.Blocks.{Block, BlockOf, before_point, blocks_of, handler_pad, handler_pad_of, handler_pads, is_decided, jump_pad, jump_pad_of, jump_pads, make_block, making, next_block, of_point, of_reached, on_next_edge, point_blocks}
use Rattle.plan_flow.specs.Written.Finish.{Finished, begins_point, comes_to, end_of, finish, finished_items, is_empty}
use Rattle.plan_flow.specs.Written.Routes.{Route, RouteEdge, Routes, edge_by, is_kind}
use Rattle.plan_flow.specs.Written.WrittenCode.{Form, is_handler_pad, is_jump_pad, short, wide, written_items, block_items}
use Rattle.plan_flow.specs.declared.edge.EdgeKind.{EdgeKind}
use Rattle.plan_flow.specs.declared.edge.EdgeKind.TheVariants as edges

-- ---- blocks that are none of a kind

abbrev pub AreNone : (BlockOf → Bool) → List Block → Type 0
AreNone is_it blocks = AllByRecursion (λ block. is_it block.of ≡ false) blocks

-- those of reached points, where none of what is made of each is one
pub none_of_reached : (is_it : BlockOf → Bool) (blocks : ℕ → Point → Route → List Block) (from : ℕ) (points : List Point) (routes : Routes)
    → ((at : ℕ) (point : Point) (route : Route) → at < from + length points → AreNone is_it (blocks at point route))
    → AreNone is_it (of_reached blocks from points routes)
none_of_reached is_it blocks from [] routes each = tt
none_of_reached is_it blocks from (point ∷ points) [] each = tt
none_of_reached is_it blocks from (point ∷ points) (None ∷ routes) each =
    none_of_reached is_it blocks (suc from) points routes (λ at other route low. each at other route (omega (arith, low)))
none_of_reached is_it blocks from (point ∷ points) (Some route ∷ routes) each =
    holds_of_both (λ block. is_it block.of ≡ false) (blocks from point route) (of_reached blocks (suc from) points routes)
    (each from point route (omega arith))
    (none_of_reached is_it blocks (suc from) points routes (λ at other route low. each at other route (omega (arith, low))))

-- a kind of block that none of a point's own is
pub record IsOfNoPoint (is_it : BlockOf → Bool) : Type 0 where
  pub before : (at : ℕ) → is_it (before_point at) ≡ false
  pub own : (at : ℕ) → is_it (of_point at) ≡ false
  pub next : (at : ℕ) → is_it (on_next_edge at) ≡ false

none_of_point : (is_it : BlockOf → Bool) (s : PlanScope) (at : ℕ) (point : Point) (route : Route)
    → IsOfNoPoint is_it
    → AreNone is_it (point_blocks s at point route)
none_of_point is_it s at point route foreign =
    holds_of_both (λ block. is_it block.of ≡ false)
    (make_block s (before_point at) at route.state route.made route.order None ++ _ ∷ [])
    (next_block s at (edge_by route edges.Next))
    (holds_of_both (λ block. is_it block.of ≡ false) (make_block s (before_point at) at route.state route.made route.order None) (_ ∷ [])
    (of_before route.made) (foreign.own at, tt))
    (of_next (edge_by route edges.Next)) where
      of_before : (made : List ℕ) → AreNone is_it (make_block s (before_point at) at route.state made route.order None)
      of_before [] = tt
      of_before (site ∷ sites) = (foreign.before at, tt)

      of_made : (edge : RouteEdge) (made : List ℕ) → AreNone is_it (make_block s (on_next_edge at) edge.to edge.state made edge.order None)
      of_made edge [] = tt
      of_made edge (site ∷ sites) = (foreign.next at, tt)

      of_next : (edge : Option RouteEdge) → AreNone is_it (next_block s at edge)
      of_next None = tt
      of_next (Some edge) = of_made edge edge.made

-- ---- the pad of an edge among those of a point

-- what is found in a list, with those before it, which are not it
pub record IsFoundIn (pad_of : RouteEdge → List Block) (is_it : BlockOf → Bool) (edges : List RouteEdge) (block : Block) : Type 0 where
  pub left : List Block
  pub right : List Block
  pub whole : flat_map pad_of edges ≡ left ++ (block ∷ right)
  pub none : AreNone is_it left

pub pad_stands : (pad_of : RouteEdge → List Block) (is_it : BlockOf → Bool) (wanted : RouteEdge → Bool) (edges : List RouteEdge)
    (edge : RouteEdge) (block : Block)
    → find wanted edges ≡ Some edge
    → pad_of edge ≡ block ∷ []
    → ((other : RouteEdge) → wanted other ≡ false → AreNone is_it (pad_of other))
    → IsFoundIn pad_of is_it edges block
pad_stands pad_of is_it wanted [] edge block found pad others = absurd (none-some edge found)
pad_stands pad_of is_it wanted (first ∷ edges) edge block found pad others =
    by (wanted first) refl (λ rest. pad_stands pad_of is_it wanted edges edge block rest pad others) where
      by : (is : Bool)
          → wanted first ≡ is
          → (find wanted edges ≡ Some edge → IsFoundIn pad_of is_it edges block)
          → IsFoundIn pad_of is_it (first ∷ edges) block
      by true is below =
          let same = same_Some first edge (sym (rw (is) refl) ∙ found) in record {
            left = [];
            right = flat_map pad_of edges;
            whole = ap (λ (one : RouteEdge). pad_of one ++ flat_map pad_of edges) same ∙ ap (λ (blocks : List Block). blocks ++ flat_map pad_of edges) pad;
            none = tt;
          }
      by false is below =
          let rest = below (sym (rw (is) refl) ∙ found) in record {
            left = pad_of first ++ rest.left;
            right = rest.right;
            whole =
                ap (λ (blocks : List Block). pad_of first ++ blocks) rest.whole
                ∙ sym (append_assoc (pad_of first) rest.left (block ∷ rest.right));
            none = holds_of_both (λ block. is_it block.of ≡ false) (pad_of first) rest.left (others first is) rest.none;
          }

-- ---- the pad of an edge among all blocks

-- a block of a number, before which none is one of its kind
pub record StandsFirst (s : PlanScope) (routes : Routes) (is_it : BlockOf → Bool) (block : Block) (number : ℕ) : Type 0 where
  pub is_there : slice_get (blocks_of s routes) number ≡ Some block
  pub none_before : AreNone is_it (take number (blocks_of s routes))
  -- behind it stand pads alone
  pub no_point_behind : (to : ℕ) → AreNone (begins_point to) (drop (suc number) (blocks_of s routes))

drop_left : {A : Type 0} (left right : List A) (item : A) → drop (suc (length left)) (left ++ (item ∷ right)) ≡ right
drop_left [] right item = refl
drop_left (first ∷ left) right item = drop_left left right item

none_right : (is_it : BlockOf → Bool) (left right : List Block) → AreNone is_it (left ++ right) → AreNone is_it right
none_right is_it [] right all = all
none_right is_it (first ∷ left) right all = none_right is_it left right all.1

stands_first : (s : PlanScope) (routes : Routes) (is_it : BlockOf → Bool) (block : Block) (left right : List Block)
    → blocks_of s routes ≡ left ++ (block ∷ right)
    → AreNone is_it left
    → ((to : ℕ) → AreNone (begins_point to) right)
    → StandsFirst s routes is_it block (length left)
stands_first s routes is_it block left right whole none pads = record {
  is_there = ap (λ (blocks : List Block). slice_get blocks (length left)) whole ∙ item_behind left right block;
  none_before =
      subst (AreNone is_it) (sym (ap (take (length left)) whole ∙ take_left left (block ∷ right))) none;
  no_point_behind = λ to.
      subst (AreNone (begins_point to)) (sym (ap (drop (suc (length left))) whole ∙ drop_left left right block)) (pads to);
}

-- the pads of some kind of all points, behind blocks that are none of them
pub pad_of_all : (pads : ℕ → Point → Route → List Block) (is_it : BlockOf → Bool) (at : ℕ) (points : List Point) (routes : Routes)
    (point : Point) (route : Route) (block : Block) (left right : List Block)
    → slice_get points at ≡ Some point
    → slice_get routes at ≡ Some (Some route)
    → ((other : ℕ) (one : Point) (onwards : Route) → other < at → AreNone is_it (pads other one onwards))
    → pads at point route ≡ left ++ (block ∷ right)
    → AreNone is_it left
    → (before : List Block) × (behind : List Block) × (of_reached pads 0 points routes ≡ before ++ (block ∷ behind)) × AreNone is_it before
pad_of_all pads is_it at points routes point route block left right is is_route earlier here none = (
  before ++ left,
  right ++ behind,
  parts ∙ ap (λ (blocks : List Block). before ++ (blocks ++ behind)) here
      ∙ ap (λ (blocks : List Block). before ++ blocks) (append_assoc left (block ∷ right) behind)
      ∙ sym (append_assoc before left (block ∷ (right ++ behind))),
  holds_of_both (λ block. is_it block.of ≡ false) before left
      (none_of_reached is_it pads 0 (take at points) (take at routes) (λ other one onwards low.
      earlier other one onwards (omega (arith, low, few at points)))) none,
) where
  before : List Block
  before = of_reached pads 0 (take at points) (take at routes)

  behind : List Block
  behind = of_reached pads (suc at) (drop (suc at) points) (drop (suc at) routes)

  parts : of_reached pads 0 points routes ≡ before ++ (pads at point route ++ behind)
  parts =
      subst (λ (n : ℕ). of_reached pads 0 points routes
      ≡ before ++ (pads n point route ++ of_reached pads (suc n) (drop (suc at) points) (drop (suc at) routes))) (omega arith)
      (reached_parts pads 0 at points routes point route is is_route)

  few : (n : ℕ) (items : List Point) → length (take n items) ≤ n
  few zero items = omega arith
  few (suc n) [] = omega arith
  few (suc n) (item ∷ items) = let below = few n items in omega (arith, below)

-- ---- pads of a sort

-- pads of a sort: what is made of an edge; and the block that is looked for, by its point and by its edge's kind
pub record PadsOf (pad_of : ℕ → Point → Route → RouteEdge → List Block) (is_it : BlockOf → Bool) (at : ℕ) (kind : EdgeKind)
    : Type 0 where
  pub other_point : (other : ℕ) (point : Point) (route : Route) (edge : RouteEdge)
      → (other == at) ≡ false
      → AreNone is_it (pad_of other point route edge)
  pub other_kind : (point : Point) (route : Route) (edge : RouteEdge)
      → is_kind edge.by kind ≡ false
      → AreNone is_it (pad_of at point route edge)

none_of_edges : (is_it : BlockOf → Bool) (pad_of : RouteEdge → List Block) (all : List RouteEdge)
    → ((edge : RouteEdge) → AreNone is_it (pad_of edge))
    → AreNone is_it (flat_map pad_of all)
none_of_edges is_it pad_of [] each = tt
none_of_edges is_it pad_of (edge ∷ others) each =
    holds_of_both (λ block. is_it block.of ≡ false) (pad_of edge) (flat_map pad_of others) (each edge) (none_of_edges is_it pad_of others each)

abbrev pads_by : (ℕ → Point → Route → RouteEdge → List Block) → ℕ → Point → Route → List Block
pads_by pad_of at point route = flat_map (pad_of at point route) route.edges

-- the pad of an edge among those of its sort
pads_stand : (pad_of : ℕ → Point → Route → RouteEdge → List Block) (is_it : BlockOf → Bool) (at : ℕ) (kind : EdgeKind)
    (points : List Point) (routes : Routes) (point : Point) (route : Route) (edge : RouteEdge) (block : Block)
    → PadsOf pad_of is_it at kind
    → slice_get points at ≡ Some point
    → slice_get routes at ≡ Some (Some route)
    → edge_by route kind ≡ Some edge
    → pad_of at point route edge ≡ block ∷ []
    → (before : List Block) × (behind : List Block)
    × (of_reached (pads_by pad_of) 0 points routes ≡ before ++ (block ∷ behind)) × AreNone is_it before
pads_stand pad_of is_it at kind points routes point route edge block sort is is_route found pad =
    pad_of_all (pads_by pad_of) is_it at points routes point route block here.left here.right is is_route earlier here.whole here.none where
      here : IsFoundIn (pad_of at point route) is_it route.edges block
      here = pad_stands (pad_of at point route) is_it (λ one. is_kind one.by kind) route.edges edge block found pad (sort.other_kind point route)

      earlier : (other : ℕ) (one : Point) (onwards : Route) → other < at → AreNone is_it (pads_by pad_of other one onwards)
      earlier other one onwards low =
          none_of_edges is_it (pad_of other one onwards) onwards.edges (λ edge. sort.other_point other one onwards edge (lower (other == at) refl)) where
            lower : (same : Bool) → (other == at) ≡ same → (other == at) ≡ false
            lower true e = absurd (omega (arith, low, eqb-true other at e))
            lower false e = e

-- the block of a pad
abbrev pub pad_block : PlanScope → BlockOf → RouteEdge → List ℕ → Block
pad_block s of edge made = record {
  of = of;
  at = edge.to;
  state = edge.state;
  items = making s edge.to edge.state made edge.order;
  leaves = Some edge.to;
}

-- make code of a pad that is none of those looked for
none_made : (is_it : BlockOf → Bool) (s : PlanScope) (of : BlockOf) (edge : RouteEdge) (made : List ℕ)
    → is_it of ≡ false
    → AreNone is_it (make_block s of edge.to edge.state made edge.order (Some edge.to))
none_made is_it s of edge [] none = tt
none_made is_it s of edge (site ∷ sites) none = (none, tt)

-- ---- pads begin no point

jumps_begin_none : (s : PlanScope) (to : ℕ) (points : List Point) (routes : Routes)
    → AreNone (begins_point to) (of_reached (jump_pads s) 0 points routes)
jumps_begin_none s to points routes =
    none_of_reached (begins_point to) (jump_pads s) 0 points routes (λ at point route low.
    none_of_edges (begins_point to) (λ edge. jump_pad_of s at (is_decided point route) edge edge.by) route.edges
    (λ edge. of_kind at edge (is_decided point route) edge.by)) where
      of_kind : (at : ℕ) (edge : RouteEdge) (decided : Bool) (by : EdgeKind) → AreNone (begins_point to) (jump_pad_of s at decided edge by)
      of_kind at edge false (edges.Jump one) = none_made (begins_point to) s (jump_pad at one) edge edge.made refl
      of_kind at edge true (edges.Jump one) = tt
      of_kind at edge false edges.Next = tt
      of_kind at edge true edges.Next = tt
      of_kind at edge false (edges.Handler one) = tt
      of_kind at edge true (edges.Handler one) = tt

handlers_begin_none : (s : PlanScope) (to : ℕ) (points : List Point) (routes : Routes)
    → AreNone (begins_point to) (of_reached (handler_pads s) 0 points routes)
handlers_begin_none s to points routes =
    none_of_reached (begins_point to) (handler_pads s) 0 points routes (λ at point route low.
    none_of_edges (begins_point to) (λ edge. handler_pad_of s at edge edge.by) route.edges (λ edge. of_kind at edge edge.by)) where
      of_kind : (at : ℕ) (edge : RouteEdge) (by : EdgeKind) → AreNone (begins_point to) (handler_pad_of s at edge by)
      of_kind at edge (edges.Handler one) = none_made (begins_point to) s (handler_pad at one) edge edge.made refl
      of_kind at edge edges.Next = tt
      of_kind at edge (edges.Jump one) = tt

-- ---- jump pads

jump_of_no_point : (at number : ℕ) → IsOfNoPoint (is_jump_pad at number)
jump_of_no_point at number = record { before = λ other. refl; own = λ other. refl; next = λ other. refl }

abbrev jump_pad_by : PlanScope → ℕ → Point → Route → RouteEdge → List Block
jump_pad_by s at point route edge = jump_pad_of s at (is_decided point route) edge edge.by

jump_sort : (s : PlanScope) (at number : ℕ) → PadsOf (jump_pad_by s) (is_jump_pad at number) at (edges.Jump number)
jump_sort s at number = record {
  other_point = λ other point route edge apart. of_kind other edge (is_decided point route) edge.by (λ one. rw (apart) refl);
  other_kind = λ point route edge apart.
      of_same edge (is_decided point route) edge.by refl apart;
} where
  of_kind : (other : ℕ) (edge : RouteEdge) (decided : Bool) (by : EdgeKind)
      → ((one : ℕ) → is_jump_pad at number (jump_pad other one) ≡ false)
      → AreNone (is_jump_pad at number) (jump_pad_of s other decided edge by)
  of_kind other edge false (edges.Jump one) none = none_made (is_jump_pad at number) s (jump_pad other one) edge edge.made (none one)
  of_kind other edge true (edges.Jump one) none = tt
  of_kind other edge false edges.Next none = tt
  of_kind other edge true edges.Next none = tt
  of_kind other edge false (edges.Handler one) none = tt
  of_kind other edge true (edges.Handler one) none = tt

  of_same : (edge : RouteEdge) (decided : Bool) (by : EdgeKind)
      → edge.by ≡ by
      → is_kind edge.by (edges.Jump number) ≡ false
      → AreNone (is_jump_pad at number) (jump_pad_of s at decided edge by)
  of_same edge false (edges.Jump one) is apart =
      none_made (is_jump_pad at number) s (jump_pad at one) edge edge.made
      (rw (eq-eqb at at refl, sym (ap (λ (k : EdgeKind). is_kind k (edges.Jump number)) is) ∙ apart) refl)
  of_same edge true (edges.Jump one) is apart = tt
  of_same edge false edges.Next is apart = tt
  of_same edge true edges.Next is apart = tt
  of_same edge false (edges.Handler one) is apart = tt
  of_same edge true (edges.Handler one) is apart = tt

-- Each jump edge on which objects are made has its pad, where the jump is not decided.
pub jump_pad_stands : (s : PlanScope) (routes : Routes) (at number : ℕ) (point : Point) (route : Route) (edge : RouteEdge) (site : ℕ)
    (sites : List ℕ)
    → slice_get s.flat.points at ≡ Some point
    → slice_get routes at ≡ Some (Some route)
    → is_decided point route ≡ false
    → edge_by route (edges.Jump number) ≡ Some edge
    → edge.by ≡ edges.Jump number
    → edge.made ≡ site ∷ sites
    → (place : ℕ) × StandsFirst s routes (is_jump_pad at number) (pad_block s (jump_pad at number) edge (site ∷ sites)) place
jump_pad_stands s routes at number point route edge site sites is is_route undecided found by made =
    of_all (pads_stand (jump_pad_by s) (is_jump_pad at number) at (edges.Jump number) s.flat.points routes point route edge block
    (jump_sort s at number) is is_route found (rw (undecided, by, made) refl)) where
      block : Block
      block = pad_block s (jump_pad at number) edge (site ∷ sites)

      own : List Block
      own = of_reached (point_blocks s) 0 s.flat.points routes

      handlers : List Block
      handlers = of_reached (handler_pads s) 0 s.flat.points routes

      of_all : (before : List Block) × (behind : List Block)
          × (of_reached (pads_by (jump_pad_by s)) 0 s.flat.points routes ≡ before ++ (block ∷ behind)) × AreNone (is_jump_pad at number) before
          → (place : ℕ) × StandsFirst s routes (is_jump_pad at number) block place
      of_all (before, behind, whole, none) = (
        length (own ++ before),
        stands_first s routes (is_jump_pad at number) block (own ++ before) (behind ++ handlers)
            (ap (λ (pads : List Block). own ++ pads ++ handlers) whole
            ∙ ap (λ (all : List Block). all ++ handlers) (sym (append_assoc own before (block ∷ behind)))
            ∙ append_assoc (own ++ before) (block ∷ behind) handlers)
            (holds_of_both (λ one. is_jump_pad at number one.of ≡ false) own before
            (none_of_reached (is_jump_pad at number) (point_blocks s) 0 s.flat.points routes
            (λ other one onwards low. none_of_point (is_jump_pad at number) s other one onwards (jump_of_no_point at number))) none)
            (λ to. holds_of_both (λ one. begins_point to one.of ≡ false) behind handlers
            (none_right (begins_point to) (before ++ block ∷ []) behind
            (subst (AreNone (begins_point to)) (whole ∙ sym (append_assoc before (block ∷ []) behind)) (jumps_begin_none s to s.flat.points routes)))
            (handlers_begin_none s to s.flat.points routes)),
      )

-- ---- handler pads

handler_of_no_point : (at number : ℕ) → IsOfNoPoint (is_handler_pad at number)
handler_of_no_point at number = record { before = λ other. refl; own = λ other. refl; next = λ other. refl }

abbrev handler_pad_by : PlanScope → ℕ → Point → Route → RouteEdge → List Block
handler_pad_by s at point route edge = handler_pad_of s at edge edge.by

handler_sort : (s : PlanScope) (at number : ℕ) → PadsOf (handler_pad_by s) (is_handler_pad at number) at (edges.Handler number)
handler_sort s at number = record {
  other_point = λ other point route edge apart. of_kind other edge edge.by (λ one. rw (apart) refl);
  other_kind = λ point route edge apart. of_same edge edge.by refl apart;
} where
  of_kind : (other : ℕ) (edge : RouteEdge) (by : EdgeKind)
      → ((one : ℕ) → is_handler_pad at number (handler_pad other one) ≡ false)
      → AreNone (is_handler_pad at number) (handler_pad_of s other edge by)
  of_kind other edge (edges.Handler one) none = none_made (is_handler_pad at number) s (handler_pad other one) edge edge.made (none one)
  of_kind other edge edges.Next none = tt
  of_kind other edge (edges.Jump one) none = tt

  of_same : (edge : RouteEdge) (by : EdgeKind)
      → edge.by ≡ by
      → is_kind edge.by (edges.Handler number) ≡ false
      → AreNone (is_handler_pad at number) (handler_pad_of s at edge by)
  of_same edge (edges.Handler one) is apart =
      none_made (is_handler_pad at number) s (handler_pad at one) edge edge.made
      (rw (eq-eqb at at refl, sym (ap (λ (k : EdgeKind). is_kind k (edges.Handler number)) is) ∙ apart) refl)
  of_same edge edges.Next is apart = tt
  of_same edge (edges.Jump one) is apart = tt

-- a jump pad is no handler's
no_jump_pads : (s : PlanScope) (at number : ℕ) (other : ℕ) (point : Point) (route : Route)
    → AreNone (is_handler_pad at number) (jump_pads s other point route)
no_jump_pads s at number other point route =
    none_of_edges (is_handler_pad at number) (jump_pad_by s other point route) route.edges (λ edge. of_kind edge (is_decided point route) edge.by) where
      of_kind : (edge : RouteEdge) (decided : Bool) (by : EdgeKind) → AreNone (is_handler_pad at number) (jump_pad_of s other decided edge by)
      of_kind edge false (edges.Jump one) = none_made (is_handler_pad at number) s (jump_pad other one) edge edge.made refl
      of_kind edge true (edges.Jump one) = tt
      of_kind edge false edges.Next = tt
      of_kind edge true edges.Next = tt
      of_kind edge false (edges.Handler one) = tt
      of_kind edge true (edges.Handler one) = tt

-- Each handler edge on which objects are made has its pad.
pub handler_pad_stands : (s : PlanScope) (routes : Routes) (at number : ℕ) (point : Point) (route : Route) (edge : RouteEdge) (site : ℕ)
    (sites : List ℕ)
    → slice_get s.flat.points at ≡ Some point
    → slice_get routes at ≡ Some (Some route)
    → edge_by route (edges.Handler number) ≡ Some edge
    → edge.by ≡ edges.Handler number
    → edge.made ≡ site ∷ sites
    → (place : ℕ) × StandsFirst s routes (is_handler_pad at number) (pad_block s (handler_pad at number) edge (site ∷ sites)) place
handler_pad_stands s routes at number point route edge site sites is is_route found by made =
    of_all (pads_stand (handler_pad_by s) (is_handler_pad at number) at (edges.Handler number) s.flat.points routes point route edge block
    (handler_sort s at number) is is_route found (rw (by, made) refl)) where
      block : Block
      block = pad_block s (handler_pad at number) edge (site ∷ sites)

      earlier : List Block
      earlier = of_reached (point_blocks s) 0 s.flat.points routes ++ of_reached (jump_pads s) 0 s.flat.points routes

      of_all : (before : List Block) × (behind : List Block)
          × (of_reached (pads_by (handler_pad_by s)) 0 s.flat.points routes ≡ before ++ (block ∷ behind))
          × AreNone (is_handler_pad at number) before
          → (place : ℕ) × StandsFirst s routes (is_handler_pad at number) block place
      of_all (before, behind, whole, none) = (
        length (earlier ++ before),
        stands_first s routes (is_handler_pad at number) block (earlier ++ before) behind
            (ap (λ (pads : List Block). earlier ++ pads) whole ∙ sym (append_assoc earlier before (block ∷ behind)))
            (holds_of_both (λ one. is_handler_pad at number one.of ≡ false) earlier before
            (holds_of_both (λ one. is_handler_pad at number one.of ≡ false) (of_reached (point_blocks s) 0 s.flat.points routes)
            (of_reached (jump_pads s) 0 s.flat.points routes)
            (none_of_reached (is_handler_pad at number) (point_blocks s) 0 s.flat.points routes
            (λ other one onwards low. none_of_point (is_handler_pad at number) s other one onwards (handler_of_no_point at number)))
            (none_of_reached (is_handler_pad at number) (jump_pads s) 0 s.flat.points routes
            (λ other one onwards low. no_jump_pads s at number other one onwards))) none)
            (λ to. none_right (begins_point to) (before ++ block ∷ []) behind
            (subst (AreNone (begins_point to)) (whole ∙ sym (append_assoc before (block ∷ []) behind)) (handlers_begin_none s to s.flat.points routes))),
      )

-- ---- a goto that is not written

-- Control comes to a point over blocks that write nothing: behind some of them stands the point's first block.
pub record ComesTo (to : ℕ) (behind : List Finished) : Type 0 where
  pub number : ℕ
  pub first : Finished
  pub is_there : slice_get behind number ≡ Some first
  pub begins : begins_point to first.block.of ≡ true
  pub empty : AllByRecursion (λ other. finished_items other ≡ []) (take number behind)

pub comes_over : (to : ℕ) (behind : List Finished) → comes_to to behind ≡ true → ComesTo to behind
comes_over to [] comes = absurd (false≢true comes)
comes_over to (one ∷ others) comes = by (begins_point to one.block.of) refl (is_empty (finished_items one)) refl (comes_over to others) where
  nothing : (items : _) → is_empty items ≡ true → items ≡ []
  nothing [] is = refl
  nothing (item ∷ items) is = absurd (false≢true is)

  by : (begins : Bool)
      → begins_point to one.block.of ≡ begins
      → (empty : Bool)
      → is_empty (finished_items one) ≡ empty
      → (comes_to to others ≡ true → ComesTo to others)
      → ComesTo to (one ∷ others)
  by true is empty is_empty_also below = record { number = 0; first = one; is_there = refl; begins = is; empty = tt }
  by false is true none below =
      let rest = below (sym (rw (is, none) refl) ∙ comes) in record {
        number = suc rest.number;
        first = rest.first;
        is_there = rest.is_there;
        begins = rest.begins;
        empty = (nothing (finished_items one) none, rest.empty);
      }
  by false is false some below = absurd (false≢true (sym (rw (is, some) refl) ∙ comes))

-- blocks that write nothing take no items, in either form
pub nothing_written : (form : Form) (blocks : List Finished)
    → AllByRecursion (λ (one : Finished). finished_items one ≡ []) blocks
    → written_items form blocks ≡ []
nothing_written form [] empty = refl
nothing_written short (one ∷ blocks) empty = rw (empty.0) (nothing_written short blocks empty.1)
nothing_written wide (one ∷ blocks) empty = rw (empty.0) (nothing_written wide blocks empty.1)

-- blocks that begin no point lead to none
pub comes_nowhere : (flat : FlatCode) (to : ℕ) (blocks : List Block) → AreNone (begins_point to) blocks → comes_to to (finish flat blocks) ≡ false
comes_nowhere flat to [] none = refl
comes_nowhere flat to (block ∷ blocks) none =
    by (is_empty (finished_items (record { block = block; end = end_of flat block (finish flat blocks) }))) refl
    (comes_nowhere flat to blocks none.1) where
      by : (empty : Bool)
          → is_empty (finished_items (record { block = block; end = end_of flat block (finish flat blocks) })) ≡ empty
          → comes_to to (finish flat blocks) ≡ false
          → comes_to to (finish flat (block ∷ blocks)) ≡ false
      by true is rest = rw (none.0, is) rest
      by false is rest = rw (none.0, is) refl

-- what holds of the first blocks holds of them finished
pub none_finished : (flat : FlatCode) (is_it : BlockOf → Bool) (blocks : List Block) (number : ℕ) → AreNone is_it (take number blocks)
    → AllByRecursion (λ one. is_it one.block.of ≡ false) (take number (finish flat blocks))
none_finished flat is_it blocks zero none = tt
none_finished flat is_it [] (suc number) none = tt
none_finished flat is_it (block ∷ blocks) (suc number) none = (none.0, none_finished flat is_it blocks number none.1)
