-- Where the blocks of written code stand: each behind those before it, and the one behind an instruction.
use Rattle.std.proofs.Common.{◌≡◌, ◌≢◌, ◌+◌, ◌==◌, ◌≤◌, ℕ, zero, suc, Bool, true, false, List, [], ◌∷◌, ◌++◌, length, drop, take, slice_get, Option, Some, None, refl, sym, ap, subst, ◌∙◌, arith}
use Rattle.std.specs.List.{AllByRecursion}
use Rattle.std.proofs.lemmas.Bool.{eq-eqb, eqb-true}
use Rattle.std.proofs.lemmas.Option.{none-some, same_Some}
use Rattle.std.proofs.lemmas.List.{append-nil, append_assoc, length-append}
use Rattle.flow_code.specs.FlatCode.{FlatCode}
use Rattle.flow_code.specs.declared.point.Point.{Point}
use Rattle.plan_flow.specs.PlanScope.{PlanScope}
use Rattle.plan_flow.specs.Written.Blocks.{Block, BlockOf, before_point, blocks_of, handler_pads, instruction_block, jump_pads, make_block, making, next_block, of_point, of_reached, on_next_edge, point_blocks}
use Rattle.plan_flow.specs.Written.Finish.{Finished, begins_point, end_of, finish}
use Rattle.plan_flow.specs.Written.Routes.{Route, RouteEdge, Routes, edge_by}
use Rattle.plan_flow.specs.Written.WrittenCode.{Form, block_items, start_from, written_items}
use Rattle.plan_flow.specs.declared.edge.EdgeKind.TheVariants as edges

-- ---- lists

-- the item behind a list that stands before it
pub item_behind : {A : Type 0} (left right : List A) (item : A) → slice_get (left ++ item ∷ right) (length left) ≡ Some item
item_behind [] right item = refl
item_behind (first ∷ left) right item = item_behind left right item

-- and the one behind that
pub second_behind : {A : Type 0} (left right : List A) (item next : A)
    → slice_get (left ++ item ∷ next ∷ right) (suc (length left)) ≡ Some next
second_behind [] right item next = refl
second_behind (first ∷ left) right item next = second_behind left right item next

pub third_behind : {A : Type 0} (left right : List A) (item next third : A)
    → slice_get (left ++ item ∷ next ∷ third ∷ right) (suc (suc (length left))) ≡ Some third
third_behind [] right item next third = refl
third_behind (first ∷ left) right item next third = third_behind left right item next third

pub take_left : {A : Type 0} (left right : List A) → take (length left) (left ++ right) ≡ left
take_left [] right = refl
take_left {A = A} (first ∷ left) right = ap (λ (found : List A). first ∷ found) (take_left left right)

pub holds_of_both : {A : Type 0} (P : A → Type 0) (left right : List A)
    → AllByRecursion P left
    → AllByRecursion P right
    → AllByRecursion P (left ++ right)
holds_of_both P [] right all others = others
holds_of_both P (first ∷ left) right all others = (all.0, holds_of_both P left right all.1 others)

-- an item of a number splits a list
pub split_at : {A : Type 0} (items : List A) (number : ℕ) (item : A)
    → slice_get items number ≡ Some item
    → items ≡ take number items ++ item ∷ drop (suc number) items
split_at {A = A} [] number item is = absurd (none-some item is)
split_at {A = A} (first ∷ items) zero item is = ap (λ (found : A). found ∷ items) (same_Some first item is)
split_at {A = A} (first ∷ items) (suc number) item is = ap (λ (found : List A). first ∷ found) (split_at items number item is)

-- ---- finished blocks are the blocks

-- a finished block of a number is the block of that number
pub finished_block : (flat : FlatCode) (blocks : List Block) (number : ℕ) (one : Finished)
    → slice_get (finish flat blocks) number ≡ Some one
    → slice_get blocks number ≡ Some one.block
finished_block flat [] number one is = absurd (none-some one is)
finished_block flat (block ∷ blocks) zero one is = ap (λ (found : Finished). Some found.block) (same_Some (record { block = block; end = end_of flat block (finish flat blocks) }) one is)
finished_block flat (block ∷ blocks) (suc number) one is = finished_block flat blocks number one is

-- and each block has one, which ends as those behind it say
pub block_finished : (flat : FlatCode) (blocks : List Block) (number : ℕ) (block : Block)
    → slice_get blocks number ≡ Some block
    → slice_get (finish flat blocks) number
    ≡ Some (record { block = block; end = end_of flat block (finish flat (drop (suc number) blocks)) })
block_finished flat [] number block is = absurd (none-some block is)
block_finished flat (first ∷ blocks) zero block is =
    ap (λ (found : Block). Some (record { block = found; end = end_of flat found (finish flat blocks) })) (same_Some first block is)
block_finished flat (first ∷ blocks) (suc number) block is = block_finished flat blocks number block is

-- ---- where a block starts

-- the number of the first item of the block of a number
abbrev pub first_item : Form → List Finished → ℕ → ℕ
first_item form blocks number = length (written_items form (take number blocks))

-- the next block starts behind the items of this one
pub next_starts : (form : Form) (blocks : List Finished) (number : ℕ) (one : Finished)
    → slice_get blocks number ≡ Some one
    → first_item form blocks (suc number) ≡ first_item form blocks number + length (block_items form one)
next_starts form [] number one is = absurd (none-some one is)
next_starts form (first ∷ blocks) zero one is =
    length-append (block_items form first) []
    ∙ ap (λ (found : Finished). length (block_items form found) + 0) (same_Some first one is)
    ∙ omega arith
next_starts form (first ∷ blocks) (suc number) one is =
    let head = length-append (block_items form first) (written_items form (take (suc number) blocks)) in
    let head_also = length-append (block_items form first) (written_items form (take number blocks)) in
    let below = next_starts form blocks number one is in
    omega (arith, head, head_also, below)

-- The first block that passes a test starts behind those before it.
pub starts_at : (form : Form) (is_it : BlockOf → Bool) (blocks : List Finished) (from number : ℕ) (one : Finished)
    → slice_get blocks number ≡ Some one
    → is_it one.block.of ≡ true
    → AllByRecursion (λ (other : Finished). is_it other.block.of ≡ false) (take number blocks)
    → start_from form is_it from blocks ≡ from + first_item form blocks number
starts_at form is_it [] from number one is here before = absurd (none-some one is)
starts_at form is_it (first ∷ blocks) from zero one is here before =
    rw (ap (λ (found : Finished). is_it found.block.of) (same_Some first one is) ∙ here) (omega arith)
starts_at form is_it (first ∷ blocks) from (suc number) one is here before =
    let head = length-append (block_items form first) (written_items form (take number blocks)) in
    let below = starts_at form is_it blocks (from + length (block_items form first)) number one is here before.1 in
    rw (before.0) (below ∙ omega (arith, head))

-- ---- blocks by point

-- what is made of a reached point stands between what is made of those before it and of those behind it
pub reached_parts : (blocks : ℕ → Point → Route → List Block) (from at : ℕ) (points : List Point) (routes : Routes) (point : Point)
    (route : Route)
    → slice_get points at ≡ Some point
    → slice_get routes at ≡ Some (Some route)
    → of_reached blocks from points routes
    ≡ of_reached blocks from (take at points) (take at routes)
    ++ (blocks (from + at) point route ++ of_reached blocks (suc (from + at)) (drop (suc at) points) (drop (suc at) routes))
reached_parts blocks from at [] routes point route is is_route = absurd (none-some point is)
reached_parts blocks from at (first ∷ points) [] point route is is_route = absurd (none-some (Some route) is_route)
reached_parts blocks from zero (first ∷ points) (None ∷ routes) point route is is_route =
    absurd (none-some route (same_Some None (Some route) is_route))
reached_parts blocks from zero (first ∷ points) (Some other ∷ routes) point route is is_route =
    subst (λ (n : ℕ). blocks from first other ++ of_reached blocks (suc from) points routes
    ≡ blocks n point route ++ of_reached blocks (suc n) points routes) (omega arith)
    (ap (λ (found : Point). blocks from found other ++ of_reached blocks (suc from) points routes) (same_Some first point is)
    ∙ ap (λ (found : Route). blocks from point found ++ of_reached blocks (suc from) points routes)
    (same_Some other route (same_Some (Some other) (Some route) is_route)))
reached_parts blocks from (suc at) (first ∷ points) (None ∷ routes) point route is is_route =
    subst (λ (n : ℕ). of_reached blocks (suc from) points routes
    ≡ of_reached blocks (suc from) (take at points) (take at routes)
    ++ (blocks n point route ++ of_reached blocks (suc n) (drop (suc at) points) (drop (suc at) routes))) (omega arith)
    (reached_parts blocks (suc from) at points routes point route is is_route)
reached_parts blocks from (suc at) (first ∷ points) (Some other ∷ routes) point route is is_route =
    ap (λ (found : List Block). blocks from first other ++ found)
    (subst (λ (n : ℕ). of_reached blocks (suc from) points routes
    ≡ of_reached blocks (suc from) (take at points) (take at routes)
    ++ (blocks n point route ++ of_reached blocks (suc n) (drop (suc at) points) (drop (suc at) routes))) (omega arith)
    (reached_parts blocks (suc from) at points routes point route is is_route))
    ∙ sym (append_assoc (blocks from first other) (of_reached blocks (suc from) (take at points) (take at routes))
    (blocks (from + suc at) point route ++ of_reached blocks (suc (from + suc at)) (drop (suc at) points) (drop (suc at) routes)))

drop_at : {A : Type 0} (items : List A) (number : ℕ) (item : A)
    → slice_get items number ≡ Some item
    → drop number items ≡ item ∷ drop (suc number) items
drop_at [] number item is = absurd (none-some item is)
drop_at {A = A} (first ∷ items) zero item is = ap (λ (found : A). found ∷ items) (same_Some first item is)
drop_at (first ∷ items) (suc number) item is = drop_at items number item is

-- what is made of the next point, if it is reached, comes first behind a point
pub next_part : (blocks : ℕ → Point → Route → List Block) (from at : ℕ) (points : List Point) (routes : Routes) (point : Point) (route : Route)
    → slice_get points at ≡ Some point
    → slice_get routes at ≡ Some (Some route)
    → of_reached blocks from (drop at points) (drop at routes)
    ≡ blocks from point route ++ of_reached blocks (suc from) (drop (suc at) points) (drop (suc at) routes)
next_part blocks from at points routes point route is is_route =
    rw (drop_at points at point is, drop_at routes at (Some route) is_route) refl

-- ---- the blocks of a point

other_number : (one to : ℕ) → (one ≡ to → ⊥) → (one == to) ≡ false
other_number one to other = by (one == to) refl where
  by : (same : Bool) → (one == to) ≡ same → (one == to) ≡ false
  by true is = absurd (other (eqb-true one to is))
  by false is = is

-- the blocks of make code before an instruction
abbrev pub before_blocks : PlanScope → ℕ → Route → List Block
before_blocks s at route = make_block s (before_point at) at route.state route.made route.order None

-- the block with which a point begins: of make code, where objects are made before its instruction
abbrev pub first_block : PlanScope → ℕ → Point → Route → List ℕ → Block
first_block s at point route [] = instruction_block s at point route
first_block s at point route (site ∷ sites) = record {
  of = before_point at;
  at = at;
  state = route.state;
  items = making s at route.state (site ∷ sites) route.order;
  leaves = None;
}

abbrev pub blocks_behind : PlanScope → ℕ → Point → Route → List ℕ → List Block
blocks_behind s at point route [] = next_block s at (edge_by route edges.Next)
blocks_behind s at point route (site ∷ sites) =
    instruction_block s at point route ∷ next_block s at (edge_by route edges.Next)

pub begins_with_first : (s : PlanScope) (at : ℕ) (point : Point) (route : Route)
    → point_blocks s at point route
    ≡ first_block s at point route route.made ∷ blocks_behind s at point route route.made
begins_with_first s at point route = by route.made refl where
  by : (made : List ℕ) → route.made ≡ made
      → point_blocks s at point route ≡ first_block s at point route made ∷ blocks_behind s at point route made
  by [] is = rw (is) refl
  by (site ∷ sites) is = rw (is) refl

pub first_begins : (s : PlanScope) (at : ℕ) (point : Point) (route : Route) (made : List ℕ)
    → begins_point at (first_block s at point route made).of ≡ true
first_begins s at point route [] = eq-eqb at at refl
first_begins s at point route (site ∷ sites) = eq-eqb at at refl

-- no block of a point is the first of another
none_begins : (s : PlanScope) (to at : ℕ) (point : Point) (route : Route)
    → (at ≡ to → ⊥)
    → AllByRecursion (λ (block : Block). begins_point to block.of ≡ false) (point_blocks s at point route)
none_begins s to at point route other =
    holds_of_both (λ block. begins_point to block.of ≡ false) (before_blocks s at route ++ instruction_block s at point route ∷ [])
    (next_block s at (edge_by route edges.Next))
    (holds_of_both (λ block. begins_point to block.of ≡ false) (before_blocks s at route) (instruction_block s at point route ∷ []) (of_before route.made) (other_number at to other, tt))
    (of_next (edge_by route edges.Next)) where
      of_before : (made : List ℕ)
          → AllByRecursion (λ (block : Block). begins_point to block.of ≡ false) (make_block s (before_point at) at route.state made route.order None)
      of_before [] = tt
      of_before (site ∷ sites) = (other_number at to other, tt)

      of_made : (edge : RouteEdge) (made : List ℕ)
          → AllByRecursion (λ (block : Block). begins_point to block.of ≡ false)
          (make_block s (on_next_edge at) edge.to edge.state made edge.order None)
      of_made edge [] = tt
      of_made edge (site ∷ sites) = (refl, tt)

      of_next : (edge : Option RouteEdge) → AllByRecursion (λ (block : Block). begins_point to block.of ≡ false) (next_block s at edge)
      of_next None = tt
      of_next (Some edge) = of_made edge edge.made

pub none_begin : (s : PlanScope) (to from : ℕ) (points : List Point) (routes : Routes)
    → from + length points ≤ to
    → AllByRecursion (λ (block : Block). begins_point to block.of ≡ false) (of_reached (point_blocks s) from points routes)
none_begin s to from [] routes few = tt
none_begin s to from (point ∷ points) [] few = tt
none_begin s to from (point ∷ points) (None ∷ routes) few = none_begin s to (suc from) points routes (omega (arith, few))
none_begin s to from (point ∷ points) (Some route ∷ routes) few =
    holds_of_both (λ block. begins_point to block.of ≡ false) (point_blocks s from point route) (of_reached (point_blocks s) (suc from) points routes)
    (none_begins s to from point route (λ same. absurd (omega (arith, few, same))))
    (none_begin s to (suc from) points routes (omega (arith, few)))

-- ---- all blocks

-- what is made of points before one, and all that stands behind its own blocks
abbrev pub blocks_left : PlanScope → Routes → ℕ → List Block
blocks_left s routes at = of_reached (point_blocks s) 0 (take at s.flat.points) (take at routes)

abbrev pub pads_of : PlanScope → Routes → List Block
pads_of s routes =
    of_reached (jump_pads s) 0 s.flat.points routes ++ of_reached (handler_pads s) 0 s.flat.points routes

abbrev pub points_from : PlanScope → Routes → ℕ → List Block
points_from s routes at = of_reached (point_blocks s) at (drop at s.flat.points) (drop at routes)

abbrev pub blocks_right : PlanScope → Routes → ℕ → List Block
blocks_right s routes at = points_from s routes at ++ pads_of s routes

from_start : (s : PlanScope) (routes : Routes) (at : ℕ) (point : Point) (route : Route)
    → slice_get s.flat.points at ≡ Some point
    → slice_get routes at ≡ Some (Some route)
    → of_reached (point_blocks s) 0 s.flat.points routes
    ≡ blocks_left s routes at ++ (point_blocks s at point route ++ points_from s routes (suc at))
from_start s routes at point route is is_route =
    subst (λ (n : ℕ). of_reached (point_blocks s) 0 s.flat.points routes
    ≡ blocks_left s routes at ++ (point_blocks s n point route
    ++ of_reached (point_blocks s) (suc n) (drop (suc at) s.flat.points) (drop (suc at) routes))) (omega arith)
    (reached_parts (point_blocks s) 0 at s.flat.points routes point route is is_route)

-- the blocks from those of a reached point on
pub from_point : (s : PlanScope) (routes : Routes) (at : ℕ) (point : Point) (route : Route)
    → slice_get s.flat.points at ≡ Some point
    → slice_get routes at ≡ Some (Some route)
    → blocks_of s routes ≡ blocks_left s routes at ++ (point_blocks s at point route ++ blocks_right s routes (suc at))
from_point s routes at point route is is_route =
    append_assoc (of_reached (point_blocks s) 0 s.flat.points routes) (of_reached (jump_pads s) 0 s.flat.points routes)
    (of_reached (handler_pads s) 0 s.flat.points routes)
    ∙ ap (λ (found : List Block). found ++ pads_of s routes) (from_start s routes at point route is is_route)
    ∙ append_assoc (blocks_left s routes at) (point_blocks s at point route ++ points_from s routes (suc at)) (pads_of s routes)
    ∙ ap (λ (found : List Block). blocks_left s routes at ++ found) (append_assoc (point_blocks s at point route) (points_from s routes (suc at)) (pads_of s routes))

-- The first block of a reached point: its number, and that no earlier one begins the point.
pub record IsFirstOf (s : PlanScope) (routes : Routes) (at : ℕ) (point : Point) (route : Route) (number : ℕ) : Type 0 where
  pub is_there : slice_get (blocks_of s routes) number ≡ Some (first_block s at point route route.made)
  pub none_before : AllByRecursion (λ (block : Block). begins_point at block.of ≡ false) (take number (blocks_of s routes))

pub first_of : (s : PlanScope) (routes : Routes) (at : ℕ) (point : Point) (route : Route)
    → slice_get s.flat.points at ≡ Some point
    → slice_get routes at ≡ Some (Some route)
    → IsFirstOf s routes at point route (length (blocks_left s routes at))
first_of s routes at point route is is_route = record {
  is_there =
      ap (λ (found : List Block). slice_get found (length (blocks_left s routes at))) whole
      ∙ item_behind (blocks_left s routes at) (blocks_behind s at point route route.made ++ blocks_right s routes (suc at))
      (first_block s at point route route.made);
  none_before =
      subst (AllByRecursion (λ (block : Block). begins_point at block.of ≡ false))
      (sym (ap (take (length (blocks_left s routes at))) whole
      ∙ take_left (blocks_left s routes at) (first_block s at point route route.made
      ∷ (blocks_behind s at point route route.made ++ blocks_right s routes (suc at)))))
      (none_begin s at 0 (take at s.flat.points) (take at routes) (omega (arith, length_take_le at s.flat.points)));
} where
  whole : blocks_of s routes
      ≡ blocks_left s routes at ++ (first_block s at point route route.made
      ∷ (blocks_behind s at point route route.made ++ blocks_right s routes (suc at)))
  whole =
      from_point s routes at point route is is_route
      ∙ ap (λ (found : List Block). blocks_left s routes at ++ (found ++ blocks_right s routes (suc at))) (begins_with_first s at point route)

  length_take_le : {A : Type 0} (n : ℕ) (items : List A) → length (take n items) ≤ n
  length_take_le zero items = omega arith
  length_take_le (suc n) [] = omega arith
  length_take_le {A = A} (suc n) (item ∷ items) = let below = length_take_le n items in omega (arith, below)

-- ---- the block of an instruction, and the one behind it

-- the number of the block of a point's instruction
abbrev pub own_number : PlanScope → Routes → ℕ → Route → ℕ
own_number s routes at route = length (blocks_left s routes at ++ before_blocks s at route)

-- what stands behind the block of an instruction
abbrev pub behind_own : PlanScope → Routes → ℕ → Route → List Block
behind_own s routes at route =
    next_block s at (edge_by route edges.Next) ++ blocks_right s routes (suc at)

pub split_own : (s : PlanScope) (routes : Routes) (at : ℕ) (point : Point) (route : Route)
    → slice_get s.flat.points at ≡ Some point
    → slice_get routes at ≡ Some (Some route)
    → blocks_of s routes
    ≡ (blocks_left s routes at ++ before_blocks s at route) ++ (instruction_block s at point route ∷ behind_own s routes at route)
split_own s routes at point route is is_route =
    from_point s routes at point route is is_route
    ∙ ap (λ (found : List Block). blocks_left s routes at ++ found)
    (append_assoc (before_blocks s at route ++ instruction_block s at point route ∷ []) (next_block s at (edge_by route edges.Next))
    (blocks_right s routes (suc at))
    ∙ append_assoc (before_blocks s at route) (instruction_block s at point route ∷ []) (behind_own s routes at route))
    ∙ sym (append_assoc (blocks_left s routes at) (before_blocks s at route)
    (instruction_block s at point route ∷ behind_own s routes at route))

pub own_of : (s : PlanScope) (routes : Routes) (at : ℕ) (point : Point) (route : Route)
    → slice_get s.flat.points at ≡ Some point
    → slice_get routes at ≡ Some (Some route)
    → slice_get (blocks_of s routes) (own_number s routes at route) ≡ Some (instruction_block s at point route)
own_of s routes at point route is is_route =
    ap (λ (found : List Block). slice_get found (own_number s routes at route)) (split_own s routes at point route is is_route)
    ∙ item_behind (blocks_left s routes at ++ before_blocks s at route) (behind_own s routes at route) (instruction_block s at point route)

-- the block of make code on the edge to the next point
abbrev pub made_next : PlanScope → ℕ → RouteEdge → List ℕ → Block
made_next s at edge made = record {
  of = on_next_edge at;
  at = edge.to;
  state = edge.state;
  items = making s edge.to edge.state made edge.order;
  leaves = None;
}

-- Behind the block of an instruction from which an edge leads to the next point stands that of the make code on the edge, or the first one of the next
-- point.
pub data StandsNext (s : PlanScope) (routes : Routes) (at : ℕ) (route : Route) (next : Point) (onwards : Route) (edge : RouteEdge)
    : Type 0 where
  makes_first : edge.made ≢ []
      → slice_get (blocks_of s routes) (suc (own_number s routes at route)) ≡ Some (made_next s at edge edge.made)
      → slice_get (blocks_of s routes) (suc (suc (own_number s routes at route))) ≡ Some (first_block s (suc at) next onwards onwards.made)
      → StandsNext s routes at route next onwards edge
  goes_on : edge.made ≡ []
      → slice_get (blocks_of s routes) (suc (own_number s routes at route)) ≡ Some (first_block s (suc at) next onwards onwards.made)
      → StandsNext s routes at route next onwards edge

pub next_of : (s : PlanScope) (routes : Routes) (at : ℕ) (point next : Point) (route onwards : Route) (edge : RouteEdge)
    → slice_get s.flat.points at ≡ Some point
    → slice_get routes at ≡ Some (Some route)
    → slice_get s.flat.points (suc at) ≡ Some next
    → slice_get routes (suc at) ≡ Some (Some onwards)
    → edge_by route edges.Next ≡ Some edge
    → StandsNext s routes at route next onwards edge
next_of s routes at point next route onwards edge is is_route is_next is_onwards is_edge = by edge.made refl where
  left : List Block
  left = blocks_left s routes at ++ before_blocks s at route

  right : List Block
  right = blocks_behind s (suc at) next onwards onwards.made ++ blocks_right s routes (suc (suc at))

  onwards_first : blocks_right s routes (suc at) ≡ first_block s (suc at) next onwards onwards.made ∷ right
  onwards_first =
      ap (λ (found : List Block). found ++ pads_of s routes)
      (next_part (point_blocks s) (suc at) (suc at) s.flat.points routes next onwards is_next is_onwards)
      ∙ append_assoc (point_blocks s (suc at) next onwards) (points_from s routes (suc (suc at))) (pads_of s routes)
      ∙ ap (λ (found : List Block). found ++ blocks_right s routes (suc (suc at))) (begins_with_first s (suc at) next onwards)

  whole : blocks_of s routes
      ≡ left ++ (instruction_block s at point route
      ∷ (make_block s (on_next_edge at) edge.to edge.state edge.made edge.order None
      ++ (first_block s (suc at) next onwards onwards.made ∷ right)))
  whole =
      split_own s routes at point route is is_route
      ∙ ap (λ (found : Option RouteEdge). left ++ (instruction_block s at point route
      ∷ (next_block s at found ++ blocks_right s routes (suc at)))) is_edge
      ∙ ap (λ (found : List Block). left ++ (instruction_block s at point route
      ∷ (make_block s (on_next_edge at) edge.to edge.state edge.made edge.order None ++ found))) onwards_first

  by : (made : List ℕ) → edge.made ≡ made → StandsNext s routes at route next onwards edge
  by [] none =
      goes_on none (ap (λ (found : List Block). slice_get found (suc (length left)))
      (whole ∙ ap (λ (made : List ℕ). left ++ (instruction_block s at point route
      ∷ (make_block s (on_next_edge at) edge.to edge.state made edge.order None
      ++ (first_block s (suc at) next onwards onwards.made ∷ right)))) none)
      ∙ second_behind left right (instruction_block s at point route) (first_block s (suc at) next onwards onwards.made))
  by (site ∷ sites) some =
      makes_first (λ none. absurd (some_none none))
      (ap (λ (found : List Block). slice_get found (suc (length left))) made
      ∙ second_behind left (first_block s (suc at) next onwards onwards.made ∷ right) (instruction_block s at point route)
      (made_next s at edge (site ∷ sites))
      ∙ ap (λ (found : List ℕ). Some (made_next s at edge found)) (sym some))
      (ap (λ (found : List Block). slice_get found (suc (suc (length left)))) made
      ∙ third_behind left right (instruction_block s at point route) (made_next s at edge (site ∷ sites))
      (first_block s (suc at) next onwards onwards.made)) where
        some_none : edge.made ≡ [] → ⊥
        some_none none = absurd (cc (sym some ∙ none))

        made : blocks_of s routes
            ≡ left ++ (instruction_block s at point route ∷ made_next s at edge (site ∷ sites)
            ∷ first_block s (suc at) next onwards onwards.made ∷ right)
        made =
            whole ∙ ap (λ (made : List ℕ). left ++ (instruction_block s at point route
            ∷ (make_block s (on_next_edge at) edge.to edge.state made edge.order None
            ++ (first_block s (suc at) next onwards onwards.made ∷ right)))) some

-- ---- the numbers of blocks

taken_next : (blocks : ℕ → Point → Route → List Block) (from at : ℕ) (points : List Point) (routes : Routes) (point : Point) (route : Route)
    → slice_get points at ≡ Some point
    → slice_get routes at ≡ Some (Some route)
    → of_reached blocks from (take (suc at) points) (take (suc at) routes)
    ≡ of_reached blocks from (take at points) (take at routes) ++ blocks (from + at) point route
taken_next blocks from at [] routes point route is is_route = absurd (none-some point is)
taken_next blocks from at (first ∷ points) [] point route is is_route = absurd (none-some (Some route) is_route)
taken_next blocks from zero (first ∷ points) (None ∷ routes) point route is is_route =
    absurd (none-some route (same_Some None (Some route) is_route))
taken_next blocks from zero (first ∷ points) (Some other ∷ routes) point route is is_route =
    append-nil (blocks from first other)
    ∙ ap (λ (found : Point). blocks from found other) (same_Some first point is)
    ∙ ap (λ (found : Route). blocks from point found) (same_Some other route (same_Some (Some other) (Some route) is_route))
    ∙ ap (λ (n : ℕ). blocks n point route) here where
      here : from ≡ from + 0
      here = omega arith
taken_next blocks from (suc at) (first ∷ points) (None ∷ routes) point route is is_route =
    taken_next blocks (suc from) at points routes point route is is_route
    ∙ ap (λ (n : ℕ). of_reached blocks (suc from) (take at points) (take at routes) ++ blocks n point route) here where
      here : suc from + at ≡ from + suc at
      here = omega arith
taken_next blocks from (suc at) (first ∷ points) (Some other ∷ routes) point route is is_route =
    ap (λ (found : List Block). blocks from first other ++ found) (taken_next blocks (suc from) at points routes point route is is_route)
    ∙ sym (append_assoc (blocks from first other) (of_reached blocks (suc from) (take at points) (take at routes)) (blocks (suc from + at) point route))
    ∙ ap (λ (n : ℕ). (blocks from first other ++ of_reached blocks (suc from) (take at points) (take at routes)) ++ blocks n point route) here where
      here : suc from + at ≡ from + suc at
      here = omega arith

-- the number of the first block of the point behind a reached one
pub next_first : (s : PlanScope) (routes : Routes) (at : ℕ) (point : Point) (route : Route) (edge : RouteEdge) (site : ℕ) (sites : List ℕ)
    → slice_get s.flat.points at ≡ Some point
    → slice_get routes at ≡ Some (Some route)
    → edge_by route edges.Next ≡ Some edge
    → edge.made ≡ site ∷ sites
    → suc (suc (own_number s routes at route)) ≡ length (blocks_left s routes (suc at))
next_first s routes at point route edge site sites is is_route is_edge made =
    omega (arith, own, all, parts, before, last) where
      own : own_number s routes at route ≡ length (blocks_left s routes at) + length (before_blocks s at route)
      own = length-append (blocks_left s routes at) (before_blocks s at route)

      here : 0 + at ≡ at
      here = omega arith

      all : length (blocks_left s routes (suc at)) ≡ length (blocks_left s routes at) + length (point_blocks s at point route)
      all =
          ap length (taken_next (point_blocks s) 0 at s.flat.points routes point route is is_route
          ∙ ap (λ (n : ℕ). blocks_left s routes at ++ point_blocks s n point route) here)
          ∙ length-append (blocks_left s routes at) (point_blocks s at point route)

      parts : length (point_blocks s at point route)
          ≡ length (before_blocks s at route ++ instruction_block s at point route ∷ []) + length (next_block s at (edge_by route edges.Next))
      parts = length-append (before_blocks s at route ++ instruction_block s at point route ∷ []) (next_block s at (edge_by route edges.Next))

      before : length (before_blocks s at route ++ instruction_block s at point route ∷ []) ≡ length (before_blocks s at route) + 1
      before = length-append (before_blocks s at route) (instruction_block s at point route ∷ [])

      last : length (next_block s at (edge_by route edges.Next)) ≡ 1
      last = rw (is_edge, made) refl

-- of a point before whose instruction nothing is made the first block is that of its instruction, and else the next one is
pub own_first : (s : PlanScope) (routes : Routes) (at : ℕ) (route : Route)
    → route.made ≡ []
    → own_number s routes at route ≡ length (blocks_left s routes at)
own_first s routes at route none = rw (none) (ap length (append-nil (blocks_left s routes at)))

pub own_second : (s : PlanScope) (routes : Routes) (at : ℕ) (route : Route) (site : ℕ) (sites : List ℕ)
    → route.made ≡ site ∷ sites
    → own_number s routes at route ≡ suc (length (blocks_left s routes at))
own_second s routes at route site sites some =
    length-append (blocks_left s routes at) (before_blocks s at route) ∙ omega (arith, one) where
      one : length (before_blocks s at route) ≡ 1
      one = rw (some) refl
