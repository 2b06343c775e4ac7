-- Where a goto is not written: the target's first block stands behind, and the blocks between write nothing.
use Rattle.std.proofs.Common.{◌≡◌, ◌≢◌, ◌⊎◌, ◌≤◌, ◌<◌, ◌==◌, ◌+◌, ◌++◌, ℕ, zero, suc, Bool, true, false, List, [], ◌∷◌, drop, length, slice_get, take, Some, None, Option, if◌then◌else◌, refl, sym, ap, ◌∙◌, arith, inl, inr}
use Rattle.std.specs.List.{AllByRecursion, flat_map}
use Rattle.std.proofs.lemmas.Bool.{eqb-true, false≢true}
use Rattle.std.proofs.lemmas.Grind.{flat_map-append}
use Rattle.std.proofs.lemmas.List.{append_assoc, length-append}
use Rattle.std.proofs.lemmas.Option.{none-some}
use Rattle.class_model.specs.Laws.Lists.{at_index}
use Rattle.flow_code.specs.FlatCode.{FlatCode}
use Rattle.flow_code.specs.declared.point.Point.{Point}
use Rattle.plan_flow.specs.Laws.WrittenBlocks.{before_blocks, behind_own, blocks_left, blocks_right, finished_block, first_begins, first_block, first_item, first_of, holds_of_both, none_begin, own_number, pads_of, points_from, split_own}
use Rattle.plan_flow.specs.Laws.WrittenPads.{AreNone, ComesTo, comes_over, none_of_reached, nothing_written}
use Rattle.plan_flow.specs.PlanScope.{PlanScope}
use Rattle.plan_flow.specs.Written.Blocks.{Block, BlockOf, before_point, blocks_of, handler_pad, handler_pad_of, handler_pads, instruction_block, is_decided, jump_pad, jump_pad_of, jump_pads, make_block, next_block, of_reached, on_next_edge, point_blocks}
use Rattle.plan_flow.specs.Written.Finish.{Finished, begins_point, comes_to, empty_end, end_of, finish, finished_items, goto_end, is_empty, no_end, nop_end}
use Rattle.plan_flow.specs.Written.Routes.{Route, RouteEdge, Routes, edge_by}
use Rattle.plan_flow.specs.Written.WrittenCode.{Form, block_items, written_items}
use Rattle.making_code.specs.StateFrames.{differ}
use Rattle.plan_flow.specs.Written.WrittenFrames.{written_frame}
use Rattle.plan_flow.specs.declared.edge.EdgeKind.{EdgeKind}
use Rattle.plan_flow.specs.declared.edge.EdgeKind.TheVariants as edges
use Rattle.written_runs.specs.Laws.Templates.Stacks.{get_dropped, get_left, split_place}

-- ---- blocks that begin no point

no_point : (one to : ℕ) → (one ≡ to → ⊥) → (one == to) ≡ false
no_point one to differ = by (one == to) refl where
  by : (same : Bool) → (one == to) ≡ same → (one == to) ≡ false
  by true is = absurd (differ (eqb-true one to is))
  by false is = is

module _ (s : PlanScope) (to : ℕ) where
  abbrev None_begins : List Block → Type 0
  None_begins blocks = AreNone (begins_point to) blocks

  none_made : (of : BlockOf) (edge : RouteEdge) (made : List ℕ) (leaves : Option ℕ)
      → begins_point to of ≡ false
      → None_begins (make_block s of edge.to edge.state made edge.order leaves)
  none_made of edge [] leaves none = tt
  none_made of edge (site ∷ sites) leaves none = (none, tt)

  none_next : (at : ℕ) (edge : Option RouteEdge) → None_begins (next_block s at edge)
  none_next at None = tt
  none_next at (Some edge) = none_made (on_next_edge at) edge edge.made None refl

  none_before_it : (at : ℕ) (route : Route) → (at ≡ to → ⊥) → None_begins (before_blocks s at route)
  none_before_it at route differ = by route.made where
    by : (made : List ℕ) → None_begins (make_block s (before_point at) at route.state made route.order None)
    by [] = tt
    by (site ∷ sites) = (no_point at to differ, tt)

  none_of_point : (at : ℕ) (point : Point) (route : Route) → (at ≡ to → ⊥) → None_begins (point_blocks s at point route)
  none_of_point at point route differ =
      holds_of_both (λ block. begins_point to block.of ≡ false) (before_blocks s at route ++ instruction_block s at point route ∷ [])
      (next_block s at (edge_by route edges.Next))
      (holds_of_both (λ block. begins_point to block.of ≡ false) (before_blocks s at route) (instruction_block s at point route ∷ [])
      (none_before_it at route differ) (no_point at to differ, tt)) (none_next at (edge_by route edges.Next))

  none_below : (from : ℕ) (points : List Point) (routes : Routes) → to < from → None_begins (of_reached (point_blocks s) from points routes)
  none_below from [] routes low = tt
  none_below from (point ∷ points) [] low = tt
  none_below from (point ∷ points) (None ∷ routes) low = none_below (suc from) points routes (omega (arith, low))
  none_below from (point ∷ points) (Some route ∷ routes) low =
      holds_of_both (λ block. begins_point to block.of ≡ false) (point_blocks s from point route)
      (of_reached (point_blocks s) (suc from) points routes) (none_of_point from point route (λ same. absurd (omega (arith, low, same))))
      (none_below (suc from) points routes (omega (arith, low)))

  none_in_jumps : (at : ℕ) (decided : Bool) (all : List RouteEdge)
      → None_begins (flat_map (λ edge. jump_pad_of s at decided edge edge.by) all)
  none_in_jumps at decided [] = tt
  none_in_jumps at decided (edge ∷ all) =
      holds_of_both (λ block. begins_point to block.of ≡ false) (jump_pad_of s at decided edge edge.by)
      (flat_map (λ one. jump_pad_of s at decided one one.by) all) (by decided edge.by) (none_in_jumps at decided all) where
        by : (is : Bool) (kind : EdgeKind) → None_begins (jump_pad_of s at is edge kind)
        by false (edges.Jump number) = none_made (jump_pad at number) edge edge.made (Some edge.to) refl
        by true (edges.Jump number) = tt
        by false edges.Next = tt
        by true edges.Next = tt
        by false (edges.Handler number) = tt
        by true (edges.Handler number) = tt

  none_in_handlers : (at : ℕ) (all : List RouteEdge) → None_begins (flat_map (λ edge. handler_pad_of s at edge edge.by) all)
  none_in_handlers at [] = tt
  none_in_handlers at (edge ∷ all) =
      holds_of_both (λ block. begins_point to block.of ≡ false) (handler_pad_of s at edge edge.by)
      (flat_map (λ one. handler_pad_of s at one one.by) all) (by edge.by) (none_in_handlers at all) where
        by : (kind : EdgeKind) → None_begins (handler_pad_of s at edge kind)
        by (edges.Handler number) = none_made (handler_pad at number) edge edge.made (Some edge.to) refl
        by edges.Next = tt
        by (edges.Jump number) = tt

  none_in_pads : (routes : Routes) → None_begins (pads_of s routes)
  none_in_pads routes =
      holds_of_both (λ block. begins_point to block.of ≡ false) (of_reached (jump_pads s) 0 s.flat.points routes)
      (of_reached (handler_pads s) 0 s.flat.points routes)
      (none_of_reached (begins_point to) (jump_pads s) 0 s.flat.points routes
      (λ at point route low. none_in_jumps at (is_decided point route) route.edges))
      (none_of_reached (begins_point to) (handler_pads s) 0 s.flat.points routes (λ at point route low. none_in_handlers at route.edges))

  none_behind : (routes : Routes) (at : ℕ) (route : Route) → to ≤ at → None_begins (behind_own s routes at route)
  none_behind routes at route low =
      holds_of_both (λ block. begins_point to block.of ≡ false) (next_block s at (edge_by route edges.Next)) (blocks_right s routes (suc at))
      (none_next at (edge_by route edges.Next))
      (holds_of_both (λ block. begins_point to block.of ≡ false) (points_from s routes (suc at)) (pads_of s routes)
      (none_below (suc at) (drop (suc at) s.flat.points) (drop (suc at) routes) (omega (arith, low))) (none_in_pads routes))

  none_left : (routes : Routes) (at : ℕ) (point : Point) (route : Route) → at < to
      → None_begins ((blocks_left s routes at ++ before_blocks s at route) ++ instruction_block s at point route ∷ [])
  none_left routes at point route high =
      holds_of_both (λ block. begins_point to block.of ≡ false) (blocks_left s routes at ++ before_blocks s at route)
      (instruction_block s at point route ∷ [])
      (holds_of_both (λ block. begins_point to block.of ≡ false) (blocks_left s routes at) (before_blocks s at route)
      (none_begin s to 0 (take at s.flat.points) (take at routes) (let few = taken at s.flat.points in omega (arith, high, few)))
      (none_before_it at route differ)) (no_point at to differ, tt) where
        differ : at ≡ to → ⊥
        differ same = absurd (omega (arith, high, same))

        taken : (n : ℕ) (items : List Point) → length (take n items) ≤ n
        taken zero items = omega arith
        taken (suc n) [] = omega arith
        taken (suc n) (item ∷ items) = let rest = taken n items in omega (arith, rest)

-- ---- what stands behind

drop_finished : (flat : FlatCode) (number : ℕ) (blocks : List Block) → drop number (finish flat blocks) ≡ finish flat (drop number blocks)
drop_finished flat zero blocks = refl
drop_finished flat (suc number) [] = refl
drop_finished flat (suc number) (block ∷ blocks) = drop_finished flat number blocks

drop_front : {A : Type 0} (left right : List A) (item : A) → drop (suc (length left)) (left ++ (item ∷ right)) ≡ right
drop_front [] right item = refl
drop_front (first ∷ left) right item = drop_front left right item

abbrev none_of : (A : Type 0) → List A
none_of A = []

take_none : {A : Type 0} (count : ℕ) → take count (none_of A) ≡ []
take_none zero = refl
take_none (suc count) = refl

take_sum : {A : Type 0} (n m : ℕ) (items : List A) → take (n + m) items ≡ take n items ++ take m (drop n items)
take_sum {A = A} zero m items = let zeroth : 0 + m ≡ m = omega arith in ap (λ (k : ℕ). take k items) zeroth
take_sum {A = A} (suc n) m [] = take_none {A = A} (suc n + m) ∙ sym (take_none {A = A} m)
take_sum {A = A} (suc n) m (item ∷ items) =
    let next : suc n + m ≡ suc (n + m) = omega arith in
    ap (λ (k : ℕ). take k (item ∷ items)) next ∙ ap (λ (rest : List A). item ∷ rest) (take_sum n m items)

all_taken : {A : Type 0} (P : A → Type 0) (few many : ℕ) (items : List A) → few ≤ many → AllByRecursion P (take many items)
    → AllByRecursion P (take few items)
all_taken P zero many items less all = tt
all_taken P (suc few) zero items less all = absurd (omega (arith, less))
all_taken P (suc few) (suc many) [] less all = tt
all_taken P (suc few) (suc many) (item ∷ items) less all = (all.0, all_taken P few many items (omega (arith, less)) all.1)

got_taken : {A : Type 0} (count : ℕ) (items : List A) (number : ℕ) (item : A) → number < count → slice_get items number ≡ Some item
    → slice_get (take count items) number ≡ Some item
got_taken zero items number item low is = absurd (omega (arith, low))
got_taken (suc count) [] number item low is = absurd (none-some item is)
got_taken (suc count) (one ∷ items) zero item low is = is
got_taken (suc count) (one ∷ items) (suc number) item low is = got_taken count items number item (omega (arith, low)) is

-- an end that writes no goto, of a block that leaves for a point
pub no_goto_comes : (flat : FlatCode) (block : Block) (behind : List Finished) (to : ℕ) → block.leaves ≡ Some to
    → end_of flat block behind ≢ goto_end to
    → comes_to to behind ≡ true
no_goto_comes flat block behind to leaves other = by (comes_to to behind) refl where
  by : (comes : Bool) → comes_to to behind ≡ comes → comes_to to behind ≡ true
  by true told = told
  by false told = absurd (other (rw (leaves, told) refl))

-- a goto that is written leads where the block leaves for
pub goto_leads : (flat : FlatCode) (block : Block) (behind : List Finished) (to other : ℕ) → block.leaves ≡ Some to
    → end_of flat block behind ≡ goto_end other
    → other ≡ to
goto_leads flat block behind to other leaves is = by (comes_to to behind) refl where
  of_frames : (some_test : Bool) → (if some_test then nop_end else no_end) ≡ goto_end other → other ≡ to
  of_frames true same = absurd (cc same)
  of_frames false same = absurd (cc same)

  of_behind : (blocks : List Finished) → empty_end flat block blocks ≡ goto_end other → other ≡ to
  of_behind [] same = absurd (cc same)
  of_behind (next ∷ others) same = of_frames (differ (written_frame flat block) (written_frame flat next.block)) same

  of_items : (empty : Bool) → (if empty then empty_end flat block behind else no_end) ≡ goto_end other → other ≡ to
  of_items true same = of_behind behind same
  of_items false same = absurd (cc same)

  by : (comes : Bool) → comes_to to behind ≡ comes → other ≡ to
  by true told = of_items (is_empty block.items) (sym (rw (leaves, told) refl) ∙ is)
  by false told = let same : goto_end to ≡ goto_end other = sym (rw (leaves, told) refl) ∙ is in sym (cc same)

-- Where no goto is written: the target is a later point, and its first block begins where the next block does.
pub record ComesOn (s : PlanScope) (routes : Routes) (form : Form) (at : ℕ) (route : Route) (to : ℕ) : Type 0 where
  pub later : at < to
  pub same_place : first_item form (finish s.flat (blocks_of s routes)) (suc (own_number s routes at route))
      ≡ first_item form (finish s.flat (blocks_of s routes)) (length (blocks_left s routes to))

pub comes_on : (s : PlanScope) (routes : Routes) (form : Form) (at : ℕ) (point : Point) (route : Route) (to : ℕ) (next : Point) (onwards : Route)
    → slice_get s.flat.points at ≡ Some point
    → slice_get routes at ≡ Some (Some route)
    → slice_get s.flat.points to ≡ Some next
    → slice_get routes to ≡ Some (Some onwards)
    → comes_to to (finish s.flat (drop (suc (own_number s routes at route)) (blocks_of s routes))) ≡ true
    → ComesOn s routes form at route to
comes_on s routes form at point route to next onwards is is_route is_next is_onwards comes =
    record { later = later; same_place = place (split_place (length (blocks_left s routes to)) (suc own)) } where
      own : ℕ
      own = own_number s routes at route

      blocks : List Block
      blocks = blocks_of s routes

      c : ComesTo to (finish s.flat (drop (suc (own_number s routes at route)) (blocks_of s routes)))
      c = comes_over to (finish s.flat (drop (suc (own_number s routes at route)) (blocks_of s routes))) comes

      dropped : drop (suc (own_number s routes at route)) (blocks_of s routes) ≡ behind_own s routes at route
      dropped =
          ap (drop (suc (own_number s routes at route))) (split_own s routes at point route is is_route)
          ∙ drop_front (blocks_left s routes at ++ before_blocks s at route) (behind_own s routes at route) (instruction_block s at point route)

      is_block : slice_get (behind_own s routes at route) c.number ≡ Some c.first.block
      is_block =
          ap (λ (all : List Block). slice_get all c.number) (sym dropped)
          ∙ finished_block s.flat (drop (suc (own_number s routes at route)) (blocks_of s routes)) c.number c.first c.is_there

      later : at < to
      later = by (split_place at to) where
        by : (at < to) ⊎ ((more : ℕ) × (at ≡ to + more)) → at < to
        by (inl low) = low
        by (inr (more, is_more)) =
            absurd (false≢true (sym (at_index (λ (block : Block). begins_point to block.of ≡ false) (behind_own s routes at route) c.number
            c.first.block (none_behind s to routes at route (omega (arith, is_more))) is_block) ∙ c.begins))

      place : (length (blocks_left s routes to) < suc (own_number s routes at route))
          ⊎ ((more : ℕ) × (length (blocks_left s routes to) ≡ suc (own_number s routes at route) + more))
          → first_item form (finish s.flat (blocks_of s routes)) (suc (own_number s routes at route))
          ≡ first_item form (finish s.flat (blocks_of s routes)) (length (blocks_left s routes to))
      place (inl low) = absurd (false≢true (sym none ∙ first_begins s to next onwards onwards.made)) where
        front : List Block
        front = (blocks_left s routes at ++ before_blocks s at route) ++ instruction_block s at point route ∷ []

        whole : blocks_of s routes
            ≡ ((blocks_left s routes at ++ before_blocks s at route) ++ instruction_block s at point route ∷ []) ++ behind_own s routes at route
        whole =
            split_own s routes at point route is is_route
            ∙ sym (append_assoc (blocks_left s routes at ++ before_blocks s at route) (instruction_block s at point route ∷ [])
            (behind_own s routes at route))

        none : begins_point to (first_block s to next onwards onwards.made).of ≡ false
        none =
            at_index (λ (block : Block). begins_point to block.of ≡ false)
            ((blocks_left s routes at ++ before_blocks s at route) ++ instruction_block s at point route ∷ []) (length (blocks_left s routes to))
            (first_block s to next onwards onwards.made) (none_left s to routes at point route later)
            (sym (get_left ((blocks_left s routes at ++ before_blocks s at route) ++ instruction_block s at point route ∷ [])
            (behind_own s routes at route) (length (blocks_left s routes to))
            (let many = length-append (blocks_left s routes at ++ before_blocks s at route) (instruction_block s at point route ∷ []) in
            omega (arith, many, low)))
            ∙ ap (λ (all : List Block). slice_get all (length (blocks_left s routes to))) (sym whole)
            ∙ (first_of s routes to next onwards is_next is_onwards).is_there)
      place (inr (more, is_more)) =
          sym (ap (first_item form (finish s.flat (blocks_of s routes))) is_more
          ∙ ap (λ (all : List Finished). length (written_items form all))
          (take_sum (suc (own_number s routes at route)) more (finish s.flat (blocks_of s routes)))
          ∙ ap length (flat_map-append (block_items form) (take (suc (own_number s routes at route)) (finish s.flat (blocks_of s routes)))
          (take more (drop (suc (own_number s routes at route)) (finish s.flat (blocks_of s routes)))))
          ∙ length-append (written_items form (take (suc (own_number s routes at route)) (finish s.flat (blocks_of s routes))))
          (written_items form (take more (drop (suc (own_number s routes at route)) (finish s.flat (blocks_of s routes)))))
          ∙ ap (λ (n : ℕ). first_item form (finish s.flat (blocks_of s routes)) (suc (own_number s routes at route)) + n) (ap length nothing)
          ∙ omega arith) where
            within : more ≤ c.number
            within = by (split_place c.number more) where
              by : (c.number < more) ⊎ ((extra : ℕ) × (c.number ≡ more + extra)) → more ≤ c.number
              by (inr (extra, is_extra)) = omega (arith, is_extra)
              by (inl low) =
                  absurd (false≢true (sym (at_index (λ (block : Block). begins_point to block.of ≡ false)
                  (take (length (blocks_left s routes to)) (blocks_of s routes)) (suc (own_number s routes at route) + c.number) c.first.block
                  (first_of s routes to next onwards is_next is_onwards).none_before
                  (got_taken (length (blocks_left s routes to)) (blocks_of s routes) (suc (own_number s routes at route) + c.number) c.first.block
                  (omega (arith, is_more, low))
                  (sym (get_dropped (suc (own_number s routes at route)) (blocks_of s routes) c.number)
                  ∙ finished_block s.flat (drop (suc (own_number s routes at route)) (blocks_of s routes)) c.number c.first c.is_there)))
                  ∙ c.begins))

            nothing : written_items form (take more (drop (suc (own_number s routes at route)) (finish s.flat (blocks_of s routes)))) ≡ []
            nothing =
                ap (λ (all : List Finished). written_items form (take more all))
                (drop_finished s.flat (suc (own_number s routes at route)) (blocks_of s routes))
                ∙ nothing_written form (take more (finish s.flat (drop (suc (own_number s routes at route)) (blocks_of s routes))))
                (all_taken (λ (one : Finished). finished_items one ≡ []) more c.number
                (finish s.flat (drop (suc (own_number s routes at route)) (blocks_of s routes))) within c.empty)
