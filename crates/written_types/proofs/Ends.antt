-- What a block ends with carries a frame on: to the point that the block goes to, or to the block behind it.
use Rattle.std.proofs.Common.{◌≡◌, ◌+◌, ◌==◌, ℕ, zero, suc, Bool, true, false, List, [], ◌∷◌, ◌++◌, drop, Option, Some, None, slice_get, refl, sym, ap, subst, ◌∙◌, inl, inr, if◌then◌else◌, arith}
use Rattle.std.proofs.lemmas.Bool.{eqb-true, false≢true}
use Rattle.std.proofs.lemmas.List.{append-nil, append_assoc}
use Rattle.std.proofs.lemmas.Option.{none-some, same_Some}
use Rattle.class_model.specs.declared.frame.Frame.{Frame}
use Rattle.flow_code.specs.FlatCode.{FlatCode}
use Rattle.flow_code.specs.declared.point.Point.{Point}
use Rattle.making_code.specs.Items.{WItem}
use Rattle.making_code.specs.StateFrames.{differ}
use Rattle.plan_flow.specs.Laws.WrittenBlocks.{begins_with_first, blocks_behind, first_block, holds_of_both, pads_of}
use Rattle.plan_flow.specs.Laws.WrittenPads.{AreNone, comes_nowhere}
use Rattle.plan_flow.specs.PlanScope.{PlanScope}
use Rattle.plan_flow.specs.Written.Blocks.{Block, before_point, handler_pads, instruction_block, jump_pads, make_block, next_block, of_reached, on_next_edge, point_blocks}
use Rattle.plan_flow.specs.Written.Finish.{End, Finished, begins_point, comes_to, empty_end, end_items, end_of, finish, finished_items, goto_end, is_empty, no_end, nop_end}
use Rattle.plan_flow.specs.Written.Routes.{Route, RouteEdge, Routes, edge_by}
use Rattle.plan_flow.specs.Written.WrittenCode.{Form, block_items, in_form, short, wide}
use Rattle.plan_flow.specs.Written.WrittenFrames.{written_frame}
use Rattle.plan_flow.specs.declared.edge.EdgeKind.TheVariants as edges
use Rattle.written_types.proofs.BlockEnds.{goto_carries, nop_carries}
use Rattle.written_types.proofs.BlockKinds.{BlockKind, blocks_after, finished, first_at, first_state, kind_of_block, makes_before_point, makes_on_next, none_in_handlers, none_in_jumps, of_instruction, of_pad}
use Rattle.written_types.proofs.Given.{EdgesFit, EndCarries, EndsCarry, FitsState, Given, TargetsStand}
use Rattle.written_types.proofs.Placing.{fits_before, items_and_end, leads_in}
use Rattle.written_types.specs.Inner.CarriedFrames.{BlockCarries, Carries, GoesBehind, carries_none}
use Rattle.written_types.specs.Writing.{Writing}

-- ---- an end without a goto

-- nothing, or a nop
pub data Stays : End → Type 0 where
  with_no_end : Stays no_end
  with_nop : Stays nop_end

stays : (flat : FlatCode) (block : Block) (behind : List Finished) → Stays (if is_empty block.items then empty_end flat block behind else no_end)
stays flat block behind = by (is_empty block.items) where
  of_frames : (b : Bool) → Stays (if b then nop_end else no_end)
  of_frames true = with_nop
  of_frames false = with_no_end

  of_behind : (behind : List Finished) → Stays (empty_end flat block behind)
  of_behind [] = with_no_end
  of_behind (next ∷ others) = of_frames (differ (written_frame flat block) (written_frame flat next.block))

  by : (b : Bool) → Stays (if b then empty_end flat block behind else no_end)
  by true = of_behind behind
  by false = with_no_end

stay_carries : (w : Writing) (number : ℕ) (end : End) (frame : Frame) → Stays end → Carries w number (end_items end) frame (Some frame)
stay_carries w number no_end frame with_no_end = carries_none number frame
stay_carries w number nop_end frame with_nop = nop_carries w number frame
stay_carries w number (goto_end to) frame none = elim none [ ]

-- no block of a point is the first of another
none_begins : (s : PlanScope) (to at : ℕ) (point : Point) (route : Route) → (at == to) ≡ false
    → AreNone (begins_point to) (point_blocks s at point route)
none_begins s to at point route other =
    holds_of_both (λ block. begins_point to block.of ≡ false)
    (make_block s (before_point at) at route.state route.made route.order None ++ (instruction_block s at point route ∷ []))
    (next_block s at (edge_by route edges.Next))
    (holds_of_both (λ block. begins_point to block.of ≡ false) (make_block s (before_point at) at route.state route.made route.order None)
    (instruction_block s at point route ∷ []) (of_before route.made) (other, tt)) (of_next (edge_by route edges.Next)) where
      of_before : (made : List ℕ) → AreNone (begins_point to) (make_block s (before_point at) at route.state made route.order None)
      of_before [] = tt
      of_before (site ∷ sites) = (other, tt)

      of_made : (edge : RouteEdge) (made : List ℕ) → AreNone (begins_point to) (make_block s (on_next_edge at) edge.to edge.state made edge.order None)
      of_made edge [] = tt
      of_made edge (site ∷ sites) = (refl, tt)

      of_next : (edge : Option RouteEdge) → AreNone (begins_point to) (next_block s at edge)
      of_next None = tt
      of_next (Some edge) = of_made edge edge.made

no_items_in_form : (form : Form) (one : Finished) → is_empty (finished_items one) ≡ true → is_empty (block_items form one) ≡ true
no_items_in_form short one none = none
no_items_in_form wide one none = ap (λ (items : List WItem). is_empty (in_form wide items)) (nothing (finished_items one) none) where
  nothing : (items : List WItem) → is_empty items ≡ true → items ≡ []
  nothing [] is = refl
  nothing (first ∷ items) is = absurd (false≢true is)

module _ (w : Writing) (given : Given w) (fit : EdgesFit w given) (stand : TargetsStand w given) where
  abbrev routes : Routes
  routes = given.setting.routes

  -- ---- over blocks that write nothing

  module _ (frame : Frame) (to : ℕ) (target : Route) (is_target : slice_get routes to ≡ Some (Some target)) (fits : FitsState w frame to target.state) where
    abbrev Goes : List Block → Type 0
    Goes blocks = GoesBehind w (Some frame) (finish w.s.flat blocks)

    abbrev Comes : List Block → Type 0
    Comes blocks = comes_to to (finish w.s.flat blocks) ≡ true

    goes_over : (blocks rest : List Block) → AreNone (begins_point to) blocks → (Comes rest → Goes rest) → Comes (blocks ++ rest) → Goes (blocks ++ rest)
    goes_over [] rest none behind comes = behind comes
    goes_over (block ∷ blocks) rest none behind comes =
        by (is_empty (finished_items one)) refl (goes_over blocks rest none.1 behind) where
          one : Finished
          one = record { block = block; end = end_of w.s.flat block (finish w.s.flat (blocks ++ rest)) }

          by : (b : Bool) → is_empty (finished_items one) ≡ b → (Comes (blocks ++ rest) → Goes (blocks ++ rest)) → Goes (block ∷ (blocks ++ rest))
          by true is below = inr (no_items_in_form w.form one is, below (sym (rw (none.0, is) refl) ∙ comes))
          by false is below = absurd (false≢true (sym (rw (none.0, is) refl) ∙ comes))

    -- points from a number on, as they stand in the code
    goes_points : (from : ℕ) (points : List Point) (others : Routes) (pads : List Block)
        → ((n : ℕ) → slice_get others n ≡ slice_get routes (from + n))
        → AreNone (begins_point to) pads
        → Comes (of_reached (point_blocks w.s) from points others ++ pads)
        → Goes (of_reached (point_blocks w.s) from points others ++ pads)
    goes_points from [] others pads same none comes = absurd (false≢true (sym (comes_nowhere w.s.flat to pads none) ∙ comes))
    goes_points from (point ∷ points) [] pads same none comes = absurd (false≢true (sym (comes_nowhere w.s.flat to pads none) ∙ comes))
    goes_points from (point ∷ points) (None ∷ others) pads same none comes =
        goes_points (suc from) points others pads
        (λ n. same (suc n) ∙ ap (slice_get routes) (the_same (from + suc n) (suc from + n) (omega arith))) none comes where
          the_same : (a b : ℕ) → a ≡ b → a ≡ b
          the_same a b e = e
    goes_points from (point ∷ points) (Some route ∷ others) pads same none comes =
        by (from == to) refl
        (λ more. goes_points (suc from) points others pads
        (λ n. same (suc n) ∙ ap (slice_get routes) (the_same (from + suc n) (suc from + n) (omega arith))) none more) where
          the_same : (a b : ℕ) → a ≡ b → a ≡ b
          the_same a b e = e

          rest : List Block
          rest = of_reached (point_blocks w.s) (suc from) points others

          first : Block
          first = first_block w.s from point route route.made

          more : List Block
          more = blocks_behind w.s from point route route.made ++ rest ++ pads

          all : (point_blocks w.s from point route ++ rest) ++ pads ≡ first ∷ more
          all =
              ap (λ (blocks : List Block). (blocks ++ rest) ++ pads) (begins_with_first w.s from point route)

          here : from ≡ to → Goes (first ∷ more)
          here is =
              let route_is : route ≡ target =
              same_Some route target (same_Some (Some route) (Some target)
              (same 0 ∙ ap (slice_get routes) (the_same (from + 0) to (omega (arith, is))) ∙ is_target)) in
              inl (fits_before w frame (record { block = first; end = end_of w.s.flat first (finish w.s.flat more) }) to target.state fits (record {
                is_at = first_at w.s from point route route.made ∙ is;
                is_state = first_state w.s from point route route.made refl ∙ ap (λ (r : Route). r.state) route_is;
              }))

          by : (b : Bool) → (from == to) ≡ b → (Comes (rest ++ pads) → Goes (rest ++ pads)) → Goes ((point_blocks w.s from point route ++ rest) ++ pads)
          by true is below = subst Goes (sym all) (here (eqb-true from to is))
          by false is below =
              subst Goes (sym (append_assoc (point_blocks w.s from point route) rest pads))
              (goes_over (point_blocks w.s from point route) (rest ++ pads) (none_begins w.s to from point route is) below
              (subst Comes (append_assoc (point_blocks w.s from point route) rest pads) comes))

    none_of_next : (at : ℕ) (edge : Option RouteEdge) → AreNone (begins_point to) (next_block w.s at edge)
    none_of_next at None = tt
    none_of_next at (Some edge) = of_made edge.made where
      of_made : (made : List ℕ) → AreNone (begins_point to) (make_block w.s (on_next_edge at) edge.to edge.state made edge.order None)
      of_made [] = tt
      of_made (site ∷ sites) = (refl, tt)

    none_of_pads : AreNone (begins_point to) (pads_of w.s routes)
    none_of_pads =
        holds_of_both (λ block. begins_point to block.of ≡ false) (of_reached (jump_pads w.s) 0 w.s.flat.points routes)
        (of_reached (handler_pads w.s) 0 w.s.flat.points routes) (none_in_jumps w.s to w.s.flat.points routes)
        (none_in_handlers w.s to w.s.flat.points routes)

    dropped_at : (count n : ℕ) (others : Routes) → slice_get (drop count others) n ≡ slice_get others (count + n)
    dropped_at zero n others = ap (slice_get others) (the_same n (0 + n) (omega arith)) where
      the_same : (a b : ℕ) → a ≡ b → a ≡ b
      the_same a b e = e
    dropped_at (suc count) n [] = refl
    dropped_at (suc count) n (first ∷ others) =
        dropped_at count n others ∙ ap (slice_get (first ∷ others)) (the_same (suc (count + n)) (suc count + n) (omega arith)) where
          the_same : (a b : ℕ) → a ≡ b → a ≡ b
          the_same a b e = e

    goes_after : (at : ℕ) (edge : Option RouteEdge)
        → Comes ((next_block w.s at edge ++ blocks_after w.s routes at) ++ pads_of w.s routes)
        → Goes ((next_block w.s at edge ++ blocks_after w.s routes at) ++ pads_of w.s routes)
    goes_after at edge comes =
        let joined = append_assoc (next_block w.s at edge) (blocks_after w.s routes at) (pads_of w.s routes) in
        subst Goes (sym joined)
        (goes_over (next_block w.s at edge) (blocks_after w.s routes at ++ pads_of w.s routes) (none_of_next at edge)
        (goes_points (suc at) (drop (suc at) w.s.flat.points) (drop (suc at) routes) (pads_of w.s routes) (λ n. dropped_at (suc at) n routes) none_of_pads)
        (subst Comes joined comes))

    -- where control comes to the point over blocks that write nothing
    comes_goes : (one : Finished) (behind : List Finished)
        → BlockKind w given one behind
        → one.block.leaves ≡ Some to
        → comes_to to behind ≡ true
        → GoesBehind w (Some frame) behind
    comes_goes one behind (makes_before_point at point route there is_route is next) leaves comes =
        absurd (none-some to (sym (ap (λ (b : Block). b.leaves) is) ∙ leaves))
    comes_goes one behind (of_instruction at point route here behind_is) leaves comes =
        subst (GoesBehind w (Some frame)) (sym behind_is)
        (goes_after at (edge_by route edges.Next) (ap (comes_to to) (sym behind_is) ∙ comes))
    comes_goes one behind (makes_on_next at number point route edge there is_route is_edge is next) leaves comes =
        absurd (none-some to (sym (ap (λ (b : Block). b.leaves) is) ∙ leaves))
    comes_goes one behind (of_pad at number point route edge of there is_route is_edge pad is rest) leaves comes =
        absurd (false≢true (sym (comes_nowhere w.s.flat to rest.right (rest.none to)) ∙ ap (comes_to to) (sym rest.is) ∙ comes))

    leaves_at_end : (front behind : List Finished) (one : Finished) (number : ℕ)
        → w.blocks ≡ front ++ (one ∷ behind)
        → one.block.leaves ≡ Some to
        → EndCarries w number one behind frame
    leaves_at_end front behind one number is leaves = by (comes_to to behind) refl where
      end_is : one.end ≡ end_of w.s.flat one.block behind
      end_is = (finished w given fit front behind one is).end_is

      by : (b : Bool) → comes_to to behind ≡ b → EndCarries w number one behind frame
      by true comes =
          let here : one.end ≡ (if is_empty one.block.items then empty_end w.s.flat one.block behind else no_end) = end_is ∙ rw (leaves, comes) refl in
          record {
            last = Some frame;
            carries = stay_carries w number one.end frame (subst Stays (sym here) (stays w.s.flat one.block behind));
            goes = comes_goes one behind (kind_of_block w given fit front behind one is) leaves comes;
          }
      by false comes =
          let here : one.end ≡ goto_end to = end_is ∙ rw (leaves, comes) refl in
          record {
            last = None;
            carries = subst (λ (end : End). Carries w number (end_items end) frame None) (sym here)
                (goto_carries w number to frame (leads_in w frame _ to target.state fits (stand.first to target is_target)));
            goes = tt;
          }

  -- ---- all ends

  stays_at_end : (front behind : List Finished) (one : Finished) (number : ℕ) (frame : Frame)
      → w.blocks ≡ front ++ (one ∷ behind)
      → one.block.leaves ≡ None
      → GoesBehind w (Some frame) behind
      → EndCarries w number one behind frame
  stays_at_end front behind one number frame is leaves goes =
      let here : one.end ≡ (if is_empty one.block.items then empty_end w.s.flat one.block behind else no_end) =
      (finished w given fit front behind one is).end_is ∙ rw (leaves) refl in
      record {
        last = Some frame;
        carries = stay_carries w number one.end frame (subst Stays (sym here) (stays w.s.flat one.block behind));
        goes = goes;
      }

  pub ends_carry : EndsCarry w given
  ends_carry = record {
    leaving = λ front behind one number to target frame is leaves is_route fits.
        leaves_at_end frame to target is_route fits front behind one number is leaves;
    staying = stays_at_end;
  }

  -- a block from whose items nothing comes ends with them
  pub ends_away : (front behind : List Finished) (one : Finished) (number : ℕ) (frame : Frame)
      → w.blocks ≡ front ++ (one ∷ behind)
      → one.block.leaves ≡ None
      → is_empty one.block.items ≡ false
      → Carries w number (in_form w.form one.block.items) frame None
      → BlockCarries w number one behind frame
  ends_away front behind one number frame is leaves some away =
      let here : one.end ≡ no_end = (finished w given fit front behind one is).end_is ∙ rw (leaves, some) refl in
      record {
        last = None;
        carries = subst (λ (all : List WItem). Carries w number all frame None)
            (sym (items_and_end w.form one ∙ ap (λ (end : End). in_form w.form one.block.items ++ end_items end) here
            ∙ append-nil (in_form w.form one.block.items))) away;
        goes = tt;
      }
