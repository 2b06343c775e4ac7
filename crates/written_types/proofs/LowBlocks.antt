-- The block in which a frame is stated: where it begins, and its place among the blocks of points.
use Rattle.std.proofs.Common.{◌≡◌, ◌≤◌, ℕ, suc, Bool, false, List, Some, sym, ap, subst, ◌∙◌, arith}
use Rattle.std.proofs.lemmas.Bool.{false≢true}
use Rattle.making_code.specs.StateFrames.{state_frame}
use Rattle.plan_flow.specs.Plans.{Plan, PlannedPoint, planned}
use Rattle.plan_flow.specs.Written.Blocks.{Block, BlockOf, before_point, handler_pad, jump_pad, of_point, on_next_edge, state_written}
use Rattle.plan_flow.specs.Written.Finish.{Finished}
use Rattle.plan_flow.specs.Written.WrittenFrames.{written_frame}
use Rattle.virtual_state.specs.States.{State}
use Rattle.written_types.proofs.BlockKinds.{BlockKind, IsPad, makes_before_point, makes_on_next, of_instruction, of_pad}
use Rattle.written_types.proofs.BlockOrder.{is_pad, rank, three}
use Rattle.written_types.proofs.Given.{Given}
use Rattle.written_types.proofs.NextBlocks.{ToNext}
use Rattle.written_types.proofs.RouteEdges.{edge_leads, planned_route}
use Rattle.written_types.specs.FitsTypes.{FitsTypes, is_reached}
use Rattle.written_types.specs.Writing.{Writing}

module _ (w : Writing) (given : Given w) where
  abbrev plan : Plan
  plan = given.setting.plan

  abbrev reached : ℕ → Bool
  reached = is_reached given.setting.routes

  -- where it begins, in which state; and where it stands among the blocks of points
  pub record LowBlock (one : Finished) : Type 0 where
    pub at : ℕ
    pub state : State
    pub frame_is : written_frame w.s.flat one.block ≡ state_frame w.s.flat at state
    pub fits : FitsTypes w.s reached at state
    pub target : PlannedPoint
    pub is_planned : planned plan at ≡ Some target
    pub from : is_pad one.block.of ≡ false → three at ≤ suc (rank one.block.of)
    pub until : is_pad one.block.of ≡ false → rank one.block.of ≤ suc (three at)

  frame_so : (block : Block) (at : ℕ) (state : State) → block.at ≡ at → block.state ≡ state
      → written_frame w.s.flat block ≡ state_frame w.s.flat at state
  frame_so block at state is_at is_state = λ i. state_frame w.s.flat (is_at i) (is_state i)

  no_pad : (of : BlockOf) → IsPad of → is_pad of ≡ false → ⊥
  no_pad (jump_pad at number) pad none = false≢true (sym none)
  no_pad (handler_pad at number) pad none = false≢true (sym none)
  no_pad (before_point at) pad none = pad
  no_pad (of_point at) pad none = pad
  no_pad (on_next_edge at) pad none = pad

  pub low_block : (one : Finished) (behind : List Finished) → ToNext one.block.of one.block.at → BlockKind w given one behind → LowBlock one
  low_block one behind goes (makes_before_point at point route there is_route is next) = record {
    at = at;
    state = route.state;
    frame_is = frame_so one.block at route.state (ap (λ (b : Block). b.at) is) (ap (λ (b : Block). b.state) is);
    fits = given.fits.before at route is_route;
    target = (planned_route w given at route is_route).point;
    is_planned = (planned_route w given at route is_route).reached;
    from = λ none. let same : rank one.block.of ≡ three at = ap (λ (b : Block). rank b.of) is in omega (arith, same);
    until = λ none. let same : rank one.block.of ≡ three at = ap (λ (b : Block). rank b.of) is in omega (arith, same);
  }
  low_block one behind goes (of_instruction at point route here rest) = record {
    at = at;
    state = state_written route;
    frame_is = frame_so one.block at (state_written route) (ap (λ (b : Block). b.at) here.is_block) (ap (λ (b : Block). b.state) here.is_block);
    fits = given.fits.written at route here.is_route;
    target = (planned_route w given at route here.is_route).point;
    is_planned = (planned_route w given at route here.is_route).reached;
    from = λ none. let same : rank one.block.of ≡ suc (three at) = ap (λ (b : Block). rank b.of) here.is_block in omega (arith, same);
    until = λ none. let same : rank one.block.of ≡ suc (three at) = ap (λ (b : Block). rank b.of) here.is_block in omega (arith, same);
  }
  low_block one behind goes (makes_on_next at number point route edge there is_route is_edge is next) =
      let leads = edge_leads w given at number point route edge there is_route is_edge in
      record {
        at = edge.to;
        state = edge.state;
        frame_is = frame_so one.block edge.to edge.state (ap (λ (b : Block). b.at) is) (ap (λ (b : Block). b.state) is);
        fits = given.fits.edges at number route edge is_route is_edge;
        target = leads.target;
        is_planned = leads.reached;
        from = λ none. let same : rank one.block.of ≡ suc (suc (three at)) = ap (λ (b : Block). rank b.of) is in
            let to : three edge.to ≡ three (suc at) = ap three (subst (λ (b : Block). ToNext b.of b.at) is goes) in omega (arith, same, to);
        until = λ none. let same : rank one.block.of ≡ suc (suc (three at)) = ap (λ (b : Block). rank b.of) is in
            let to : three edge.to ≡ three (suc at) = ap three (subst (λ (b : Block). ToNext b.of b.at) is goes) in omega (arith, same, to);
      }
  low_block one behind goes (of_pad at number point route edge of there is_route is_edge pad is rest) =
      let leads = edge_leads w given at number point route edge there is_route is_edge in
      record {
        at = edge.to;
        state = edge.state;
        frame_is = frame_so one.block edge.to edge.state (ap (λ (b : Block). b.at) is) (ap (λ (b : Block). b.state) is);
        fits = given.fits.edges at number route edge is_route is_edge;
        target = leads.target;
        is_planned = leads.reached;
        from = λ none. absurd (no_pad of pad (sym (ap (λ (b : Block). is_pad b.of) is) ∙ none));
        until = λ none. absurd (no_pad of pad (sym (ap (λ (b : Block). is_pad b.of) is) ∙ none));
      }
