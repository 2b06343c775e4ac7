-- Where the second run stands at the block of an instruction, and what is written there.
use Rattle.std.proofs.Common.{◌≡◌, ◌+◌, ℕ, suc, List, [], ◌∷◌, drop, length, slice_get, Option, Some, option_and_then, option_map, refl, sym, ap, ◌∙◌}
use Rattle.std.proofs.lemmas.Option.{same_Some, slice_get_within}
use Rattle.flow_code.specs.declared.point.Point.{Point}
use Rattle.machine_values.specs.Frames.{MethodState}
use Rattle.making_code.specs.Items.{WItem}
use Rattle.member_link.specs.Machine.Programs.{Code, code_at, point_at}
use Rattle.member_link.specs.Scope.{Scope, scope_at}
use Rattle.plan_flow.specs.Laws.WrittenBlocks.{block_finished, blocks_left, first_block, first_item, own_first, own_number, own_of}
use Rattle.plan_flow.specs.PlanScope.{PlanScope}
use Rattle.plan_flow.specs.Written.Blocks.{Block, blocks_of, instruction_block}
use Rattle.plan_flow.specs.Written.Finish.{Finished, end_of, finish}
use Rattle.plan_flow.specs.Written.Routes.{Route}
use Rattle.plan_flow.specs.Written.WrittenCode.{block_items, written_code, written_items, written_point}
use Rattle.plan_flow.specs.Written.WrittenPrograms.{WrittenMethod}
use Rattle.same_runs.specs.Laws.Numbered.{slice_numbered}
use Rattle.written_runs.specs.Laws.WrittenCodes.{written_code_at}
use Rattle.written_runs.specs.Inner.PlannedFrames.{AtBlock, IsBlock, IsInstructionOf, IsReached, blocks_in, of_first, of_handler, of_jump, of_next, of_own, scope_in}
use Rattle.written_runs.specs.Inner.Setup.{Setup, second}
use Rattle.written_runs.specs.Laws.MadeItems.{items_of_block}
use Rattle.written_runs.specs.Laws.Settling.{SettleLaws}
use Rattle.written_runs.specs.Laws.WrittenCodes.{written_code_at}
use Rattle.written_runs.specs.WrittenRuns.{IsReadyMethod}

-- ---- the number of the block

-- the block of a point's instruction, in whichever way it is found
pub own_block_number : (u : Setup) (w : WrittenMethod) (at : ℕ) (point : Point) (route : Route) (number : ℕ) (block : Block)
    → IsReached w at point route
    → IsBlock u w number block
    → block ≡ instruction_block (scope_in u w) at point route
    → number ≡ own_number (scope_in u w) w.routes at route
own_block_number u w at point route number block reached (of_first one found onwards there) is = by onwards.made refl is where
  s : PlanScope
  s = scope_in u w

  by : (made : List ℕ)
      → onwards.made ≡ made
      → first_block s one found onwards made ≡ instruction_block s at point route
      → length (blocks_left s w.routes one) ≡ own_number s w.routes at route
  by [] none same =
      let here : one ≡ at = ap (λ (b : Block). b.at) same in
      let route_there : Some (Some onwards) ≡ Some (Some route) =
      sym there.is_route ∙ ap (slice_get w.routes) here ∙ reached.is_route in
      let same_route : onwards ≡ route = same_Some onwards route (same_Some (Some onwards) (Some route) route_there) in
      sym (own_first s w.routes one onwards none)
      ∙ ap (λ (n : ℕ). own_number s w.routes n onwards) here
      ∙ ap (own_number s w.routes at) same_route
  by (site ∷ sites) some same = let of : (first_block s one found onwards (site ∷ sites)).of ≡ (instruction_block s at point route).of = ap (λ (b : Block). b.of) same in absurd (cc of)
own_block_number u w at point route number block reached (of_own one found onwards there) is =
    let s = scope_in u w in
    let here : one ≡ at = ap (λ (b : Block). b.at) is in
    let route_there : Some (Some onwards) ≡ Some (Some route) =
    sym there.is_route ∙ ap (slice_get w.routes) here ∙ reached.is_route in
    let same_route : onwards ≡ route = same_Some onwards route (same_Some (Some onwards) (Some route) route_there) in
    ap (λ (n : ℕ). own_number s w.routes n onwards) here ∙ ap (own_number s w.routes at) same_route
own_block_number u w at point route number block reached (of_next one found onwards edge site sites there makes) is =
    absurd (cc (ap (λ (b : Block). b.of) is))
own_block_number u w at point route number block reached (of_jump one edge_number found onwards edge site sites place there makes first) is =
    absurd (cc (ap (λ (b : Block). b.of) is))
own_block_number u w at point route number block reached (of_handler one edge_number found onwards edge site sites place there makes first) is =
    absurd (cc (ap (λ (b : Block). b.of) is))

-- ---- what is written there

-- the second frame is at the first item of the block of a reached point's instruction, in a method that runs written code
pub record AtOwn (u : Setup) (w : WrittenMethod) (at : ℕ) (point : Point) (route : Route) (g : MethodState) : Type 0 where
  pub host : Scope
  pub is_host : scope_at u.classes g.at ≡ Some host
  pub is_code : code_at (second u) g.at ≡ Some (written_code (scope_in u w) host u.constructor w.form (blocks_in u w))
  pub place : g.place ≡ first_item w.form (blocks_in u w) (own_number (scope_in u w) w.routes at route)

abbrev pub own_finished : (u : Setup) (w : WrittenMethod) (at : ℕ) (point : Point) (route : Route) → Finished
own_finished u w at point route = record {
  block = instruction_block (scope_in u w) at point route;
  end = end_of w.flat (instruction_block (scope_in u w) at point route)
      (finish w.flat (drop (suc (own_number (scope_in u w) w.routes at route)) (blocks_of (scope_in u w) w.routes)));
}

module _ (u : Setup) (laws : SettleLaws u) where
  pub at_own : (w : WrittenMethod) (f g : MethodState) (point : Point) (route : Route) (block : Block)
      → u.written g.at ≡ Some w
      → AtBlock u w f g block
      → IsInstructionOf u w f.place point route block
      → AtOwn u w f.place point route g
  at_own w f g point route block written here of_instruction = record {
    host = ready.scope;
    is_host = ready.is_scope;
    is_code = written_code_at u laws.is_setup g.at w ready.scope written ready.is_scope;
    place =
        here.place_also
        ∙ ap (first_item w.form (blocks_in u w))
        (own_block_number u w f.place point route here.number block of_instruction.reached here.is_block of_instruction.is);
  } where
    ready : IsReadyMethod u.classes u.links g.at w
    ready = laws.is_setup.ready g.at w written

module _ {u : Setup} {w : WrittenMethod} {at : ℕ} {point : Point} {route : Route} {g : MethodState} (here : AtOwn u w at point route g)
    (reached : IsReached w at point route) where
  -- the item so many behind the first
  pub item_there : (more : ℕ) (one : WItem)
      → slice_get (block_items w.form (own_finished u w at point route)) more ≡ Some one
      → point_at (second u) g.at (g.place + more)
      ≡ Some (written_point (scope_in u w) here.host u.constructor w.form (blocks_in u w) (0 + (g.place + more)) one)
  item_there more one is =
      ap (λ (code : Option Code). option_and_then (λ (c : Code). slice_get c.points (g.place + more)) code) here.is_code
      ∙ slice_numbered (written_point (scope_in u w) here.host u.constructor w.form (blocks_in u w)) 0
      (written_items w.form (blocks_in u w)) (g.place + more)
      ∙ ap (option_map (written_point (scope_in u w) here.host u.constructor w.form (blocks_in u w) (0 + (g.place + more)))) there where
        is_finished : slice_get (blocks_in u w) (own_number (scope_in u w) w.routes at route) ≡ Some (own_finished u w at point route)
        is_finished =
            block_finished w.flat (blocks_of (scope_in u w) w.routes) (own_number (scope_in u w) w.routes at route)
            (instruction_block (scope_in u w) at point route) (own_of (scope_in u w) w.routes at point route reached.is_point reached.is_route)

        there : slice_get (written_items w.form (blocks_in u w)) (g.place + more) ≡ Some one
        there =
            ap (λ (n : ℕ). slice_get (written_items w.form (blocks_in u w)) (n + more)) here.place
            ∙ items_of_block w.form (blocks_in u w) (own_number (scope_in u w) w.routes at route) more (own_finished u w at point route) is_finished
            (slice_get_within (block_items w.form (own_finished u w at point route)) more one is)
            ∙ is
