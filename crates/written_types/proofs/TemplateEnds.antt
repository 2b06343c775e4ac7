-- Behind the items of a template: to the next point, or to what a decided jump leads to.
use Rattle.std.proofs.Common.{◌≡◌, ◌+◌, true, List, [], ◌∷◌, length, map, Some, None, sym, ap, subst, ◌∙◌}
use Rattle.std.specs.List.{AllByRecursion}
use Rattle.class_model.specs.declared.frame.Frame.{Frame}
use Rattle.making_code.specs.Items.{WInstr, WItem, item}
use Rattle.member_link.specs.Rows.Row.{stack_behind}
use Rattle.plan_flow.specs.PlanSlots.{is_open}
use Rattle.plan_flow.specs.PlanTable.{falls_on}
use Rattle.plan_flow.specs.Written.Blocks.{Block, leaves_to}
use Rattle.plan_flow.specs.Written.FramedCode.{frame_by_item}
use Rattle.plan_flow.specs.Written.Routes.{RouteEdge, edge_by}
use Rattle.plan_flow.specs.Written.Templates.{items_at}
use Rattle.plan_flow.specs.Written.WrittenCode.{in_form}
use Rattle.plan_flow.specs.declared.edge.EdgeKind.TheVariants as edges
use Rattle.written_types.proofs.Given.{EdgesFit, EndsCarry, Given, written_along}
use Rattle.written_types.proofs.Placing.{IsMade, block_carries, goes_behind, same_form}
use Rattle.written_types.proofs.SlotFrames.{grouped}
use Rattle.written_types.specs.Inner.CarriedFrames.{Agrees, BlockCarries, Carries}
use Rattle.written_types.specs.Writing.{Writing}
use Rattle.written_types.proofs.Given.{FitsState}
use Rattle.written_types.proofs.Templates.{Before, along, moved_slots, next_there, number, objects_behind, plan_row, read, row, state}

module _ (w : Writing) (given : Given w) (b : Before w given) where
  along_is : written_along w b.at b.point (state w given b) edges.Next ≡ along w given b
  along_is =
      grouped w.s.flat (record { locals = (row w given b).locals; stack = stack_behind (read w given b) (row w given b) })
      (moved_slots w given b (plan_row w given b).locals) (moved_slots w given b (plan_row w given b).stack) (objects_behind w given b)

  module _ (fit : EdgesFit w given) (ends : EndsCarry w given) where
    -- what agrees with what comes along fits
    pub along_fits : (last : Frame) (edge : RouteEdge) → edge_by b.route edges.Next ≡ Some edge
        → Agrees last (frame_by_item w.form w.blocks (along w given b))
        → FitsState w last edge.to edge.state
    along_fits last edge found agrees =
        fit.along b.at b.point b.route edges.Next edge last b.here.there b.here.is_route found
        (subst (λ (f : Frame). Agrees last (frame_by_item w.form w.blocks f)) (sym along_is) agrees)

    pub next_carries : (last : Frame) (edge : RouteEdge) → edge_by b.route edges.Next ≡ Some edge
        → b.one.block.leaves ≡ None
        → FitsState w last edge.to edge.state
        → Carries w (number w given b) (in_form w.form b.one.block.items) b.frame (Some last)
        → BlockCarries w (number w given b) b.one b.behind b.frame
    next_carries last edge found leaves fits so =
        block_carries w (number w given b) b.one b.behind b.frame last so
        (ends.staying b.front b.behind b.one (number w given b + length (in_form w.form b.one.block.items)) last b.is leaves
        (goes_behind w last b.behind edge.to edge.state fits (b.here.next edge found)))

    -- ---- items that are no jumps

    -- each is made, and none is one of a class file
    abbrev pub AreMade : List WInstr → Type 0
    AreMade instrs = AllByRecursion IsMade instrs

    pub made_items : (instrs : List WInstr) → AreMade instrs → AllByRecursion (λ (one : WItem). IsMade one.instr) (map item instrs)
    made_items [] all = tt
    made_items (instr ∷ instrs) all = (all.0, made_items instrs all.1)

    pub items_written : (instrs : List WInstr) → items_at w.s b.at b.point (state w given b) b.route ≡ map item instrs → AreMade instrs
        → in_form w.form b.one.block.items ≡ map item instrs
    items_written instrs items_are made =
        ap (in_form w.form) (ap (λ (block : Block). block.items) b.here.is_block ∙ items_are)
        ∙ same_form w.form (map item instrs) (made_items instrs made)

    -- A template whose items carry the frame to one that fits the state behind the edge to the next point.
    pub fitting_template : (instrs : List WInstr) (last : Frame)
        → items_at w.s b.at b.point (state w given b) b.route ≡ map item instrs
        → AreMade instrs
        → leaves_to b.point b.route ≡ None
        → falls_on b.point.instr ≡ true
        → is_open (state w given b) (plan_row w given b).next ≡ true
        → Carries w (number w given b) (map item instrs) b.frame (Some last)
        → ((edge : RouteEdge) → edge_by b.route edges.Next ≡ Some edge → FitsState w last edge.to edge.state)
        → BlockCarries w (number w given b) b.one b.behind b.frame
    fitting_template instrs last items_are made leaves falls opens so fits =
        let next = next_there w given b falls opens in
        next_carries last next.0 next.1 (ap (λ (block : Block). block.leaves) b.here.is_block ∙ leaves) (fits next.0 next.1)
        (subst (λ (items : List WItem). Carries w (number w given b) items b.frame (Some last)) (sym (items_written instrs items_are made)) so)

    -- or to one that agrees with what comes along.
    pub template_carries : (instrs : List WInstr) (last : Frame)
        → items_at w.s b.at b.point (state w given b) b.route ≡ map item instrs
        → AreMade instrs
        → leaves_to b.point b.route ≡ None
        → falls_on b.point.instr ≡ true
        → is_open (state w given b) (plan_row w given b).next ≡ true
        → Carries w (number w given b) (map item instrs) b.frame (Some last)
        → Agrees last (frame_by_item w.form w.blocks (along w given b))
        → BlockCarries w (number w given b) b.one b.behind b.frame
    template_carries instrs last items_are made leaves falls opens so agrees =
        fitting_template instrs last items_are made leaves falls opens so (λ edge found. along_fits last edge found agrees)
