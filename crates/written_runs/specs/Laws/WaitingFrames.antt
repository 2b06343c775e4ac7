-- A planned frame that waits for the library asks for the same as the one of flat code.
use Rattle.std.proofs.Common.{◌≡◌, ◌+◌, ◌++◌, ℕ, suc, List, [], ◌∷◌, drop, map, slice_get, Some, option_map, refl, sym, ap, ◌∙◌, arith}
use Rattle.std.proofs.lemmas.Option.{same_Some}
use Rattle.std.specs.Prelude.{option_and_then}
use Rattle.flow_code.specs.FlatRoom.{stack_room}
use Rattle.flow_code.specs.declared.point.FlatInstr.{FlatInstr}
use Rattle.flow_code.specs.declared.point.Point.{Point}
use Rattle.machine_values.specs.Frames.{MethodState}
use Rattle.machine_values.specs.Heaps.{Heap}
use Rattle.machine_values.specs.declared.frame.RunFrame.{RunFrame}
use Rattle.making_code.specs.Items.{WItem, carried}
use Rattle.member_link.specs.Machine.Acting.{pending_of}
use Rattle.member_link.specs.Machine.Codes.{item_op, number_at, run_point}
use Rattle.member_link.specs.Machine.Programs.{Code, Point as RunPoint, code_at, point_at}
use Rattle.member_link.specs.Scope.{scope_at}
use Rattle.plan_flow.specs.Laws.WrittenBlocks.{block_finished, first_item, first_of, own_of}
use Rattle.plan_flow.specs.Written.Blocks.{Block, blocks_of, instruction_block}
use Rattle.plan_flow.specs.Written.Finish.{Finished, end_items, end_of, finish}
use Rattle.plan_flow.specs.Written.Routes.{Route}
use Rattle.plan_flow.specs.PlanTable.{targets_at}
use Rattle.plan_flow.specs.Written.Templates.{catches_at, jump_targets}
use Rattle.plan_flow.specs.Written.WrittenCode.{block_items, target_number, written_code, written_items, written_point}
use Rattle.plan_flow.specs.Written.WrittenPrograms.{WrittenMethod}
use Rattle.same_runs.specs.Flats.{class_of_flat_new, flat_code, flat_item, flat_point, flat_points, instr_scope}
use Rattle.same_runs.specs.Laws.FlatRuns.{numbered_point_is}
use Rattle.same_runs.specs.Laws.MethodPoints.{code_of_point}
use Rattle.same_runs.specs.Laws.Numbered.{replaced_code, slice_numbered}
use Rattle.same_runs.specs.Renamings.{Names}
use Rattle.written_runs.specs.Inner.PlannedFrames.{IsBlock, Known, Moment, arrives, blocks_in, of_first, of_handler, of_jump, of_next, of_own, scope_in, stays, waits}
use Rattle.written_runs.specs.Inner.Setup.{IsSetup, Setup, first, second}
use Rattle.written_runs.specs.Inner.Standing.{IsWaiting}
use Rattle.written_runs.specs.Laws.LibraryFrames.{PendAlike, PendsPlanned}
use Rattle.written_runs.specs.Laws.MadeItems.{behind_made}
use Rattle.written_runs.specs.Laws.OwnFrames.{WaitsPlanned, point_on_top}
use Rattle.written_runs.specs.Laws.PendingOperations.{BeginsCarried, begins_carried, pends_alike}
use Rattle.written_runs.specs.Laws.SameBoth.{own}
use Rattle.written_runs.specs.Laws.WrittenCodes.{written_code_at}
use Rattle.written_runs.specs.VirtualObjects.{Virtuals}
use Rattle.written_runs.specs.WrittenRuns.{IsReadyMethod}

-- the block of an instruction stands at its number
block_there : {u : Setup} {one : WrittenMethod} {number : ℕ} {block : Block} → IsBlock u one number block
    → (at : ℕ) (point : Point) (route : Route)
    → block ≡ instruction_block (scope_in u one) at point route
    → slice_get (blocks_of (scope_in u one) one.routes) number ≡ Some block
block_there {u = u} {one = one} (of_first from its own_route reached) at point route same =
    (first_of (scope_in u one) one.routes from its own_route reached.is_point reached.is_route).is_there
block_there {u = u} {one = one} (of_own from its own_route reached) at point route same =
    own_of (scope_in u one) one.routes from its own_route reached.is_point reached.is_route
block_there (of_next from its own_route edge site sites reached makes) at point route same = absurd (cc (ap (λ (b : Block). b.of) same))
block_there (of_jump from number its own_route edge site sites place reached makes there) at point route same = there.is_there
block_there (of_handler from number its own_route edge site sites place reached makes there) at point route same = there.is_there

module _ (u : Setup) (is : IsSetup u) where
  module _ {virtuals : Virtuals} {known : Known} {names : Names} {heap : Heap} {f g : MethodState} {ones others : List RunFrame}
      (w : WaitsPlanned u virtuals known names heap f g ones others) where
    abbrev one : WrittenMethod
    one = w.in_planned.one

    written : u.written f.at ≡ Some one
    written = ap u.written w.in_planned.at ∙ w.in_planned.is_written

    ready : IsReadyMethod u.classes u.links f.at one
    ready = is.ready f.at one written

    -- ---- the instruction of flat code

    abbrev flat_one : Code
    flat_one = flat_code u.classes u.links ready.scope one.flat

    on_top : (point : RunPoint) × (point_at (first u) f.at f.place ≡ Some point)
    on_top = point_on_top u w.typed

    -- the point of flat code as the first runs it
    first_point : (point : Point)
        → slice_get one.flat.points f.place ≡ Some point
        → on_top.0
        ≡ run_point u.links (number_at (flat_points u.classes ready.scope one.flat)) (flat_point u.classes ready.scope one.flat f.place point)
    first_point point there =
        same_Some on_top.0 _ (sym code.2 ∙ ap (λ (c : Code). slice_get c.points f.place) runs_flat
        ∙ numbered_point_is u.classes u.links ready.scope one.flat f.place point there) where
          code : (code : Code) × (code_at (first u) f.at ≡ Some code) × (slice_get code.points f.place ≡ Some on_top.0)
          code = code_of_point (first u) f.at f.place on_top.0 on_top.1

          has_flat : u.flats f.at ≡ Some one.flat
          has_flat = is.flats.each f.at ∙ rw (written) refl

          body : u.r.body f.at ≡ Some flat_one
          body = is.replaces.bodies f.at ∙ rw (has_flat, ready.is_scope) refl

          runs_flat : code.0 ≡ flat_one
          runs_flat = replaced_code (own u) u.r is.replaces.none_added f.at flat_one code.0 body code.1

    -- ---- that of written code

    abbrev whole : Code
    whole = written_code (scope_in u one) ready.scope u.constructor one.form (blocks_in u one)

    runs_written : code_at (second u) g.at ≡ Some whole
    runs_written = written_code_at u is g.at one ready.scope w.in_planned.is_written (ap (scope_at u.classes) (sym w.in_planned.at) ∙ ready.is_scope)

    second_point : (number : ℕ) (finished : Finished) (item : WItem) (tail : List WItem)
        → slice_get (blocks_in u one) number ≡ Some finished
        → block_items one.form finished ≡ item ∷ tail
        → g.place ≡ first_item one.form (blocks_in u one) number
        → point_at (second u) g.at g.place
        ≡ Some (written_point (scope_in u one) ready.scope u.constructor one.form (blocks_in u one) (0 + first_item one.form (blocks_in u one) number) item)
    second_point number finished item tail is_finished items place =
        ap (option_and_then (λ (c : Code). slice_get c.points g.place)) runs_written
        ∙ ap (slice_get whole.points) place
        ∙ slice_numbered (written_point (scope_in u one) ready.scope u.constructor one.form (blocks_in u one)) 0 (written_items one.form (blocks_in u one))
        (first_item one.form (blocks_in u one) number)
        ∙ ap (option_map (written_point (scope_in u one) ready.scope u.constructor one.form (blocks_in u one)
        (0 + first_item one.form (blocks_in u one) number))) there where
          there : slice_get (written_items one.form (blocks_in u one)) (first_item one.form (blocks_in u one) number) ≡ Some item
          there =
              let none : first_item one.form (blocks_in u one) number ≡ first_item one.form (blocks_in u one) number + 0 = omega arith in
              ap (slice_get (written_items one.form (blocks_in u one))) none
              ∙ behind_made one.form (blocks_in u one) number finished [] item tail is_finished items

    -- ---- both

    pends : PendAlike u f g
    pends = by w.in_planned.moment w.waiting where
      by : (moment : Moment u known one f g w.in_planned.block) → IsWaiting moment → PendAlike u f g
      by (arrives here told) impossible = absurd impossible
      by (stays point route here of_instruction met) impossible = absurd impossible
      by (waits point route here of_instruction met is_carried awaits) waiting = record {
        point = on_top.0;
        also =
            written_point (scope_in u one) ready.scope u.constructor one.form (blocks_in u one)
            (0 + first_item one.form (blocks_in u one) here.number) begins.item;
        is_point = on_top.1;
        is_also = second_point here.number finished begins.item begins.tail is_finished begins.items here.place_also;
        same =
            pends_alike u.classes u.links one.flat ready.scope u.constructor (number_at (flat_points u.classes ready.scope one.flat))
            (stack_room one.flat) (class_of_flat_new u.classes one.flat)
            (map (target_number one.form (blocks_in u one) (0 + first_item one.form (blocks_in u one) here.number)) begins.item.targets)
            is_carried.class is_carried.instr begins.is_carried
            ∙ sym (ap (λ (instr : FlatInstr). pending_of (item_op u.links (number_at (flat_points u.classes ready.scope one.flat))
            (instr_scope u.classes ready.scope one.flat instr) (flat_item instr))) is_carried.is_instr)
            ∙ sym (ap (λ (p : RunPoint). pending_of p.op) (first_point point of_instruction.reached.is_point));
      } where
        finished : Finished
        finished = record {
          block = w.in_planned.block;
          end = end_of one.flat w.in_planned.block (finish one.flat (drop (suc here.number) (blocks_of (scope_in u one) one.routes)));
        }

        is_finished : slice_get (blocks_in u one) here.number ≡ Some finished
        is_finished =
            block_finished one.flat (blocks_of (scope_in u one) one.routes) here.number w.in_planned.block
            (block_there here.is_block f.place point route of_instruction.is)

        begins : BeginsCarried one.form finished is_carried.class is_carried.instr
        begins =
            begins_carried one.form finished is_carried.class is_carried.instr (record {
              instr = carried is_carried.class is_carried.instr;
              targets = jump_targets f.place route 0 (targets_at point.instr);
              catches = catches_at f.place point route;
            }) (end_items finished.end)
            (ap (λ (items : List WItem). items ++ end_items finished.end) (ap (λ (b : Block). b.items) of_instruction.is ∙ is_carried.items)) refl

  -- So each planned frame that waits.
  pub waits_alike : PendsPlanned u
  waits_alike = record { pends = λ virtuals known names heap f g ones others w. pends w }
