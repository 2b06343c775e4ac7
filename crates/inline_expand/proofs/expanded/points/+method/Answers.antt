use Rattle.std.proofs.Common.{Vec, Global, ◌≡◌, ◌++◌, ◌+◌, ◌<◌, ℕ, List, Some, None, get_or, length, refl, sym, ap, subst, ◌∙◌, arith}
use Rattle.std.proofs.lemmas.Option.{slice_get_read}
use Rattle.std.proofs.lemmas.Result.{on_ok_weaker}
use Rattle.class_model.specs.Laws.Lists.{drop_item}
use Rattle.class_model.specs.declared.frame.Frame.{Frame}
use Rattle.class_model.specs.declared.instr.Placed.{Placed}
use Rattle.expanded_code.specs.Expanded.{points_from, set_frame}
use Rattle.flow_code.specs.declared.point.Point.{Point}
use Rattle.inline_expand.proofs.CalleeParts.{length-layouts}
use Rattle.inline_expand.proofs.MethodParts.{HasDone, callee-done, done-callee, done-own, room-points, room-units}
use Rattle.inline_expand.proofs.expanded.points.+method.Goals as goal
use Rattle.inline_expand.proofs.expanded.points.+method.Goals.{push_method-in-None+in_ok-push_own-in-None, push_method-in-Some+in_ok-entry-in-Some+in_ok-push_callee-in-Some}
use Rattle.inline_expand.specs.Inner.CalleePlaces.{callee_in, callee_points}
use Rattle.inline_expand.specs.Inner.Layouts.{replacing, units_of_callee}
use Rattle.inline_expand.specs.Inner.Settings.{setting_of}
use Rattle.inline_expand.specs.Inner.Steps.{callees_of, expansion_by}
use Rattle.inline_expand.specs.declared.expansions.Step.{Step}

pub push_callee-returns : goal.push_callee-returns
push_callee-returns t c =
    let found = c.args.found.now in
    on_ok_weaker c.push_method-pushed.result (λ pushed standing at is.
    callee-done found c.args.start c.args.unit c.in-Ok.place standing at c.args.entry c.args.points.now.items c.push_entry.new.points.items c.push_method-pushed.new.points.items
    c.in-Ok.ensures.stands (c.in-Ok.ensures.setting standing at is)
    (c.in-Ok-push_entry.ensures standing at found.body.now.host is c.requires.enter.layout.shape) pushed) c.push_method-pushed.ensures

pub push_method-find-requires : goal.push_method-find-requires
push_method-find-requires t c = length-layouts c.args.bodies.now c.args.layouts.now c.requires.ready.laid

pub push_method-set_frame-requires : goal.push_method-set_frame-requires
push_method-set_frame-requires t c =
    let body = c.args.setting.now.body.now in
    let instrs = c.instrs-instrs.result.now in
    let at = c.loop-number.number in
    let frame = c.index-frames-number.result in
    let all-instrs = ap (λ (all : List Placed). length all) c.instrs-instrs.ensures in
    let all-frames : length instrs ≡ length body.frames.now = omega (arith, all-instrs, c.requires.place.body.one_each) in
    let frame-is = slice_get_read body.frames.now (length instrs) at frame all-frames (omega (arith, c.loop-number-test.true)) c.index-frames-number.is in
    omega (arith, c.requires.place.body.long at frame frame-is, c.requires.place.units)

pub push_method-push_own-requires-clause-long : goal.push_method-push_own-requires-clause-long
push_method-push_own-requires-clause-long t c =
    let body = c.args.setting.now.body.now in
    let instrs = c.instrs-instrs.result.now in
    let at = c.loop-number.number in
    let frame = c.index-frames-number.result in
    let all-instrs = ap (λ (all : List Placed). length all) c.instrs-instrs.ensures in
    let all-frames : length instrs ≡ length body.frames.now = omega (arith, all-instrs, c.requires.place.body.one_each) in
    let frame-is = slice_get_read body.frames.now (length instrs) at frame all-frames (omega (arith, c.loop-number-test.true)) c.index-frames-number.is in
    c.requires.place.body.long at frame frame-is

pub push_method-push_callee-requires : goal.push_method-push_callee-requires
push_method-push_callee-requires t c =
    let s = c.args.setting.now in
    let callees = callees_of c.args.bodies.now in
    let instrs = c.instrs-instrs.result.now in
    let frames = s.body.now.frames.now in
    let steps = c.as_slice-steps.result.now in
    let at = c.loop-number.number in
    let placed = c.index-instrs-number.result in
    let frame = c.index-frames-number.result in
    let step = c.index-steps-number.result in
    let in-instrs : at < length instrs = omega (arith, c.loop-number-test.true) in
    let all-instrs = ap (λ (all : List Placed). length all) c.instrs-instrs.ensures in
    let all-frames : length frames ≡ length instrs = omega (arith, all-instrs, c.requires.place.body.one_each) in
    let all-steps : length steps ≡ length instrs = omega (arith, all-instrs, ap (λ (all : List Step). length all) c.as_slice-steps.ensures, c.requires.place.body.steps) in
    let instrs_are = drop_item instrs at placed (slice_get_read instrs (length instrs) at placed refl in-instrs c.index-instrs-number.is) in
    let frames_are = drop_item frames at frame (slice_get_read frames (length instrs) at frame (sym all-frames) in-instrs c.index-frames-number.is) in
    let steps_are = drop_item steps at step (slice_get_read steps (length instrs) at step (sym all-steps) in-instrs c.index-steps-number.is) in
    let whole = c.args.points.now.items ++ points_from (setting_of s) s.base (s.unit + s.body.now.host.part.max_locals) instrs frames (expansion_by callees steps) in
    let unit = c.loop-number.unit in
    let done = c.loop-number.points.items in
    let found = c.in-Some.found in
    let is = c.in-Some.ensures.some in
    let some : replacing callees step ≡ Some (callee_in found) = is.is in
    let points = room-points s callees instrs frames steps whole at unit done c.loop-number.invariant.done placed frame step instrs_are frames_are steps_are (callee_in found) some in
    let units = room-units s callees instrs frames steps whole at unit done c.loop-number.invariant.done placed frame step instrs_are frames_are steps_are (callee_in found) some in (
      omega (arith, c.decreases, is.fewer),
      (is.ready c.requires.ready, record { body = is.body c.requires.ready; layout = is.layout c.requires.ready; points = points; units = units }),
    )

pub push_method-loop-number-preserved : goal.push_method-loop-number-preserved
push_method-loop-number-preserved t c =
    let s = c.args.setting.now in
    let callees = callees_of c.args.bodies.now in
    let instrs = c.instrs-instrs.result.now in
    let frames = s.body.now.frames.now in
    let steps = c.as_slice-steps.result.now in
    let at = c.loop-number.number in
    let placed = c.index-instrs-number.result in
    let frame = c.index-frames-number.result in
    let step = c.index-steps-number.result in
    let in-instrs : at < length instrs = omega (arith, c.loop-number-test.true) in
    let all-instrs = ap (λ (all : List Placed). length all) c.instrs-instrs.ensures in
    let all-frames : length frames ≡ length instrs = omega (arith, all-instrs, c.requires.place.body.one_each) in
    let all-steps : length steps ≡ length instrs = omega (arith, all-instrs, ap (λ (all : List Step). length all) c.as_slice-steps.ensures, c.requires.place.body.steps) in
    let instrs_are = drop_item instrs at placed (slice_get_read instrs (length instrs) at placed refl in-instrs c.index-instrs-number.is) in
    let frames_are = drop_item frames at frame (slice_get_read frames (length instrs) at frame (sym all-frames) in-instrs c.index-frames-number.is) in
    let steps_are = drop_item steps at step (slice_get_read steps (length instrs) at step (sym all-steps) in-instrs c.index-steps-number.is) in
    let whole = c.args.points.now.items ++ points_from (setting_of s) s.base (s.unit + s.body.now.host.part.max_locals) instrs frames (expansion_by callees steps) in
    let unit = c.loop-number.unit in
    let done = c.loop-number.points.items in
    record {
      done = elim c.match-find.branch [
        | push_method-in-None+in_ok-push_own-in-None w ↦
            let none : replacing callees step ≡ None = w.in-None.ensures.none in
            let more = ap (λ (v : Vec Point Global). v.items) w.points-is ∙ w.in_ok-push_own-in-None.ensures (record { class = refl; handlers = c.in_ok-around.ensures.at }) in
            subst (λ (u : ℕ). HasDone s callees instrs frames steps whole (at + 1) u c.match-find.points.items) (sym w.unit-is)
            (done-own s callees instrs frames steps whole at unit done c.loop-number.invariant.done placed frame step instrs_are frames_are steps_are c.match-find.points.items none more)
        | push_method-in-Some+in_ok-entry-in-Some+in_ok-push_callee-in-Some w ↦
            let found = w.in-Some.found in
            let is = w.in-Some.ensures.some in
            let some : replacing callees step ≡ Some (callee_in found) = is.is in
            let number = s.base + get_or s.starts.now at 0 in
            let room = room-units s callees instrs frames steps whole at unit done c.loop-number.invariant.done placed frame step instrs_are frames_are steps_are (callee_in found) some in
            let layout = (is.layout c.requires.ready).units in
            let units : c.match-find.unit ≡ unit + units_of_callee (callee_in found) = omega (arith, w.unit-is, layout, room) in
            let more : c.match-find.points.items ≡ done ++ callee_points (setting_of s) placed.at (set_frame (setting_of s) frame) number unit (callee_in found) =
            ap (λ (v : Vec Point Global). v.items) w.points-is
            ∙ w.in_ok-push_callee-in-Some.ensures (setting_of s) placed.at (record { class = refl; handlers = c.in_ok-around.ensures.at })
            ∙ ap (λ (entry : Frame). done ++ callee_points (setting_of s) placed.at entry number unit (callee_in found)) w.in_ok-entry-in-Some.ensures in
            done-callee s callees instrs frames steps whole at unit done c.loop-number.invariant.done placed frame step instrs_are frames_are steps_are (callee_in found) c.match-find.points.items c.match-find.unit some units more
      ];
      around = c.in_ok-around.ensures.around;
    }
