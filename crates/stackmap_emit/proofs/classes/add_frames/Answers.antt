use Rattle.std.proofs.Common.{rules, ◌≡◌, ◌+◌, [], drop, length, refl, slice_get, Some}
use Rattle.std.specs.Result.{IsErrOf}
use Rattle.std.proofs.lemmas.Option.{slice_get_read}
use Rattle.class_model.specs.declared.frame.PlacedFrame.{PlacedFrame}
use Rattle.flow_code.specs.declared.reason.KeptFault.TheVariants.{Kept}
use Rattle.stackmap_emit.proofs.Adding.{adds_full, adds_next, needs_next}
use Rattle.stackmap_emit.proofs.classes.add_frames.Goals as goal
use Rattle.stackmap_emit.specs.FrameConstants.{frame_needs}
use Rattle.stackmap_emit.specs.FramesAttribute.{placed_needs}

pub returns-in_err-add_frame-clause-full : goal.returns-in_err-add_frame-clause-full
returns-in_err-add_frame-clause-full c = λ reason is.
    let frames = c.args.frames.now in
    let at = c.loop-placed.placed-index in
    let placed = c.placed-item.result in
    let there : slice_get frames at ≡ Some placed = slice_get_read frames (length frames) at placed refl c.loop-placed-test.true c.placed-item.is in
    let fails : IsErrOf c.add_frame.result (Kept reason) = search rules in
    adds_full c.args.pool.now c.loop-placed.pool [] c.loop-placed.noted (placed_needs frames) (placed_needs (drop at frames))
    (frame_needs (Some placed.frame)) (placed_needs (drop (at + 1) frames)) reason
    (needs_next (λ (one : PlacedFrame). frame_needs (Some one.frame)) frames at placed there) c.loop-placed.invariant
    (c.add_frame.ensures.full reason fails)

pub loop-placed-preserved : goal.loop-placed-preserved
loop-placed-preserved c =
    let frames = c.args.frames.now in
    let at = c.loop-placed.placed-index in
    let placed = c.placed-item.result in
    let there : slice_get frames at ≡ Some placed = slice_get_read frames (length frames) at placed refl c.loop-placed-test.true c.placed-item.is in
    adds_next c.args.pool.now c.loop-placed.pool c.add_frame.new.pool [] c.loop-placed.noted c.add_frame.new.noted
    (placed_needs frames) (placed_needs (drop at frames)) (frame_needs (Some placed.frame)) (placed_needs (drop (at + 1) frames))
    (needs_next (λ (one : PlacedFrame). frame_needs (Some one.frame)) frames at placed there) c.loop-placed.invariant
    c.in_ok-add_frame.ensures.ok c.add_frame.ensures.more
