use Rattle.std.proofs.Common.{◌++◌, ap, ◌∙◌, append_assoc, arith}
use Rattle.std.proofs.Math.ListN.{drop_of_length-le}
use Rattle.class_model.specs.Frames.{entries_of_units}
use Rattle.map_frames.specs.Inner.Listing.{listed_of}
use Rattle.map_frames.proofs.TablesWritten.{next_fits, next_done, all_done}
use Rattle.map_frames.proofs.writing.push_frames.Goals as goal

pub push_frame-requires : goal.push_frame-requires
push_frame-requires c =
    let left = c.loop-placed.invariant in
    next_fits c.args.classes.now (entries_of_units c.args.locals.items) c.args.frames.now c.loop-placed.from (entries_of_units c.loop-placed.before.items) left.0 c.loop-placed.placed-index c.placed-item.result
    left.2 (omega arith) c.placed-item.is (listed_of c.listed_at-frame.result) c.listed_at-frame.ensures

pub loop-placed-preserved : goal.loop-placed-preserved
loop-placed-preserved c =
    let left = c.loop-placed.invariant in
    let written = c.in_ok-push_frame.ensures in (
      left.0 ++ written.0,
      written.1 ∙ ap (λ bytes. bytes ++ written.0) left.1 ∙ append_assoc c.args.out.now.items left.0 written.0,
      next_done c.args.classes.now (entries_of_units c.args.locals.items) c.args.frames.now c.loop-placed.from (entries_of_units c.loop-placed.before.items) left.0 c.loop-placed.placed-index c.placed-item.result
          left.2 (omega arith) c.placed-item.is (listed_of c.listed_at-frame.result) (entries_of_units c.in_ok-locals.locals.items) written.0 c.listed_at-frame.ensures (ap entries_of_units c.in_ok-locals.ensures) (rw c.as_slice-in-loop-placed.ensures.value at written.2),
    )

pub returns : goal.returns
returns c =
    let left = c.loop-placed.invariant in
    (left.0, left.1, all_done c.args.classes.now _ _ _ _ _ left.0 left.2 (drop_of_length-le c.args.frames.now c.loop-placed-test.false))
