-- The frames that are read are those of the table.
use Rattle.std.proofs.Common.{◌≡◌, ap, sym, ◌∙◌, List, Result}
use Rattle.std.proofs.lemmas.Result.{err_from_is_err_and}
use Rattle.class_model.specs.Checks.{Fault}
use Rattle.class_model.specs.Frames.{Setting, stack_map_table_at}
use Rattle.class_model.specs.declared.frame.PlacedFrame.{PlacedFrame}
use Rattle.class_model.specs.declared.instr.Placed.{Placed}
use Rattle.map_frames.specs.Inner.Settings.{standing_of}
use Rattle.map_frames.proofs.Faults.{gives_refused, refuses_same}
use Rattle.map_frames.proofs.FramesRead.{TableStart, table_start, table_fails, table_ends, table_goes_on, frames_next}
use Rattle.map_frames.proofs.reading.read_frames.Goals as goal
use Rattle.map_frames.proofs.reading.read_frames.Goals.{In_ok-count}

start_of : (c : In_ok-count) → TableStart c.args.entry.now c.args.bytes.now c.in_ok-count.count (standing_of c.count.new.self)
start_of c =
    let counted = c.in_ok-count.ensures in
    table_start c.args.entry.now c.args.bytes.now c.in_ok-count.count (standing_of c.in_ok-walk.walk) (standing_of c.count.new.self) c.in_ok-walk.ensures counted.count counted.locals counted.from

-- the setting with a code, and the table in it
abbrev setting : In_ok-count → List Placed → Setting
setting c code = record { pool = c.args.pool.now; max_locals = c.args.max_locals; max_stack = c.args.max_stack; code = code }

abbrev table : In_ok-count → List Placed → Result (List PlacedFrame) Fault
table c code = stack_map_table_at (setting c code) c.args.entry.now c.args.bytes.now

same_table : (c : In_ok-count) → table c c.args.code.now ≡ table c c.in_ok-code.code
same_table c = ap (table c) (sym c.in_ok-code.ensures)

pub frame_with_units-requires : goal.frame_with_units-requires
frame_with_units-requires c = c.loop.invariant.1

pub loop-preserved : goal.loop-preserved
loop-preserved c =
    let s = setting (goal.at.loop-preserved c).In_ok-count c.in_ok-code.code in (
      rw (c.in_ok-push.ensures.ok, c.in_ok-copy.ensures, c.in_ok-at.ensures.units, c.into_list.ensures)
          (frames_next s c.in_ok-count.count (standing_of c.count.new.self) c.loop.counter c.loop.frames (standing_of c.loop.walk) (standing_of c.frame_with_units.new.self) c.in_ok-at.at c.in_ok-at.stack c.loop-test.true c.loop.invariant.0 c.in_ok-at.ensures.steps),
      c.in_ok-at.ensures.units,
    )

pub returns-in_err-at : goal.returns-in_err-at
returns-in_err-at c =
    let k = (goal.at.returns-in_err-at c).In_ok-count in
    let f = c.in_err-at.field-0.0 in
    let p = err_from_is_err_and c.from_residual-in_err-at.result c.from_residual-in_err-at.ensures.1 in
    let fails = table_fails (setting k c.in_ok-code.code) _ _ _ (standing_of c.count.new.self) c.loop.counter c.loop.frames (standing_of c.loop.walk) (standing_of c.frame_with_units.new.self) f (start_of k) c.loop-test.true c.loop.invariant.0 c.in_err-at.ensures.steps in
    rw (p.1, p.2) (gives_refused (table k c.args.code.now) f (refuses_same _ _ f (same_table k) fails))

pub returns-in_err-end : goal.returns-in_err-end
returns-in_err-end c =
    let k = (goal.at.returns-in_err-end c).In_ok-count in
    let f = c.in_err-end.field-0.0 in
    let p = err_from_is_err_and c.from_residual-in_err-end.result c.from_residual-in_err-end.ensures.1 in
    let fails = table_goes_on (setting k c.in_ok-code.code) _ _ _ (standing_of c.count.new.self) c.loop.counter c.loop.frames (standing_of c.loop.walk) f (start_of k) c.loop-test.false c.loop.invariant.0 c.in_err-end.ensures in
    rw (p.1, p.2) (gives_refused (table k c.args.code.now) f (refuses_same _ _ f (same_table k) fails))

pub returns : goal.returns
returns c =
    let k = (goal.at.returns c).In_ok-count in
    same_table k ∙ table_ends (setting k c.in_ok-code.code) _ _ _ (standing_of c.count.new.self) c.loop.counter c.loop.frames (standing_of c.loop.walk) (start_of k) c.loop-test.false c.loop.invariant.0 c.in_ok-end.ensures
