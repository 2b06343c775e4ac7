-- The table can be read where its frames are.
use Rattle.std.proofs.Common.{◌≡◌, ap, sym, subst, List, Result}
use Rattle.std.proofs.lemmas.Result.{err_from_is_err_and}
use Rattle.class_model.specs.Checks.{Fault}
use Rattle.class_model.specs.Frames.{Setting, stack_map_table_at}
use Rattle.class_model.specs.declared.frame.PlacedFrame.{PlacedFrame}
use Rattle.class_model.specs.declared.instr.Placed.{Placed}
use Rattle.map_frames.specs.Reading.{Accepts}
use Rattle.map_frames.specs.Inner.Settings.{standing_of}
use Rattle.map_frames.proofs.Faults.{accepts_refused, refuses_same}
use Rattle.map_frames.proofs.FramesRead.{TableStart, table_start, table_fails, table_told, frames_next}
use Rattle.map_frames.proofs.reading.check_frames.Goals as goal
use Rattle.map_frames.proofs.reading.check_frames.Goals.{In_ok-count}

start_of : (c : In_ok-count) → TableStart c.args.entry.now c.args.bytes.now c.in_ok-count.count (standing_of c.count.new.self)
start_of c =
    let counted = c.in_ok-count.ensures in
    table_start c.args.entry.now c.args.bytes.now c.in_ok-count.count (standing_of c.in_ok-walk.walk) (standing_of c.count.new.self) c.in_ok-walk.ensures counted.count counted.locals counted.from

-- the setting with a code, and the table in it
abbrev setting : In_ok-count → List Placed → Setting
setting c code = record { pool = c.args.pool.now; max_locals = c.args.max_locals; max_stack = c.args.max_stack; code = code }

abbrev table : In_ok-count → List Placed → Result (List PlacedFrame) Fault
table c code = stack_map_table_at (setting c code) c.args.entry.now c.args.bytes.now

same_table : (c : In_ok-count) → table c c.args.code.now ≡ table c c.in_ok-code.code
same_table c = ap (table c) (sym c.in_ok-code.ensures)

pub loop-preserved : goal.loop-preserved
loop-preserved c =
    let s = setting (goal.at.loop-preserved c).In_ok-count c.in_ok-code.code in
    (_, frames_next s c.in_ok-count.count (standing_of c.count.new.self) c.loop.counter c.loop.invariant.0 (standing_of c.loop.walk) (standing_of c.frame.new.self) c.in_ok-frame.field-0.0 c.in_ok-frame.field-0.1 c.loop-test.true c.loop.invariant.1 c.in_ok-frame.ensures.steps)

pub returns-in_err-frame : goal.returns-in_err-frame
returns-in_err-frame c =
    let k = (goal.at.returns-in_err-frame c).In_ok-count in
    let f = c.in_err-frame.field-0.0 in
    let p = err_from_is_err_and c.from_residual-in_err-frame.result c.from_residual-in_err-frame.ensures.1 in
    let fails = table_fails (setting k c.in_ok-code.code) _ _ _ (standing_of c.count.new.self) c.loop.counter c.loop.invariant.0 (standing_of c.loop.walk) (standing_of c.frame.new.self) f (start_of k) c.loop-test.true c.loop.invariant.1 c.in_err-frame.ensures.steps in
    rw (p.1, p.2) (accepts_refused (table k c.args.code.now) f (refuses_same _ _ f (same_table k) fails))

pub returns : goal.returns
returns c =
    let k = (goal.at.returns c).In_ok-count in
    let told = table_told (setting k c.in_ok-code.code) _ _ _ (standing_of c.count.new.self) c.loop.counter c.loop.invariant.0 (standing_of c.loop.walk) c.end.result (start_of k) c.loop-test.false c.loop.invariant.1 c.end.ensures in
    subst (λ (given : Result (List PlacedFrame) Fault). Accepts given c.end.result) (sym (same_table k)) told
