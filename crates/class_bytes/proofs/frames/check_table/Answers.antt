use Rattle.std.proofs.Common.{arith}
use Rattle.class_model.specs.Checks.{fault}
use Rattle.class_bytes.specs.Inner.CodeParts.{setting_of_code, entry_frame_of}
use Rattle.class_bytes.specs.Inner.Cut.{part_of}
use Rattle.class_bytes.proofs.TableFaults.{table_fault_inside, table_fault_placed, table_holds}
use Rattle.class_bytes.proofs.frames.check_table.Goals as goal

pub returns-in-Ok : goal.returns-in-Ok
returns-in-Ok c =
    let code = c.args.code.now in
    let read = c.in-Ok.ensures in
    (table_holds (setting_of_code code) (entry_frame_of code) c.args.content.now c.args.at c.in_ok-entry.entry (c.in_ok-entry.ensures (part_of code.part.now)) read.0 read.1, tt)

pub place_of-requires : goal.place_of-requires
place_of-requires c =
    let code = c.args.code.now in
    let f = fault c.in-Err-Malformed.inside c.in-Err-Malformed.rule in
    let inside = table_fault_inside (setting_of_code code) c.in_ok-entry.entry c.args.content.now f (rw c.in-Err-Malformed.field-0-is at c.in-Err-Malformed.ensures) in
    omega (arith, inside, c.requires.fits)

pub returns-in-Err-Malformed : goal.returns-in-Err-Malformed
returns-in-Err-Malformed c =
    let code = c.args.code.now in
    let f = fault c.in-Err-Malformed.inside c.in-Err-Malformed.rule in
    rw c.place_of.ensures (table_fault_placed (setting_of_code code) (entry_frame_of code) c.args.content.now c.args.at f c.in_ok-entry.entry (c.in_ok-entry.ensures (part_of code.part.now))
    (rw c.in-Err-Malformed.field-0-is at c.in-Err-Malformed.ensures))
