use Rattle.std.proofs.Common.{subst, rules}
use Rattle.map_frames.specs.Inner.Indices.{AreShort}
use Rattle.map_frames.specs.Writing.{IsTable}
use Rattle.map_frames.proofs.TablesRead.{table_read}
use Rattle.map_frames.proofs.writing.frame_bytes.Goals as goal

pub returns-clause-read : goal.returns-clause-read
returns-clause-read c = λ s has.
    let is : IsTable c.args.class_index.now c.args.entry.now c.args.frames.now c.from_vec.result = search rules in
    table_read s c.args.class_index.now c.args.entry.now c.args.frames.now c.from_vec.result (subst AreShort c.as_slice.ensures c.in_ok-classes.ensures.short) c.requires has is
