use Rattle.std.proofs.Common.{arith}
use Rattle.class_bytes.proofs.PartLengths.{part_len}
use Rattle.class_bytes.proofs.attr_writing.part_len.Goals as goal

pub loop-attr-init : goal.loop-attr-init
loop-attr-init c = rw c.as_slice-attr-items.ensures (omega (arith, part_len c.args.part.now, c.len.ensures, c.len-2.ensures))
