use Rattle.code_bytes.proofs.StatedAtStarts.{stated_at_start}
use Rattle.code_bytes.proofs.laws.frames_are_stated_at_instructions.Goals as goal

pub returns : goal.returns
returns c = λ home method part attrs at frame is.
    let there = stated_at_start home method part at frame attrs is in
    (there.instrs, there.read, there.starts)
