-- The format writes the line, which groups to the right.
use Rattle.std.proofs.Common.{◌∙◌, append_assoc}
use Rattle.pea_top.specs.Lines.{verified_line}
use Rattle.pea_top.proofs.lines.verified.Goals as goal

pub returns : goal.returns
unfolding verified_line
returns c = rw c.into_bytes.ensures.value (c.in_ok-text.ensures.ok ∙ simp append_assoc)
