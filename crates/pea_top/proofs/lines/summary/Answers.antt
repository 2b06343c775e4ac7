-- The format writes the line, which groups to the right.
use Rattle.std.proofs.Common.{◌∙◌, append_assoc}
use Rattle.pea_top.specs.Lines.{summary_line}
use Rattle.pea_top.proofs.lines.summary.Goals as goal

pub returns : goal.returns
unfolding summary_line
returns c = rw c.into_bytes.ensures.value (c.in_ok-text.ensures.ok ∙ simp append_assoc)
