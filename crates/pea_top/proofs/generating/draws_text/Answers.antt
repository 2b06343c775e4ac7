-- The format writes the text, which groups to the right.
use Rattle.std.proofs.Common.{◌∙◌, append_assoc}
use Rattle.pea_top.specs.Generating.{draws_text}
use Rattle.pea_top.proofs.generating.draws_text.Goals as goal

pub returns : goal.returns
unfolding draws_text
returns c = rw c.into_bytes.ensures.value (c.in_ok-text.ensures.ok ∙ simp append_assoc)
