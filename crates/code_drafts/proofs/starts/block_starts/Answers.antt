use Rattle.std.proofs.Common.{◌∙◌}
use Rattle.code_drafts.proofs.StartLaws.{starts_same}
use Rattle.code_drafts.proofs.starts.block_starts.Goals as goal

pub returns : goal.returns
returns c = λ flat bs drafted is. c.in_ok-listed_starts.ensures ∙ starts_same flat bs c.args.blocks.items c.args.firsts.now drafted is
