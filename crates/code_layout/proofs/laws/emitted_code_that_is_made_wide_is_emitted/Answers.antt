use Rattle.code_layout.proofs.WideItems.{widened-emitted}
use Rattle.code_layout.proofs.laws.emitted_code_that_is_made_wide_is_emitted.Goals as goal

pub returns : goal.returns
returns c = widened-emitted
