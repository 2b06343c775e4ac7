use Rattle.script_text.proofs.PrintedTexts.{printed_once}
use Rattle.script_text.proofs.laws.a_printed_text_is_one_text.Goals as goal

pub returns : goal.returns
returns c = printed_once
