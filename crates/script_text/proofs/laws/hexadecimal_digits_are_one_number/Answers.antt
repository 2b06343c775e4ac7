use Rattle.script_text.proofs.OneScript.{hex_once}
use Rattle.script_text.proofs.laws.hexadecimal_digits_are_one_number.Goals as goal

pub returns : goal.returns
returns c = hex_once
