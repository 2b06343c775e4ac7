use Rattle.script_text.specs.Scripts.{lines_of}
use Rattle.script_text.proofs.OneScript.{first_outside_once, no_line_outside}
use Rattle.script_text.proofs.laws.a_script_has_no_line_outside.Goals as goal

pub returns-clause-not_both : goal.returns-clause-not_both
returns-clause-not_both c = no_line_outside

pub returns-clause-one_line : goal.returns-clause-one_line
returns-clause-one_line c bytes = first_outside_once (lines_of bytes)
