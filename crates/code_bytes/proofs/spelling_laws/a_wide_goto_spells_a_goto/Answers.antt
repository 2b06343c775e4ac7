use Rattle.code_bytes.proofs.SpelledForms.{spells_wide_goto}
use Rattle.code_bytes.proofs.spelling_laws.a_wide_goto_spells_a_goto.Goals as goal

pub returns : goal.returns
returns c = spells_wide_goto
