use Rattle.std.proofs.Common.{sym, ◌∙◌}
use Rattle.pea_top.proofs.reading.read_file.Goals as goal

-- what was shown before left the folder
pub returns-clause-found : goal.returns-clause-found
returns-clause-found g c = λ told. c.file_of.ensures.file _ (rw (← c.as_str.ensures) (sym (c.show_done.ensures.files told _ _) ∙ c.in_ok-bytes.ensures.bytes told))
