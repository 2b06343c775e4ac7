use Rattle.written_files.proofs.SoundCode.{code_sound}
use Rattle.written_files.proofs.laws.what_written_code_needs_is_sound.Goals as goal

pub returns : goal.returns
returns c = λ s constructor items are. code_sound s constructor items are
