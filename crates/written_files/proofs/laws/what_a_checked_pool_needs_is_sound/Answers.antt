use Rattle.written_files.proofs.SoundNeeds.{needs_sound}
use Rattle.written_files.proofs.laws.what_a_checked_pool_needs_is_sound.Goals as goal

pub returns : goal.returns
returns c = λ major pool index hold. needs_sound major pool hold index
