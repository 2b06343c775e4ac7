use Rattle.written_files.proofs.SoundConstructors.{constructor_sound}
use Rattle.written_files.proofs.laws.what_a_field_constructor_needs_is_sound.Goals as goal

pub returns : goal.returns
returns c = λ headers constructor file has. constructor_sound headers constructor file has
