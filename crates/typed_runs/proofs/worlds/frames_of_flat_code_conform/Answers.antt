use Rattle.typed_runs.proofs.FlatFrames.{flat_frames_conform}
use Rattle.typed_runs.proofs.worlds.frames_of_flat_code_conform.Goals as goal

pub returns : goal.returns
returns c = flat_frames_conform
