use Rattle.map_frames.proofs.OneTable.{one_table}
use Rattle.map_frames.proofs.laws.one_written_table.Goals as goal

pub returns : goal.returns
returns c = one_table
