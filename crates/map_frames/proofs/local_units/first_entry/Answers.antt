use Rattle.map_frames.proofs.EntriesOfUnits.{first_of}
use Rattle.std.proofs.Common.{arith}
use Rattle.map_frames.proofs.local_units.first_entry.Goals as goal

pub returns-in-len1-up-clause-some : goal.returns-in-len1-up-clause-some
returns-in-len1-up-clause-some c =
    first_of c.args.units.now c.first-item.result c.behind_first.result.now (omega arith) c.first-item.is c.behind_first.ensures
