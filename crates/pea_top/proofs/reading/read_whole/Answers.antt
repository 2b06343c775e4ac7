use Rattle.std.proofs.Common.{◌<◌, ◌^◌, ◌-◌, length, arith}
use Rattle.pea_top.proofs.FolderReads.{whole_from_read}
use Rattle.pea_top.proofs.reading.read_whole.Goals as goal

pub returns-in-Ok-clause-bytes : goal.returns-in-Ok-clause-bytes
returns-in-Ok-clause-bytes g c = λ told.
    let short : length c.into_vec.result.items < 2 ^ 64 - 1 = omega (arith, c.into_vec.result.ok, c.into_vec.result.small) in
    let whole = whole_from_read _ _ c.in-Ok.bytes (c.in-Ok.ensures.bytes told) (rw (← c.into_vec.ensures) short) in
    rw (c.from_vec.ensures, c.into_vec.ensures) whole
