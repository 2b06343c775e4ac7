use Rattle.std.proofs.Common.{◌≡◌}
use Rattle.member_link.specs.Rows.Table.{without_older}
use Rattle.row_frames.proofs.MappedSoFar.{mapped_to}
use Rattle.row_frames.proofs.objects.without_older.Given as goal

abbrev pub invariant-loop-index : goal.invariant-loop-index
invariant-loop-index l = l.after ≡ mapped_to (without_older l.at) l.index l.locals
