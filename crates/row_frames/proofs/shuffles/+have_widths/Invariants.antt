use Rattle.std.proofs.Common.{length}
use Rattle.row_frames.proofs.shuffles.+have_widths.Given as goal

abbrev pub decreases-have_widths : goal.decreases-have_widths
decreases-have_widths l = length l.widths.now
