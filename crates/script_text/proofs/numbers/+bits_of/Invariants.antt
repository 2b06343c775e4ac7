-- Each call reads one byte fewer.
use Rattle.std.proofs.Common.{length}
use Rattle.script_text.proofs.numbers.+bits_of.Given as goal

abbrev pub decreases-bits_of : goal.decreases-bits_of
decreases-bits_of l = length l.word.now
