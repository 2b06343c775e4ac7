-- What was read so far, and what is left.
use Rattle.std.specs.Option.{option_copied}
use Rattle.script_text.specs.Scripts.{SpellsGiven}
use Rattle.script_text.specs.Inner.Reading.{words_left, length_left}
use Rattle.script_text.proofs.EachWord.{EachSoFar}
use Rattle.script_text.proofs.lists.givens_of.Given as goal

abbrev pub invariant-loop-word : goal.invariant-loop-word
invariant-loop-word l = EachSoFar SpellsGiven (words_left (option_copied l.fn.words)) l.values (words_left (option_copied l.left))

abbrev pub decreases-loop-word : goal.decreases-loop-word
decreases-loop-word l = length_left (option_copied l.left)
