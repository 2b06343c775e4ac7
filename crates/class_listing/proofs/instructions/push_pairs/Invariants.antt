-- What was appended so far is what stands for the pairs before the index.
use Rattle.std.proofs.Common.{◌≡◌, ◌++◌, take, map}
use Rattle.script_text.specs.Events.{spaced}
use Rattle.class_listing.specs.Inner.InstrWords.{pair_word}
use Rattle.class_listing.proofs.instructions.push_pairs.Given as goal

abbrev pub invariant-loop-pair : goal.invariant-loop-pair
invariant-loop-pair l = l.out.items ≡ l.initial.out.items ++ spaced (map (pair_word l.at) (take l.pair-index l.pairs))
