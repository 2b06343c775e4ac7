-- What was appended so far is what stands for the targets before the index.
use Rattle.std.proofs.Common.{◌≡◌, ◌++◌, take, map}
use Rattle.script_text.specs.Events.{spaced}
use Rattle.class_listing.specs.Inner.InstrWords.{target_word}
use Rattle.class_listing.proofs.instructions.push_targets.Given as goal

abbrev pub invariant-loop-to : goal.invariant-loop-to
invariant-loop-to l = l.out.items ≡ l.initial.out.items ++ spaced (map (target_word l.at) (take l.to-index l.targets))
