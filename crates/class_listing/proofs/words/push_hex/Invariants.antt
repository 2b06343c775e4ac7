-- What was appended so far is what stands for the bytes before the index.
use Rattle.std.proofs.Common.{◌≡◌, ◌++◌, take}
use Rattle.class_listing.specs.Operations.{hex_digits}
use Rattle.class_listing.proofs.words.push_hex.Given as goal

abbrev pub invariant-loop-byte : goal.invariant-loop-byte
invariant-loop-byte l = l.out.items ≡ l.initial.out.items ++ hex_digits (take l.byte-index l.bytes)
