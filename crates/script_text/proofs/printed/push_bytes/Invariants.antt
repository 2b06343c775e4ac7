-- What was appended so far is what the bytes before the index print as.
use Rattle.std.proofs.Common.{◌≡◌, ◌++◌, take}
use Rattle.std.specs.List.{flat_map}
use Rattle.script_text.specs.PrintedTexts.{printed_byte}
use Rattle.script_text.proofs.printed.push_bytes.Given as goal

abbrev pub invariant-loop-byte : goal.invariant-loop-byte
invariant-loop-byte l = l.line.items ≡ l.initial.line.items ++ flat_map printed_byte (take l.byte-index l.bytes)
