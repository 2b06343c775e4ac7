-- The words seen and the rest complete what all the words complete.
use Rattle.std.specs.Prelude.{◌↔◌, drop, map, string_bytes}
use Rattle.pea_top.specs.Words.{Command}
use Rattle.pea_top.specs.Seen.{AreBehindName, EndsCommand}
use Rattle.pea_top.proofs.words.seen_in.Given as goal

abbrev pub invariant-loop-word : goal.invariant-loop-word
invariant-loop-word l =
    (command : Command) → EndsCommand l.seen (map string_bytes (drop l.word-index l.words)) command ↔ AreBehindName (map string_bytes l.words) command
