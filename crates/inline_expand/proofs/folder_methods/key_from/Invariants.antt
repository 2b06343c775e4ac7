use Rattle.std.proofs.Common.{◌≡◌, ◌<◌, drop}
use Rattle.inline_expand.specs.Inner.FolderMethods.{key}
use Rattle.inline_expand.proofs.folder_methods.key_from.Given as goal

abbrev pub invariant-loop-byte : goal.invariant-loop-byte
invariant-loop-byte l = (key l.key (drop l.byte-index l.bytes) ≡ key l.fn.start l.bytes) × (l.key < 4294967296)
