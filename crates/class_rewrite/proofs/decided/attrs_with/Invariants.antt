use Rattle.std.proofs.Common.{◌≡◌, take}
use Rattle.class_rewrite.specs.Rewriting.Folders.{with_part}
use Rattle.class_rewrite.proofs.decided.attrs_with.Given as goal

abbrev pub invariant-loop-attr : goal.invariant-loop-attr
invariant-loop-attr l = l.written ≡ with_part l.part (take l.attr-index l.attrs)
