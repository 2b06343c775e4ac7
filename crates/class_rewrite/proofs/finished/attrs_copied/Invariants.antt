use Rattle.std.proofs.Common.{◌≡◌, take}
use Rattle.class_rewrite.proofs.finished.attrs_copied.Given as goal

abbrev pub invariant-loop-attr : goal.invariant-loop-attr
invariant-loop-attr l = l.copies ≡ take l.attr-index l.attrs
