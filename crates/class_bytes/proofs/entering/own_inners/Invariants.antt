use Rattle.std.proofs.Common.{◌≡◌, take}
use Rattle.class_bytes.specs.Inner.Cut.{inners_of}
use Rattle.class_bytes.proofs.entering.own_inners.Given as goal

abbrev pub invariant-loop-attr : goal.invariant-loop-attr
invariant-loop-attr l = l.all ≡ inners_of (take l.attr-index l.attrs)
