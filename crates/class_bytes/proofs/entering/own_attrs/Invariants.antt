use Rattle.std.proofs.Common.{◌≡◌, take}
use Rattle.class_bytes.specs.Inner.Cut.{attrs_of}
use Rattle.class_bytes.proofs.entering.own_attrs.Given as goal

abbrev pub invariant-loop-attr : goal.invariant-loop-attr
invariant-loop-attr l = l.all ≡ attrs_of (take l.attr-index l.attrs)
