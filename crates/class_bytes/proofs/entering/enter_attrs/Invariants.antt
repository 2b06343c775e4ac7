use Rattle.std.proofs.Common.{◌≡◌, map, take}
use Rattle.class_model.specs.ClassOf.{entered_attr}
use Rattle.class_bytes.specs.Inner.Cut.{attrs_of}
use Rattle.class_bytes.proofs.entering.enter_attrs.Given as goal

abbrev pub invariant-loop-attr : goal.invariant-loop-attr
invariant-loop-attr l = l.all ≡ map (entered_attr l.pool) (attrs_of (take l.attr-index l.attrs))
