use Rattle.class_model.specs.Spelling.{attr_bytes}
use Rattle.class_bytes.specs.Numbers.{AttrNumbers}
use Rattle.class_bytes.proofs.Pushing.{Pushed}
use Rattle.class_bytes.proofs.attr_writing.push_attrs.Given as goal

abbrev pub invariant-loop-attr : goal.invariant-loop-attr
invariant-loop-attr l = Pushed attr_bytes AttrNumbers l.fn.out.items l.out.items l.attrs l.attr-index
