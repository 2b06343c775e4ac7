use Rattle.class_model.specs.Spelling.{inner_bytes}
use Rattle.class_bytes.specs.Numbers.{InnerNumber}
use Rattle.class_bytes.proofs.Pushing.{Pushed}
use Rattle.class_bytes.proofs.attr_writing.push_inner_attrs.Given as goal

abbrev pub invariant-loop-attr : goal.invariant-loop-attr
invariant-loop-attr l = Pushed inner_bytes InnerNumber l.fn.out.items l.out.items l.attrs l.attr-index
