use Rattle.std.proofs.Common.{◌+◌, [], drop}
use Rattle.class_model.specs.Members.{attrs_checks}
use Rattle.class_model.specs.Methods.{class_attr_checks}
use Rattle.class_bytes.specs.Inner.Cut.{attrs_of}
use Rattle.class_bytes.specs.Inner.Parts.{attrs_len}
use Rattle.class_bytes.proofs.ClassAttrs.{AttrsChecked}
use Rattle.class_bytes.proofs.bootstraps.check_class_attrs.Given as goal

abbrev pub invariant-loop-attr : goal.invariant-loop-attr
invariant-loop-attr l =
    AttrsChecked l.pool (attrs_checks (class_attr_checks l.pool) [] l.at (attrs_of l.attrs)) (l.at + attrs_len (attrs_of l.attrs)) (attrs_of l.attrs) l.found l.place (drop l.attr-index l.attrs)
