use Rattle.std.proofs.Common.{◌+◌, [], drop}
use Rattle.class_model.specs.Members.{attrs_checks}
use Rattle.class_model.specs.Methods.{code, method_attr_checks}
use Rattle.class_bytes.specs.Inner.Cut.{attrs_of, home_seen, method_of}
use Rattle.class_bytes.specs.Inner.Parts.{attrs_len}
use Rattle.class_bytes.proofs.Attributes.{Checked}
use Rattle.class_bytes.proofs.methods.check_method_attrs.Given as goal

abbrev pub invariant-loop-attr : goal.invariant-loop-attr
invariant-loop-attr l =
    let asks = method_attr_checks (home_seen l.home) (method_of l.method) in
    Checked l.home.pool.now code asks (attrs_checks asks [] l.at (attrs_of l.method.attrs)) (l.at + attrs_len (attrs_of l.method.attrs)) l.has_code l.place (drop l.attr-index l.attr-items)
