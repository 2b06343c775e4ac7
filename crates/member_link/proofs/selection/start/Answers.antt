use Rattle.std.proofs.Common.{◌∙◌, sym, ap, subst}
use Rattle.class_tree.specs.Headers.{headers_of}
use Rattle.class_tree.specs.Order.{place_of}
use Rattle.class_tree.specs.Subtype.{IsArray}
use Rattle.member_link.proofs.Selecting.{start_of_array}
use Rattle.member_link.proofs.selection.start.Goals as goal

pub returns-then-is_array : goal.returns-then-is_array
returns-then-is_array c =
    let array = subst IsArray c.bytes.ensures.same (c.is_array.ensures.0 c.if-is_array.true) in
    c.find.ensures.same ∙ sym (ap (place_of (headers_of c.args.tree.now)) (start_of_array c.args.receiver.now array))
