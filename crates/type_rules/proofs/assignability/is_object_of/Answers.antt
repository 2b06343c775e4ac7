use Rattle.std.proofs.Common.{◌↔◌, IsTrue, subst}
use Rattle.class_tree.specs.Headers.{Name, headers_of}
use Rattle.member_link.specs.Assignability.{IsNameAssignable}
use Rattle.type_rules.proofs.TypeAssignability.{null_decides, object_decides}
use Rattle.type_rules.proofs.assignability.is_object_of.Goals as goal

pub returns-in-Null : goal.returns-in-Null
returns-in-Null c = null_decides (headers_of c.args.tree.now) c.args.from.now c.args.to.now c.in-Null.is

pub returns-in-Object : goal.returns-in-Object
returns-in-Object c =
    let headers = headers_of c.args.tree.now in
    let decides = object_decides headers c.args.from.now c.in-Object.low c.args.to.now c.in-Object.is in
    let named = subst (λ (low : Name). IsTrue c.is_name_assignable.result ↔ IsNameAssignable headers low c.args.to.now) c.bytes.ensures.same c.is_name_assignable.ensures in
    (λ yes. decides.0 (named.0 yes), λ whole. named.1 (decides.1 whole))
