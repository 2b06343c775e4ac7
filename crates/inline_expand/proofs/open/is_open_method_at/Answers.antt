use Rattle.class_tree.specs.Headers.{Headers, headers_of}
use Rattle.expanded_code.specs.Callees.{IsOpenMethodReference}
use Rattle.inline_expand.proofs.OpenMembers.{of_reference}
use Rattle.inline_expand.proofs.open.is_open_method_at.Goals as goal
use Rattle.member_link.specs.MemberRefs.{reference_meant}
use Rattle.member_link.specs.References.{Reference}

pub returns-in-Some : goal.returns-in-Some
returns-in-Some c =
    let IsOpen = λ (headers : Headers) (reference : Reference). IsOpenMethodReference headers c.args.host.now reference in
    of_reference IsOpen c.args.scope.now c.args.index (headers_of c.tree.result.now) c.pool.result.now (reference_meant c.in-Some.reference) c.is_open_method_reference.result
    c.tree.ensures c.pool.ensures c.in-Some.ensures c.is_open_method_reference.ensures
