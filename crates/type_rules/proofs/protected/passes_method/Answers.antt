use Rattle.std.proofs.Common.{subst}
use Rattle.member_link.specs.Found.{IsMethodOf, methods_of}
use Rattle.member_link.specs.Methods.{FindsMethod}
use Rattle.type_rules.proofs.ProtectedMembers.{bound_passes}
use Rattle.type_rules.proofs.protected.passes_method.Goals as goal
use Rattle.member_link.specs.MemberRefs.{reference_meant}
use Rattle.member_link.specs.Scope.{Scope, row_scope}

pub returns : goal.returns
returns c =
    let s = row_scope c.args.rules.now in
    let r = reference_meant c.args.reference.now in
    let found : IsMethodOf s.headers r.class r.name r.desc c.find_method-found.result =
    subst (λ (scope : Scope). IsMethodOf scope.headers r.class r.name r.desc c.find_method-found.result) c.rules.view_is c.find_method-found.ensures in
    bound_passes s r (FindsMethod s.headers r.class r.name r.desc) found.method found.finds (c.a_look_up_finds_one_method.ensures s.headers r.class r.name r.desc) c.is_foreign.result
    (c.is_foreign.ensures methods_of found.method found.same) c.args.receiver.now (c.is_free.ensures.no c.if-is_free.false)
