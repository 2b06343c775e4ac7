use Rattle.std.proofs.Common.{refl, rules, subst, inl}
use Rattle.class_tree.specs.Headers.{headers_of}
use Rattle.member_link.specs.Found.{IsMethodOf}
use Rattle.member_link.specs.MemberRefs.{reference_meant}
use Rattle.member_link.proofs.Referents.{no_method, one_method, referent}
use Rattle.member_link.proofs.resolving.resolve_method.Goals as goal

pub returns-in_default-find_method : goal.returns-in_default-find_method
returns-in_default-find_method c =
    let headers = headers_of c.args.tree.now in
    let none = no_method headers _ _ _ (subst (IsMethodOf headers _ _ _) c.in_default-find_method.is c.find_method.ensures) in
    search rules

pub returns : goal.returns
returns c =
    let headers = headers_of c.args.tree.now in
    let one = one_method headers _ _ _ c.in-Some-find_method.found (subst (IsMethodOf headers _ _ _) c.in-Some-find_method.is c.find_method.ensures) in
    let kept = referent c.accessible.result one (λ member is. c.accessible.ensures member (inl is)) one.is.same_flags in
    let callee = c.callee_of-callee.ensures (reference_meant c.in-Some.reference) refl refl in
    search rules
