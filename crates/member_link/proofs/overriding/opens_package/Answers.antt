use Rattle.std.proofs.Common.{rules, ◌↔◌, IsTrue, sym, subst}
use Rattle.class_tree.specs.Headers.{headers_of}
use Rattle.member_link.specs.DeclaredMembers.{declared_by}
use Rattle.member_link.specs.Inner.OpenMethods.{OpensPackage}
use Rattle.member_link.proofs.overriding.opens_package.Goals as goal

pub returns-then-is_same_package : goal.returns-then-is_same_package
returns-then-is_same_package c = λ method is.
    subst (λ middle. IsTrue c.may_override.result ↔ OpensPackage (headers_of c.args.tree.now) middle (declared_by c.args.high.header.now.name c.args.high.member.now)) (sym (c.method_at-middle.ensures.same method is)) (search rules)

pub returns-else-is_same_package : goal.returns-else-is_same_package
returns-else-is_same_package c = λ method is.
    subst (λ middle. IsTrue c.if-is_open.value ↔ OpensPackage (headers_of c.args.tree.now) middle (declared_by c.args.high.header.now.name c.args.high.member.now)) (sym (c.method_at-middle.ensures.same method is)) (search rules)
