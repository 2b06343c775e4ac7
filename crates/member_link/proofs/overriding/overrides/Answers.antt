use Rattle.std.proofs.Common.{◌↔◌, IsTrue, sym, subst}
use Rattle.class_tree.specs.Headers.{headers_of}
use Rattle.member_link.specs.DeclaredMembers.{Declared, declared_by}
use Rattle.member_link.specs.Overriding.{Overrides}
use Rattle.member_link.proofs.overriding.overrides.Goals as goal

pub returns : goal.returns
returns c = λ low high low_is high_is.
    subst (λ (method : Declared). IsTrue c.overrides_method.result ↔ Overrides (headers_of c.args.tree.now) method high) (sym (c.method_at.ensures.same low low_is))
    (subst (λ (method : Declared). IsTrue c.overrides_method.result ↔ Overrides (headers_of c.args.tree.now) (declared_by c.method_at.result.header.now.name c.method_at.result.member.now) method) (sym (c.method_at-2.ensures.same high high_is)) c.overrides_method.ensures)
