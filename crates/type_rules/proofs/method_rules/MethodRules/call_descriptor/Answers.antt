use Rattle.std.proofs.Common.{Bor, IfSome, subst}
use Rattle.class_model.specs.Pool.{Constants}
use Rattle.class_model.specs.declared.descriptor.Descriptor.{Descriptor}
use Rattle.member_link.specs.Scope.{Scope}
use Rattle.type_rules.proofs.ParsedMembers.{describes_if}
use Rattle.type_rules.proofs.method_rules.MethodRules.call_descriptor.Goals as goal
use Rattle.type_rules.specs.Inner.ParsedCalls.{DescribesMember, DescribesReference}

pub returns : goal.returns
returns c =
    let own = c.self.inside in
    let parsed = subst (λ (pool : Constants). IfSome c.of_member.result (λ (d : Bor Descriptor). DescribesMember pool c.in_ok-member.member d.now)) c.self.invariant.calls_are c.of_member.ensures in
    let found = describes_if own.class.now.pool c.args.index c.in_ok-member.member c.in_ok-get.field-0.now c.of_member.result c.in_ok-get.ensures c.in_ok-member.ensures parsed in
    subst (λ (s : Scope). IfSome c.of_member.result (λ (d : Bor Descriptor). DescribesReference s.class.pool c.args.index d.now)) c.self.view_is found
