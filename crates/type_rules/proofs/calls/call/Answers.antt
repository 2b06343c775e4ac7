use Rattle.std.proofs.Common.{subst, sym}
use Rattle.class_model.specs.Pool.{constant_at}
use Rattle.type_rules.proofs.PoolFacts.{method_descriptor}
use Rattle.type_rules.proofs.calls.call.Goals as goal
use Rattle.member_link.specs.MemberRefs.{reference_meant}
use Rattle.member_link.specs.Scope.{Scope}
use Rattle.type_rules.specs.Inner.Signatures.{IsCallable}

pub method_descriptor-requires : goal.method_descriptor-requires
method_descriptor-requires c =
    let callable = subst (λ (s : Scope). IsCallable (constant_at s.class.pool c.args.index)) (sym c.rules.view_is) c.requires in
    method_descriptor c.rules.inside.class.now c.rules.invariant.class_file c.args.index (reference_meant c.in-Some.reference) callable c.in-Some.ensures
