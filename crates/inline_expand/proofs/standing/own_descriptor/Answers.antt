use Rattle.std.proofs.Common.{◌≡◌, sym, ap, ◌∙◌}
use Rattle.class_model.specs.Pool.{Constants}
use Rattle.class_model.specs.PoolChecks.{text_or_empty, utf8_at}
use Rattle.class_model.specs.declared.class_file.Method.{Method}
use Rattle.inline_expand.proofs.StandingParts.{result_of_own}
use Rattle.inline_expand.proofs.standing.own_descriptor.Goals as goal
use Rattle.member_link.specs.Scope.{own_descriptor}

pub returns-clause-result : goal.returns-clause-result
returns-clause-result c =
    let s = c.args.callee.now in
    let own : own_descriptor s ≡ c.in-Some.text.now =
    ap text_or_empty (ap (λ (pool : Constants). utf8_at pool s.method.desc) (sym c.pool.ensures) ∙ ap (λ (m : Method). utf8_at c.pool.result.now m.desc) (sym c.method-method.ensures) ∙ sym c.in-Some.ensures) in
    result_of_own (own_descriptor s) c.in-Some.text.now own c.method_descriptor.result c.method_descriptor.ensures.spelled c.method_descriptor.ensures.params
