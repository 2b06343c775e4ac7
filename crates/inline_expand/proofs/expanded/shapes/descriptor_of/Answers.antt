use Rattle.std.proofs.Common.{◌≡◌, ℕ, List, Some, IfOk, ap, subst, ◌∙◌}
use Rattle.class_model.specs.Pool.{Constants}
use Rattle.class_model.specs.PoolChecks.{text_or_empty, utf8_at}
use Rattle.class_model.specs.declared.class_file.Method.{Method}
use Rattle.inline_expand.proofs.DescriptorTexts.{given-result}
use Rattle.inline_expand.proofs.expanded.shapes.descriptor_of.Goals as goal
use Rattle.member_link.specs.Scope.{own_descriptor}
use Rattle.member_link.specs.Signatures.{result_of}

pub returns-clause-given : goal.returns-clause-given
returns-clause-given c =
    let s = c.args.host.now in
    let text = c.in-Some.text.now in
    let there : Some text ≡ utf8_at s.class.pool s.method.desc =
    c.in-Some.ensures
    ∙ ap (λ (pool : Constants). utf8_at pool c.method-method.result.now.desc) c.pool.ensures
    ∙ ap (λ (method : Method). utf8_at s.class.pool method.desc) c.method-method.ensures in
    let own : text ≡ own_descriptor s = ap text_or_empty there in
    subst (λ (t : List ℕ). IfOk c.method_descriptor.result (λ descriptor. result_of t ≡ descriptor.result)) own
    (given-result text c.method_descriptor.result c.method_descriptor.ensures.spelled c.method_descriptor.ensures.params)
