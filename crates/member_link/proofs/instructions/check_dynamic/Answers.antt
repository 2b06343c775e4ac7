use Rattle.std.proofs.Common.{false, [], ◌∷◌, Some, IsTrue, sym, ap, subst, ◌∙◌}
use Rattle.std.specs.Option.{option_copied}
use Rattle.class_model.specs.Pool.{constant_at}
use Rattle.class_tree.specs.Answers.{Answers}
use Rattle.member_link.specs.Declarations.{asked}
use Rattle.member_link.specs.Inner.Resolutions.{Resolves}
use Rattle.member_link.specs.Inner.Resolving.{resolved_scope}
use Rattle.member_link.proofs.ToldReferences.{told_broken_dynamic}
use Rattle.member_link.proofs.instructions.check_dynamic.Goals as goal

pub returns-in-Broken-clause-told : goal.returns-in-Broken-clause-told
returns-in-Broken-clause-told c =
    let class = c.args.resolver.now in
    let is = sym c.constant.ensures ∙ ap option_copied c.in-Some-InvokeDynamic.is ∙ ap Some c.in-Some-InvokeDynamic.field-0-is in
    let resolves = subst (Resolves class c.args.index) c.in-Broken.is c.in_ok-rule.ensures.resolved in
    let told = subst (λ resolver. Answers (asked (resolved_scope resolver c.args.member.now).site c.in-Broken.rule (IsTrue false) ∷ []) c.ask.result) c.resolution.ensures.same c.ask.ensures in
    told_broken_dynamic class c.args.member.now (constant_at class.pool c.args.index) c.in-Some-InvokeDynamic.field-0-0 c.in-Some-InvokeDynamic.field-0-1 c.in-Broken.rule c.ask.result is resolves told
