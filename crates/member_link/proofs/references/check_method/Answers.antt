use Rattle.std.proofs.Common.{false, [], ◌∷◌, IsTrue, subst}
use Rattle.class_model.specs.Pool.{constant_at}
use Rattle.class_tree.specs.Answers.{Answers}
use Rattle.class_tree.specs.declared.fault.LinkRule.TheVariants as rules
use Rattle.member_link.specs.Declarations.{asked}
use Rattle.member_link.specs.Inner.NeededForms.{IsMethodForm}
use Rattle.member_link.specs.Inner.Resolutions.{IsCalleeConstant, Resolves}
use Rattle.member_link.specs.Inner.Resolving.{resolved_scope}
use Rattle.member_link.proofs.ToldReferences.{told_broken_method, told_method, told_settled_method}
use Rattle.member_link.proofs.references.check_method.Goals as goal

pub returns-in-Broken-clause-told : goal.returns-in-Broken-clause-told
returns-in-Broken-clause-told c =
    let class = c.args.resolver.now in
    let constant = constant_at class.pool c.args.index in
    let is_method = subst IsCalleeConstant c.constant.ensures (c.is_method.ensures.0 c.if-not-is_method.false) in
    let resolves = subst (Resolves class c.args.index) c.in-Broken.is c.in_ok-method.ensures.resolved in
    let told = subst (λ resolver. Answers (asked (resolved_scope resolver c.args.member.now).site c.in-Broken.rule (IsTrue false) ∷ []) c.ask.result) c.resolution.ensures.same c.ask.ensures in
    told_broken_method class c.args.member.now (IsMethodForm class.headers c.args.form constant) constant c.in-Broken.rule c.ask.result is_method resolves told

pub returns-in-Method-clause-told : goal.returns-in-Method-clause-told
returns-in-Method-clause-told c =
    let class = c.args.resolver.now in
    let constant = constant_at class.pool c.args.index in
    let method = c.in-Method.method in
    let is_method = subst IsCalleeConstant c.constant.ensures (c.is_method.ensures.0 c.if-not-is_method.false) in
    let resolves = subst (Resolves class c.args.index) c.in-Method.is c.in_ok-method.ensures.resolved in
    let told = subst (λ resolver. Answers (asked (resolved_scope resolver c.args.member.now).site rules.WrongForm (IsTrue c.fits_method-has_form.result) ∷ asked (resolved_scope resolver c.args.member.now).site rules.NoAccess (IsTrue method.is_accessible) ∷ []) c.ask_found.result) c.resolution.ensures.same c.ask_found.ensures in
    told_method class c.args.member.now (IsMethodForm class.headers c.args.form constant) constant method c.in-Method.callee c.fits_method-has_form.result c.ask_found.result is_method resolves (c.fits_method-has_form.ensures class.headers constant) told

pub returns-in_default : goal.returns-in_default
returns-in_default c = record {
  same = c.resolution.ensures.same;
  told = told_settled_method c.args.resolver.now c.args.member.now (IsMethodForm c.args.resolver.now.headers c.args.form (constant_at c.args.resolver.now.pool c.args.index)) (constant_at c.args.resolver.now.pool c.args.index) c.in_ok-method.field-0 c.in_ok-method.ensures.resolved c.in_default.not-Broken c.in_default.not-Method;
}
