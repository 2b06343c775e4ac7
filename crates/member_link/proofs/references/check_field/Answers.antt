use Rattle.std.proofs.Common.{false, [], ◌∷◌, IsTrue, subst}
use Rattle.class_model.specs.Pool.{constant_at}
use Rattle.class_tree.specs.Answers.{Answers}
use Rattle.class_tree.specs.declared.fault.LinkRule.TheVariants as rules
use Rattle.member_link.specs.Declarations.{asked}
use Rattle.member_link.specs.Inner.NeededForms.{IsFieldForm}
use Rattle.member_link.specs.Inner.Resolutions.{Resolves}
use Rattle.member_link.specs.Inner.Resolving.{resolved_scope}
use Rattle.class_model.specs.PoolChecks.{IsFieldConstant}
use Rattle.member_link.proofs.ToldReferences.{told_broken_field, told_field, told_settled_field}
use Rattle.member_link.proofs.references.check_field.Goals as goal

pub returns-in-Broken-clause-told : goal.returns-in-Broken-clause-told
returns-in-Broken-clause-told c =
    let class = c.args.resolver.now in
    let constant = constant_at class.pool c.args.index in
    let is_field = subst IsFieldConstant c.constant.ensures (c.is_field.ensures.0 c.if-not-is_field.false) in
    let resolves = subst (Resolves class c.args.index) c.in-Broken.is c.in_ok-field.ensures.resolved in
    let told = subst (λ resolver. Answers (asked (resolved_scope resolver c.args.member.now).site c.in-Broken.rule (IsTrue false) ∷ []) c.ask.result) c.resolution.ensures.same c.ask.ensures in
    told_broken_field class c.args.member.now (IsFieldForm c.args.form) constant c.in-Broken.rule c.ask.result is_field resolves told

pub returns-in-Field-clause-told : goal.returns-in-Field-clause-told
returns-in-Field-clause-told c =
    let class = c.args.resolver.now in
    let constant = constant_at class.pool c.args.index in
    let field = c.in-Field.field in
    let is_field = subst IsFieldConstant c.constant.ensures (c.is_field.ensures.0 c.if-not-is_field.false) in
    let resolves = subst (Resolves class c.args.index) c.in-Field.is c.in_ok-field.ensures.resolved in
    let told = subst (λ resolver. Answers (asked (resolved_scope resolver c.args.member.now).site rules.WrongForm (IsTrue c.fits_field-has_form.result) ∷ asked (resolved_scope resolver c.args.member.now).site rules.NoAccess (IsTrue field.is_accessible) ∷ []) c.ask_found.result) c.resolution.ensures.same c.ask_found.ensures in
    told_field class c.args.member.now (IsFieldForm c.args.form) constant field c.fits_field-has_form.result c.ask_found.result is_field resolves c.fits_field-has_form.ensures told

pub returns-in_default : goal.returns-in_default
returns-in_default c = record {
  same = c.resolution.ensures.same;
  told = told_settled_field c.args.resolver.now c.args.member.now (IsFieldForm c.args.form) (constant_at c.args.resolver.now.pool c.args.index) c.in_ok-field.field-0 c.in_ok-field.ensures.resolved c.in_default.not-Broken c.in_default.not-Field;
}
