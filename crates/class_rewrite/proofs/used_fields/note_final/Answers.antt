use Rattle.std.proofs.Common.{sym, subst, ◌∙◌}
use Rattle.std.proofs.lemmas.Bool.{false≢true}
use Rattle.class_tree.specs.Headers.{Classes}
use Rattle.flow_code.specs.FlatCode.{FlatCode}
use Rattle.class_rewrite.proofs.UsedLists.{adds_none}
use Rattle.class_rewrite.specs.Inner.UsedFields.{IsOfSite}
use Rattle.class_rewrite.proofs.used_fields.note_final.Goals as goal

pub returns-else-branch : goal.returns-else-branch
returns-else-branch c =
    adds_none _ c.args.finals.now (λ class number is.
    let field = c.args.field.at.class in
    let of_tree = subst (λ (t : Classes). IsOfSite t c.flat.result.now field) (sym c.tree.ensures)
    (subst (λ (f : FlatCode). IsOfSite c.args.setting.now.classes f field) (sym c.flat.ensures) is.4) in
    false≢true (sym c.if-branch.false ∙ c.in_ok-is_of_site.ensures.1 of_tree))
