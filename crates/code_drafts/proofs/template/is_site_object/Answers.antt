use Rattle.std.proofs.Common.{sym, ap, ◌∙◌}
use Rattle.code_drafts.proofs.TemplateLaws.{has_site}
use Rattle.code_drafts.proofs.template.is_site_object.Goals as goal
use Rattle.flow_code.specs.ReadTypes.{is_site_object}

pub returns-in-Uninit : goal.returns-in-Uninit
returns-in-Uninit c =
    c.is_some.ensures ∙ has_site c.args.flat.now c.in-Uninit.at c.site_at.result c.site_at.ensures ∙ ap (is_site_object c.args.flat.now) (sym c.in-Uninit.is)
