use Rattle.std.proofs.Common.{◌==◌, sym, ap, ◌∙◌}
use Rattle.flow_code.specs.declared.point.Site.{Site}
use Rattle.member_link.specs.Machine.Programs.{number_of_first}
use Rattle.member_link.specs.Laws.FirstNumbers.{from_start}
use Rattle.plan_flow.proofs.table.site_at.Goals as goal

pub returns-in-Some : goal.returns-in-Some
returns-in-Some c =
    sym c.in-Some.is ∙ c.site_number.ensures.is
    ∙ from_start (λ (site : Site). site.at == c.args.at) c.as_slice.result.now
    ∙ ap (number_of_first (λ (site : Site). site.at == c.args.at)) (c.as_slice.ensures ∙ c.sites.ensures)

pub returns-in-None : goal.returns-in-None
returns-in-None c =
    sym c.in-None.is ∙ c.site_number.ensures.is
    ∙ from_start (λ (site : Site). site.at == c.args.at) c.as_slice.result.now
    ∙ ap (number_of_first (λ (site : Site). site.at == c.args.at)) (c.as_slice.ensures ∙ c.sites.ensures)
