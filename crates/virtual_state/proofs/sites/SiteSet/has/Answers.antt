use Rattle.std.proofs.Common.{ℕ, List, ap, ◌∙◌}
use Rattle.virtual_state.specs.Sites.{has}
use Rattle.virtual_state.proofs.SiteSets.{place_tells}
use Rattle.virtual_state.proofs.sites.SiteSet.has.Goals as goal

pub returns : goal.returns
returns c =
    c.is_ok.ensures.value
    ∙ place_tells c.as_slice.result.now c.args.site c.place_of.result c.place_of.ensures
    ∙ ap (λ (sites : List ℕ). has sites c.args.site) (c.as_slice.ensures.value ∙ c.self.view_is)
