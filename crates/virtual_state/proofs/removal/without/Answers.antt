use Rattle.std.proofs.Common.{◌≡◌, ℕ, List, ap, ◌∙◌}
use Rattle.virtual_state.proofs.Filling.{marked_from_none, closed_as, without_as}
use Rattle.virtual_state.specs.Sites.{has}
use Rattle.virtual_state.proofs.removal.without.Goals as goal

pub take_away-requires : goal.take_away-requires
take_away-requires c =
    let same : (site : ℕ) → has c.mark_all.new.self site ≡ has c.args.sites.now site = λ site. marked_from_none c.in_ok-mark_all.ensures c.new-away.ensures site ∙ ap (λ (sites : List ℕ). has sites site) c.as_slice.ensures.sites in
    closed_as c.args.state.now.objects same c.requires

pub returns : goal.returns
returns c =
    let same : (site : ℕ) → has c.mark_all.new.self site ≡ has c.args.sites.now site = λ site. marked_from_none c.in_ok-mark_all.ensures c.new-away.ensures site ∙ ap (λ (sites : List ℕ). has sites site) c.as_slice.ensures.sites in
    c.in_ok-rest.ensures ∙ without_as c.args.state.now same
