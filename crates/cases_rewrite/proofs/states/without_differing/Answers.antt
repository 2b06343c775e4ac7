use Rattle.std.proofs.Common.{◌≡◌, ℕ, Bool, sym, ap, ◌∙◌}
use Rattle.virtual_state.specs.Sites.{differing, has}
use Rattle.virtual_state.specs.Without.{without}
use Rattle.cases_rewrite.proofs.states.without_differing.Goals as goal

pub without-requires : goal.without-requires
without-requires c = λ from to edge is_away.
    let below = c.below.ensures.0 c.if-below.true in
    let same = c.in_ok-sites.ensures in
    same to ∙ c.differing_sites_are_taken_away.ensures.closed c.args.state.now c.args.above.now c.is_state.ensures below from to edge (sym (same from) ∙ is_away)

pub returns-in_ok-without : goal.returns-in_ok-without
returns-in_ok-without c =
    let state = c.args.state.now in
    let above = c.args.above.now in
    let below = c.below.ensures.0 c.if-below.true in
    let all_same : has c.in_ok-sites.sites ≡ has (differing state above) = λ i site. c.in_ok-sites.ensures site i in
    c.in_ok-without.ensures
    ∙ ap (λ (test : ℕ → Bool). without state test) all_same
    ∙ sym (c.differing_sites_are_taken_away.ensures.taken state above c.is_state.ensures below)
