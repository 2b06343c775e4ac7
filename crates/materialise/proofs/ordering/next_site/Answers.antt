use Rattle.std.proofs.Common.{◌≡◌, ℕ, List, take, slice_get, slice_index_or, Some, sym, subst, ◌∙◌}
use Rattle.std.proofs.lemmas.List.{take_all}
use Rattle.std.proofs.lemmas.Option.{slice_get-get_or}
use Rattle.materialise.proofs.NextSites.{NoneSoFar, found_next, none_next, not_true}
use Rattle.making_code.specs.MakeOrder.{left_of, names_one}
use Rattle.materialise.proofs.ordering.next_site.Goals as goal

pub returns-then-is_ready : goal.returns-then-is_ready
returns-then-is_ready c =
    let items = c.as_slice-site-items.result.now in
    let site = slice_index_or items c.loop-site.site-index 0 in
    let same = c.as_slice-site-items.ensures.sites in
    let there = subst (λ (list : List ℕ). slice_get list c.loop-site.site-index ≡ Some site) same (slice_get-get_or items c.loop-site.site-index 0 c.loop-site-test.true) in
    let so_far = subst (λ (list : List ℕ). NoneSoFar c.args.state.now.objects c.args.sites.now c.args.made.now (take c.loop-site.site-index list)) same c.loop-site.invariant in
    found_next c.args.state.now.objects c.args.sites.now c.args.made.now c.loop-site.site-index site c.as_slice-site-items.ensures.order there
    (sym c.has.ensures ∙ c.if-not-has.true)
    (not_true (names_one c.args.state.now.objects (left_of c.args.sites.now c.args.made.now) site) (sym c.is_ready.ensures ∙ c.if-is_ready.true))
    so_far

pub returns : goal.returns
returns c =
    let items = c.as_slice-site-items.result.now in
    let all : take c.loop-site.site-index items ≡ c.args.sites.now = take_all c.loop-site.site-index items c.loop-site-test.false ∙ c.as_slice-site-items.ensures.sites in
    none_next c.args.state.now.objects c.args.sites.now c.args.made.now
    (subst (λ (list : List ℕ). NoneSoFar c.args.state.now.objects c.args.sites.now c.args.made.now list) all c.loop-site.invariant)
