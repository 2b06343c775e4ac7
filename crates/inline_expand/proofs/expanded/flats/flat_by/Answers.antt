use Rattle.std.proofs.Common.{◌≡◌, ◌+◌, List, sym, ap, subst, ◌∙◌, arith, vec_len}
use Rattle.std.proofs.lemmas.Bool.{eq-eqb, false≢true}
use Rattle.std.specs.List.{AllByRecursion}
use Rattle.class_tree.specs.Headers.{Headers, headers_of}
use Rattle.expanded_code.specs.Candidates.{IsCandidate}
use Rattle.expanded_code.specs.ExpandAnswers.{IsWide}
use Rattle.expanded_code.specs.Expanded.{host_setting, points_from, units_in}
use Rattle.inline_expand.proofs.WholeParts.{news-are-candidates, no-news, whole-sites}
use Rattle.inline_expand.proofs.expanded.flats.flat_by.Goals as goal
use Rattle.inline_expand.specs.Inner.Measures.{host_expansion}
use Rattle.inline_expand.specs.Inner.SiteNumbers.{sites_by}
use Rattle.inline_expand.specs.Inner.Steps.{coded_of}
use Rattle.inline_expand.specs.Inner.WholeCodes.{whole_of}
use Rattle.inline_expand.specs.declared.expanded.sites.NewAt.{NewAt}
use Rattle.inline_expand.specs.declared.expansions.Body.{Body}
use Rattle.member_link.specs.Scope.{instructions}

pub with_fields-requires-clause-candidates : goal.with_fields-requires-clause-candidates
with_fields-requires-clause-candidates c =
    let all = news-are-candidates c.args.bodies.now c.as_slice-callees.result.now c.in_ok-news.news.items c.as_slice-callees.ensures.value c.in_ok-news.ensures c.args.tree.now c.requires.whole.sites in
    subst (AllByRecursion (λ (new : NewAt). IsCandidate c.args.tree.now new.class)) (sym c.as_slice.ensures.value) all

pub returns-then-is_wide-clause-answers : goal.returns-then-is_wide-clause-answers
returns-then-is_wide-clause-answers c =
    let bodies = c.args.bodies.now in
    let host = bodies.body in
    let callees = c.as_slice-callees.ensures.value in
    let expansion = host_expansion bodies.callees.items host in
    let news = whole-sites bodies c.as_slice-callees.result.now c.in_ok-news.news.items callees c.in_ok-news.ensures in
    let points : c.in_ok-points.points ≡ (whole_of bodies).points =
    c.in_ok-points.ensures
    ∙ ap (λ (all : List Body). points_from (host_setting (coded_of host) (host_expansion all host)) 0 host.host.part.max_locals (instructions host.host) host.frames.now (host_expansion all host)) callees in
    let sites : c.in_ok-sites.sites ≡ (whole_of bodies).sites =
    c.in_ok-sites.ensures.sites ∙ ap (sites_by (headers_of c.args.tree.now)) c.as_slice.ensures.value ∙ ap (λ (h : Headers). sites_by h c.in_ok-news.news.items) (sym c.requires.whole.headers) ∙ news in
    let locals : c.saturating_add-locals.result ≡ host.host.part.max_locals + units_in expansion =
    let off = c.if-locals.false in
    omega (arith, c.saturating_add-locals.ensures, c.max_locals.ensures, c.requires.measure.units, off) in
    let same : c.of-flat.result ≡ whole_of bodies = c.of-flat.ensures ∙ (λ i. record { host = host.at; locals = locals i; points = points i; sites = sites i }) in (
      λ long. omega (arith, long, c.requires.whole.long, c.requires.measure.points, c.requires.few),
      λ none. false≢true (sym c.if-is_empty.false ∙ c.is_empty.ensures ∙ eq-eqb (vec_len c.in_ok-news.news) 0 (omega (arith, no-news host.host.headers c.in_ok-news.news.items (news ∙ none), c.in_ok-news.news.ok.0))),
      subst IsWide same (c.is_wide.ensures.0 c.if-is_wide.true),
    )
