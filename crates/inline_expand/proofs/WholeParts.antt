-- The flat code of a host, part by part.
use Rattle.std.proofs.Common.{◌≡◌, List, [], ◌∷◌, length, map, None, refl, sym, ap, subst, ◌∙◌}
use Rattle.std.specs.List.{AllByRecursion}
use Rattle.class_tree.specs.Headers.{Classes, Headers}
use Rattle.expanded_code.specs.Candidates.{IsCandidate}
use Rattle.expanded_code.specs.Expanded.{sites_from}
use Rattle.flow_code.specs.declared.point.Site.{Site}
use Rattle.inline_expand.specs.Inner.Measures.{host_expansion}
use Rattle.inline_expand.specs.Inner.SiteNumbers.{site_by, sites_by}
use Rattle.inline_expand.specs.Inner.WholeCodes.{whole_of}
use Rattle.inline_expand.specs.declared.expanded.sites.NewAt.{NewAt}
use Rattle.inline_expand.specs.declared.expansions.Body.{Body}
use Rattle.inline_expand.specs.declared.expansions.HostBodies.{HostBodies}
use Rattle.member_link.specs.Scope.{instructions}

all-unmapped : {A B : Type 0} (P : B → Type 0) (f : A → B) (items : List A) → AllByRecursion P (map f items) → AllByRecursion (λ (item : A). P (f item)) items
all-unmapped P f [] all = tt
all-unmapped P f (item ∷ items) all = (all.0, all-unmapped P f items all.1)

pub no-news : (headers : Headers) (news : List NewAt) → sites_by headers news ≡ [] → length news ≡ 0
no-news headers [] none = refl
no-news headers (new ∷ news) none = absurd cc

module _ (bodies : HostBodies) (callees : List Body) (news : List NewAt) (same : callees ≡ bodies.callees.items)
    (are : (headers : Headers) → sites_by headers news ≡ sites_from headers None 0 (instructions bodies.body.host) (host_expansion callees bodies.body)) where
  pub whole-sites : sites_by bodies.body.host.headers news ≡ (whole_of bodies).sites
  whole-sites =
      are bodies.body.host.headers
      ∙ ap (λ (all : List Body). sites_from bodies.body.host.headers None 0 (instructions bodies.body.host) (host_expansion all bodies.body)) same

  pub news-are-candidates : (classes : Classes) → AllByRecursion (λ (s : Site). IsCandidate classes s.class) (whole_of bodies).sites → AllByRecursion (λ (new : NewAt). IsCandidate classes new.class) news
  news-are-candidates classes all =
      let headers = bodies.body.host.headers in
      all-unmapped (λ (s : Site). IsCandidate classes s.class) (site_by headers) news (subst (AllByRecursion (λ (s : Site). IsCandidate classes s.class)) (sym whole-sites) all)
