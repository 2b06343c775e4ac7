use Rattle.std.proofs.Common.{◌++◌, length}
use Rattle.class_tree.specs.Headers.{Headers}
use Rattle.expanded_code.specs.Expanded.{sites_from}
use Rattle.inline_expand.proofs.SiteParts.{HasNumbered, HasSites}
use Rattle.inline_expand.proofs.expanded.sites.+push_sites.Given as goal
use Rattle.inline_expand.specs.Inner.SiteNumbers.{method_at, sites_by}
use Rattle.inline_expand.specs.Inner.Steps.{callees_of, expansion_by}
use Rattle.member_link.specs.Scope.{instructions}

abbrev pub decreases-push_sites : goal.decreases-push_sites
decreases-push_sites l = length l.bodies.now

abbrev pub invariant-loop-number : goal.invariant-loop-number
invariant-loop-number l = record {
  numbered : HasNumbered (method_at l.method) l.method.starts.now l.method.base (callees_of l.bodies) (instructions l.method.body.now.host) l.steps l.number;
  done : (headers : Headers) → HasSites headers (method_at l.method) l.method.starts.now l.method.base (callees_of l.bodies) (instructions l.method.body.now.host) l.steps
      (sites_by headers l.fn.sites.items ++ sites_from headers (method_at l.method) l.method.base (instructions l.method.body.now.host) (expansion_by (callees_of l.bodies) l.steps))
      l.number (sites_by headers l.sites.items);
}
