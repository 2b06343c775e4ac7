use Rattle.std.proofs.Common.{None, ◌∙◌, arith}
use Rattle.inline_expand.proofs.PlaceParts.{few-starts}
use Rattle.inline_expand.proofs.expanded.hosts.host_sites.Goals as goal
use Rattle.inline_expand.specs.Inner.Measures.{host_expansion}
use Rattle.member_link.specs.Scope.{instructions}

pub push_sites-requires-clause-numbers : goal.push_sites-requires-clause-numbers
push_sites-requires-clause-numbers c =
    let host = c.args.host.now in
    let expansion = host_expansion c.args.bodies.now host in
    record {
      steps = c.requires.host.steps;
      starts = c.as_slice.ensures.value ∙ c.requires.measure.starts ∙ few-starts None 0 (instructions host.host) expansion (omega (arith, c.requires.few));
      points = omega (arith, c.requires.few);
    }
