use Rattle.std.proofs.Common.{◌<◌, length, sym, subst, arith}
use Rattle.class_tree.specs.Headers.{headers_of}
use Rattle.member_link.specs.Inner.Resolutions.{Resolves}
use Rattle.member_link.specs.Inner.Resolving.{Resolved}
use Rattle.member_link.proofs.KeptResolutions.{resolution_kept}
use Rattle.member_link.proofs.resolver.Resolver.keep.Goals as goal

pub invariant_of-self : goal.invariant_of-self
invariant_of-self c =
    let own = c.self.inside in
    let class : Resolved = record { headers = headers_of own.tree.now; pool = own.class.now.pool; from = own.name.now } in
    let within : c.from-index.result < length own.resolutions.items = omega (arith, c.if-index-len.true, c.len.ensures, own.resolutions.ok.0) in
    let resolves : Resolves class c.args.index c.args.resolution = subst (λ (class : Resolved). Resolves class c.args.index c.args.resolution) (sym c.self.view_is) c.requires in
    resolution_kept class own.resolutions.items c.from-index.result c.args.resolution within (subst (λ index. Resolves class index c.args.resolution) (sym c.from-index.ensures) resolves) c.self.invariant
