use Rattle.std.proofs.Common.{ℕ, length, slice_get, refl, sym, ap, ◌∙◌, subst}
use Rattle.inline_expand.proofs.SiteLaws.{site_found}
use Rattle.inline_expand.specs.Inner.Places.{chain_of, host_of}
use Rattle.inline_expand.specs.Inner.SiteTables.{IsSiteFound, joined}
use Rattle.member_link.specs.Scope.{instructions}
use Rattle.inline_expand.proofs.sites.site_at.Goals as goal

pub returns : goal.returns
returns c =
    subst (IsSiteFound c.args.place.class.tree.now c.args.place.class.typed.now (host_of c.args.place.line.now) (chain_of c.args.place.line.now) c.args.method.now.at c.args.at)
    (sym (c.entry.ensures ∙ ap (λ (n : ℕ). joined (slice_get c.args.sites.now n)) c.number.ensures))
    (site_found c.args.place.class.tree.now c.args.place.class.typed.now (host_of c.args.place.line.now) (chain_of c.args.place.line.now) c.args.method.now c.requires.method
    (length (instructions c.args.method.now.host)) c.args.sites.now refl c.requires.sites c.args.at)
