use Rattle.std.proofs.Common.{◌∙◌, ap, subst}
use Rattle.host_tree.specs.Host.{Bytes}
use Rattle.pea_top.specs.Inner.Listing.{IsListStop}
use Rattle.pea_top.proofs.listing.listing_of.Goals as goal

pub returns-in_ok-name-in-Err-clause-found : goal.returns-in_ok-name-in-Err-clause-found
returns-in_ok-name-in-Err-clause-found c = λ folder there.
    let named = c.in_ok-name-in-Err.ensures in
    subst (λ (name : Bytes). IsListStop folder name c.refused_as.result) named (c.refused_as.ensures.stop folder (ap folder named ∙ there) c.in-Err.ensures.fault)
