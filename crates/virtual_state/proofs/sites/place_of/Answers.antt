use Rattle.virtual_state.proofs.SiteSets.{place_is_found}
use Rattle.virtual_state.proofs.sites.place_of.Goals as goal

pub returns : goal.returns
returns c = place_is_found c.args.sites.now c.args.site c.binary_search.result c.requires c.binary_search.ensures.position
