use Rattle.pea_top.proofs.listing.list_file.Goals as goal

pub returns-clause-found : goal.returns-clause-found
returns-clause-found g c = λ tells. c.listing_of.ensures.found _ (c.in_ok-bytes.ensures.bytes tells)
