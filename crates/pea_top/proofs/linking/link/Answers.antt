use Rattle.pea_top.proofs.LinkProblems.{unlinked}
use Rattle.pea_top.proofs.linking.link.Goals as goal

pub returns-in-Err-check_links-clause-linked : goal.returns-in-Err-check_links-clause-linked
returns-in-Err-check_links-clause-linked g c = unlinked (Unit {0}) _ _ _ c.in-Ok.ensures c.in-Err-check_links.fault c.in-Err-check_links.ensures.answers
