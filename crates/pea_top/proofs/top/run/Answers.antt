use Rattle.pea_top.proofs.WordBounds.{is_bounded}
use Rattle.pea_top.proofs.top.run.Goals as goal

pub perform-requires : goal.perform-requires
perform-requires g c = is_bounded _ _ c.in-Some.ensures.some
