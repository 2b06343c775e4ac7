use Rattle.map_frames.proofs.EntriesOfUnits.{apart_from_none, none_apart, if_none}
use Rattle.map_frames.proofs.local_units.behind_same.Goals as goal

pub returns-in_err-first-clause-none : goal.returns-in_err-first-clause-none
returns-in_err-first-clause-none c = if_none _ _ (apart_from_none c.args.units.now c.in_err-first.ensures.none _)

pub returns-in_err-other-clause-none : goal.returns-in_err-other-clause-none
returns-in_err-other-clause-none c = if_none _ _ (none_apart c.args.others.now c.in_err-other.ensures.none _)
