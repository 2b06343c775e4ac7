use Rattle.written_files.proofs.WrittenClasses.ShortNeeds.{added_both, added_fit, added_none, all_grown, grown_fits}
use Rattle.written_files.proofs.class_laws.fitting_constants_are_added.Goals as goal

pub returns-clause-added : goal.returns-clause-added
returns-clause-added c = λ major limit pool grown needs low sound fits is grows.
    added_fit major pool grown (c.a_grown_pool_passes.ensures.added major limit pool grown needs sound grows)
    (all_grown major limit needs pool grown low fits is grows)

pub returns-clause-none : goal.returns-clause-none
returns-clause-none c = added_none

pub returns-clause-both : goal.returns-clause-both
returns-clause-both c = added_both

pub returns-clause-pool : goal.returns-clause-pool
returns-clause-pool c = grown_fits
