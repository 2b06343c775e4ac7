use Rattle.never_stuck.proofs.LibraryAlone.{act_alone, step_alone}
use Rattle.never_stuck.proofs.no_classes.without_classes_the_library_stays_alone.Goals as goal

pub returns-clause-steps : goal.returns-clause-steps
returns-clause-steps c = λ P w none alone. step_alone P none w alone

pub returns-clause-actions : goal.returns-clause-actions
returns-clause-actions c = λ P w action none alone. act_alone P none w action alone
