use Rattle.machine_laws.proofs.StepGrows.{step_grows}
use Rattle.machine_laws.proofs.bounds.a_step_keeps_counts_within_bounds.Goals as goal

pub returns : goal.returns
returns c = λ P w few is. (step_grows P w).bounded few is
